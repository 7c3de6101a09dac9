-- Laws that belong to no one function.
pub mod SignedLaws
pub mod LiteralLaws
pub mod StateLaws
pub mod StartsLaws
pub mod ClauseLaws
pub mod FalseLaws
