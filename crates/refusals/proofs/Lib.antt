-- Laws that belong to no one function.
pub mod RefuseLaws
pub mod FoundLaws
