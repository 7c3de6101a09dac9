-- Laws that belong to no one function.
pub mod FilterLaws
pub mod ChunkLaws
pub mod FlipLaws
pub mod HintLaws
pub mod ConstraintLaws
pub mod RecordLaws
