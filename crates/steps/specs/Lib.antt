-- What the steps of a run promise.
pub mod Filter
pub mod Chunk
pub mod Flip
pub mod Hint
pub mod Constraint
pub mod Records
pub mod Row
