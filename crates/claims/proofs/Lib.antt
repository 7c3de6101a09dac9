-- Laws that belong to no one function.
pub mod StepLaws
pub mod TakenLaws
pub mod ModelLaws
pub mod ClaimLaws
pub mod FileLaws
pub mod TreeLaws
