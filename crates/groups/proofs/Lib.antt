-- Laws that belong to no one function.
pub mod ExpandLaws
pub mod CountLaws
pub mod StageLaws
pub mod StepLaws
pub mod SizesLaws
pub mod ClauseLaws
pub mod ReadLaws
