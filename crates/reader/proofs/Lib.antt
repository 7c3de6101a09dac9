-- Laws that belong to no one function.
pub mod ScanLaws
pub mod SkipLaws
pub mod NumberLaws
pub mod LineLaws
pub mod HeaderLaws
pub mod TokenLaws
pub mod StepLaws
pub mod StoreLaws
pub mod NextLaws
