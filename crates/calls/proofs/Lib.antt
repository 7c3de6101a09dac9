-- Laws that belong to no one function.
pub mod AfterLaws
pub mod CallLaws
pub mod RecordLaws
pub mod NextLaws
pub mod LoopLaws
