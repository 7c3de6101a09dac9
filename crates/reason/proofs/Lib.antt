pub mod KeptLaws
pub mod CallLaws
pub mod AskLaws
pub mod WhyLaws
pub mod Promises
