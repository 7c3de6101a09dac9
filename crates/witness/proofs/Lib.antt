-- Laws that belong to no one function.
pub mod AgainLaws
pub mod AnswerLaws
pub mod WitnessLaws
