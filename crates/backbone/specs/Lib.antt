pub mod First
pub mod Lent
