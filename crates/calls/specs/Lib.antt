pub mod After
pub mod Next
pub mod Records
