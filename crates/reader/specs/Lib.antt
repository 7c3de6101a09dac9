pub mod Scan
pub mod Skips
pub mod Words
pub mod Lines
pub mod Steps
pub mod Stores
pub mod Next
