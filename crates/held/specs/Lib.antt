-- Entries stored one behind the other.
pub mod Stored
