-- The closing of a list as code makes it.
pub mod Ended
