-- The first call alone as code makes it.
pub mod Called
