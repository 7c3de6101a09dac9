pub mod FirstLaws
pub mod ListingLaws
pub mod RunLaws
pub mod Promises
pub mod OrderPromises
