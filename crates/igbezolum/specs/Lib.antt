-- What the exported functions promise. Assumes nothing.
pub mod Linked
pub mod WhyLinked
pub mod CloseLinked
pub mod ShorterLinked
pub mod GroupsLinked
pub mod ClaimsLinked
pub mod Version
