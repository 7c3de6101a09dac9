-- The definitions that the contracts cite, beside those of `rules`.
pub mod Kept
pub mod Asks
