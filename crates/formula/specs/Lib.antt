-- The definitions that the contracts cite, beside those of `rules`.
pub mod Literals
pub mod Clauses
pub mod Starts
pub mod Formula
