-- The numbers of a file as they are found and judged, how many clauses groups have, and those as they are stored.
pub mod Clauses
pub mod Counts
pub mod Expand
pub mod Lists
pub mod Stages
pub mod Steps
