-- What the board promises: two numbers a clause in one key, how many clauses of a block are hot, who holds a literal, the trail.
pub mod Keys
pub mod Blocks
pub mod Holders
pub mod Boards
pub mod Trails
pub mod Firsts
pub mod Constraints
pub mod Flips
pub mod Shown
pub mod Closings
pub mod Chains
pub mod Begins
