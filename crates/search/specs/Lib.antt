-- The definitions that the contracts cite, beside those of `rules` and `formula`.
pub mod Choices
pub mod Meters
pub mod Calls
pub mod Boards
pub mod Rooms
pub mod Wholes
