-- What the steps over a file of claims promise.
pub mod Steps
