-- What a refusal in code says.
pub mod Refuse
