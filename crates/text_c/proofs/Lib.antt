-- The law of the two calls.
pub mod Lengths
