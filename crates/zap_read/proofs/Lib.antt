-- The law of the program that reads.
pub mod Expecting
