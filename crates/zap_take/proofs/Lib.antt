-- The law of the program that takes.
pub mod Within
