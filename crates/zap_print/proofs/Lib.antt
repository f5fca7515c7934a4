-- The law of the program that prints.
pub mod Printing
