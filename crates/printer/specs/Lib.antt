pub mod Outline
pub mod Printing
