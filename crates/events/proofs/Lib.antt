-- Laws, from the definitions upward: of any events, of one word's digits, of a row of words, of a set; and what a measure says.
pub mod Bits
pub mod Events
pub mod Sets
pub mod Words
pub mod Measured
