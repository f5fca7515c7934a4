-- The laws, each file named after its subject.
pub mod Digits
pub mod Words
