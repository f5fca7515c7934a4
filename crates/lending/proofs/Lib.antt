-- Laws, in the order in which they lean on one another.
pub mod Again
pub mod Thin
pub mod Two
