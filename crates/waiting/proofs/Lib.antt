-- Laws, in the order in which they lean on one another.
pub mod Gathered
pub mod Standing
pub mod OneStep
