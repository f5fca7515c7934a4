-- The laws, each file named after its subject.
pub mod Named
pub mod WaitLine
pub mod StandsUnder
pub mod Answering
pub mod Examples
pub mod L1
pub mod L8
