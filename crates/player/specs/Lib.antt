pub mod Waiting
pub mod Answering
pub mod Examples
pub mod L1
pub mod L8
pub mod Inside
