pub mod Kinds
pub mod StateBytes
pub mod Pieces
pub mod Resting
pub mod Inside
