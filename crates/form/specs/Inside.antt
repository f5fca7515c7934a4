-- The table of names in bytes, and the reading machine, by which the reader is shown right. No public contract cites these files.
pub mod Rows
pub mod PairKinds
pub mod Machine
pub mod Counted
pub mod ReadTo
