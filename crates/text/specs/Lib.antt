-- The definitions, in reading order.
pub mod Answers
pub mod ReadBack
pub mod Examples
pub mod Exports
