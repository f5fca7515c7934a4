-- The definitions, in reading order.
pub mod Names
pub mod Form
pub mod Fails
pub mod InForm
pub mod Spelling
pub mod Made
pub mod Inside
