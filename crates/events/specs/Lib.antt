pub mod Events
pub mod Members
