-- The laws, each file named after its subject.
pub mod Lines
pub mod Lists
pub mod Once
pub mod Reading
pub mod Rising
pub mod Room
pub mod NumberAt
