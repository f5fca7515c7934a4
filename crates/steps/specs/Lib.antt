pub mod Running
pub mod Progress
pub mod Kinds
pub mod Flags
pub mod Tests
pub mod Lent
pub mod Parking
