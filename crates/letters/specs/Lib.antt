pub mod Text
pub mod Decimal
pub mod Rooms
pub mod Writing
pub mod Inside
