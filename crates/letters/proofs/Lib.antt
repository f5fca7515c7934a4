-- The laws, in the order in which they lean on one another.
pub mod Decimal
pub mod LastDigits
pub mod Writes
pub mod ReadsDecimal
pub mod Rooms
pub mod Puts
