-- The laws, in the order in which they lean on one another.
pub mod Printed
pub mod OnePrint
pub mod ReadInto
pub mod OneRead
pub mod ReadBack
pub mod Examples
