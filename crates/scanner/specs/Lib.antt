-- What scanning a text tells (`Tells` in Scanning), and before it what private functions promise one another.
pub mod Rules
pub mod Turns
pub mod Levels
pub mod Places
pub mod Scanning
