-- The table's bytes and what they are worth (01, "The table", "Loading figures", "Refusal numbers"), in reading order.
pub mod Records
pub mod Kinds
pub mod Good
pub mod Spells
pub mod Reading
pub mod Verdict
pub mod Inside
pub mod Bytes
pub mod Part
pub mod HarmlessLoops
