-- The laws, in the order in which they lean on one another.
pub mod RowSearch
pub mod BackToBracket
pub mod NamesChecked
pub mod SymbolSteps
pub mod TurnSteps
pub mod PlaceKept
pub mod PlaceKeptByTests
pub mod PlaceKeptByTurns
pub mod AcrossBrackets
pub mod RingOfFrames
pub mod LevelKept
pub mod LevelEntered
pub mod LevelLeft
pub mod ByteRead
pub mod CountsKept
pub mod WholeTextRead
