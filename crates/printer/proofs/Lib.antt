-- The laws, in the order in which they lean on one another.
pub mod FitsInParts
pub mod SpelledBy
pub mod TestsIn
pub mod ShortTests
pub mod NodesIn
pub mod ArgumentsIn
pub mod ShortTexts
pub mod Outlined
