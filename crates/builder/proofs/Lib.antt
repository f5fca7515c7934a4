-- Laws of the written form, each file named after its subject.
pub mod ReadDigits
pub mod FirstBytes
pub mod LevelsKept
pub mod WrittenSizes
pub mod LabelsSpread
pub mod PlacedByConfigurations
pub mod PlacedByNames
pub mod PlacedByPrograms
pub mod TableRegions
pub mod PlacedGrows
pub mod BracketDepth
pub mod LevelBytes
pub mod TableHolds
pub mod PlacedByFunctions
pub mod BuiltWhole
