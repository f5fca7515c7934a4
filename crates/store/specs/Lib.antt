-- The store of parked pieces (L8): its bytes, then the pieces that stand in it.
pub mod Store
pub mod Stored
pub mod Inside
