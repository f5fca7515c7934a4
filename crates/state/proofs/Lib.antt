-- Laws, in the order in which they lean on one another: a term's bytes, a piece's; zeros and the first that isn't; who is to blame, and what term
-- stands there; the same of a part of a table.
pub mod Little
pub mod ByNumber
pub mod Parts
pub mod Shape
pub mod Frames
pub mod OneTerm
pub mod Pieces
pub mod Zeros
pub mod Firsts
pub mod Near
pub mod Fresh
pub mod Phases
pub mod Around
pub mod Owned
pub mod NodeBytes
pub mod Standing
pub mod Blameless
pub mod PartRests
