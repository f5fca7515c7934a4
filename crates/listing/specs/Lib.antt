pub mod Input
pub mod Inside
pub mod Output
