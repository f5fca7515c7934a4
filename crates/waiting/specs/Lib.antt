pub mod Lacking
pub mod Down
