pub mod Tells
pub mod Neighbours
pub mod Told
