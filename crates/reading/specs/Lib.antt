pub mod Blocks
pub mod Counting
pub mod Stepping
