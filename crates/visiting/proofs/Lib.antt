pub mod Chained
pub mod Flat
pub mod Counting
