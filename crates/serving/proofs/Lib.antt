mod Opening
mod Readied
mod Allocating
mod Freeing
mod Resizing
mod Sweeping
mod Answering
pub mod Outcomes
pub mod Together
