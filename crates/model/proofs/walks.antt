pub mod Standing
pub mod Finding
pub mod Totals
pub mod Passing
pub mod Steps
pub mod Columns
