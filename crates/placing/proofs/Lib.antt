pub mod Taking
mod Placing
