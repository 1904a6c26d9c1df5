pub mod Onward
pub mod Told
