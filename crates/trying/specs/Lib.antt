pub mod Trying
