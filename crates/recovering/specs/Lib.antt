pub mod Recover
