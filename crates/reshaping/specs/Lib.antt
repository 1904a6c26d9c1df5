pub mod Reshape
