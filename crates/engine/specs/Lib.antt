pub mod Ready
pub mod Allocate
pub mod Free
