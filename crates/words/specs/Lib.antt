pub mod Word
pub mod Copy
pub mod Bits
pub mod Width
pub mod Widths
