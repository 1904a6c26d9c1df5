pub mod Tellings
pub mod WordsRead
pub mod Tags
