pub mod Maps
pub mod Uses
pub mod Told
