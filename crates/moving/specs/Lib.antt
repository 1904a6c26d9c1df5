pub mod Move
pub mod Mend
