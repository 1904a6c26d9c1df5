pub mod Figures
pub mod Answered
pub mod Listed
