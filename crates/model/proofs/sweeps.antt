pub mod EmptyPage
pub mod Recovered
pub mod Relinked
pub mod Stages
