pub mod ReadingLaws
pub mod CountLaws
pub mod TableLaws
mod SteppingLaws
pub mod BlockLaws
pub mod IterLaws
