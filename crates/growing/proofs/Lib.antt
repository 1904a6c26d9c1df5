mod EdgeLaws
mod GrowLaws
mod Running
