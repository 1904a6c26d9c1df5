pub mod FindLaws
mod NearestLaws
