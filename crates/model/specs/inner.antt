pub mod Links
pub mod Walks
pub mod Headers
pub mod Laid
pub mod Items
pub mod Pages
pub mod Ways
pub mod Edges
