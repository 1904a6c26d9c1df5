pub mod Places
pub mod Rights
pub mod MapLaws
pub mod PageLaws
