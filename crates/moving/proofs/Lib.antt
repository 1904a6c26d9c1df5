pub mod MoveLaws
pub mod MendLaws
