mod ItemTaking
pub mod GiveLaws
