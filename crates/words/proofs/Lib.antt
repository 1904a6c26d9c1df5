pub mod WidthLaws
pub mod WordLaws
pub mod BitLaws
pub mod ByteLaws
pub mod CopyLaws
pub mod HighLaws
pub mod YesNo
