pub mod Agree
pub mod FillLaws
pub mod ItemHeaders
pub mod FilledHere
pub mod HereFilled
pub mod OneLayout
