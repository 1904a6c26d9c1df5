pub mod FitLaws
