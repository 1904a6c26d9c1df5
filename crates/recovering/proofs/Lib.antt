pub mod RecoverLaws
