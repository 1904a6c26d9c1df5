pub mod Relink
