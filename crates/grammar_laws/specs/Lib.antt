pub mod Nests
pub mod Small
