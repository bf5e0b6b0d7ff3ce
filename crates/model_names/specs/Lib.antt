pub mod Declared
pub mod Sorts
pub mod Kinds
pub mod Examples
