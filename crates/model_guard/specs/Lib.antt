pub mod Forms
pub mod Guards
pub mod Compares
