pub mod Adding
pub mod Cutting
pub mod Parting
pub mod Splitting
