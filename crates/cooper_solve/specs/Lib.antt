pub mod Kinds
pub mod Views
pub mod Multiples
pub mod Told
pub mod Back
pub mod Turns
pub mod Sums
