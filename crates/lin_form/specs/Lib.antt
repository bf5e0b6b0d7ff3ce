pub mod Nest
pub mod Terms
pub mod Falls
pub mod Stops
pub mod Gathered
pub mod Whole
pub mod Within
pub mod Hashed
