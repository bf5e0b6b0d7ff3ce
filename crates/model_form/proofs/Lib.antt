pub mod Orders
pub mod Written
pub mod Sorted
pub mod Equals
pub mod Values
pub mod Over
pub mod Modulo
pub mod Simplified
