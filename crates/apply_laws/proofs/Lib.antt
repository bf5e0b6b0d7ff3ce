pub mod Listed
pub mod Products
pub mod Passing
pub mod Parts
pub mod Calls
pub mod Loads
pub mod Copies
pub mod Leads
