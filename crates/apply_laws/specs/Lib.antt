pub mod Lists
pub mod Meant
pub mod Listing
pub mod Found
pub mod Reached
pub mod Terms
pub mod Laws
