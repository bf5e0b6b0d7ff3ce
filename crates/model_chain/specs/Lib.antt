pub mod Literals
pub mod Chains
pub mod Sides
pub mod Laws
