pub mod Operations
pub mod Goings
pub mod Names
pub mod Nodes
pub mod Assertions
pub mod Items
pub mod Growing
