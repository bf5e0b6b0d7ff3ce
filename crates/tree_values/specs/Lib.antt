pub mod Trees
pub mod Forms
pub mod Stops
pub mod Owed
pub mod Values
pub mod Nodes
pub mod Applied
pub mod Members
