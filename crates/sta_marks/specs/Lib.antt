pub mod Nodes
pub mod Rows
pub mod Rules
pub mod Filled
