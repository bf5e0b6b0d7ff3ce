pub mod OneVariable
pub mod Systems
pub mod Elimination
pub mod Scaling
pub mod Composition
pub mod Steps
