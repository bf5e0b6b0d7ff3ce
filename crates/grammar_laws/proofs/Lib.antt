pub mod Runs
pub mod Keeps
pub mod KeepsExpressions
pub mod KeepsTerms
pub mod KeepsItems
pub mod Needed
pub mod Conditions
pub mod Texts
