pub mod ConstantForms
pub mod TreeForms
pub mod Rows
pub mod Growing
