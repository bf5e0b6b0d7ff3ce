pub mod Families
pub mod QuoteLaws
pub mod Runs
pub mod Spelled
pub mod TokenTexts
pub mod Unique
