pub mod Characters
pub mod Appending
pub mod Rows
pub mod AppendingTerms
