pub mod NoForms
