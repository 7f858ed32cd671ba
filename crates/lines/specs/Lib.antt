pub mod Letters
pub mod Fields
pub mod Grammar
pub mod Meaning
pub mod Print
