pub mod Sites
pub mod Rules
pub mod Views
