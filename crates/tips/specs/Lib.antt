pub mod FirstAbove
