pub mod Cutting
pub mod Replies
pub mod Sheets
pub mod Pieces
