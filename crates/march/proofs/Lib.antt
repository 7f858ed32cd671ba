pub mod Fitting
pub mod Cutting
pub mod Going
pub mod Whole
