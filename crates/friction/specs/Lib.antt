pub mod Rule
pub mod Cone
pub mod Series
pub mod Pressuremeter
pub mod Tables
pub mod Horner
