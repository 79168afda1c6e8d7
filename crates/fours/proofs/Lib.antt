pub mod Listed
pub mod Raising
