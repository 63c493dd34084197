-- The laws behind the module `sets`.
pub mod Digits
