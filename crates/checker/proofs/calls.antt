-- The laws behind the module `calls`.
pub mod Filling
pub mod Rounds
pub mod Rows
pub mod Squares
