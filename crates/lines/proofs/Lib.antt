pub mod Writing
pub mod Digits
pub mod Words
pub mod Requests
