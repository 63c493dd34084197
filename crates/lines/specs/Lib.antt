pub mod Requests
pub mod Writing
