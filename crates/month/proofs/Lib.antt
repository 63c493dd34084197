pub mod Chunks
pub mod Counting
pub mod Tenths
pub mod Order
pub mod Said
