pub mod Bytes
pub mod Stands
pub mod Table
