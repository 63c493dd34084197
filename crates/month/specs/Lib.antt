pub mod Month
pub mod Cases
