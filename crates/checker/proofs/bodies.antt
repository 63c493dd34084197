-- The laws behind the module `bodies`.
pub mod Telling
pub mod Meeting
pub mod Placing
pub mod Terms
pub mod Making
pub mod Filing
