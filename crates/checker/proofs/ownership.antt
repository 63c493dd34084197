pub mod Spending
pub mod Taking
pub mod Turns
pub mod Nodes
pub mod Cycle
pub mod Branching
