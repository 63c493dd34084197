-- The node file of the checker's proofs.
pub mod Joining
