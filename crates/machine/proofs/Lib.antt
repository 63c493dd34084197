-- The node file of the machine's proofs.
pub mod Running
