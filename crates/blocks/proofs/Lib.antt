pub mod Steps
pub mod Taking
pub mod Chains
pub mod Rows
pub mod Laws
pub mod Moves
pub mod Named
