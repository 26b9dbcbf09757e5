pub mod Orders
pub mod Paths
pub mod Nodes
pub mod Refusals
pub mod Counted
