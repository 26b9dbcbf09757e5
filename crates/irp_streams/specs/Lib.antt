pub mod Out
pub mod Streams
pub mod Writing
