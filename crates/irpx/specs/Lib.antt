pub mod Checking
pub mod CommandLine
pub mod Demo
pub mod Ending
pub mod Judging
pub mod Program
pub mod Running
pub mod Writing
