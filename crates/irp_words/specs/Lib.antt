pub mod CommandLine
pub mod Ending
pub mod Program
pub mod Telling
