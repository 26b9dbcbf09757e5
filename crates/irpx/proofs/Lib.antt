pub mod Adding
pub mod CommandLine
pub mod Judged
pub mod OneSeat
pub mod Pieces
pub mod Runs
pub mod Shown
pub mod Telling
