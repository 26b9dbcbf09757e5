pub mod AskedOnce
pub mod FirstTold
pub mod MadeAgain
pub mod Verdicts
pub mod Unallowed
pub mod Feeding
pub mod Judged
