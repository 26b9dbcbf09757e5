mod CallNames
mod PlansApart
pub mod Saying
mod ToldApart
