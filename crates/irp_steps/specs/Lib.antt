pub mod Behaviours
pub mod Conditions
pub mod Forms
pub mod Labels
pub mod StepKinds
