pub mod Totals
pub mod Steps
pub mod Observing
pub mod Lawful
pub mod Knowing
pub mod Seating
pub mod Idle
