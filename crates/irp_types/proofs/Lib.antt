pub mod LongerLists
mod LongerHistories
mod LiveMaps
mod FoundUses
mod UsesOverSteps
mod StatesByNumber
mod CompletesOnce
mod SettledUnwinding
mod SettledFrames
mod SettledDescent
mod SettledSteps
mod SettledStates
mod Lent
mod Examples
pub mod Deciding
pub mod HeldPackets
