pub mod Lists
pub mod FirstEnds
mod Slots
mod StandingFlows
mod TimedRows
mod FlowMapSteps
mod DistinctFlows
mod ListLengths
pub mod LastUses
mod RestoredFlows
