pub mod Ports
pub mod Classes
mod Choices
pub mod InBlock
pub mod LeastFree
pub mod QuotaKept
pub mod Tables
pub mod NewTables
pub mod SeenBindings
pub mod Hosts
pub mod Keys
pub mod IndexConsistency
pub mod Queues
pub mod Steps
mod LastUses
pub mod OutboundSteps
pub mod InboundSteps
pub mod LiveNumbers
pub mod TableSteps
pub mod ListedRows
pub mod TableBuilders
pub mod ResumedTables
pub mod AlikeLists
pub mod LeftBindings
pub mod HeldThroughTime
pub mod AssignedNumbers
