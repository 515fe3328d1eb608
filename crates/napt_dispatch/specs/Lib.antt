pub mod OutcomeLists
pub mod Dispatch
pub mod RunsThrough
pub mod WorkerQueues
pub mod DispatcherInvariants
pub mod RunProgresses
