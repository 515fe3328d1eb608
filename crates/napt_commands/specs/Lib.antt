pub mod PlainRuns
pub mod Starts
