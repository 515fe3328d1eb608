pub mod Prefixes
pub mod Text
pub mod Fault
pub mod Rules
pub mod Configured
pub mod ConfigModels
pub mod Prelude
