pub mod LocalAgreement
pub mod Dispatching
pub mod HoldTimes
pub mod Hosts
pub mod SecondLegs
pub mod BindingUses
