pub mod Translators
pub mod CarriedPackets
