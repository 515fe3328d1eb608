pub mod BitSets
pub mod BitSetInvariants
pub mod Queue
pub mod Links
