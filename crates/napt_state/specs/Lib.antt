pub mod StateFiles
pub mod StateText
pub mod EndedMisfits
pub mod Saved
pub mod StateContents
pub mod StateReaders
