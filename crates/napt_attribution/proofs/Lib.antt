pub mod RequestParties
pub mod KeptEntries
pub mod LogLaws
pub mod RowReads
pub mod SavedRows
