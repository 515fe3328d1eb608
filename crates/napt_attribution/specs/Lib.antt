pub mod RequestParties
pub mod LogLaws
pub mod SavedLogs
