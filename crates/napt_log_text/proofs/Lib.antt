pub mod Days
pub mod Logs
pub mod Quoted
pub mod SavedLogs
pub mod SavedRows
