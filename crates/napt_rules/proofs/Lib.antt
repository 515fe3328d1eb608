pub mod Lists
pub mod Life
