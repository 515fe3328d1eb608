pub mod Words
pub mod Rows
pub mod HeapTop
pub mod Linked
