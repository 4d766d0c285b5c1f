pub mod Products
pub mod Rows
