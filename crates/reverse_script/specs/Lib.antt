pub mod Script
pub mod Printed
pub mod Running
