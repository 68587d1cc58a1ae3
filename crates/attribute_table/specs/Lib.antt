pub mod Held
pub mod Images
pub mod Known
pub mod Rows
pub mod VendorViews
pub mod Vendors
