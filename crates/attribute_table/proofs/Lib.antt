pub mod Table
pub mod VendorLemmas
