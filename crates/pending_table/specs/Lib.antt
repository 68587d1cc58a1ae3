pub mod Table
pub mod Merged
pub mod Stores
pub mod KeyLaws
pub mod Relinked
