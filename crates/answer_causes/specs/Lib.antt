pub mod CauseLaws
pub mod CauseNames
pub mod Causes
