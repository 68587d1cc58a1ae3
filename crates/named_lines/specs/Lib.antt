pub mod NamedText
pub mod Values
