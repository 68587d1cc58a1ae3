pub mod EventText
pub mod SettingsText
pub mod Show
pub mod Text
