pub mod RecordLemmas
pub mod RecordText
pub mod SettingsLines
