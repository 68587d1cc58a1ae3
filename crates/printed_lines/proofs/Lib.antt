pub mod PrintExamples
pub mod PrintLemmas
pub mod SettingsTextLemmas
pub mod ShowExamples
