mod CountLemmas
pub mod CutExamples
pub mod CutLemmas
pub mod GeneratedLemmas
pub mod MeasureLemmas
pub mod RecordedLemmas
pub mod ReplayLemmas
