pub mod GeneratorExamples
pub mod GeneratorLemmas
pub mod LoginLemmas
pub mod OctetLemmas
