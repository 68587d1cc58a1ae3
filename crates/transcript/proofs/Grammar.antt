pub mod GrammarEventLemmas
pub mod GrammarExamples
pub mod GrammarJoinLemmas
pub mod GrammarKindLemmas
pub mod GrammarLemmas
pub mod GrammarLineLemmas
pub mod GrammarReasonLemmas
pub mod GrammarWordLemmas
