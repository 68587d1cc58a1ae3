mod CounterLemmas
mod TallyLemmas
