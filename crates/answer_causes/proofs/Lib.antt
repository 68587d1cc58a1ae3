mod CauseLemmas
