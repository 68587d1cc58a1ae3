mod TraceLemmas
