mod ListLemmas
