mod FaultLemmas
mod KeyLemmas
mod Settled
mod Twice
mod ValueLemmas
