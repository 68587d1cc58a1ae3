pub mod Counted
pub mod Cuts
pub mod GeneratorLaws
pub mod Measured
pub mod Recorded
pub mod Replay
pub mod Run
