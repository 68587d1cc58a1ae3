pub mod InputLemmas
mod SessionLemmas
mod StageLemmas
pub mod WhateverSettings
