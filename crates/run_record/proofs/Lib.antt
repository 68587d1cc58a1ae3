mod QueueLemmas
mod RecordingLemmas
