-- Internal: statuses of a reading.
use Rattle.transcript.specs.declared.line_fault.LineFault.{LineFault}
use Rattle.transcript.specs.declared.line_fault.LineFault.TheVariants as fault
use Rattle.agent_status.specs.declared.status.Status.{Status}
use Rattle.agent_status.specs.declared.status.Status.TheVariants.{BadTranscript, ReadFault, OutOfMemory, TooLong}

-- a fault of the reading as a status
abbrev pub fault_status : LineFault → Status
fault_status fault.Read = ReadFault
fault_status (fault.Bad line reason) = BadTranscript line reason
fault_status fault.Long = TooLong
fault_status fault.NoMemory = OutOfMemory
