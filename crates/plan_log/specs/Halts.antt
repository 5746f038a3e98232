-- How a play ends that isn't played through.
use Rattle.std.specs.Prelude.{◌≡◌, ◌⊎◌, ℕ, None}
use Rattle.std.specs.IoError.{error_kind, raw_os_error}
use Rattle.std.specs.declared.io.Error.{Error}
use Rattle.std.specs.declared.io.ErrorKind.TheVariants.{OutOfMemory}
use Rattle.clip_script.specs.declared.fault.ScriptFault.{ScriptFault}
use Rattle.clip_script.specs.declared.fault.ScriptFault.TheVariants.{TooMany as TooManyLines, BadLine, NoMemory as NoMemoryToRead}
use Rattle.plan_log.specs.declared.halt.Halt.{Halt}
use Rattle.plan_log.specs.declared.halt.Halt.TheVariants.{Line, TooMany, ReadFailed, WriteFailed, NoMemory}

-- by the fault of its script
abbrev pub halt_of : ScriptFault → Halt
halt_of (TooManyLines lines) = TooMany lines
halt_of (BadLine line) = Line line
halt_of NoMemoryToRead = NoMemory

-- an allocation was refused. What a system call answers for want of memory is a failure of its own
abbrev pub IsWantOfMemory : Error → Type 0
IsWantOfMemory error = (error_kind error ≡ OutOfMemory) × (raw_os_error error ≡ None)

-- by a script that can't be fetched, and by a text that can't be written
abbrev pub IsReadStop : Halt → Type 0
IsReadStop halt = (halt ≡ NoMemory) ⊎ (halt ≡ ReadFailed)

abbrev pub IsWriteStop : Halt → Type 0
IsWriteStop halt = (halt ≡ NoMemory) ⊎ (halt ≡ WriteFailed)

-- the program's statuses: a script that is refused 1, a failed read 3, a failed write 4, no memory 5
abbrev pub status_of : Halt → ℕ
status_of (Line line) = 1
status_of (TooMany lines) = 1
status_of ReadFailed = 3
status_of WriteFailed = 4
status_of NoMemory = 5
