-- How a program ends, by how its run ended. Definitions only.
use Rattle.std.specs.Prelude.{ℕ, Result, Ok, Err}
use Rattle.std.specs.declared.io.Error.{Error}
use Rattle.std.specs.declared.io.ErrorKind.{ErrorKind}
use Rattle.std.specs.declared.io.ErrorKind.TheVariants.{BrokenPipe}
use Rattle.std.specs.IoError.{error_kind}

-- as a process that SIGPIPE ends, where the reader has gone away
unfoldable pub status_by : ErrorKind → ℕ
status_by BrokenPipe = 141
status_by kind = 1

unfoldable pub status_of : Result Unit Error → ℕ
status_of (Ok u) = 0
status_of (Err e) = status_by (error_kind e)
