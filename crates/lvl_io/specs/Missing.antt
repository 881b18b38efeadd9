-- Bytes that are needed but missing.
use Rattle.std.specs.Prelude.{Bool, true, false, Result, Ok, Err}
use Rattle.lvl_io.specs.declared.buffer.Missing.{Missing}
use Rattle.lvl_io.specs.declared.buffer.Missing.TheVariants.{Ended, Limit, Failed}

-- whether bytes are missing because the reader returned an error
abbrev pub reader_failed : {A : Type 0} → Result A Missing → Bool
reader_failed (Ok x) = false
reader_failed (Err Failed) = true
reader_failed (Err Ended) = false
reader_failed (Err Limit) = false
