-- What `clap` finds in a line without a fault.
use Rattle.std.specs.Prelude.{◌≡◌, ◌⊎◌, List, codes, true, is_some}
use Rattle.clap.specs.Values.{kind_of}
use Rattle.clap.specs.Walk.{Row, Text, first_of}
use Rattle.clap.specs.declared.error.kind.ErrorKind.TheVariants.{ArgumentConflict}
use Rattle.lvl_line.specs.declared.job.LineFault.{LineFault}
use Rattle.lvl_line.specs.declared.job.LineFault.TheVariants as fault

-- there is a value for this argument
abbrev pub HasValue : Text → List Row → Type 0
HasValue id rows = is_some (first_of id rows) ≡ true

-- the subcommand is one of the four, and its files are given
abbrev pub IsJobOf : Text → List Row → Type 0
IsJobOf name rows = ((name ≡ codes "compare") × HasValue (codes "A") rows × HasValue (codes "B") rows)
    ⊎ ((name ≡ codes "show") × HasValue (codes "A") rows)
    ⊎ ((name ≡ codes "digest") × HasValue (codes "A") rows)
    ⊎ ((name ≡ codes "cells") × HasValue (codes "A") rows)

-- the fault is an error of a conflict
abbrev pub IsConflictFault : LineFault → Type 0
IsConflictFault (fault.Words e) = kind_of e ≡ ArgumentConflict
IsConflictFault fault.OutOfMemory = ⊥
