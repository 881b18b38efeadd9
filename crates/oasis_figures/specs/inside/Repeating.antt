-- Repetitions whose shifts are known, because they have their own or the modal one is defined.
use Rattle.std.specs.Prelude.{Bool, true, is_some, List, Option, Some, None}
use Rattle.lvl_grid.specs.declared.point.Point.{Point}
use Rattle.oasis_values.specs.declared.repetition.Repetition.{Repetition}
use Rattle.oasis_values.specs.declared.repetition.Repetition.TheVariants.{Modal as Same, New}

abbrev pub is_known : Option Repetition → Option (List Point) → Bool
is_known None shifts = true
is_known (Some Same) shifts = is_some shifts
is_known (Some (New s)) shifts = true
