-- Targets with the names that are kept for them.
use Rattle.std.specs.Prelude.{◌≡◌, ℕ, List, Some}
use Rattle.oasis_records.specs.declared.cell.CellName.{CellName}
use Rattle.oasis_stream.specs.Names.{meant}
use Rattle.oasis_library.specs.declared.placement.Target.{Target}
use Rattle.oasis_library.specs.inside.Kept.{target_ref}

-- the name is that of the target, if the target has one
abbrev pub IsNameOf : List CellName → Target → List ℕ → Type 0
IsNameOf names target name = (s : List ℕ) → meant names (target_ref target) ≡ Some s → name ≡ s
