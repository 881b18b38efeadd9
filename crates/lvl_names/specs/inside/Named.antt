-- How the bytes of a name are kept.
use Rattle.std.specs.Prelude.{ℕ, ◌≤◌, List, take}
use Rattle.std.specs.Rc.{rc_slice_items}
use Rattle.lvl_names.specs.declared.name.NameBytes.{NameBytes}
use Rattle.lvl_names.specs.declared.name.NameBytes.TheVariants.{Short, Long}

-- the bytes of the name that is kept so: the first of an array, or all that are shared
abbrev pub kept_bytes : NameBytes → List ℕ
kept_bytes (Short n bytes) = take n bytes
kept_bytes (Long shared) = rc_slice_items shared

-- no more bytes are meant than the array has
abbrev pub FitsArray : NameBytes → Type 0
FitsArray (Short n bytes) = n ≤ 15
FitsArray (Long shared) = Unit
