-- Placements as they are stored: what has a single place by its key, the others by an index of keys with their shifts.
use Rattle.std.specs.Prelude.{◌≡◌, ℕ, ◌<◌, ◌+◌, ⊤, Bool, true, false, List, [], length, get_or, All, Option, Some, None}
use Rattle.std.specs.Global.{Box}
use Rattle.lvl_grid.specs.declared.point.Point.{Point}
use Rattle.lvl_grid.specs.Turn.{FitsPoint, shifted}
use Rattle.lvl_names.specs.Shifts.{one_place}
use Rattle.lvl_cells.specs.declared.placements.Placing.{Placing}
use Rattle.lvl_cells.specs.declared.placements.StoredPlacement.{StoredPlacement}
use Rattle.lvl_cells.specs.declared.placements.Target.{Target}
use Rattle.lvl_cells.specs.declared.repeated.Repeated.{Repeated}
use Rattle.lvl_cells.specs.Cells.{PlainPlacement}
use Rattle.lvl_cells.specs.inside.Spans.{numbered}

-- the list has this item at that index
pub record IsAt {X : Type 0} (items : List (List X)) (i : ℕ) (item : List X) : Type 0 where
  pub within : i < length items
  pub is : get_or items i [] ≡ item

-- what is placed, by its key, and at which shifts
pub record KeyAtShifts : Type 0 where
  pub key : ℕ
  pub shifts : List Point

-- the key with its shifts, given the lists that are kept
abbrev pub repeated_in : List (List Point) → Repeated → KeyAtShifts
repeated_in lists r = record { key = r.key; shifts = numbered lists r.shifts }

-- the number of the shifts is that of a list
abbrev pub IsRepeated : List (List Point) → Repeated → Type 0
IsRepeated lists r = r.shifts < length lists + 1

-- the keys in the box, or none without a box
abbrev pub repeated_beside : Option (Box (List KeyAtShifts)) → List KeyAtShifts
repeated_beside None = []
repeated_beside (Some b) = b.value

-- a key at the zero shift alone
abbrev pub once : ℕ → KeyAtShifts
once key = record { key = key; shifts = one_place }

-- what is placed: the kept one at the index if it is repeated, and else the key itself at the zero shift alone
abbrev pub target_in : List KeyAtShifts → Bool → ℕ → KeyAtShifts
target_in kept true index = get_or kept index (once index)
target_in kept false index = once index

-- the index is that of a kept one if it is repeated, and else a key
abbrev pub HasIndex : List KeyAtShifts → Bool → ℕ → Type 0
HasIndex kept true index = index < length kept
HasIndex kept false index = ⊤

-- the target is the key at these shifts
pub record IsTarget (kept : List KeyAtShifts) (t : Target) (key : ℕ) (shifts : List Point) : Type 0 where
  pub index : HasIndex kept t.is_repeated t.index
  pub is : target_in kept t.is_repeated t.index ≡ record { key = key; shifts = shifts }

-- the placement at these shifts
abbrev pub placement_by : Placing → List Point → PlainPlacement
placement_by p shifts = record { key = p.key; flip = p.flip; turn = p.turn; at = p.at; shifts = shifts }

-- the placement that is stored so, given the keys with their shifts that are kept
abbrev pub placement_in : List KeyAtShifts → StoredPlacement → PlainPlacement
placement_in kept s = record {
  key = (target_in kept s.is_repeated s.index).key;
  flip = s.flip;
  turn = s.turn;
  at = s.at;
  shifts = (target_in kept s.is_repeated s.index).shifts;
}

-- the index is one of the kept ones if need be, and each place is within 64 signed bits
pub record IsPlacing (kept : List KeyAtShifts) (s : StoredPlacement) : Type 0 where
  pub index : HasIndex kept s.is_repeated s.index
  pub fits : All (λ e. FitsPoint (shifted s.at e)) (target_in kept s.is_repeated s.index).shifts
