-- The definitions of modal variables, computed on the records of a small cell.
use Rattle.std.proofs.Common.{◌≡◌, ℕ, ℤ, Bool, List, [], ◌∷◌, Option, Some, None, true, false, pos, negsuc, refl}
use Rattle.lvl_grid.specs.declared.point.Point.{Point}
use Rattle.oasis_records.specs.declared.record.Record.{Record}
use Rattle.oasis_records.specs.declared.record.Record.TheVariants.{Rectangle, XyRelative}
use Rattle.oasis_figures.specs.Modal.{modal, layer_set, width_set, height_set, repetition_set}
use Rattle.oasis_figures.specs.Modal.{geometry, placement, is_relative}
use Rattle.oasis_values.specs.declared.repetition.Repetition.{Repetition}
use Rattle.oasis_values.specs.declared.repetition.Repetition.TheVariants.{Modal as Same, New}

abbrev drawn : Bool → Option ℕ → Option ℕ → Option ℕ → Option ℤ → Option Repetition → Record
drawn is_square layer width height x repetition = Rectangle (record {
  is_square = is_square;
  on = record { layer = layer; datatype = Some 7 };
  width = width;
  height = height;
  position = record { x = x; y = None; repetition = repetition };
})

abbrev places : List Point
places = record { x = pos 0; y = pos 0 } ∷ record { x = pos 30; y = pos 0 } ∷ []

-- 4 by 2 on layer 1 at x 10, twice; then in relative mode a square of 5, 3 to the west; then one with nothing of its own
-- but that it is repeated as before
abbrev first : Record
first = drawn false (Some 1) (Some 4) (Some 2) (Some (pos 10)) (Some (New places))

abbrev second : Record
second = drawn true None (Some 5) None (Some (negsuc 2)) None

abbrev third : Record
third = drawn false None None None None (Some Same)

-- the latest record first
abbrev cell : List Record
cell = third ∷ second ∷ XyRelative ∷ first ∷ []

layer_kept : modal layer_set cell ≡ Some 1
layer_kept = refl

width_kept : modal width_set cell ≡ Some 5
width_kept = refl

-- a square sets the height too
height_of_square : modal height_set cell ≡ Some 5
height_of_square = refl

height_before : modal height_set (XyRelative ∷ first ∷ []) ≡ Some 2
height_before = refl

repetition_kept : modal repetition_set cell ≡ Some places
repetition_kept = refl

relative : is_relative cell ≡ true
relative = refl

absolute_at_first : is_relative (first ∷ []) ≡ false
absolute_at_first = refl

position_added : geometry cell ≡ record { x = pos 7; y = pos 0 }
position_added = refl

-- figures don't move the position of placements
placement_apart : placement cell ≡ record { x = pos 0; y = pos 0 }
placement_apart = refl

-- nothing is known at the beginning of a cell
unknown : modal layer_set [] ≡ None
unknown = refl
