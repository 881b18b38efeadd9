-- The definitions of an array and of a boundary, computed on the records of an element.
use Rattle.std.proofs.Common.{◌≡◌, ℕ, List, [], ◌∷◌, ◌++◌, false, pos, refl}
use Rattle.lvl_grid.specs.declared.map.Turn.TheVariants.{R180}
use Rattle.lvl_grid.specs.declared.point.Point.{Point}
use Rattle.lvl_path.specs.Figure.{rings}
use Rattle.gds_elements.specs.Meaning.{shapes_of, references_of}
use Rattle.gds_elements.specs.Rec.{Rec}

abbrev record_of : ℕ → ℕ → List ℕ → Rec
record_of kind data_type payload = record { kind = kind; data_type = data_type; payload = payload }

abbrev point : ℕ → ℕ → Point
point x y = record { x = pos x; y = pos y }

-- four bytes of a number below 256
abbrev long : ℕ → List ℕ
long n = 0 ∷ 0 ∷ 0 ∷ n ∷ []

-- AREF SNAME STRANS ANGLE COLROW XY ENDEL: three columns and two rows of A from (100, 50), turned by 180 degrees. The
-- second point is three column steps of 10 to the east, the third two row steps of 20 to the north
abbrev array : List Rec
array =
    record_of 0x0B 0 [] ∷ record_of 0x12 6 (0x41 ∷ 0 ∷ []) ∷ record_of 0x1A 1 (0 ∷ 0 ∷ [])
    ∷ record_of 0x1C 5 (0x42 ∷ 0xB4 ∷ 0 ∷ 0 ∷ 0 ∷ 0 ∷ 0 ∷ 0 ∷ []) ∷ record_of 0x13 2 (0 ∷ 3 ∷ 0 ∷ 2 ∷ [])
    ∷ record_of 0x10 3 (long 100 ++ long 50 ++ long 130 ++ long 50 ++ long 100 ++ long 90) ∷ record_of 0x11 0 [] ∷ []

placed : references_of array ≡ record {
  cell = 0x41 ∷ [];
  flip = false;
  turn = R180;
  at = point 100 50;
  shifts = point 0 0 ∷ point 10 0 ∷ point 20 0 ∷ point 0 20 ∷ point 10 20 ∷ point 20 20 ∷ [];
} ∷ []
placed = refl

no_shapes : shapes_of array ≡ []
no_shapes = refl

-- BOUNDARY LAYER DATATYPE XY ENDEL: its last point is its first again, and isn't one of the ring
abbrev boundary : List Rec
boundary =
    record_of 0x08 0 [] ∷ record_of 0x0D 2 (0 ∷ 5 ∷ []) ∷ record_of 0x0E 2 (0 ∷ 6 ∷ [])
    ∷ record_of 0x10 3 (long 0 ++ long 0 ++ long 4 ++ long 0 ++ long 4 ++ long 2 ++ long 0 ++ long 2 ++ long 0 ++ long 0)
    ∷ record_of 0x11 0 [] ∷ []

drawn : shapes_of boundary ≡ record {
  layer = record { layer = 5; datatype = 6 };
  figure = rings ((point 0 0 ∷ point 4 0 ∷ point 4 2 ∷ point 0 2 ∷ []) ∷ []);
  shifts = point 0 0 ∷ [];
} ∷ []
drawn = refl
