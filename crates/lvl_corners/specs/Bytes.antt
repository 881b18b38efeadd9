-- The bytes of corners (own rule).
use Rattle.std.specs.Prelude.{◌≡◌, ℕ, List, ◌∷◌, [], ◌++◌, flat_map, codes, All, ◌↔◌}
use Rattle.std.specs.Int.{w8, w64, to_be_bytes, cast_unsigned}
use Rattle.std.specs.Fmt.{decimal}
use Rattle.lvl_grid.specs.declared.point.Point.{Point}
use Rattle.lvl_grid.specs.declared.point.Square.{Square}
use Rattle.lvl_grid.specs.Winding.{SomeCovers}
use Rattle.lvl_corners.specs.declared.corner.Corner.{Corner}
use Rattle.lvl_corners.specs.Corners.{AreCornersOf, FitsCorner}

-- the 17 bytes of a corner: x and y, eight bytes each, and the change, one byte, in two's complement, high byte first
abbrev pub corner_bytes : Corner → List ℕ
corner_bytes k =
    to_be_bytes w64 (cast_unsigned w64 k.x) ++ (to_be_bytes w64 (cast_unsigned w64 k.y) ++ cast_unsigned w8 k.change
    ∷ [])

-- the head of a Layer: "layer L datatype D" and a line feed, with L and D in decimal
unfoldable pub layer_head : ℕ → ℕ → List ℕ
layer_head layer datatype = codes "layer " ++ (decimal layer ++ (codes " datatype " ++ (decimal datatype ++ 10 ∷ [])))

-- the bytes of a Layer: its head, then each corner in order
abbrev pub layer_bytes : ℕ → ℕ → List Corner → List ℕ
layer_bytes layer datatype corners = layer_head layer datatype ++ flat_map corner_bytes corners

-- two lists of rings on the same Layer have the same bytes exactly if they cover the same squares
abbrev pub BytesDecide : Type 0
BytesDecide =
    (layer datatype : ℕ) (first second : List (List Point)) (ks ls : List Corner) → AreCornersOf (SomeCovers first) ks
    → AreCornersOf (SomeCovers second) ls → All FitsCorner ks → All FitsCorner ls
    → (layer_bytes layer datatype ks ≡ layer_bytes layer datatype ls)
    ↔ ((s : Square) → SomeCovers first s ↔ SomeCovers second s)
