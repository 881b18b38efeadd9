-- What is left of two layouts without the shapes that both have, and what is known by it.
use Rattle.std.specs.Prelude.{◌↔◌, ⊤}
use Rattle.lvl_grid.specs.declared.point.Square.{Square}
use Rattle.lvl_names.specs.declared.layer.Layer.{Layer}
use Rattle.lvl_compare.specs.Tops.{Draws, DrawSame, IsFirstDifference}
use Rattle.lvl_changed.specs.declared.rests.Known.{Known}
use Rattle.lvl_changed.specs.declared.rests.Known.TheVariants.{Nothing, Same, Differ}

-- a and b draw the same wherever x and y do, which are what is left of them
abbrev pub AreSameWhere : Draws → Draws → Draws → Draws → Type 0
AreSameWhere a b x y = (layer : Layer) (s : Square) → x layer s ↔ y layer s → a layer s ↔ b layer s

-- what is known of a and b is so, among the squares for which Seen holds
abbrev pub IsKnown : (Square → Type 0) → Draws → Draws → Known → Type 0
IsKnown Seen a b Nothing = ⊤
IsKnown Seen a b Same = DrawSame Seen a b
IsKnown Seen a b (Differ layer square side) = IsFirstDifference Seen a b layer square side
