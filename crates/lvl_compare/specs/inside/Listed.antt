-- What is found on listed Layers.
use Rattle.std.specs.Prelude.{◌≡◌, ◌+◌, ℕ, List, Option, Some, None, get_or}
use Rattle.lvl_grid.specs.declared.point.Square.{Square}
use Rattle.lvl_names.specs.declared.layer.Layer.{Layer}
use Rattle.lvl_compare.specs.Tops.{Draws, DrawSameOn, IsFirstDifferenceOn}
use Rattle.lvl_compare.specs.declared.groups.Span.{Span}
use Rattle.lvl_compare.specs.inside.Strips.{Difference}

-- the span ends with the last of the Layers before the index
abbrev pub IsUpTo : Span → List Layer → ℕ → Type 0
IsUpTo span layers end = (i : ℕ) (d : Layer) → i + 1 ≡ end → span.last ≡ Some (get_or layers i d)

-- a first difference, or None if both draw the same on the listed Layers
abbrev pub IsFoundOn : List Layer → (Square → Type 0) → Draws → Draws → Option Difference → Type 0
IsFoundOn layers Seen a b None = DrawSameOn layers Seen a b
IsFoundOn layers Seen a b (Some at) = IsFirstDifferenceOn layers Seen a b at.0 at.1 at.2
