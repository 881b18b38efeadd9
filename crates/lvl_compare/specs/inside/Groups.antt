-- Groups of consecutive Layers, and what two layouts draw on them.
use Rattle.std.specs.Prelude.{◌≡◌, ◌⊎◌, ◌==◌, ◌&&◌, ◌||◌, nat_lt, Bool, true, not, List, [], Option, Some, None}
use Rattle.std.specs.Prelude.{All, AllPairs, Contains, ℤ, ◌<ℤ◌}
use Rattle.lvl_grid.specs.Clip.{IsInWindow}
use Rattle.lvl_grid.specs.Squares.{IsBefore}
use Rattle.lvl_grid.specs.declared.point.Square.{Square}
use Rattle.lvl_grid.specs.declared.point.Window.{Window}
use Rattle.lvl_names.specs.declared.layer.Layer.{Layer}
use Rattle.lvl_names.specs.Layers.{ComesBefore}
use Rattle.lvl_flat.specs.Flattened.{TopCovers}
use Rattle.lvl_view.specs.Views.{target_of}
use Rattle.lvl_view.specs.declared.map.LayerPair.{LayerPair}
use Rattle.lvl_compare.specs.Tops.{Draws}
use Rattle.lvl_compare.specs.declared.groups.Span.{Span}
use Rattle.lvl_compare.specs.declared.groups.Group.{Group}
use Rattle.lvl_compare.specs.declared.pair.Pair.{Pair}
use Rattle.lvl_compare.specs.inside.Strips.{Difference, Part, rows_to}

-- the first Layer comes before the second
abbrev pub is_before : Layer → Layer → Bool
is_before a b = nat_lt a.layer b.layer || ((a.layer == b.layer) && nat_lt a.datatype b.datatype)

-- the Layer comes after the other, if that is given
abbrev pub is_after : Option Layer → Layer → Bool
is_after None layer = true
is_after (Some other) layer = is_before other layer

-- the Layer doesn't come after the other, if that is given
abbrev pub is_until : Option Layer → Layer → Bool
is_until None layer = true
is_until (Some other) layer = not (is_before other layer)

-- the Layer is one of the span
abbrev pub is_of_span : Span → Layer → Bool
is_of_span span layer = is_after span.after layer && is_until span.last layer

-- squares for which W holds, on the Layers of the span
abbrev pub on : Span → (Square → Type 0) → Part
on span W l q = (is_of_span span l ≡ true) × W q

-- the Layers are in order, each counts as a Layer of the span, and the layout draws on no other of these
pub record IsListed (drawn : Draws) (pairs : List LayerPair) (span : Span) (layers : List Layer) : Type 0 where
  pub rising : AllPairs ComesBefore layers
  pub only : (l : Layer) → Contains layers l → is_of_span span (target_of pairs l) ≡ true
  pub all : (l : Layer) (q : Square) → drawn l q → is_of_span span (target_of pairs l) ≡ true → Contains layers l

-- the group has those Layers of both layouts that count as Layers of its span
pub record AreListed (pair : Pair) (group : Group) : Type 0 where
  pub ours : IsListed (TopCovers pair.first.now) [] group.span group.ours.items
  pub theirs : IsListed (TopCovers pair.second.now) pair.view.now.pairs group.span group.theirs.items

-- none of the Layers counts as a Layer before this one
abbrev pub AreNotBefore : List LayerPair → Layer → List Layer → Type 0
AreNotBefore pairs layer layers = All (λ l. ¬ ComesBefore (target_of pairs l) layer) layers

-- that holds for both layouts
pub record NoneBefore (pairs : List LayerPair) (group : Group) (layer : Layer) : Type 0 where
  pub ours : AreNotBefore [] layer group.ours.items
  pub theirs : AreNotBefore pairs layer group.theirs.items

-- no square of the window above the row comes before the square
abbrev pub AreAbove : Window → ℤ → Square → Type 0
AreAbove window y s = (q : Square) → IsInWindow window q → y <ℤ q.y → ¬ IsBefore q s

-- the rows of the window up to one above which no square comes before the square
pub record IsCutFor (s : Square) (window rows : Window) : Type 0 where
  pub y : ℤ
  pub is : rows ≡ rows_to y window
  pub above : AreAbove window y s

-- all rows of the window, or if no Layer of the group comes before that of the known square, those that have all
-- squares before it
abbrev pub AreRowsBefore : List LayerPair → Group → Difference → Window → Window → Type 0
AreRowsBefore pairs group known window rows =
    (rows ≡ window) ⊎ (IsCutFor known.1 window rows × NoneBefore pairs group known.0)
