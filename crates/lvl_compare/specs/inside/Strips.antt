-- The first difference of two layouts within a part of the grid.
use Rattle.std.specs.Prelude.{◌≡◌, ◌↔◌, ◌⊎◌, ◌<◌, ◌+◌, ◌+ℤ◌, ◌-ℤ◌, ℤ, pos, negsuc, ℕ, zero, List, Option, Some, None, IfSome}
use Rattle.std.specs.Int.{int_min, int_max}
use Rattle.lvl_grid.specs.declared.point.Square.{Square}
use Rattle.lvl_grid.specs.declared.point.Window.{Window}
use Rattle.lvl_grid.specs.Squares.{IsBefore}
use Rattle.lvl_grid.specs.Clip.{IsInWindow}
use Rattle.lvl_grid.specs.Winding.{SomeCovers}
use Rattle.lvl_names.specs.declared.layer.Layer.{Layer}
use Rattle.lvl_names.specs.Layers.{ComesBefore}
use Rattle.lvl_flat.specs.Sheet.{PlainSheet}
use Rattle.lvl_flat.specs.Sheets.{rings_on}
use Rattle.lvl_region.specs.Region.{IsAlone}
use Rattle.lvl_region.specs.declared.region.Side.{Side}
use Rattle.lvl_compare.specs.Tops.{Draws}

-- a Layer, a square, and the only side that draws it there
abbrev pub Difference : Type 0
Difference = Layer × Square × Side

-- the first square on its Layer comes before the second on its Layer: by Layer, then by square
abbrev pub Precedes : Layer → Square → Layer → Square → Type 0
Precedes l s layer square = ComesBefore l layer ⊎ ((l ≡ layer) × IsBefore s square)

-- which squares of which Layers are compared
abbrev pub Part : Type 1
Part = Layer → Square → Type 0

-- the first difference of two layouts, among the squares of the part
pub record IsFirstIn (a b : Draws) (part : Part) (at : Difference) : Type 0 where
  pub shown : part at.0 at.1
  pub alone : IsAlone (a at.0) (b at.0) at.1 at.2
  pub least : (l : Layer) (s : Square) → part l s → Precedes l s at.0 at.1 → a l s ↔ b l s

-- what is found in a part: the first difference, or None if both draw the same squares of it
abbrev pub IsFoundIn : Draws → Draws → Part → Option Difference → Type 0
IsFoundIn a b part None = (l : Layer) (s : Square) → part l s → a l s ↔ b l s
IsFoundIn a b part (Some at) = IsFirstIn a b part at

-- the square comes before what is known, or nothing is known
abbrev pub IsOpen : Option Difference → Layer → Square → Type 0
IsOpen None l s = Unit {0}
IsOpen (Some at) l s = Precedes l s at.0 at.1

-- a difference of the part that comes before what is known
pub record IsNew (a b : Draws) (part : Part) (known : Option Difference) (at : Difference) : Type 0 where
  pub shown : part at.0 at.1
  pub alone : IsAlone (a at.0) (b at.0) at.1 at.2
  pub early : IsOpen known at.0 at.1

-- what is found is what is known, or a new difference of the part; both draw the same squares of the part before it
pub record IsImproved (a b : Draws) (part : Part) (known found : Option Difference) : Type 0 where
  pub alike : (l : Layer) (s : Square) → part l s → IsOpen found l s → a l s ↔ b l s
  pub new : IfSome found (λ at. (known ≡ Some at) ⊎ IsNew a b part known at)
  pub kept : found ≡ None → known ≡ None

-- the lesser of two differences, or the only one that there is
abbrev pub IsLeast : Option Difference → Option Difference → Option Difference → Type 0
IsLeast None other result = result ≡ other
IsLeast (Some x) None result = result ≡ Some x
IsLeast (Some x) (Some y) result = ((result ≡ Some x) × (¬ Precedes y.0 y.1 x.0 x.1))
    ⊎ ((result ≡ Some y) × Precedes y.0 y.1 x.0 x.1)

-- the flat layout covers exactly the squares of the part that the layout draws
abbrev pub ShowsOf : Draws → Part → List PlainSheet → Type 0
ShowsOf a part f = (l : Layer) (q : Square) → SomeCovers (rings_on l f) q ↔ (part l q × a l q)

-- squares for which W holds, on every Layer
abbrev pub everywhere : (Square → Type 0) → Part
everywhere W l q = W q

-- the rows of a window up to this one
abbrev pub rows_to : ℤ → Window → Window
rows_to y w = record { x0 = w.x0; y0 = w.y0; x1 = w.x1; y1 = int_min w.y1 (y +ℤ pos 1) }

-- a number that isn't below zero, as a natural number
abbrev pub up : ℤ → ℕ
up (pos n) = n
up (negsuc n) = zero

-- the number of columns and of rows of a window
abbrev pub girth : Window → ℕ
girth w = up (w.x1 -ℤ w.x0) + up (w.y1 -ℤ w.y0)

-- two windows that have each square of a window, and no others, and each of which has fewer columns or rows than it
pub record AreHalves (w a b : Window) : Type 0 where
  pub first : (q : Square) → IsInWindow a q → IsInWindow w q
  pub second : (q : Square) → IsInWindow b q → IsInWindow w q
  pub all : (q : Square) → IsInWindow w q → IsInWindow a q ⊎ IsInWindow b q
  pub first_less : girth a < girth w
  pub second_less : girth b < girth w

-- the intersection of a window with an optional one
abbrev pub seen_of : Option Window → Window → Window
seen_of None w = w
seen_of (Some v) w = record {
  x0 = int_max w.x0 v.x0;
  y0 = int_max w.y0 v.y0;
  x1 = int_min w.x1 v.x1;
  y1 = int_min w.y1 v.y1;
}
