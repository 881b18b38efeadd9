-- The hashes of Layers, strip by strip. These definitions serve only the proofs.
use Rattle.std.specs.Prelude.{◌≡◌, ◌<◌, ◌^◌, ◌+ℤ◌, ◌-ℤ◌, ◌<ℤ◌, ◌≤ℤ◌, ℤ, pos, Bool, true, int_lt, List, [], Option, None, Some}
use Rattle.std.specs.Prelude.{All, AllPairs, Any, Contains, IsTrue, if◌then◌else◌}
use Rattle.std.specs.Int.{saturate_signed, w64}
use Rattle.lvl_grid.specs.declared.point.Square.{Square}
use Rattle.lvl_grid.specs.declared.point.Window.{Window}
use Rattle.lvl_grid.specs.Clip.{IsInWindow}
use Rattle.lvl_grid.specs.Winding.{SomeCovers}
use Rattle.lvl_names.specs.declared.layer.Layer.{Layer}
use Rattle.lvl_names.specs.Layers.{ComesBefore}
use Rattle.lvl_cells.specs.Checks.{Settled}
use Rattle.lvl_flat.specs.Flattened.{TopCovers}
use Rattle.lvl_flat.specs.Sheet.{PlainSheet}
use Rattle.lvl_flat.specs.Sheets.{rings_on}
use Rattle.lvl_corners.specs.declared.corner.Corner.{Corner}
use Rattle.lvl_corners.specs.declared.digest.LayerHash.{LayerHash}
use Rattle.lvl_corners.specs.declared.mask.DigestedLayer.{DigestedLayer}
use Rattle.lvl_corners.specs.declared.span.Span.{Span}
use Rattle.lvl_corners.specs.Corners.{FitsCorner}
use Rattle.lvl_corners.specs.Digests.{HasHashed, HashesOn}
use Rattle.lvl_corners.specs.Masks.{Covers, IsDigested}
use Rattle.lvl_corners.specs.Gathered.{AreGathered, AreMoreGathered, HasGathered}
use Rattle.lvl_corners.specs.Parts.{AreCornersAt}
use Rattle.lvl_corners.specs.Spans.{AreCornersIn, is_below}
use Rattle.lvl.specs.declared.strip.Axis.{Axis}
use Rattle.lvl.specs.declared.strip.Axis.TheVariants.{X, Y}

-- the columns of a window from one before an abscissa up to another, which is excluded
abbrev pub around : Window → ℤ → ℤ → Window
around w from end =
    record { x0 = saturate_signed w64 (from -ℤ pos 1); y0 = w.y0; x1 = end; y1 = w.y1 }

-- the rows of a window from one before an ordinate up to another, which is excluded
abbrev pub rows_around : Window → ℤ → ℤ → Window
rows_around w from end =
    record { x0 = w.x0; y0 = saturate_signed w64 (from -ℤ pos 1); x1 = w.x1; y1 = end }

-- the columns, or the rows, of a window from one before a number up to another, which is excluded
abbrev pub sliced : Axis → Window → ℤ → ℤ → Window
sliced X w from end = around w from end
sliced Y w from end = rows_around w from end

-- where the columns, or the rows, of a window end
abbrev pub last_of : Axis → Window → ℤ
last_of X w = w.x1
last_of Y w = w.y1

-- an abscissa (or ordinate), or None if the columns (or rows) of a window end there
abbrev pub below_at : ℤ → ℤ → Option ℤ
below_at end last = if int_lt end last then Some end else None

-- the abscissas (or ordinates) below an end, if there is one
abbrev pub up_to : Option ℤ → Span
up_to end = record { from = None; below = end }

-- the squares left of an end, if there is one
abbrev pub IsLeft : Option ℤ → (Square → Type 0) → Square → Type 0
IsLeft end P q = (is_below end q.x ≡ true) × P q

-- the squares below an end, if there is one
abbrev pub IsUnder : Option ℤ → (Square → Type 0) → Square → Type 0
IsUnder end P q = (is_below end q.y ≡ true) × P q

-- the window has all that the top covers
abbrev pub HasAll : Settled → Window → Type 0
HasAll s w = (layer : Layer) (q : Square) → TopCovers s layer q → IsInWindow w q

-- the window has all rows in which the top covers a square
abbrev pub HasRows : Settled → Window → Type 0
HasRows s w = (layer : Layer) (q : Square) → TopCovers s layer q → (w.y0 ≤ℤ q.y) × (q.y <ℤ w.y1)

-- the top covers the square, which is in the window
abbrev pub CoversIn : Settled → Window → Layer → Square → Type 0
CoversIn s w layer q = IsInWindow w q × TopCovers s layer q

-- the hash has taken the corners, at the abscissas below an end, of what the top covers on its Layer left of it
pub record IsHashedTo (s : Settled) (end : Option ℤ) (h : LayerHash) : Type 0 where
  pub corners : List Corner
  pub are : AreCornersIn (IsLeft end (TopCovers s h.layer)) (up_to end) corners
  pub fits : All FitsCorner corners
  pub hashed : HasHashed h corners

-- from its first state to its second, the hash has taken the corners of its Layer at the abscissas of a span
pub record IsPushed (sheets : List PlainSheet) (span : Span) (old new : LayerHash) : Type 0 where
  pub layer : new.layer ≡ old.layer
  pub corners : List Corner
  pub are : AreCornersIn (SomeCovers (rings_on old.layer sheets)) span corners
  pub fits : All FitsCorner corners
  pub hashes : HashesOn old new corners

-- from its first state to its second, the hash has taken the corners of the set of squares P at the abscissas of a span
pub record IsPushedOf (P : Square → Type 0) (span : Span) (old new : LayerHash) : Type 0 where
  pub layer : new.layer ≡ old.layer
  pub corners : List Corner
  pub are : AreCornersIn P span corners
  pub fits : All FitsCorner corners
  pub hashes : HashesOn old new corners

-- from its first state to its second, the hash has taken no corners, and nothing is gathered
pub record IsCleared (old new : LayerHash) : Type 0 where
  pub layer : new.layer ≡ old.layer
  pub none : new.right.items ≡ []
  pub hashes : HashesOn old new []

-- from its first state to its second, the hash has taken the corners of its Layer at an abscissa and in some rows, and
-- gathered those right of it and left of an end
pub record IsPartPushed (sheets : List PlainSheet) (x end : ℤ) (rows : Span) (old new : LayerHash) : Type 0 where
  pub layer : new.layer ≡ old.layer
  pub corners : List Corner
  pub are : AreCornersAt (SomeCovers (rings_on old.layer sheets)) x rows corners
  pub fits : All FitsCorner corners
  pub hashes : HashesOn old new corners
  pub gathered : AreMoreGathered (SomeCovers (rings_on old.layer sheets)) x end rows old new

-- what the top covers on a Layer in the strip of a window from one abscissa up to another, and below an end
abbrev pub InStrip : Settled → Window → ℤ → ℤ → Option ℤ → Layer → Square → Type 0
InStrip s w x end o layer = IsUnder o (CoversIn s (around w x end) layer)

-- from its first state to its second, the hash has taken the corners, at an abscissa and at the ordinates below an end,
-- of what the top covers on its Layer in a strip below that end, and those right of the abscissa are gathered
pub record IsGathering (s : Settled) (w : Window) (x end : ℤ) (o : Option ℤ) (old new : LayerHash) : Type 0 where
  pub layer : new.layer ≡ old.layer
  pub corners : List Corner
  pub are : AreCornersAt (InStrip s w x end o old.layer) x (up_to o) corners
  pub fits : All FitsCorner corners
  pub hashes : HashesOn old new corners
  pub gathered : AreGathered (InStrip s w x end o old.layer) x end (up_to o) new

-- from its first state to its second, the hash has taken those of the gathered corners that are in a span
pub record IsRightPushed (span : Span) (old new : LayerHash) : Type 0 where
  pub layer : new.layer ≡ old.layer
  pub taken : (covered : Square → Bool) → HasGathered covered span old
      → (corners : List Corner) × AreCornersIn (λ s. IsTrue (covered s)) span corners
      × All FitsCorner corners × HashesOn old new corners

-- the end of a strip, or, if it isn't right of the strip's beginning, the abscissa after that
abbrev pub stop_of : ℤ → ℤ → ℤ
stop_of x end = if int_lt x end then end else (x +ℤ pos 1)

-- the abscissas from one up to another, which is excluded
abbrev pub between : ℤ → ℤ → Span
between from end = record { from = Some from; below = Some end }

-- from its first state to its second, the hash has taken the corners, at the abscissas of a strip and at least at the
-- first of them, of what the top covers on its Layer in the strip
abbrev pub IsStripPushed : Settled → Window → ℤ → ℤ → LayerHash → LayerHash → Type 0
IsStripPushed s w x end old new = IsPushedOf (CoversIn s (around w x end) old.layer) (between x (stop_of x end)) old new

-- if the first state has taken the corners up to an abscissa, the second has taken them up to an end, if there is one
pub record IsStep (s : Settled) (from : ℤ) (end : Option ℤ) (old new : LayerHash) : Type 0 where
  pub layer : new.layer ≡ old.layer
  pub step : IsHashedTo s (Some from) old → IsHashedTo s end new

-- the list has those of some Layers on which a square is covered, in their order, each with its digest
pub record AreDigestsOn (covers : Covers) (done : List Layer) (layers : List DigestedLayer) : Type 0 where
  pub rising : AllPairs (λ l m. ComesBefore l.layer m.layer) layers
  pub within : All (λ l. Contains done l.layer) layers
  pub fits : All (λ l. (l.layer.layer < 2 ^ 32) × (l.layer.datatype < 2 ^ 32)) layers
  pub each : All (IsDigested covers) layers
  pub all : (layer : Layer) (s : Square) → Contains done layer → covers layer s → Any (λ l. l.layer ≡ layer) layers
