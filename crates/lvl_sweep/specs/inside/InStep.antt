-- What the first bands of two lists say about where the lists differ.
use Rattle.std.specs.Prelude.{◌≡◌, ◌≢◌, true, List, [], ◌∷◌, ℤ, ◌<ℤ◌, ◌≤ℤ◌, int_le, int_lt, Option, None, Some, cond}
use Rattle.std.specs.Prelude.{◌⊎◌, pos}
use Rattle.std.specs.List.{list_any}
use Rattle.lvl_grid.specs.declared.point.Square.{Square}
use Rattle.lvl_region.specs.declared.region.Side.{Side}
use Rattle.lvl_region.specs.declared.region.Side.TheVariants.{First, Second}
use Rattle.lvl_sweep.specs.declared.rows.Ahead.{Ahead}
use Rattle.lvl_sweep.specs.declared.rows.Ahead.TheVariants.{Differ, Alike, Nothing}
use Rattle.lvl_sweep.specs.Slab.{Slab, spans, AreIntervals, slabs_cover}
use Rattle.lvl_sweep.specs.Ahead.{is_from, IsOn, IsLeastAlone}

-- x is the least abscissa that only one of two rows of intervals has, that of the side
pub record IsLeastIn (is js : List (ℤ × ℤ)) (x : ℤ) (side : Side) : Type 0 where
  pub on : IsOn (list_any (spans x) is) (list_any (spans x) js) side
  pub least : (z : ℤ) → z <ℤ x → list_any (spans z) is ≡ list_any (spans z) js

-- the band is valid, and ends above the row `from`, if there is one
pub record IsMet (from : Option ℤ) (b : Slab) : Type 0 where
  pub full : b.from <ℤ b.to
  pub some : b.value ≢ []
  pub row : AreIntervals b.value
  pub above : is_from from b.to ≡ true
  pub past : from ≢ Some b.to

-- P holds of the first band, or `none` holds if there is none
abbrev pub FirstIs : (Slab → Type 0) → Type 0 → List Slab → Type 0
FirstIs P none [] = none
FirstIs P none (b ∷ bs) = P b

-- the lists cover the same squares in the rows from `from` up to y, and y is the lower of the ends of their first bands
pub record IsAlike (from : Option ℤ) (us vs : List Slab) (y : ℤ) : Type 0 where
  pub there : is_from from y ≡ true
  pub ours : FirstIs (λ b. y ≤ℤ b.to) (Unit {0}) us
  pub theirs : FirstIs (λ b. y ≤ℤ b.to) (Unit {0}) vs
  pub ends : FirstIs (λ b. b.to ≡ y) ⊥ us ⊎ FirstIs (λ b. b.to ≡ y) ⊥ vs
  pub same : (t : Square) → is_from from t.y ≡ true → t.y <ℤ y → slabs_cover us t ≡ slabs_cover vs t

-- the answer is right for the rows from `from` on, given all bands of both sides
abbrev pub IsReported : Option ℤ → List Slab → List Slab → Ahead → Type 0
IsReported from us vs (Differ s side) = IsLeastAlone from us vs s side
IsReported from us vs (Alike y) = IsAlike from us vs y
IsReported from us vs Nothing = (us ≡ []) × (vs ≡ [])

-- the answer is right for two bands alone, and if it is a square, both bands end above it
abbrev pub IsReportedByTwo : Option ℤ → Slab → Slab → Ahead → Type 0
IsReportedByTwo from b d (Differ s side) = (s.y <ℤ b.to) × (s.y <ℤ d.to) × IsLeastAlone from (b ∷ []) (d ∷ []) s side
IsReportedByTwo from b d (Alike y) = IsAlike from (b ∷ []) (d ∷ []) y
IsReportedByTwo from b d Nothing = ⊥

-- the list without its first band, if that ends by row y
abbrev pub ended_by : ℤ → List Slab → List Slab
ended_by y [] = []
ended_by y (b ∷ bs) = cond (int_le b.to y) bs (b ∷ bs)

-- the higher of two ordinates, the second of which may be missing
abbrev pub higher_of : ℤ → Option ℤ → ℤ
higher_of a None = a
higher_of a (Some b) = cond (int_lt a b) b a

-- the abscissa at which the first interval begins, or 0 if there is none
abbrev pub left_end : List (ℤ × ℤ) → ℤ
left_end [] = pos 0
left_end (i ∷ is) = i.0

-- the least abscissa that only one of two different intervals has, with its side
abbrev pub end_difference : ℤ × ℤ → ℤ × ℤ → ℤ × Side
end_difference a b =
    cond (int_lt a.0 b.0) (a.0, First)
    (cond (int_lt b.0 a.0) (b.0, Second) (cond (int_lt a.1 b.1) (a.1, Second) (b.1, First)))
