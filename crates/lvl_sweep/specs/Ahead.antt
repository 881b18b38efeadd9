-- The least square that only one of two lists of bands covers.
use Rattle.std.specs.Prelude.{◌≡◌, Bool, true, false, List, ℤ, ◌≤ℤ◌, int_le, Option, None, Some}
use Rattle.lvl_grid.specs.declared.point.Square.{Square}
pub use Rattle.lvl_grid.specs.Squares.{IsBefore}
use Rattle.lvl_region.specs.declared.region.Side.{Side}
use Rattle.lvl_region.specs.declared.region.Side.TheVariants.{First, Second}
use Rattle.lvl_sweep.specs.Slab.{Slab, slabs_cover}

-- z is at least the bound, if there is one
abbrev pub is_from : Option ℤ → ℤ → Bool
is_from None z = true
is_from (Some a) z = int_le a z

-- only one of two tests is true, that of the side: p is the test of First, q that of Second
abbrev pub IsOn : Bool → Bool → Side → Type 0
IsOn p q First = (p ≡ true) × (q ≡ false)
IsOn p q Second = (p ≡ false) × (q ≡ true)

-- the row is at most the last one, if there is one
abbrev pub IsUpTo : Option ℤ → ℤ → Type 0
IsUpTo None y = Unit {0}
IsUpTo (Some last) y = y ≤ℤ last

-- s is the least square, of those in rows from `from` on, that only one of the two lists covers: that of the side
pub record IsLeastAlone (from : Option ℤ) (us vs : List Slab) (s : Square) (side : Side) : Type 0 where
  pub there : is_from from s.y ≡ true
  pub on : IsOn (slabs_cover us s) (slabs_cover vs s) side
  pub least : (t : Square) → is_from from t.y ≡ true → IsBefore t s → slabs_cover us t ≡ slabs_cover vs t
