-- The ring of a band covers exactly the squares of the band.
use Rattle.std.proofs.Common.{◌≡◌, ◌≤ℤ◌, ◌<ℤ◌, not, ℕ, ℤ, Bool, true, false, cond, List, refl, arith, ◌↔◌, int_lt}
use Rattle.std.proofs.Common.{int_le, Any, if◌then◌else◌, ◌==◌, ◌+◌, length}
use Rattle.std.proofs.lemmas.Int.{ints}
use Rattle.lvl_grid.specs.declared.point.Point.{Point}
use Rattle.lvl_grid.specs.declared.point.Square.{Square}
use Rattle.lvl_grid.specs.Winding.{Covers}
use Rattle.lvl_path.specs.declared.band.Band.{Band}
use Rattle.lvl_path.specs.declared.band.Reach.{Reach}
use Rattle.lvl_path.specs.declared.way.Way.{Way}
use Rattle.lvl_path.specs.declared.way.Way.TheVariants.{East, North, West, South}
use Rattle.lvl_path.specs.Bands.{band_towards, band_between, band_ring, Holds}
use Rattle.lvl_path.specs.Runs.{point, run_band, runs, path_rings, PathCovers}
use Rattle.lvl_grid.proofs.Anyone.{Any-map, Any-same}
use Rattle.lvl_grid.proofs.Turning.{lt_is_not_le, le_is_not_lt}

lt_says : (a b : ℤ) → a <ℤ b → int_lt a b ≡ true
lt_says a b h = grind (arith, ints)

le_says : (a b : ℤ) → a ≤ℤ b → int_le a b ≡ true
le_says a b h = grind (arith, ints)

said_lt : (a b : ℤ) → int_lt a b ≡ true → a <ℤ b
said_lt a b h = grind (arith, ints)

said_not_lt : (a b : ℤ) → int_lt a b ≡ false → b ≤ℤ a
said_not_lt a b h = grind (arith, ints)

said_le : (a b : ℤ) → int_le a b ≡ true → a ≤ℤ b
said_le a b h = grind (arith, ints)

-- what the comparisons of a square with the sides of a band say
record Tested (b : Band) (s : Square) (right left above below : Bool) : Type 0 where
  right_is : int_lt s.x b.x1 ≡ right
  left_is : int_lt s.x b.x0 ≡ left
  above_is : int_le b.y0 s.y ≡ above
  below_is : int_lt s.y b.y1 ≡ below
  under_is : int_lt s.y b.y0 ≡ not above
  over_is : int_le b.y1 s.y ≡ not below

tested : (b : Band) (s : Square) → Tested b s (int_lt s.x b.x1) (int_lt s.x b.x0) (int_le b.y0 s.y) (int_lt s.y b.y1)
tested b s =
    record {
      right_is = refl;
      left_is = refl;
      above_is = refl;
      below_is = refl;
      under_is = lt_is_not_le s.y b.y0;
      over_is = le_is_not_lt b.y1 s.y;
    }

by_tests : (b : Band) (s : Square) → b.x0 ≤ℤ b.x1 → b.y0 ≤ℤ b.y1 → (right left above below : Bool)
    → Tested b s right left above below → Covers (band_ring b) s ↔ Holds b s
by_tests b s wide high true false true true t =
    simp (t.right_is, t.left_is, t.above_is, t.below_is, t.under_is, t.over_is) (
      λ h. record {
        right_of = said_not_lt _ _ t.left_is;
        left_of = said_lt _ _ t.right_is;
        above =
            said_le _ _ t.above_is;
        below = said_lt _ _ t.below_is;
      },
      λ k e. cc,
    )
by_tests b s wide high true true true true t =
    simp (t.right_is, t.left_is, t.above_is, t.below_is, t.under_is, t.over_is)
    (λ h. absurd (h refl), λ k. absurd (cc (le_says _ _ k.right_of, le_is_not_lt b.x0 s.x, t.left_is)))
by_tests b s wide high true true true false t =
    simp (t.right_is, t.left_is, t.above_is, t.below_is, t.under_is, t.over_is)
    (λ h. absurd (h refl), λ k. absurd (cc (le_says _ _ k.right_of, le_is_not_lt b.x0 s.x, t.left_is)))
by_tests b s wide high true true false true t =
    simp (t.right_is, t.left_is, t.above_is, t.below_is, t.under_is, t.over_is)
    (λ h. absurd (h refl), λ k. absurd (cc (le_says _ _ k.right_of, le_is_not_lt b.x0 s.x, t.left_is)))
by_tests b s wide high true true false false t = absurd (grind (arith, ints, t.above_is, t.below_is))
by_tests b s wide high true false true false t =
    simp (t.right_is, t.left_is, t.above_is, t.below_is, t.under_is, t.over_is)
    (λ h. absurd (h refl), λ k. absurd (cc (lt_says _ _ k.below, t.below_is)))
by_tests b s wide high true false false true t =
    simp (t.right_is, t.left_is, t.above_is, t.below_is, t.under_is, t.over_is)
    (λ h. absurd (h refl), λ k. absurd (cc (le_says _ _ k.above, t.above_is)))
by_tests b s wide high true false false false t = absurd (grind (arith, ints, t.above_is, t.below_is))
by_tests b s wide high false true true true t = absurd (grind (arith, ints, t.left_is, t.right_is))
by_tests b s wide high false true true false t = absurd (grind (arith, ints, t.left_is, t.right_is))
by_tests b s wide high false true false true t = absurd (grind (arith, ints, t.left_is, t.right_is))
by_tests b s wide high false true false false t = absurd (grind (arith, ints, t.left_is, t.right_is))
by_tests b s wide high false false true true t =
    simp (t.right_is, t.left_is, t.above_is, t.below_is, t.under_is, t.over_is)
    (λ h. absurd (h refl), λ k. absurd (cc (lt_says _ _ k.left_of, t.right_is)))
by_tests b s wide high false false true false t =
    simp (t.right_is, t.left_is, t.above_is, t.below_is, t.under_is, t.over_is)
    (λ h. absurd (h refl), λ k. absurd (cc (lt_says _ _ k.left_of, t.right_is)))
by_tests b s wide high false false false true t =
    simp (t.right_is, t.left_is, t.above_is, t.below_is, t.under_is, t.over_is)
    (λ h. absurd (h refl), λ k. absurd (cc (lt_says _ _ k.left_of, t.right_is)))
by_tests b s wide high false false false false t = absurd (grind (arith, ints, t.above_is, t.below_is))

-- the ring covers exactly the squares of the band
pub ring_covers : (b : Band) → b.x0 ≤ℤ b.x1 → b.y0 ≤ℤ b.y1 → (s : Square) → Covers (band_ring b) s ↔ Holds b s
ring_covers b wide high s =
    by_tests b s wide high (int_lt s.x b.x1) (int_lt s.x b.x0) (int_le b.y0 s.y) (int_lt s.y b.y1) (tested b s)

-- the left side of a band isn't right of its right side, nor its lower side above its upper side
abbrev IsUpright : Band → Type 0
IsUpright b = (b.x0 ≤ℤ b.x1) × (b.y0 ≤ℤ b.y1)

is_upright : (p q : Point) (half before after : ℕ) → IsUpright (band_between p q half before after)
is_upright p q half before after =
    let Says : Way → Type 0 = λ w. IsUpright (band_towards w p q half before after) in
    elim (int_lt p.x q.x) as (λ t. int_lt p.x q.x ≡ t
    → Says (cond t East (cond (int_lt q.x p.x) West (cond (int_lt p.y q.y) North South)))) [
      | true ↦ λ e. let lt = said_lt p.x q.x e in (omega (arith, ints), omega (arith, ints))
      | false ↦ λ e.
          elim (int_lt q.x p.x) as (λ t. int_lt q.x p.x ≡ t → Says (cond t West (cond (int_lt p.y q.y) North South))) [
            | true ↦ λ f. let lt = said_lt q.x p.x f in (omega (arith, ints), omega (arith, ints))
            | false ↦ λ f.
                elim (int_lt p.y q.y) as (λ t. int_lt p.y q.y ≡ t → Says (cond t North South)) [
                  | true ↦ λ g. let lt = said_lt p.y q.y g in (omega (arith, ints), omega (arith, ints))
                  | false ↦ λ g. let le = said_not_lt p.y q.y g in (omega (arith, ints), omega (arith, ints))
                ] refl
          ] refl
    ] refl

-- the rings of a path cover what the path covers
pub rings_cover : (ps : List Point) (w : Reach) (s : Square) → Any (λ ring. Covers ring s) (path_rings ps w)
    ↔ PathCovers ps w s
rings_cover ps w s =
    let each : (run : ℕ × ℕ) → Covers (band_ring (run_band ps w run)) s ↔ Holds (run_band ps w run) s = λ run.
    let up = is_upright (point ps run.0) (point ps run.1) w.half (if run.0 == 0 then w.start else w.half)
    (if run.1 + 1 == length ps then w.end else w.half) in
    ring_covers (run_band ps w run) up.0 up.1 s in
    let map = Any-map (λ ring. Covers ring s) (λ run. band_ring (run_band ps w run)) (runs ps) in
    let same = Any-same (λ run. Covers (band_ring (run_band ps w run)) s) (λ run. Holds (run_band ps w run) s) (runs ps)
    each in
    (λ a. same.0 (map.0 a), λ a. map.1 (same.1 a))
