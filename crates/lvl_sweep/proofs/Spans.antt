-- A test of the vertical edge between two points agrees with that of the step between them.
use Rattle.std.proofs.Common.{◌≡◌, ℕ, ◌+◌, ◌<◌, List, length, get_or, drop, cond, count_by, Bool, true, false, ◌&&◌}
use Rattle.std.proofs.Common.{eqb, ℤ, ◌<ℤ◌, int_lt, int_le, refl, arith}
use Rattle.std.proofs.lemmas.Int.{ints}
use Rattle.lvl_grid.specs.declared.point.Point.{Point}
use Rattle.lvl_grid.specs.declared.point.Square.{Square}
use Rattle.lvl_grid.specs.Winding.{goes_up, goes_down, path_edges}
use Rattle.lvl_grid.proofs.Paths.{path_at}
use Rattle.lvl_sweep.proofs.Winds.{bit, count_cons}
use Rattle.lvl_sweep.specs.declared.edge.Edge.{Edge}
use Rattle.lvl_sweep.specs.inside.Alive.{rises, falls}

same_way : (a b c d : Bool) → ((a && b) && (c && (d && true))) ≡ (d && (c && (a && b)))
same_way a b c d = grind arith

no_way : (a c d t : Bool) → t ≡ false → (a && (c && (d && false))) ≡ (d && (c && t))
no_way a c d t e = grind (arith, e)

by_case : (p q : Bool) → (p ≡ true → q ≡ true → true ≡ false) → (p && q) ≡ false
by_case true true h = h refl refl
by_case true false h = refl
by_case false q h = refl

apart : (a b y : ℤ) → a <ℤ b → (int_le b y && int_lt y a) ≡ false
apart a b y h = by_case (int_le b y) (int_lt y a) (λ k l. grind (arith, ints))

pub up_rises : (from to : Point) (ring r : ℕ) (s : Square)
    → rises r s (record { low = from.y; x = from.x; ring = ring; high = to.y; up = true }) ≡ (eqb ring r && goes_up s
    (from, to))
up_rises from to ring r s = same_way (int_le from.y s.y) (int_lt s.y to.y) (int_lt s.x from.x) (eqb ring r)

pub up_falls : (from to : Point) (ring r : ℕ) (s : Square) → from.y <ℤ to.y
    → falls r s (record { low = from.y; x = from.x; ring = ring; high = to.y; up = true }) ≡ (eqb ring r && goes_down s
    (from, to))
up_falls from to ring r s h =
    no_way (int_le from.y s.y && int_lt s.y to.y) (int_lt s.x from.x) (eqb ring r)
    (int_le to.y s.y && int_lt s.y from.y) (apart from.y to.y s.y h)

pub down_rises : (from to : Point) (ring r : ℕ) (s : Square) → to.y <ℤ from.y
    → rises r s (record { low = to.y; x = from.x; ring = ring; high = from.y; up = false }) ≡ (eqb ring r && goes_up s
    (from, to))
down_rises from to ring r s h =
    no_way (int_le to.y s.y && int_lt s.y from.y) (int_lt s.x from.x) (eqb ring r)
    (int_le from.y s.y && int_lt s.y to.y) (apart to.y from.y s.y h)

pub down_falls : (from to : Point) (ring r : ℕ) (s : Square)
    → falls r s (record { low = to.y; x = from.x; ring = ring; high = from.y; up = false }) ≡ (eqb ring r && goes_down s
    (from, to))
down_falls from to ring r s = same_way (int_le to.y s.y) (int_lt s.y from.y) (int_lt s.x from.x) (eqb ring r)

pub edge_step : (old new rest total : ℕ) (t g : Bool) → new ≡ old + cond (t && g) 1 0
    → old + cond t (bit g + rest) 0 ≡ total → new + cond t rest 0 ≡ total
edge_step old new rest total true g h k = let same : cond (true && g) 1 0 ≡ bit g = refl in omega (arith, h, k, same)
edge_step old new rest total false g h k = omega (arith, h, k)

-- one more edge of the ring
pub edges_step : (p : Edge → Bool) (q : Point × Point → Bool) (as' bs : List Edge) (first : Point) (points : List Point)
    (i : ℕ) (d : Point) (t : Bool) (total : ℕ)
    → i < length points → count_by p bs ≡ count_by p as' + cond (t && q (first, get_or points i d)) 1 0
    → count_by p as' + cond t (count_by q (path_edges first (drop i points))) 0 ≡ total
    → count_by p bs + cond t (count_by q (path_edges (get_or points i d) (drop (i + 1) points))) 0 ≡ total
edges_step p q as' bs first points i d t total lt more h =
    let split : count_by q (path_edges first (drop i points)) ≡ bit (q (first, get_or points i d)) + count_by q
    (path_edges (get_or points i d) (drop (i + 1) points)) = rw (path_at first points i d lt)
    (count_cons q (first, get_or points i d) (path_edges (get_or points i d) (drop (i + 1) points))) in
    edge_step (count_by p as') (count_by p bs) (count_by q (path_edges (get_or points i d) (drop (i + 1) points))) total
    t (q (first, get_or points i d)) more (rw split at h)

pub nothing_left : (n m : ℕ) (t : Bool) → n + cond t 0 0 ≡ m → n ≡ m
nothing_left n m true h = omega (arith, h)
nothing_left n m false h = omega (arith, h)
