-- The bands of a sweep, one after another.
use Rattle.std.proofs.Common.{◌≡◌, ◌≢◌, ◌<◌, Bool, true, false, cond, List, [], ◌∷◌, length, ◌≤◌, ◌*◌, ◌+◌, ℤ, ◌<ℤ◌}
use Rattle.std.proofs.Common.{◌≤ℤ◌, Some, IsTrue, refl, sym, ◌∙◌, arith, subst}
use Rattle.std.proofs.lemmas.Int.{ints, by_lt_z}
use Rattle.std.proofs.lemmas.List.Elements.{All-filter}
use Rattle.std.specs.Global.{Vec}
use Rattle.std.specs.Vec.{vec_len, vec_capacity}
use Rattle.lvl_grid.specs.declared.point.Point.{Point}
use Rattle.lvl_sweep.specs.declared.edge.Edge.{Edge}
use Rattle.lvl_sweep.specs.declared.band.Band.{Band}
use Rattle.lvl_sweep.specs.declared.strips.Strips.{Strips}
use Rattle.lvl_sweep.specs.Slab.{Slab}
use Rattle.lvl_sweep.specs.inside.Alive.{alive, AreEdgesOf, HasSame}
use Rattle.lvl_sweep.specs.inside.Rows.{Balanced, alive_at, row_at, bands_from}
use Rattle.lvl_sweep.specs.inside.Strips.{IsAt, IsTop, IsOver, left}
use Rattle.lvl_sweep.specs.Bands.{slab_of, AreBandsOf}
use Rattle.lvl_sweep.specs.inside.Sweeps.{IsHeld, IsRead}
use Rattle.lvl_sweep.proofs.Alive.{inside_is_covered}
use Rattle.lvl_sweep.proofs.Alikes.{as_long, left_alike, row_at_alike}
use Rattle.lvl_sweep.proofs.Insides.{inside_is}
use Rattle.lvl_sweep.proofs.BandLists.{bands_none, bands_skip, bands_first, bands_are, AreSlabsOf}

pub smaller : (es fs : List Edge) (y z t : ℤ) → HasSame es fs → z ≡ t → left es t < left es y → left fs z < left es y
smaller es fs y z t e f h = rw (left_alike es fs z e, f) h

-- after a strip has been read into a list that has room, there is room for those of the next
pub has_room : (es fs : List Edge) (row : Vec (ℤ × ℤ)) → HasSame es fs → length es ≤ 2 * vec_capacity row + 1
    → length fs ≤ 2 * vec_capacity row + 1
has_room es fs row same room = omega (arith, as_long es fs same, room)

-- the list has the intervals of a strip that were taken from it
pub read : (s t : Strips) (old new : Vec (ℤ × ℤ)) → new.items ≡ row_at s.edges.items s.y
    → 2 * vec_len new ≤ length s.edges.items → length s.edges.items ≤ 2 * vec_capacity old + 1
    → vec_capacity new ≡ vec_capacity old → t.edges.items ≡ s.edges.items → t.y ≡ s.y → IsRead t new
read s t old new row few room capacity edges here = record {
  items = rw (edges, here) row;
  few = rw edges few;
  room = rw edges (omega (arith, room, capacity));
}

-- a strip without intervals is passed
pub strip_skipped : (s : Strips) (t : ℤ) (is : List (ℤ × ℤ)) → IsTop s t → is ≡ row_at s.edges.items s.y → is ≡ []
    → bands_from s.edges.items (Some s.y) ≡ bands_from s.edges.items (Some t)
strip_skipped s t is top row empty =
    bands_skip s.edges.items s.y t (omega (arith, ints, top.above)) (λ v le lt. top.same v le lt ∙ (sym row ∙ empty))

-- a strip that has intervals begins a band
pub held_start : (s : Strips) (fs : List Edge) (c : Band) (t z : ℤ) → IsAt s
    → c.intervals.items ≡ row_at s.edges.items s.y → c.intervals.items ≢ [] → IsTop s t → HasSame s.edges.items fs
    → c.y0 ≡ s.y → c.y1 ≡ t → z ≡ t → IsHeld fs c z
held_start s fs c t z at row some top same low high end = record {
  full = omega (arith, ints, low, high, top.above);
  top = high ∙ sym end;
  some = some;
  rows = λ v le lt.
      let from : s.y ≤ℤ v = omega (arith, ints, low, le) in
      let to : v <ℤ t = omega (arith, ints, high, lt) in
      row_at_alike s.edges.items fs v same (at.strips.balanced v) ∙ (top.same v from to ∙ sym row);
}

-- and a strip that has the same intervals lengthens it
pub held_on : (s : Strips) (fs : List Edge) (b c : Band) (t z : ℤ) → IsAt s → IsHeld s.edges.items b s.y
    → row_at s.edges.items s.y ≡ b.intervals.items → IsTop s t → HasSame s.edges.items fs → c.y0 ≡ b.y0 → c.y1 ≡ t
    → c.intervals.items ≡ b.intervals.items → z ≡ t → IsHeld fs c z
held_on s fs b c t z at h row top same low high is end = record {
  full = omega (arith, ints, low, high, top.above, h.full, h.top);
  top = high ∙ sym end;
  some = rw is h.some;
  rows = λ v le lt.
      let from : b.y0 ≤ℤ v = omega (arith, ints, low, le) in
      let to : v <ℤ t = omega (arith, ints, high, lt) in
      row_at_alike s.edges.items fs v same (at.strips.balanced v) ∙ by_lt_z v s.y
      (λ near. let under : v <ℤ b.y1 = omega (arith, ints, near, h.top) in h.rows v from under ∙ sym is)
      (λ far. top.same v far to ∙ (row ∙ sym is));
}

-- no band is to come
pub none_left : (s : Strips) → IsOver s → bands_from s.edges.items (Some s.y) ≡ []
none_left s h = bands_none s.edges.items s.y h

-- the band held is the next
pub held_first : (es : List Edge) (b : Band) (y z : ℤ) → IsHeld es b z → b.y0 ≡ y → row_at es z ≢ b.intervals.items
    → bands_from es (Some y) ≡ slab_of b ∷ bands_from es (Some z)
held_first es b y z h low stops =
    let first : bands_from es (Some b.y0) ≡ slab_of b ∷ bands_from es (Some b.y1) =
    bands_first es b.y0 b.y1 b.intervals.items h.full h.some h.rows (rw h.top stops) in
    subst (λ (v : ℤ). bands_from es (Some v) ≡ slab_of b ∷ bands_from es (Some z)) low
    (subst (λ (v : ℤ). bands_from es (Some b.y0) ≡ slab_of b ∷ bands_from es (Some v)) h.top first)

-- the bands of the edges of rings are the slab list of the rings
bands_of_rings : (rings : List (List Point)) (es : List Edge) (slabs : List Slab) → AreEdgesOf rings es
    → ((y : ℤ) → Balanced (alive_at es y)) → AreSlabsOf es slabs → AreBandsOf rings slabs
bands_of_rings rings es slabs of balanced h = record {
  list = h.list;
  covers = λ s.
      let whole = inside_is_covered rings es (alive_at es s.y) s.y s.x of (λ f. refl)
      (All-filter (alive s.y) (λ e. e.ring < length rings) es of.numbers) (balanced s.y) in
      let turns = inside_is (alive_at es s.y) s.x in
      (λ t. whole.0 (turns.0 (sym (h.covers s) ∙ t)), λ c. h.covers s ∙ turns.1 (whole.1 c));
}

settled_is : (all rest : List Slab) (b : Slab) (r : Bool) → (r ≡ true → all ≡ b ∷ rest) → (r ≡ false → all ≡ [])
    → all ≡ cond r (b ∷ rest) []
settled_is all rest b true f g = f refl
settled_is all rest b false f g = g refl

-- the bands of a new sweep are the slab list
pub settled : (rings : List (List Point)) (s t : Strips) (b : Band) (r : Bool) → IsAt s → AreEdgesOf rings s.edges.items
    → ((v : ℤ) → v <ℤ s.y → row_at s.edges.items v ≡ [])
    → (IsTrue r → bands_from s.edges.items (Some s.y) ≡ slab_of b ∷ bands_from t.edges.items (Some t.y))
    → (r ≡ false → bands_from s.edges.items (Some s.y) ≡ [])
    → AreBandsOf rings (cond r (slab_of b ∷ bands_from t.edges.items (Some t.y)) [])
settled rings s t b r at of lowest next none =
    let whole : AreBandsOf rings (bands_from s.edges.items (Some s.y)) = bands_of_rings rings s.edges.items
    (bands_from s.edges.items (Some s.y)) of at.strips.balanced (bands_are s.edges.items s.y at.strips.balanced
    lowest) in
    let is : bands_from s.edges.items (Some s.y) ≡ cond r (slab_of b ∷ bands_from t.edges.items (Some t.y)) [] =
    settled_is (bands_from s.edges.items (Some s.y)) (bands_from t.edges.items (Some t.y)) (slab_of b) r next
    none in
    subst (λ (l : List Slab). AreBandsOf rings l) is whole
