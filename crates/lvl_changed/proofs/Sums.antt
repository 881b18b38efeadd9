-- Sums of shifts.
use Rattle.std.proofs.Common.{◌≡◌, ◌<◌, ℕ, pos, List, Contains, refl, sym, ap, ◌∙◌, subst, arith}
use Rattle.std.proofs.Common.{Bool, true, false, get_or}
use Rattle.std.proofs.lemmas.Int.{ints}
use Rattle.lvl_grid.specs.declared.point.Point.{Point}
use Rattle.lvl_grid.specs.declared.map.Map.{Map}
use Rattle.lvl_grid.specs.declared.map.Turn.{Turn}
use Rattle.lvl_grid.specs.declared.map.Turn.TheVariants.{R0, R90, R180, R270}
use Rattle.lvl_grid.specs.Turn.{turned, reflected, shifted, image}
use Rattle.lvl_grid.proofs.Composing.{same_point, turned_shifted, reflected_shifted, shifted_twice}
use Rattle.lvl_names.specs.Shifts.{steps, lattice, one_place}
use Rattle.lvl_changed.specs.inside.Shifts.{AreSums, turned_by}
use Rattle.lvl_changed.proofs.Grid.{lattice_has, swapped, turned_steps, reflected_steps, zero_times}

map_moved : (m : Map) (e p : Point)
    → image (record { flip = m.flip; turn = m.turn; at = shifted m.at e }) p ≡ shifted e (image m p)
map_moved m e p = same_point _ _ (omega (arith, ints)) (omega (arith, ints))

image_moved : (m : Map) (d p : Point) → image m (shifted d p) ≡ shifted (turned_by m d) (image m p)
image_moved m d p =
    rw (reflected_shifted m.flip d p, turned_shifted m.turn (reflected m.flip d) (reflected m.flip p))
    (same_point _ _ (omega (arith, ints)) (omega (arith, ints)))

-- a composed map, moved by a sum
pub composed_at : (by inner whole : Map) → ((p : Point) → image whole p ≡ image by (image inner p)) → (f g p : Point)
    → image (record { flip = whole.flip; turn = whole.turn; at = shifted whole.at (shifted f (turned_by by g)) }) p
    ≡ image (record { flip = by.flip; turn = by.turn; at = shifted by.at f })
    (image (record { flip = inner.flip; turn = inner.turn; at = shifted inner.at g }) p)
composed_at by inner whole each f g p =
    let sum : Point = shifted f (turned_by by g) in
    let left = map_moved whole sum p ∙ ap (shifted sum) (each p) in
    let right =
    map_moved by f (image (record { flip = inner.flip; turn = inner.turn; at = shifted inner.at g }) p)
    ∙ (ap (λ q. shifted f (image by q)) (map_moved inner g p)
    ∙ ap (shifted f) (image_moved by g (image inner p))) in
    left ∙ (sym (shifted_twice f (turned_by by g) (image by (image inner p))) ∙ sym right)

-- the origin
abbrev pub zero_point : Point
zero_point = record { x = pos 0; y = pos 0 }

turned_zero : (f : Bool) (t : Turn) → turned t (reflected f zero_point) ≡ zero_point
turned_zero true R0 = refl
turned_zero false R0 = refl
turned_zero true R90 = refl
turned_zero false R90 = refl
turned_zero true R180 = refl
turned_zero false R180 = refl
turned_zero true R270 = refl
turned_zero false R270 = refl

zero_there : Contains one_place zero_point
zero_there = (0, omega arith, refl)

zero_only : (e : Point) → Contains one_place e → e ≡ zero_point
zero_only e c = let at : c.0 ≡ 0 = omega (arith, c.1) in sym (subst (λ i. get_or one_place i e ≡ e) at c.2)

moved_none : (f d : Point) → d ≡ zero_point → shifted f d ≡ f
moved_none f d e = ap (shifted f) e ∙ same_point _ _ (omega (arith, ints)) (omega (arith, ints))

-- where the second list is the zero shift alone
pub sums_outer : (m : Map) (outer inner : List Point) → inner ≡ one_place → AreSums m outer inner outer
sums_outer m outer inner one = record {
  each = λ f g cf cg.
      let zero : turned_by m g ≡ zero_point =
      ap (turned_by m) (zero_only g (subst (λ xs. Contains xs g) one cg)) ∙ turned_zero m.flip m.turn in
      subst (Contains outer) (sym (moved_none f (turned_by m g) zero)) cf;
  only = λ e c. (
    e,
    zero_point,
    c,
    subst (λ xs. Contains xs zero_point) (sym one) zero_there,
    sym (moved_none e (turned_by m zero_point) (turned_zero m.flip m.turn)),
  );
}

-- a lattice as the map turns it
turned_grid : (m : Map) (a : Point) (i : ℕ) (b : Point) (j : ℕ)
    → turned_by m (steps a i b j) ≡ steps (turned_by m a) i (turned_by m b) j
turned_grid m a i b j =
    ap (turned m.turn) (reflected_steps m.flip a i b j)
    ∙ turned_steps m.turn (reflected m.flip a) i (reflected m.flip b) j

shifted_zero : (d : Point) → shifted zero_point d ≡ d
shifted_zero d = same_point _ _ (omega (arith, ints)) (omega (arith, ints))

-- where the first list is the zero shift alone
pub sums_inner : (m : Map) (outer inner : List Point) (a : Point) (k : ℕ) (b : Point) (n : ℕ) → 0 < k
    → outer ≡ one_place → inner ≡ lattice a k b n
    → AreSums m outer inner (lattice (turned_by m a) k (turned_by m b) n)
sums_inner m outer inner a k b n some one is = record {
  each = λ f g cf cg.
      let on = (lattice_has a k b n g some).0 (subst (λ xs. Contains xs g) is cg) in
      let sum : shifted f (turned_by m g) ≡ steps (turned_by m a) on.0 (turned_by m b) on.1 =
      ap (λ q. shifted q (turned_by m g)) (zero_only f (subst (λ xs. Contains xs f) one cf))
      ∙ (shifted_zero (turned_by m g)
      ∙ (ap (turned_by m) (sym on.4) ∙ turned_grid m a on.0 b on.1)) in
      (lattice_has (turned_by m a) k (turned_by m b) n (shifted f (turned_by m g)) some).1
      (on.0, on.1, on.2, on.3, sym sum);
  only = λ e c.
      let on = (lattice_has (turned_by m a) k (turned_by m b) n e some).0 c in
      let g : Point = steps a on.0 b on.1 in (
        zero_point,
        g,
        subst (λ xs. Contains xs zero_point) (sym one) zero_there,
        subst (λ xs. Contains xs g) (sym is) ((lattice_has a k b n g some).1 (on.0, on.1, on.2, on.3, refl)),
        sym on.4 ∙ (sym (turned_grid m a on.0 b on.1) ∙ sym (shifted_zero (turned_by m g))),
      );
}

sum_of_lines : (m : Map) (a : Point) (i : ℕ) (b : Point) (c : Point) (k : ℕ) (d : Point)
    → shifted (steps a i b 0) (turned_by m (steps c k d 0)) ≡ steps a i (turned_by m c) k
sum_of_lines m a i b c k d =
    ap (shifted (steps a i b 0)) (turned_grid m c k d 0)
    ∙ same_point _ _
    (omega (arith, ints, zero_times b.x, zero_times (turned_by m d).x))
    (omega (arith, ints, zero_times b.y, zero_times (turned_by m d).y))

-- two lines make a lattice
pub sums_lines : (m : Map) (outer inner : List Point) (a : Point) (p : ℕ) (b c : Point) (q : ℕ) (d : Point) → 0 < p
    → 0 < q → outer ≡ lattice a p b 1 → inner ≡ lattice c q d 1
    → AreSums m outer inner (lattice a p (turned_by m c) q)
sums_lines m outer inner a p b c q d some more one is = record {
  each = λ f g cf cg.
      let on = (lattice_has a p b 1 f some).0 (subst (λ xs. Contains xs f) one cf) in
      let in' = (lattice_has c q d 1 g more).0 (subst (λ xs. Contains xs g) is cg) in
      let first : f ≡ steps a on.0 b 0 =
      sym (subst (λ j. steps a on.0 b j ≡ f) (let z : on.1 ≡ 0 = omega (arith, on.3) in z) on.4) in
      let second : g ≡ steps c in'.0 d 0 =
      sym (subst (λ j. steps c in'.0 d j ≡ g) (let z : in'.1 ≡ 0 = omega (arith, in'.3) in z) in'.4) in
      let sum : shifted f (turned_by m g) ≡ steps a on.0 (turned_by m c) in'.0 =
      ap (λ x. shifted x (turned_by m g)) first
      ∙ (ap (λ y. shifted (steps a on.0 b 0) (turned_by m y)) second ∙ sum_of_lines m a on.0 b c in'.0 d) in
      (lattice_has a p (turned_by m c) q (shifted f (turned_by m g)) some).1 (on.0, in'.0, on.2, in'.2, sym sum);
  only = λ e h.
      let on = (lattice_has a p (turned_by m c) q e some).0 h in
      let f : Point = steps a on.0 b 0 in
      let g : Point = steps c on.1 d 0 in (
        f,
        g,
        subst (λ xs. Contains xs f) (sym one)
            ((lattice_has a p b 1 f some).1 (on.0, 0, on.2, omega arith, refl)),
        subst (λ xs. Contains xs g) (sym is)
            ((lattice_has c q d 1 g more).1 (on.1, 0, on.3, omega arith, refl)),
        sym on.4 ∙ sym (sum_of_lines m a on.0 b c on.1 d),
      );
}

-- the steps of a lattice may be exchanged
pub sums_swapped : (m : Map) (outer inner : List Point) (a : Point) (p : ℕ) (c : Point) (q : ℕ) → 0 < p → 0 < q
    → AreSums m outer inner (lattice a p c q) → AreSums m outer inner (lattice c q a p)
sums_swapped m outer inner a p c q some more s = record {
  each = λ f g cf cg.
      let e : Point = shifted f (turned_by m g) in
      (lattice_has c q a p e more).1 (swapped a p c q e ((lattice_has a p c q e some).0 (s.each f g cf cg)));
  only = λ e h.
      s.only e ((lattice_has a p c q e some).1 (swapped c q a p e ((lattice_has c q a p e more).0 h)));
}
