-- The edges alive in a row say what some ring covers.
use Rattle.std.proofs.Common.{◌≡◌, ◌≢◌, ℕ, ◌+◌, ◌<◌, Bool, true, false, ◌&&◌, not, cond, eqb, List, [], ◌∷◌, length}
use Rattle.std.proofs.Common.{get_or, ℤ, pos, ◌-ℤ◌, int_lt, int_le, All, count_by, ◌↔◌, refl, sym, ◌∙◌, arith, inl, inr}
use Rattle.std.specs.List.{sum_by, filter}
use Rattle.std.proofs.lemmas.Int.{ints}
use Rattle.std.proofs.lemmas.Bool.{cases_lt}
use Rattle.std.proofs.lemmas.List.{get_or_default}
use Rattle.std.proofs.lemmas.List.Elements.{All-weaker, All-head, All-tail}
use Rattle.std.proofs.lemmas.List.Sums.{sum_by-cons}
use Rattle.lvl_grid.specs.declared.point.Point.{Point}
use Rattle.lvl_grid.specs.declared.point.Square.{Square}
use Rattle.lvl_grid.specs.Winding.{winding, edges, goes_up, goes_down}
use Rattle.lvl_region.specs.Region.{SomeCovers}
use Rattle.lvl_sweep.specs.declared.edge.Edge.{Edge}
use Rattle.lvl_sweep.specs.inside.Edges.{net, net_left, IsInside}
use Rattle.lvl_sweep.specs.inside.Alive.{alive, HasSame, AreEdgesOf}
use Rattle.lvl_sweep.proofs.Winds.{bit, count_cons, count_none, other}
use Rattle.lvl_grid.proofs.Sides.{level_off}

sum_filter_by : {A : Type 0} (f : A → ℕ) (x : A) (t : Bool) (xs ys : List A) (n : ℕ) → ys ≡ cond t (x ∷ xs) xs
    → sum_by f xs ≡ n → sum_by f ys ≡ cond t (f x) 0 + n
sum_filter_by f x true xs ys n e h = rw e (omega (arith, sum_by-cons f x xs, h))
sum_filter_by f x false xs ys n e h = rw e (omega (arith, h))

pub sum_filter : {A : Type 0} (p : A → Bool) (f : A → ℕ) (xs : List A)
    → sum_by f (filter p xs) ≡ sum_by (λ x. cond (p x) (f x) 0) xs
sum_filter p f [] = refl
sum_filter p f (x ∷ xs) =
    sum_filter_by f x (p x) (filter p xs) (filter p (x ∷ xs)) (sum_by (λ x. cond (p x) (f x) 0) xs) refl
    (sum_filter p f xs) ∙ sym (sum_by-cons (λ x. cond (p x) (f x) 0) x xs)

pub sum_same : {A : Type 0} (f g : A → ℕ) (xs : List A) → All (λ x. f x ≡ g x) xs → sum_by f xs ≡ sum_by g xs
sum_same f g [] h = refl
sum_same f g (x ∷ xs) h =
    omega (
      arith,
      sum_by-cons f x xs,
      sum_by-cons g x xs,
      All-head (λ x. f x ≡ g x) x xs h,
      sum_same f g xs (All-tail (λ x. f x ≡ g x) x xs h),
    )

split_counts : {A : Type 0} (p q t : A → Bool) (xs : List A)
    → ((x : A) → cond (p x) 1 0 + cond (q x) 1 0 ≡ cond (t x) 1 0) → count_by p xs + count_by q xs ≡ count_by t xs
split_counts p q t [] h = refl
split_counts p q t (x ∷ xs) h =
    omega (arith, count_cons p x xs, count_cons q x xs, count_cons t x xs, h x, split_counts p q t xs h)

both : (a b : Bool) → cond a (bit b) 0 ≡ bit (a && b)
both true b = refl
both false b = refl

every : {A : Type 0} (P : A → Type 0) (xs : List A) → ((x : A) → P x) → All P xs
every P xs h k d lt = h (get_or xs k d)

-- a count over the edges alive is one over all edges, of those that cross the row
pub alive_count : (p : Edge → Bool) (y : ℤ) (es active : List Edge) → HasSame (filter (alive y) es) active
    → count_by p active ≡ count_by (λ e. alive y e && p e) es
alive_count p y es active h =
    let f : Edge → ℕ = λ e. cond (p e) 1 0 in
    h f ∙ (sum_filter (alive y) f es ∙ sum_same (λ e. cond (alive y e) (f e) 0) (λ e. cond (alive y e && p e) 1 0) es
    (every (λ e. cond (alive y e) (f e) 0 ≡ bit (alive y e && p e)) es (λ e. both (alive y e) (p e))))

side_by : (a b t : Bool) → b ≡ not a → bit (a && t) + bit (b && t) ≡ bit t
side_by true b t e = rw e (omega arith)
side_by false b t e = rw e (omega arith)

not_left : (z x : ℤ) → int_lt z x ≡ not (int_le x z)
not_left z x = grind (arith, ints)

-- left of z or right of it
sides : (t : Edge → Bool) (z : ℤ) (es : List Edge)
    → count_by (λ e. int_le e.x z && t e) es + count_by (λ e. int_lt z e.x && t e) es ≡ count_by t es
sides t z es =
    split_counts (λ e. int_le e.x z && t e) (λ e. int_lt z e.x && t e) t es
    (λ e. side_by (int_le e.x z) (int_lt z e.x) (t e) (not_left z e.x))

flat : (a b : ℕ) → pos a -ℤ pos b ≡ pos 0 → a ≡ b
flat a b h = omega (arith, ints)

-- in a balanced row the edges left of z balance exactly if those right of it do
pub left_or_right : (r : ℕ) (z : ℤ) (es : List Edge) → net r es ≡ pos 0
    → net_left r z es ≡ pos 0 ↔ (pos (count_by (λ e. int_lt z e.x && (eqb e.ring r && e.up)) es) -ℤ pos
    (count_by (λ e. int_lt z e.x && (eqb e.ring r && not e.up)) es) ≡ pos 0)
left_or_right r z es balanced =
    let ups = sides (λ e. eqb e.ring r && e.up) z es in
    let downs = sides (λ e. eqb e.ring r && not e.up) z es in
    let whole : count_by (λ e. eqb e.ring r && e.up) es ≡ count_by (λ e. eqb e.ring r && not e.up) es =
    flat _ _ balanced in (
      λ h.
          let l : count_by (λ e. int_le e.x z && (eqb e.ring r && e.up)) es ≡ count_by
          (λ e. int_le e.x z && (eqb e.ring r && not e.up)) es = flat _ _ h in
          let m : count_by (λ e. int_lt z e.x && (eqb e.ring r && e.up)) es ≡ count_by
          (λ e. int_lt z e.x && (eqb e.ring r && not e.up)) es = omega (arith, ups, downs, whole, l) in
          level_off _ _ m,
      λ h.
          let l : count_by (λ e. int_lt z e.x && (eqb e.ring r && e.up)) es ≡ count_by
          (λ e. int_lt z e.x && (eqb e.ring r && not e.up)) es = flat _ _ h in
          let m : count_by (λ e. int_le e.x z && (eqb e.ring r && e.up)) es ≡ count_by
          (λ e. int_le e.x z && (eqb e.ring r && not e.up)) es = omega (arith, ups, downs, whole, l) in
          level_off _ _ m,
    )

-- so the counts from the left are 0 exactly if the winding, counted from the right, is
pub turns_where_winds : (rings : List (List Point)) (es active : List Edge) (y z : ℤ) (r : ℕ) → AreEdgesOf rings es
    → HasSame (filter (alive y) es) active → net r active ≡ pos 0 → r < length rings
    → net_left r z active ≡ pos 0 ↔ (winding (get_or rings r []) (record { x = z; y = y }) ≡ pos 0)
turns_where_winds rings es active y z r of same balanced lt =
    let s : Square = record { x = z; y = y } in
    let up : count_by (goes_up s) (edges (get_or rings r [])) ≡ count_by (λ e. int_lt z e.x && (eqb e.ring r && e.up))
    active = of.rising r s lt ∙ sym (alive_count (λ e. int_lt z e.x && (eqb e.ring r && e.up)) y es active same) in
    let down : count_by (goes_down s) (edges (get_or rings r [])) ≡ count_by
    (λ e. int_lt z e.x && (eqb e.ring r && not e.up)) active =
    of.falling r s lt ∙ sym (alive_count (λ e. int_lt z e.x && (eqb e.ring r && not e.up)) y es active same) in
    rw (up, down) (left_or_right r z active balanced)

pub off : (a b c : Bool) → b ≡ false → (a && (b && c)) ≡ false
off true b c e = rw e refl
off false b c e = refl

no_edge : (r n : ℕ) (z : ℤ) (es : List Edge) → All (λ e. e.ring < n) es → net_left r z es ≢ pos 0 → r < n
no_edge r n z es h k =
    elim (cases_lt r n) [
      | inl lt ↦ lt
      | inr ge ↦
          absurd (k (level_off _ _ (count_none (λ e. int_le e.x z && (eqb e.ring r && e.up)) es
          (All-weaker (λ e. e.ring < n) (λ e. (int_le e.x z && (eqb e.ring r && e.up)) ≡ false)
          (λ e j. off (int_le e.x z) (eqb e.ring r) e.up (other e.ring r (omega arith))) es h)
          ∙ sym (count_none (λ e. int_le e.x z && (eqb e.ring r && not e.up)) es
          (All-weaker (λ e. e.ring < n) (λ e. (int_le e.x z && (eqb e.ring r && not e.up)) ≡ false)
          (λ e j. off (int_le e.x z) (eqb e.ring r) (not e.up) (other e.ring r (omega arith))) es h)))))
    ]

-- the counts of the edges alive, from the left, say exactly what some ring covers in the row
pub inside_is_covered : (rings : List (List Point)) (es active : List Edge) (y z : ℤ) → AreEdgesOf rings es
    → HasSame (filter (alive y) es) active → All (λ e. e.ring < length rings) active → ((r : ℕ) → net r active ≡ pos 0)
    → IsInside active z ↔ SomeCovers rings (record { x = z; y = y })
inside_is_covered rings es active y z of same numbers balanced = (
  λ f.
      let lt : f.0 < length rings = no_edge f.0 (length rings) z active numbers f.1 in (
        f.0,
        get_or rings f.0 [],
        lt,
        get_or_default rings f.0 (get_or rings f.0 []) [] lt,
        λ e. f.1
            ((turns_where_winds rings es active y z f.0 of same (balanced f.0) lt).1 e),
      ),
  λ c. (
    c.0,
    λ e. c.4 (let w : winding (get_or rings c.0 []) (record { x = z; y = y }) ≡ pos 0 =
        (turns_where_winds rings es active y z c.0 of same (balanced c.0) c.2).0 e in
        rw (get_or_default rings c.0 [] c.1 c.2, c.3) at w),
  ),
)

pub sum_none : {A : Type 0} (f : A → ℕ) (xs : List A) → All (λ x. f x ≡ 0) xs → sum_by f xs ≡ 0
sum_none f [] h = refl
sum_none f (x ∷ xs) h =
    omega (arith, sum_by-cons f x xs, All-head (λ x. f x ≡ 0) x xs h, sum_none f xs (All-tail (λ x. f x ≡ 0) x xs h))
