-- Two grids that agree at each crossing of the lines of both agree everywhere.
use Rattle.std.proofs.Common.{◌≡◌, ℕ, Bool, true, false, List, [], ◌∷◌, ◌++◌, map, get_or, ℤ, refl, arith, ◌∙◌, ap, ◌⊎◌}
use Rattle.std.proofs.Common.{inl, inr, ◌↔◌, int_le, Contains, IsTrue, Option, None, Some, IfNone}
use Rattle.std.specs.List.{AllByRecursion}
use Rattle.std.proofs.lemmas.Int.{ints}
use Rattle.std.proofs.lemmas.List.Elements.{All-contains, Contains-append_cases, Contains-append_right}
use Rattle.lvl_grid.specs.declared.point.Square.{Square}
use Rattle.lvl_region.specs.declared.grid.GridRegion.{GridRegion}
use Rattle.lvl_region.specs.Grid.{passed, value_at, IsMarked}
use Rattle.lvl_region.specs.Agree.{holds_grid, AgreeAt, AgreeOn, AgreeOnRows}
use Rattle.lvl_region.proofs.Between.{NoLineBetween, none_passed, passed-cons, bit}
use Rattle.lvl_region.proofs.Cells.{empty_row, never}
use Rattle.std.specs.Global.{Vec}

same_passed : (lines : List ℤ) (v w : ℤ) → NoLineBetween lines v w → passed lines v ≡ passed lines w
same_passed [] v w h = refl
same_passed (a ∷ as') v w h =
    let here : bit (int_le a v) ≡ bit (int_le a w) = ap bit h.0 in
    omega (arith, passed-cons a as' v, passed-cons a as' w, here, same_passed as' v w h.1)

-- the greatest of the lines that are at most v
abbrev Greatest : List ℤ → ℤ → Type 0
Greatest lines v = (w : ℤ) × Contains lines w × (int_le w v ≡ true) × NoLineBetween lines v w

below : (b v a : ℤ) → int_le b v ≡ false → int_le a v ≡ true → int_le b v ≡ int_le b a
below b v a h k = grind (arith, ints)

all_below : (as' : List ℤ) (v a : ℤ) → AllByRecursion (λ b. int_le b v ≡ false) as' → int_le a v ≡ true
    → NoLineBetween as' v a
all_below [] v a h k = tt
all_below (b ∷ bs) v a h k = (below b v a h.0 k, all_below bs v a h.1 k)

raise : (b v w a : ℤ) → int_le b v ≡ int_le b w → int_le w a ≡ true → int_le a v ≡ true → int_le b v ≡ int_le b a
raise b v w a h k l = grind (arith, ints)

all_raise : (as' : List ℤ) (v w a : ℤ) → NoLineBetween as' v w → int_le w a ≡ true → int_le a v ≡ true
    → NoLineBetween as' v a
all_raise [] v w a h k l = tt
all_raise (b ∷ bs) v w a h k l = (raise b v w a h.0 k l, all_raise bs v w a h.1 k l)

itself : (a v : ℤ) → int_le a v ≡ true → int_le a v ≡ int_le a a
itself a v h = grind (arith, ints)

low_line : (a v w : ℤ) → int_le a v ≡ true → int_le w a ≡ false → int_le a v ≡ int_le a w
low_line a v w h k = grind (arith, ints)

high_line : (a v w : ℤ) → int_le a v ≡ false → int_le w v ≡ true → int_le a v ≡ int_le a w
high_line a v w h k = grind (arith, ints)

first_of_all : (a : ℤ) (as' : List ℤ) → Contains (a ∷ as') a
first_of_all a as' = (0, omega arith, refl)

later : (a w : ℤ) (as' : List ℤ) → Contains as' w → Contains (a ∷ as') w
later a w as' c = Contains-append_right (a ∷ []) as' w c

higher : (a : ℤ) (as' : List ℤ) (v : ℤ) (g : Greatest as' v) (t : Bool) → int_le a v ≡ true → int_le g.0 a ≡ t
    → Greatest (a ∷ as') v
higher a as' v g true h k = (a, first_of_all a as', h, (itself a v h, all_raise as' v g.0 a g.3 k h))
higher a as' v g false h k = (g.0, later a g.0 as' g.1, g.2, (low_line a v g.0 h k, g.3))

near_step : (a : ℤ) (as' : List ℤ) (v : ℤ) (t : Bool) → int_le a v ≡ t
    → Greatest as' v ⊎ AllByRecursion (λ b. int_le b v ≡ false) as'
    → Greatest (a ∷ as') v ⊎ AllByRecursion (λ b. int_le b v ≡ false) (a ∷ as')
near_step a as' v true h (inl g) = inl (higher a as' v g (int_le g.0 a) h refl)
near_step a as' v true h (inr none) = inl (a, first_of_all a as', h, (itself a v h, all_below as' v a none h))
near_step a as' v false h (inl g) = inl (g.0, later a g.0 as' g.1, g.2, (high_line a v g.0 h g.2, g.3))
near_step a as' v false h (inr none) = inr (h, none)

-- some line is the greatest at most v, or all are above v
near : (lines : List ℤ) (v : ℤ) → Greatest lines v ⊎ AllByRecursion (λ a. int_le a v ≡ false) lines
near [] v = inr tt
near (a ∷ as') v = near_step a as' v (int_le a v) refl (near as' v)

front : (P : ℤ → Type 0) (as' bs : List ℤ) → AllByRecursion P (as' ++ bs) → AllByRecursion P as'
front P [] bs h = tt
front P (a ∷ as') bs h = (h.0, front P as' bs h.1)

back : (P : ℤ → Type 0) (as' bs : List ℤ) → AllByRecursion P (as' ++ bs) → AllByRecursion P bs
back P [] bs h = h
back P (a ∷ as') bs h = back P as' bs h.1

moves : (xs ys : List ℤ) (rows : List (Vec Bool)) (s t : Square) → NoLineBetween xs s.x t.x → NoLineBetween ys s.y t.y
    → IsMarked xs ys rows s ≡ IsMarked xs ys rows t
unfolding IsMarked
moves xs ys rows s t h k = rw (same_passed xs s.x t.x h, same_passed ys s.y t.y k) refl

unmarked_left : (xs ys : List ℤ) (rows : List (Vec Bool)) (s : Square) → AllByRecursion (λ a. int_le a s.x ≡ false) xs
    → IsMarked xs ys rows s → ⊥
unfolding IsMarked
unmarked_left xs ys rows s h m =
    (never _ ⊥ (ap (λ k. get_or (false ∷ value_at [] ys (map (λ row. row.items) rows) s.y) k false)
    (none_passed xs s.x h)) (λ e. e)).0 m

unmarked_below : (xs ys : List ℤ) (rows : List (Vec Bool)) (s : Square) → AllByRecursion (λ a. int_le a s.y ≡ false) ys
    → IsMarked xs ys rows s → ⊥
unfolding IsMarked
unmarked_below xs ys rows s h m =
    let none : value_at [] ys (map (λ row. row.items) rows) s.y ≡ [] =
    ap (λ k. get_or ([] ∷ map (λ row. row.items) rows) k []) (none_passed ys s.y h) in
    (never _ ⊥ (ap (λ row. value_at false xs row s.x) none ∙ empty_row (passed xs s.x)) (λ e. e)).0 m

either : (P : ℤ → Type 0) (as' bs : List ℤ) (w : ℤ) → ((w : ℤ) → Contains as' w → P w) → ((w : ℤ) → Contains bs w → P w)
    → Contains (as' ++ bs) w → P w
either P as' bs w f g c = elim (Contains-append_cases as' bs w c) [ inl d ↦ f w d | inr d ↦ g w d ]

agree_at_corner : (a b : GridRegion) (w u : ℤ) → AgreeOnRows a b a.ys.items → AgreeOnRows a b b.ys.items
    → Contains (a.xs.items ++ b.xs.items) w → Contains (a.ys.items ++ b.ys.items) u
    → AgreeAt a b (record { x = w; y = u })
unfolding AgreeOnRows AgreeOn
agree_at_corner a b w u h k c d =
    let Row : ℤ → Type 0 = λ y. AgreeOn a b a.xs.items y × AgreeOn a b b.xs.items y in
    let row : Row u = either Row a.ys.items b.ys.items u (λ v e. All-contains Row a.ys.items v h e)
    (λ v e. All-contains Row b.ys.items v k e) d in
    let P : ℤ → Type 0 = λ x. AgreeAt a b (record { x = x; y = u }) in
    either P a.xs.items b.xs.items w (λ v e. All-contains P a.xs.items v row.0 e)
    (λ v e. All-contains P b.xs.items v row.1 e) c

pub agree_everywhere : (a b : GridRegion) → AgreeOnRows a b a.ys.items → AgreeOnRows a b b.ys.items → (s : Square)
    → holds_grid a s ↔ holds_grid b s
unfolding AgreeAt
agree_everywhere a b h k s =
    elim (near (a.xs.items ++ b.xs.items) s.x) [
      | inr left ↦ (
        λ m. absurd (unmarked_left a.xs.items a.ys.items a.rows.items s (front (λ v. int_le v s.x ≡ false) a.xs.items
            b.xs.items left) m),
        λ m. absurd (unmarked_left b.xs.items b.ys.items b.rows.items s
            (back (λ v. int_le v s.x ≡ false) a.xs.items b.xs.items left) m),
      )
      | inl w ↦ elim (near (a.ys.items ++ b.ys.items) s.y) [
        | inr low ↦ (
          λ m. absurd (unmarked_below a.xs.items a.ys.items a.rows.items s (front (λ v. int_le v s.y ≡ false) a.ys.items
              b.ys.items low) m),
          λ m. absurd (unmarked_below b.xs.items b.ys.items b.rows.items s
              (back (λ v. int_le v s.y ≡ false) a.ys.items b.ys.items low) m),
        )
        | inl u ↦
            let t : Square = record { x = w.0; y = u.0 } in
            let both : holds_grid a t ↔ holds_grid b t = agree_at_corner a b w.0 u.0 h k w.1 u.1 in
            let left : holds_grid a s ≡ holds_grid a t = moves a.xs.items a.ys.items a.rows.items s t
            (front (λ v. int_le v s.x ≡ int_le v w.0) a.xs.items b.xs.items w.3)
            (front (λ v. int_le v s.y ≡ int_le v u.0) a.ys.items b.ys.items u.3) in
            let right : holds_grid b s ≡ holds_grid b t = moves b.xs.items b.ys.items b.rows.items s t
            (back (λ v. int_le v s.x ≡ int_le v w.0) a.xs.items b.xs.items w.3)
            (back (λ v. int_le v s.y ≡ int_le v u.0) a.ys.items b.ys.items u.3) in
            rw (left, right) both
      ]
    ]

-- the look-up of a cell returns the cell's mark
pub marked_is : (xs ys : List ℤ) (rows : List (Vec Bool)) (s : Square) (r : Bool) (row : List Bool) (i j : ℕ)
    → i ≡ passed ys s.y → row ≡ get_or ([] ∷ map (λ q. q.items) rows) i [] → j ≡ passed xs s.x
    → r ≡ get_or (false ∷ row) j false → IsTrue r ↔ IsMarked xs ys rows s
unfolding IsMarked
marked_is xs ys rows s r row i j e f g h = rw (h, f, e, g) (λ m. m, λ m. m)

pub none_both : {A : Type 0} (r : Option A) (P Q R : Type 0) → (P → Q → R) → IfNone r P → IfNone r Q → IfNone r R
none_both None P Q R f h k = f h k
none_both (Some x) P Q R f h k = tt

-- a square that only one of two sets has, in terms of two equal sets
pub through : {A : Type 0} (r : Option A) (P Q M N : Square → Type 0) → ((s : Square) → M s ↔ P s)
    → ((s : Square) → N s ↔ Q s) → IfNone r ((s : Square) → M s ↔ N s) → IfNone r ((s : Square) → P s ↔ Q s)
through None P Q M N f g h = λ s. (λ p. (g s).0 ((h s).0 ((f s).1 p)), λ q. (f s).0 ((h s).1 ((g s).1 q)))
through (Some x) P Q M N f g h = tt
