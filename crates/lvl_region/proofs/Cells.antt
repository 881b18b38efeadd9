-- The cells of the grid of all lines say what the rings cover.
use Rattle.std.proofs.Common.{◌≡◌, map, ℕ, Bool, true, false, not, List, [], ◌∷◌, get_or, ℤ, pos, refl, sym, ◌∙◌, ap}
use Rattle.std.proofs.Common.{inl, inr, ◌↔◌, int_le, int_lt, All, Contains, IsTrue, zero, suc}
use Rattle.std.specs.List.{AllZip, AllByRecursion}
use Rattle.std.proofs.lemmas.List.Elements.{All-contains, All-from_recursion}
use Rattle.lvl_grid.specs.declared.point.Point.{Point}
use Rattle.lvl_grid.specs.declared.point.Square.{Square}
use Rattle.lvl_grid.specs.Winding.{winding}
use Rattle.lvl_grid.proofs.Sides.{SameSide, winding_same, winding_left, winding_below}
use Rattle.lvl_grid.proofs.Turning.{lt_is_not_le}
use Rattle.lvl_region.specs.declared.lines.Axis.TheVariants.{X, Y}
use Rattle.lvl_region.specs.Region.{SomeCovers}
use Rattle.lvl_region.specs.Grid.{value_at, AreLinesOf, IsRowOf, HasPlaces, IsMarked, AreRowsOf}
use Rattle.lvl_region.proofs.Between.{NoLineBetween, value_is, all_zip-map}
use Rattle.std.specs.Global.{Vec}

-- some ring covers a square exactly if some ring covers another on the same side of each vertex
some_moves : (rings : List (List Point)) (s t : Square) → All (λ ring. All (SameSide s t) ring) rings
    → SomeCovers rings s → SomeCovers rings t
some_moves rings s t h c =
    let same : All (SameSide s t) c.1 = All-contains (λ ring. All (SameSide s t) ring) rings c.1 h (c.0, c.2, c.3) in
    (c.0, c.1, c.2, c.3, λ e. c.4 (winding_same s t c.1 same ∙ e))

none_covers : (rings : List (List Point)) (s : Square) → All (λ ring. winding ring s ≡ pos 0) rings → SomeCovers rings s
    → ⊥
none_covers rings s h c = c.4 (All-contains (λ ring. winding ring s ≡ pos 0) rings c.1 h (c.0, c.2, c.3))

line_parts : (lines : List ℤ) (v w a : ℤ) → NoLineBetween lines v w → Contains lines a → int_le a v ≡ int_le a w
line_parts lines v w a h c =
    All-contains (λ b. int_le b v ≡ int_le b w) lines a (All-from_recursion (λ b. int_le b v ≡ int_le b w) lines h) c

line_above : (lines : List ℤ) (v a : ℤ) → AllByRecursion (λ b. int_le b v ≡ false) lines → Contains lines a
    → int_le a v ≡ false
line_above lines v a h c =
    All-contains (λ b. int_le b v ≡ false) lines a (All-from_recursion (λ b. int_le b v ≡ false) lines h) c

turn_round : (a b c : ℤ) → int_le c a ≡ int_le c b → int_lt a c ≡ int_lt b c
turn_round a b c h = lt_is_not_le a c ∙ (ap not h ∙ sym (lt_is_not_le b c))

same_sides : (rings : List (List Point)) (xs ys : List ℤ) (s t : Square) → AreLinesOf rings X xs → AreLinesOf rings Y ys
    → NoLineBetween xs s.x t.x → NoLineBetween ys s.y t.y → All (λ ring. All (SameSide s t) ring) rings
unfolding HasPlaces
same_sides rings xs ys s t columns rows h k i r lt j p lt' =
    let v = get_or (get_or rings i r) j p in (
      turn_round s.x t.x v.x (line_parts xs s.x t.x v.x h (columns.through i r lt j p lt')),
      line_parts ys s.y t.y v.y k
          (rows.through i r lt j p lt'),
    )

flipped : (rings : List (List Point)) (s t : Square) → All (λ ring. All (SameSide s t) ring) rings
    → All (λ ring. All (SameSide t s) ring) rings
flipped rings s t h i r lt j p lt' =
    let both : SameSide s t (get_or (get_or rings i r) j p) = h i r lt j p lt' in
    (sym both.0, sym both.1)

pub empty_row : (k : ℕ) → get_or (false ∷ []) k false ≡ false
empty_row zero = refl
empty_row (suc k) = refl

pub never : (b : Bool) (P : Type 0) → b ≡ false → (P → ⊥) → IsTrue b ↔ P
never b P e none = (λ h. absurd (let clash : true ≡ false = sym h ∙ e in cc), λ p. absurd (none p))

-- the marked cells are those of the squares that some ring covers
pub grid_right : (rings : List (List Point)) (xs ys : List ℤ) (rows : List (List Bool)) → AreLinesOf rings X xs
    → AreLinesOf rings Y ys → AllZip (λ y row. IsRowOf rings xs y row) ys rows → (s : Square)
    → IsTrue (value_at false xs (value_at [] ys rows s.y) s.x) ↔ SomeCovers rings s
unfolding IsRowOf HasPlaces
grid_right rings xs ys rows columns lines zip s =
    elim (value_is (λ y row. IsRowOf rings xs y row) ys rows s.y [] lines.rising zip) [
      | inl u ↦ elim (value_is (λ x cell. IsTrue cell ↔ SomeCovers rings (record { x = x; y = u.0 })) xs
          (value_at [] ys rows s.y) s.x false columns.rising u.2) [
            | inl w ↦
                let t : Square = record { x = w.0; y = u.0 } in
                let same : All (λ ring. All (SameSide s t) ring) rings = same_sides rings xs ys s t columns lines w.1
                u.1 in
                (λ h. some_moves rings t s (flipped rings s t same) (w.2.0 h), λ c. w.2.1 (some_moves rings s t same c))
            | inr left ↦
                never _ _ left.1 (none_covers rings s
                (λ i r lt. winding_left s (get_or rings i r)
                (λ j p lt'. lt_is_not_le s.x _ ∙ ap not (line_above xs s.x _ left.0 (columns.through i r lt j p lt')))))
          ]
      | inr low ↦ never _ _ (ap (λ row. value_at false xs row s.x) low.1 ∙ empty_row _)
          (none_covers rings s (λ i r lt. winding_below s (get_or rings i r)
          (λ j p lt'. line_above ys s.y _ low.0 (lines.through i r lt j p lt'))))
    ]

-- so the marks of a grid with these rows say what some ring covers
pub marks_right : (rings : List (List Point)) (xs ys : List ℤ) (rows : List (Vec Bool)) → AreLinesOf rings X xs
    → AreLinesOf rings Y ys → AreRowsOf rings xs ys rows → (s : Square) → IsMarked xs ys rows s ↔ SomeCovers rings s
unfolding IsMarked AreRowsOf
marks_right rings xs ys rows columns lines zip s =
    grid_right rings xs ys (map (λ row. row.items) rows) columns lines (all_zip-map (λ y row. IsRowOf rings xs y row)
    (λ row. row.items) ys rows zip) s
