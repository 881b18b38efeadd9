-- What one more record adds to the cells.
use Rattle.std.proofs.Common.{◌≡◌, ◌⊎◌, Bool, true, false, ◌||◌, if◌then◌else◌, List, [], ◌∷◌, ◌++◌, map, refl, sym, ap}
use Rattle.std.proofs.Common.{◌∙◌, subst, append_assoc, inl, inr}
use Rattle.std.proofs.lemmas.List.{append-nil, map-append}
use Rattle.lvl_path.specs.Figure.{Figure}
use Rattle.lvl_cells.specs.Cells.{PlainShape, Rings}
use Rattle.oasis_records.specs.declared.cell.CellRef.{CellRef}
use Rattle.oasis_records.specs.declared.record.Record.{Record}
use Rattle.oasis_records.specs.declared.record.Record.TheVariants.{Cell}
use Rattle.oasis_figures.specs.Figures.{Placed, shapes_of, placements_of, in_rings}
use Rattle.oasis_stream.specs.Order.{cell_in}
use Rattle.oasis_stream.specs.Rules.{is_cell, since, since_cell}
use Rattle.oasis_library.specs.Cells.{PlainDrawing, to_next_cell, drawing, drawings, with_rings}
use Rattle.oasis_library.specs.inside.Kept.{begun, on_last}
use Rattle.oasis_library.specs.inside.Taken.{grown}

-- a record is a CELL, or opens no cell
abbrev IsOther : Record → Type 0
IsOther r = (is_cell r ≡ false) × (cell_in r ≡ [])

pub cell_or : (r : Record) → ((c : CellRef) × (r ≡ Cell c)) ⊎ IsOther r
cell_or (Cell c) = inl (c, refl)
cell_or _ = inr (refl, refl)

pub is_other : (r : Record) → ((c : CellRef) → r ≡ Cell c → ⊥) → is_cell r ≡ false
is_other r h = elim (cell_or r) [
  | inl c ↦ absurd (h c.0 c.1)
  | inr o ↦ o.0
]

-- the list with its last element changed
pub last_changed : {A : Type 0} (f : A → A) (xs : List A) (x y : A) → y ≡ f x → xs ++ y ∷ [] ≡ on_last f (xs ++ x ∷ [])
last_changed f [] x y e = ap (λ z. z ∷ []) e
last_changed f (a ∷ []) x y e = ap (λ z. a ∷ z ∷ []) e
last_changed f (a ∷ b ∷ xs) x y e = ap (λ l. a ∷ l) (last_changed f (b ∷ xs) x y e)

-- the records since the last CELL, with one more
pub since-snoc : (e rs : List Record) (r : Record) → since e (rs ++ r ∷ []) ≡ (if is_cell r then [] else r ∷ since e rs)
since-snoc e [] r = refl
since-snoc e (x ∷ rs) r = since-snoc (if is_cell x then [] else x ∷ e) rs r

pub since-other : (rs : List Record) (r : Record) → is_cell r ≡ false → since_cell (rs ++ r ∷ []) ≡ r ∷ since_cell rs
since-other rs r h = since-snoc [] rs r ∙ ap (λ b. if b then [] else r ∷ since_cell rs) h

abbrev has_cell : List Record → Bool
has_cell [] = false
has_cell (r ∷ rs) = is_cell r || has_cell rs

-- a later cell has begun, so another record adds nothing to this one
closed : {A : Type 0} (f : List Record → Record → List A) (e rs : List Record) (r : Record) → has_cell rs ≡ true
    → to_next_cell f e (rs ++ r ∷ []) ≡ to_next_cell f e rs
closed f e [] r h = cc
closed f e (x ∷ rs) r h =
    elim (is_cell x) as (λ b. b || has_cell rs ≡ true
    → (if b then [] else f e x ++ to_next_cell f (x ∷ e) (rs ++ r ∷ [])) ≡ (if b then [] else f e x ++ to_next_cell
    f (x ∷ e) rs)) [
      | true ↦ λ k. refl
      | false ↦ λ k. ap (λ l. f e x ++ l) (closed f (x ∷ e) rs r k)
    ] h

-- a CELL adds nothing to the cell before it
ended : {A : Type 0} (f : List Record → Record → List A) (e rs : List Record) (r : Record) → is_cell r ≡ true
    → to_next_cell f e (rs ++ r ∷ []) ≡ to_next_cell f e rs
ended f e [] r h = ap (λ b. if b then [] else f e r ++ []) h
ended f e (x ∷ rs) r h = ap (λ l. if is_cell x then [] else f e x ++ l) (ended f (x ∷ e) rs r h)

-- another record adds to the last cell
added : {A : Type 0} (f : List Record → Record → List A) (e rs : List Record) (r : Record) → is_cell r ≡ false
    → has_cell rs ≡ false
    → to_next_cell f e (rs ++ r ∷ []) ≡ to_next_cell f e rs ++ f (since e rs) r
added f e [] r h n = ap (λ b. if b then [] else f e r ++ []) h ∙ append-nil (f e r)
added f e (x ∷ rs) r h n =
    elim (is_cell x) as (λ b. b || has_cell rs ≡ false
    → (if b then [] else f e x ++ to_next_cell f (x ∷ e) (rs ++ r ∷ [])) ≡ (if b then [] else f e x ++ to_next_cell f
    (x ∷ e) rs) ++ f (since (if b then [] else x ∷ e) rs) r) [
      | true ↦ λ k. (let z : true ≡ false = k in cc)
      | false ↦ λ k. ap (λ l. f e x ++ l) (added f (x ∷ e) rs r h k)
          ∙ sym (append_assoc (f e x) (to_next_cell f (x ∷ e) rs) (f (since (x ∷ e) rs) r))
    ] n

abbrev a_drawing : CellRef → List (PlainShape Figure) → List Placed → PlainDrawing Figure
a_drawing name shapes placements = record { name = name; shapes = shapes; placements = placements }

-- a cell with what a record draws added
abbrev widened : List Record → Record → PlainDrawing Figure → PlainDrawing Figure
widened earlier r d = a_drawing d.name (d.shapes ++ shapes_of earlier r) (d.placements ++ placements_of earlier r)

same_drawing : (rs : List Record) (r : Record) (c : CellRef) (s : List (PlainShape Figure)) (p : List Placed)
    → to_next_cell shapes_of [] (rs ++ r ∷ []) ≡ s → to_next_cell placements_of [] (rs ++ r ∷ []) ≡ p
    → drawing (rs ++ r ∷ []) c ≡ a_drawing c s p
same_drawing rs r c s p x y =
    ap (λ i. a_drawing c i (to_next_cell placements_of [] (rs ++ r ∷ []))) x ∙ ap (λ i. a_drawing c s i) y

none_drawn : (rs : List Record) → has_cell rs ≡ false → drawings rs ≡ []
none_drawn [] h = refl
none_drawn (x ∷ rs) h = elim (cell_or x) [
  | inl c ↦ (let z : true ≡ false = subst (λ (y : Record). is_cell y || has_cell rs ≡ false) c.1 h in cc)
  | inr o ↦ ap (λ cs. map (drawing rs) cs ++ drawings rs) o.1 ∙ none_drawn rs
      (subst (λ b. b || has_cell rs ≡ false) o.0 h)
]

some_drawn : (rs : List Record) → has_cell rs ≡ true → (d : PlainDrawing Figure) × (ds : List (PlainDrawing Figure))
    × (drawings rs ≡ d ∷ ds)
some_drawn [] h = cc
some_drawn (x ∷ rs) h = elim (cell_or x) [
  | inl c ↦ (drawing rs c.0, drawings rs, ap (λ (y : Record). drawings (y ∷ rs)) c.1)
  | inr o ↦
      let z = some_drawn rs (subst (λ b. b || has_cell rs ≡ true) o.0 h) in
      (z.0, z.1, ap (λ cs. map (drawing rs) cs ++ drawings rs) o.1 ∙ z.2)
]

on_last-more : {A : Type 0} (f : A → A) (d : A) (l ys : List A) (y : A) → l ≡ y ∷ ys
    → on_last f (d ∷ l) ≡ d ∷ on_last f l
on_last-more f d l ys y e = subst (λ l. on_last f (d ∷ l) ≡ d ∷ on_last f l) (sym e) refl

-- what another record adds after a CELL and some records
after_cell : (c : CellRef) (rs : List Record) (r : Record) (b : Bool) → has_cell rs ≡ b → is_cell r ≡ false
    → drawings (rs ++ r ∷ []) ≡ on_last (widened (since [] rs) r) (drawings rs)
    → drawing (rs ++ r ∷ []) c ∷ drawings (rs ++ r ∷ []) ≡ on_last (widened (since [] rs) r)
    (drawing rs c ∷ drawings rs)
after_cell c rs r false n h ih =
    let none = none_drawn rs n in
    let f = widened (since [] rs) r in
    let here : drawing (rs ++ r ∷ []) c ≡ f (drawing rs c) = same_drawing rs r c _ _ (added shapes_of [] rs r h n)
    (added placements_of [] rs r h n) in
    ap (λ l. drawing (rs ++ r ∷ []) c ∷ l) (ih ∙ ap (on_last f) none) ∙ ap (λ (d : PlainDrawing Figure). d ∷ []) here
    ∙ ap (λ l. on_last f (drawing rs c ∷ l)) (sym none)
after_cell c rs r true n h ih =
    let some = some_drawn rs n in
    let f = widened (since [] rs) r in
    let here : drawing (rs ++ r ∷ []) c ≡ drawing rs c = same_drawing rs r c _ _ (closed shapes_of [] rs r n)
    (closed placements_of [] rs r n) in
    ap (λ (d : PlainDrawing Figure). d ∷ drawings (rs ++ r ∷ [])) here ∙ ap (λ l. drawing rs c ∷ l) ih
    ∙ sym (on_last-more f (drawing rs c) (drawings rs) some.1 some.0 some.2)

-- another record adds to the last cell
drawings-other : (e rs : List Record) (r : Record) → is_cell r ≡ false
    → drawings (rs ++ r ∷ []) ≡ on_last (widened (since e rs) r) (drawings rs)
drawings-other e [] r h = elim (cell_or r) [
  | inl c ↦ (let z : true ≡ false = subst (λ (y : Record). is_cell y ≡ false) c.1 h in cc)
  | inr o ↦ ap (λ cs. map (drawing []) cs ++ []) o.1
]
drawings-other e (x ∷ rs) r h = elim (cell_or x) [
  | inl c ↦ subst (λ (y : Record). drawings (y ∷ (rs ++ r ∷ [])) ≡ on_last (widened (since e (y ∷ rs)) r)
      (drawings (y ∷ rs))) (sym c.1) (after_cell c.0 rs r (has_cell rs) refl h (drawings-other [] rs r h))
  | inr o ↦
      let skip : (l : List Record) → drawings (x ∷ l) ≡ drawings l = λ l. ap (λ cs. map (drawing l) cs ++ drawings l)
      o.1 in
      let past : since (x ∷ e) rs ≡ since e (x ∷ rs) = ap (λ b. since (if b then [] else x ∷ e) rs) (sym o.0) in
      skip (rs ++ r ∷ []) ∙ drawings-other (x ∷ e) rs r h ∙ ap (λ s. on_last (widened s r) (drawings rs)) past
      ∙ ap (on_last (widened (since e (x ∷ rs)) r)) (sym (skip rs))
]

-- a CELL begins a cell
drawings-cell : (rs : List Record) (c : CellRef) → drawings (rs ++ Cell c ∷ []) ≡ drawings rs ++ drawing [] c ∷ []
drawings-cell [] c = refl
drawings-cell (x ∷ rs) c = elim (cell_or x) [
  | inl k ↦
      let here : drawing (rs ++ Cell c ∷ []) k.0 ≡ drawing rs k.0 = same_drawing rs (Cell c) k.0 _ _
      (ended shapes_of [] rs (Cell c) refl) (ended placements_of [] rs (Cell c) refl) in
      subst (λ (y : Record). drawings (y ∷ (rs ++ Cell c ∷ [])) ≡ drawings (y ∷ rs) ++ drawing [] c ∷ []) (sym k.1)
      (ap (λ (d : PlainDrawing Figure). d ∷ drawings (rs ++ Cell c ∷ [])) here ∙ ap (λ l. drawing rs k.0 ∷ l)
      (drawings-cell rs c))
  | inr o ↦
      let skip : (l : List Record) → drawings (x ∷ l) ≡ drawings l = λ l. ap (λ cs. map (drawing l) cs ++ drawings l)
      o.1 in
      skip (rs ++ Cell c ∷ []) ∙ drawings-cell rs c ∙ ap (λ l. l ++ drawing [] c ∷ []) (sym (skip rs))
]

-- a change of the last item commutes with what is made of each

on_last-map : {A B : Type 0} (g : A → B) (f : A → A) (k : B → B) → ((x : A) → g (f x) ≡ k (g x)) → (xs : List A)
    → map g (on_last f xs) ≡ on_last k (map g xs)
on_last-map g f k h [] = refl
on_last-map g f k h (x ∷ []) = ap (λ y. y ∷ []) (h x)
on_last-map g f k h (x ∷ y ∷ ys) = ap (λ l. g x ∷ l) (on_last-map g f k h (y ∷ ys))

abbrev a_kept : CellRef → List (PlainShape Rings) → List Placed → PlainDrawing Rings
a_kept name shapes placements = record { name = name; shapes = shapes; placements = placements }

kept_widened : (earlier : List Record) (r : Record) (d : PlainDrawing Figure)
    → with_rings (widened earlier r d) ≡ grown earlier r (with_rings d)
kept_widened earlier r d =
    ap (λ s. a_kept d.name s (d.placements ++ placements_of earlier r))
    (map-append in_rings d.shapes (shapes_of earlier r))

pub kept-other : (rs : List Record) (r : Record) → is_cell r ≡ false
    → map with_rings (drawings (rs ++ r ∷ [])) ≡ on_last (grown (since_cell rs) r) (map with_rings (drawings rs))
kept-other rs r h =
    ap (map with_rings) (drawings-other [] rs r h) ∙ on_last-map with_rings (widened (since_cell rs) r)
    (grown (since_cell rs) r) (kept_widened (since_cell rs) r) (drawings rs)

pub kept-cell : (rs : List Record) (c : CellRef) → map with_rings (drawings (rs ++ Cell c ∷ [])) ≡ map with_rings
    (drawings rs) ++ begun c ∷ []
kept-cell rs c = ap (map with_rings) (drawings-cell rs c) ∙ map-append with_rings (drawings rs) (drawing [] c ∷ [])
