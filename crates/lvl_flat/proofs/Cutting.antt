-- Rings that are drawn one after another, each on the sheet of its Layer.
use Rattle.std.proofs.Common.{◌≡◌, ◌<◌, ◌++◌, ◌+◌, ◌↔◌, ◌⊎◌, inl, inr, ℕ, zero, suc, true, false, cond, not}
use Rattle.std.proofs.Common.{List, [], length, Contains}
use Rattle.std.proofs.Common.{◌∷◌, All, Any, take, map, set, slice_get, get_or, Some, refl, sym, ap, subst, ◌∙◌, arith}
use Rattle.std.proofs.lemmas.List.{take_more}
use Rattle.std.proofs.lemmas.Option.{slice_get_within, get_or_from_slice_get}
use Rattle.lvl_grid.specs.declared.point.Point.{Point}
use Rattle.lvl_grid.specs.declared.point.Square.{Square}
use Rattle.lvl_grid.specs.declared.point.Window.{Window}
use Rattle.lvl_grid.specs.declared.map.Map.{Map}
use Rattle.lvl_grid.specs.Clip.{IsInWindow}
use Rattle.lvl_grid.specs.Placed.{placed_point, IsPlaceOfCovered}
use Rattle.lvl_grid.specs.Winding.{Covers, SomeCovers}
use Rattle.lvl_grid.proofs.Anyone.{Any-push}
use Rattle.lvl_names.specs.declared.layer.Layer.{Layer}
use Rattle.lvl_names.specs.Layers.{ComesBefore, same_layer}
use Rattle.lvl_names.proofs.Layers.{before_itself, differs_is, same_is, tested_layer}
use Rattle.lvl_cells.specs.Cells.{PlainShape, Rings}
use Rattle.lvl_flat.specs.declared.bounds.Bounds.{Bounds}
use Rattle.lvl_flat.specs.declared.scope.Scope.{Scope}
use Rattle.lvl_flat.specs.Flattened.{FitsRing}
use Rattle.lvl_flat.specs.Sheet.{PlainSheet}
use Rattle.lvl_flat.specs.Sheets.{AreSorted, rings_on}
use Rattle.lvl_flat.specs.Boxes.{HoldsPoint, FitsBounds}
use Rattle.lvl_flat.specs.inside.Bounds.{IsOutside, IsInside}
use Rattle.lvl_flat.specs.inside.Drawn.{FitsAtEach}
use Rattle.lvl_flat.specs.inside.Scopes.{IsInScope, IsOfScope}
use Rattle.lvl_flat.proofs.Holding.{fits_within}
use Rattle.lvl_flat.proofs.Orders.{sorted_at, sorted_tail, rings_where}
use Rattle.lvl_flat.proofs.Outside.{placed_square}

-- the squares covered are those from before and, of those that count, those that some item so far covers; and so with
-- one more item
pub covers_more : {X : Type 0} (P : X → Type 0) (W old now new : Type 0) (xs : List X) (k : ℕ) (x : X)
    → slice_get xs k ≡ Some x → now ↔ (old ⊎ (W × Any P (take k xs))) → new ↔ (now ⊎ (W × P x))
    → new ↔ (old ⊎ (W × Any P (take (k + 1) xs)))
covers_more P W old now new xs k x at before step =
    let there : k < length xs = slice_get_within xs k x at in
    let more : take (k + 1) xs ≡ take k xs ++ x ∷ [] =
    take_more xs k x there ∙ ap (λ y. take k xs ++ y ∷ []) (get_or_from_slice_get xs k x x at) in
    let push = Any-push P (take k xs) x in
    let grown : Any P (take (k + 1) xs) ↔ (Any P (take k xs) ⊎ P x) = (
      λ a. push.0 (subst (Any P) more a),
      λ e. subst (Any P) (sym more) (push.1 e),
    ) in (
      λ h.
          elim (step.0 h) [
            | inl a ↦
                elim (before.0 a)
                [ inl b ↦ inl b | inr b ↦ inr (b.0, grown.1 (inl b.1)) ]
            | inr a ↦ inr (a.0, grown.1 (inr a.1))
          ],
      λ e.
          step.1 (elim e [
            | inl a ↦ inl (before.1 (inl a))
            | inr a ↦
                elim (grown.0 a.1)
                [ inl b ↦ inl (before.1 (inr (a.0, b))) | inr b ↦ inr (a.0, b) ]
          ]),
    )

-- a ring whose placed box is outside of the window adds nothing
pub outside_adds : (m : Map) (e : Point) (window : Window) (b placed : Bounds) (ring : List Point) (old : Rings)
    → ((p : Point) → HoldsPoint b p → HoldsPoint placed (placed_point m e p)) → All (HoldsPoint b) ring
    → IsOutside placed window → (q : Square)
    → SomeCovers old q ↔ (SomeCovers old q ⊎ (IsInWindow window q × IsPlaceOfCovered m e ring q))
outside_adds m e window b placed ring old holds all out q = (
  λ a. inl a,
  λ d. elim d [
    | inl a ↦ a
    | inr a ↦ absurd (out.none q (placed_square m e b placed ring q holds all a.1) a.0)
  ],
)

-- and its points fit
pub placed_ring_fits : (m : Map) (e : Point) (b placed : Bounds) (ring : List Point) → FitsBounds placed
    → ((p : Point) → HoldsPoint b p → HoldsPoint placed (placed_point m e p)) → All (HoldsPoint b) ring
    → FitsRing m e ring
placed_ring_fits m e b placed ring fits holds all =
    λ k v lt. fits_within placed (placed_point m e (get_or ring k v)) fits (holds _ (all k v lt))

-- a ring that is placed adds all that it covers, if all of that counts
pub whole_adds : (m : Map) (e : Point) (W : Square → Type 0) (ring : List Point) (old new : Rings)
    → new ≡ old ++ map (placed_point m e) ring ∷ []
    → ((t : Square) → Covers (map (placed_point m e) ring) t ↔ IsPlaceOfCovered m e ring t)
    → ((q : Square) → IsPlaceOfCovered m e ring q → W q) → (q : Square)
    → SomeCovers new q ↔ (SomeCovers old q ⊎ (W q × IsPlaceOfCovered m e ring q))
whole_adds m e W ring old new is covers within q =
    let C : List Point → Type 0 = λ r. Covers r q in
    let push = Any-push C old (map (placed_point m e) ring) in (
      λ a.
          elim (push.0 (subst (Any C) is a)) [
            | inl c ↦ inl c
            | inr c ↦ let at = (covers q).0 c in inr (within q at, at)
          ],
      λ d.
          subst (Any C) (sym is)
          (push.1 (elim d [ inl a ↦ inl a | inr a ↦ inr ((covers q).1 a.1) ])),
    )

-- as it is if its placed box is inside of the window
pub inside_adds : (m : Map) (e : Point) (window : Window) (b placed : Bounds) (ring : List Point) (old new : Rings)
    → ((p : Point) → HoldsPoint b p → HoldsPoint placed (placed_point m e p)) → All (HoldsPoint b) ring
    → IsInside placed window → new ≡ old ++ map (placed_point m e) ring ∷ []
    → ((t : Square) → Covers (map (placed_point m e) ring) t ↔ IsPlaceOfCovered m e ring t) → (q : Square)
    → SomeCovers new q ↔ (SomeCovers old q ⊎ (IsInWindow window q × IsPlaceOfCovered m e ring q))
inside_adds m e window b placed ring old new holds all within is covers =
    whole_adds m e (IsInWindow window) ring old new is covers
    (λ q at. within.all q (placed_square m e b placed ring q holds all at))

-- a ring that is clipped adds the squares of the window that it covers
pub cut_adds : (m : Map) (e : Point) (window : Window) (ring placed : List Point) (old new : Rings)
    → placed ≡ map (placed_point m e) ring
    → ((t : Square) → Covers (map (placed_point m e) ring) t ↔ IsPlaceOfCovered m e ring t)
    → ((s : Square) → SomeCovers new s ↔ (SomeCovers old s ⊎ (IsInWindow window s × Covers placed s))) → (q : Square)
    → SomeCovers new q ↔ (SomeCovers old q ⊎ (IsInWindow window q × IsPlaceOfCovered m e ring q))
cut_adds m e window ring placed old new is covers clipped q = (
  λ a. elim ((clipped q).0 a) [
    | inl b ↦ inl b
    | inr b ↦ inr (b.0, (covers q).0 (subst (λ r. Covers r q) is b.1))
  ],
  λ d. (clipped q).1 (elim d [
    | inl a ↦ inl a
    | inr a ↦ inr (a.0, subst (λ r. Covers r q) (sym is) ((covers q).1 a.1))
  ]),
)

-- each ring at each shift, or at each shift each ring
pub each_shift : (m : Map) (h : PlainShape Rings) → All (FitsAtEach m h.shifts) h.figure
    → All (λ e. All (FitsRing m e) h.figure) h.shifts
each_shift m h all = λ j e lj k ring lk. all k ring lk j e lj

-- the rings of one sheet are replaced
pub rings_on-put : (sheets : List PlainSheet) (i : ℕ) (s : PlainSheet) (rings : Rings) → AreSorted sheets
    → slice_get sheets i ≡ Some s → (layer : Layer)
    → rings_on layer (set sheets i (record { layer = s.layer; rings = rings }))
    ≡ cond (same_layer s.layer layer) rings (rings_on layer sheets)
rings_on-put [] i s rings sorted at layer = cc
rings_on-put (t ∷ sheets) zero s rings sorted at layer =
    let one : s ≡ t = cc in
    elim (same_layer s.layer layer)
    as (λ b. same_layer s.layer layer ≡ b
    → cond b rings (rings_on layer sheets) ≡ cond b rings (rings_on layer (t ∷ sheets))) [
      | true ↦ λ e. refl
      | false ↦ λ e.
          sym (ap (λ b. cond b t.rings (rings_on layer sheets)) (ap (λ (u : PlainSheet). same_layer u.layer layer)
          (sym one)
          ∙ e))
    ] refl
rings_on-put (t ∷ sheets) (suc i) s rings sorted at layer =
    let before : ComesBefore t.layer s.layer = sorted_at (t ∷ sheets) 0 (suc i) t s sorted refl at (omega arith) in
    ap (cond (same_layer t.layer layer) t.rings)
    (rings_on-put sheets i s rings (sorted_tail t sheets sorted) at layer)
    ∙ elim (same_layer t.layer layer)
    as (λ b. same_layer t.layer layer ≡ b
    → cond b t.rings (cond (same_layer s.layer layer) rings (rings_on layer sheets))
    ≡ cond (same_layer s.layer layer) rings (cond b t.rings (rings_on layer sheets))) [
      | true ↦ λ e.
          let here : t.layer ≡ layer = tested_layer t.layer layer (ap not e) in
          let other : s.layer ≡ layer → ⊥ =
          λ f. before_itself layer (subst (λ (x : Layer). ComesBefore x layer) here
          (subst (λ (x : Layer). ComesBefore t.layer x) f before)) in
          sym (ap (λ b. cond b rings t.rings) (differs_is s.layer layer other))
      | false ↦ λ e. refl
    ] refl

-- what is added to the rings of one sheet is added on its Layer
pub sheet_adds : (sheets : List PlainSheet) (i : ℕ) (s new : PlainSheet) (rings : Rings) (W : Type 0) (P : Type 0)
    (q : Square) → AreSorted sheets → slice_get sheets i ≡ Some s → new ≡ record { layer = s.layer; rings = rings }
    → SomeCovers rings q ↔ (SomeCovers s.rings q ⊎ (W × P)) → (layer : Layer)
    → SomeCovers (rings_on layer (set sheets i new)) q
    ↔ (SomeCovers (rings_on layer sheets) q ⊎ (W × ((s.layer ≡ layer) × P)))
sheet_adds sheets i s new rings W P q sorted at is adds layer =
    let all : rings_on layer (set sheets i new) ≡ cond (same_layer s.layer layer) rings (rings_on layer sheets) =
    ap (λ n. rings_on layer (set sheets i n)) is ∙ rings_on-put sheets i s rings sorted at layer in
    let C : Rings → Type 0 = λ rs. SomeCovers rs q in
    elim (same_layer s.layer layer)
    as (λ b. same_layer s.layer layer ≡ b
    → rings_on layer (set sheets i new) ≡ cond b rings (rings_on layer sheets)
    → SomeCovers (rings_on layer (set sheets i new)) q
    ↔ (SomeCovers (rings_on layer sheets) q ⊎ (W × ((s.layer ≡ layer) × P)))) [
      | true ↦ λ e f.
          let here : s.layer ≡ layer = tested_layer s.layer layer (ap not e) in
          let old : rings_on layer sheets ≡ s.rings = rings_where sheets layer i s sorted at here in (
            λ a. elim (adds.0 (subst C f a)) [
              | inl b ↦ inl (subst C (sym old) b)
              | inr b ↦ inr (b.0, (here, b.1))
            ],
            λ d. subst C (sym f) (adds.1 (elim d [
              | inl a ↦ inl (subst C old a)
              | inr a ↦ inr (a.0, a.1.1)
            ])),
          )
      | false ↦ λ e f. (
        λ a. inl (subst C f a),
        λ d. subst C (sym f) (elim d [
          | inl a ↦ a
          | inr a ↦ let no : true ≡ false = sym (same_is s.layer layer a.1.0) ∙ e in cc
        ]),
      )
    ] refl all

-- and so is their number
pub sheet_counts : (sheets : List PlainSheet) (i : ℕ) (s new : PlainSheet) (rings : Rings) (n : ℕ) → AreSorted sheets
    → slice_get sheets i ≡ Some s → new ≡ record { layer = s.layer; rings = rings }
    → length rings ≡ length s.rings + n → (layer : Layer)
    → length (rings_on layer (set sheets i new))
    ≡ length (rings_on layer sheets) + cond (same_layer s.layer layer) n 0
sheet_counts sheets i s new rings n sorted at is adds layer =
    let all : rings_on layer (set sheets i new) ≡ cond (same_layer s.layer layer) rings (rings_on layer sheets) =
    ap (λ n. rings_on layer (set sheets i n)) is ∙ rings_on-put sheets i s rings sorted at layer in
    ap length all
    ∙ elim (same_layer s.layer layer)
    as (λ b. same_layer s.layer layer ≡ b
    → length (cond b rings (rings_on layer sheets)) ≡ length (rings_on layer sheets) + cond b n 0) [
      | true ↦ λ e.
          let here : s.layer ≡ layer = tested_layer s.layer layer (ap not e) in
          adds ∙ ap (λ (rs : Rings). length rs + n) (sym (rings_where sheets layer i s sorted at here))
      | false ↦ λ e. omega arith
    ] refl

-- of what is drawn on the Layers of a list, a shape on one of them adds its squares of the scope
pub part_adds : (layers : List Layer) (scope : Scope) (shape layer : Layer) (q : Square) (now new P : Type 0)
    → Contains layers shape → new ↔ (now ⊎ (IsInScope scope q × ((shape ≡ layer) × P)))
    → new ↔ (now ⊎ (IsOfScope layers scope layer q × ((shape ≡ layer) × P)))
part_adds layers scope shape layer q now new P has adds = (
  λ a. elim (adds.0 a) [ inl b ↦ inl b | inr b ↦ inr ((subst (Contains layers) b.1.0 has, b.0), b.1) ],
  λ e. adds.1 (elim e [ inl b ↦ inl b | inr b ↦ inr (b.0.1, b.1) ]),
)

-- and a shape on another Layer adds nothing
pub part_skips : (layers : List Layer) (scope : Scope) (shape layer : Layer) (q : Square) (now P : Type 0)
    → (Contains layers shape → ⊥)
    → now ↔ (now ⊎ (IsOfScope layers scope layer q × ((shape ≡ layer) × P)))
part_skips layers scope shape layer q now P none = (
  λ a. inl a,
  λ e. elim e [ inl a ↦ a | inr b ↦ absurd (none (subst (Contains layers) (sym b.1.0) b.0.0)) ],
)
