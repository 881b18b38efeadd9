-- The walk ends with all rings drawn; sheets without rings are left out.
use Rattle.std.proofs.Common.{◌≡◌, ◌≢◌, ◌↔◌, ◌<◌, ◌==◌, ◌++◌, zero, suc, Bool, true, false, cond, append_assoc, List}
use Rattle.std.proofs.Common.{[], ◌∷◌, length, map, filter, not, Some, Any, All, Contains, inl, inr, refl}
use Rattle.std.proofs.Common.{sym, ap, subst, ◌∙◌, arith, ◌⊎◌}
use Rattle.std.specs.Prelude.{IfSome}
use Rattle.std.proofs.lemmas.List.Elements.{All-head, All-tail, All-filter, filter-append, All-weaker, filter_passes}
use Rattle.std.proofs.lemmas.Bool.{eqb-true}
use Rattle.lvl_grid.specs.declared.point.Square.{Square}
use Rattle.lvl_grid.specs.Winding.{Covers, SomeCovers}
use Rattle.lvl_grid.proofs.Anyone.{Any-nil}
use Rattle.lvl_names.specs.declared.layer.Layer.{Layer}
use Rattle.lvl_names.specs.Layers.{ComesBefore, same_layer}
use Rattle.lvl_names.proofs.Layers.{tested_layer}
use Rattle.lvl_cells.specs.Cells.{PlainCell, Rings}
use Rattle.lvl_cells.specs.Chains.{unmoved}
use Rattle.lvl_cells.specs.Checks.{Settled}
use Rattle.lvl_cells.specs.Coverage.{ShapeCovers, CellCovers}
use Rattle.lvl_flat.specs.declared.scope.Scope.{Scope}
use Rattle.lvl_flat.specs.declared.scope.Scope.TheVariants.{Everything, Within}
use Rattle.lvl_flat.specs.declared.visit.Visit.{Visit}
use Rattle.lvl_flat.specs.Flattened.{AllInRange, IsTopInRange}
use Rattle.lvl_flat.specs.Sheet.{PlainSheet}
use Rattle.lvl_flat.specs.Sheets.{AreSorted, IsInOrder, rings_on, has_rings, is_filled}
use Rattle.lvl_flat.specs.inside.Drawn.{AreDrawn}
use Rattle.lvl_flat.specs.inside.Entering.{IsDrawn}
use Rattle.lvl_flat.specs.inside.Scopes.{IsOfScope}
use Rattle.lvl_flat.specs.inside.Visits.{VisitCovers, PicksFit, pending}
use Rattle.lvl_flat.specs.inside.Walking.{AllListed, IsFlattenedIn, IsWalking}
use Rattle.lvl_flat.proofs.Orders.{comes_before_rest, others_after, sorted_tail, rings_nowhere}
use Rattle.lvl_flat.proofs.Drawing.{layer_of, sorted_alike}
use Rattle.lvl_flat.proofs.Listing.{cell_listed, cells_listed, own_listed}
use Rattle.lvl_flat.proofs.Advancing.{shapes_place, under_unmoved}

none_there : (rings : Rings) → has_rings rings ≡ false → rings ≡ []
none_there [] e = refl
none_there (ring ∷ rings) e = cc

some_there : (rings : Rings) → has_rings rings ≡ true → rings ≢ []
some_there [] e same = cc
some_there (ring ∷ rings) e same = cc

sorted_cons : (t : PlainSheet) (ss : List PlainSheet) → All (λ s. ComesBefore t.layer s.layer) ss → AreSorted ss
    → AreSorted (t ∷ ss)
sorted_cons t ss before sorted zero zero d lt in' = absurd (omega arith)
sorted_cons t ss before sorted zero (suc j) d lt in' = before j d (omega arith)
sorted_cons t ss before sorted (suc i) zero d lt in' = absurd (omega arith)
sorted_cons t ss before sorted (suc i) (suc j) d lt in' = sorted i j d (omega arith) (omega arith)

sorted_filter : (p : PlainSheet → Bool) (ss : List PlainSheet) → AreSorted ss → AreSorted (filter p ss)
sorted_filter p [] sorted = sorted
sorted_filter p (t ∷ ss) sorted =
    let rest = sorted_filter p ss (sorted_tail t ss sorted) in
    elim (p t) as (λ b. AreSorted (cond b (t ∷ filter p ss) (filter p ss))) [
      | true ↦
          sorted_cons t (filter p ss)
          (All-filter p (λ s. ComesBefore t.layer s.layer) ss (comes_before_rest t ss sorted)) rest
      | false ↦ rest
    ]

-- leaving out the sheets without rings loses no ring
pub rings_on-filled : (ss : List PlainSheet) → AreSorted ss → (layer : Layer)
    → rings_on layer (filter is_filled ss) ≡ rings_on layer ss
rings_on-filled [] sorted layer = refl
rings_on-filled (t ∷ ss) sorted layer =
    let rest = rings_on-filled ss (sorted_tail t ss sorted) layer in
    elim (is_filled t)
    as (λ b. is_filled t ≡ b
    → rings_on layer (cond b (t ∷ filter is_filled ss) (filter is_filled ss))
    ≡ cond (same_layer t.layer layer) t.rings (rings_on layer ss)) [
      | true ↦ λ e. ap (cond (same_layer t.layer layer) t.rings) rest
      | false ↦ λ e.
          rest
          ∙ elim (same_layer t.layer layer)
          as (λ b. same_layer t.layer layer ≡ b → rings_on layer ss ≡ cond b t.rings (rings_on layer ss)) [
            | true ↦ λ f.
                let here : t.layer ≡ layer = tested_layer t.layer layer (ap not f) in
                rings_nowhere ss layer (others_after t ss layer sorted here) ∙ sym (none_there t.rings e)
            | false ↦ λ f. refl
          ] refl
    ] refl

-- a cell's own shapes, drawn by themselves
pub own_covers : (c : PlainCell Rings) (empty new : List PlainSheet) → AreSorted empty
    → AllListed (map layer_of empty) (c ∷ []) → ((layer : Layer) → rings_on layer empty ≡ [])
    → IsDrawn (c ∷ []) 0 unmoved Everything empty new → (layer : Layer) (s : Square)
    → SomeCovers (rings_on layer (filter is_filled new)) s ↔ Any (ShapeCovers SomeCovers layer s) c.shapes
own_covers c empty new sorted listed none d layer s =
    let both : Some c ≡ Some d.cell = d.there in
    let one : d.cell ≡ c = cc in
    let drawn : AreDrawn unmoved Everything c.shapes empty new =
    subst (λ (b : PlainCell Rings). AreDrawn unmoved Everything b.shapes empty new) one d.drawn in
    let same = rings_on-filled new (sorted_alike new empty drawn.layers sorted) layer in
    let covers = drawn.covers layer s in
    let stays = under_unmoved s (λ t. Any (ShapeCovers SomeCovers layer t) c.shapes) in
    let place = shapes_place layer unmoved s c.shapes in (
      λ a. elim (covers.0 (subst (λ rs. SomeCovers rs s) same a)) [
        | inl b ↦ absurd (Any-nil (λ ring. Covers ring s) (subst (λ rs. SomeCovers rs s) (none layer) b))
        | inr b ↦ stays.0 (place.0 b.1)
      ],
      λ h.
          subst (λ rs. SomeCovers rs s) (sym same) (covers.1 (inr (
            (own_listed (map layer_of empty) layer c s (cell_listed (map layer_of empty) (c ∷ []) 0 c listed refl) h, tt),
            place.1 (stays.1 h),
          ))),
    )

pub filled_in_order : (ss : List PlainSheet) → AreSorted ss → IsInOrder (filter is_filled ss)
filled_in_order ss sorted = record {
  filled =
      All-weaker (λ s. is_filled s ≡ true) (λ s. s.rings ≢ []) (λ s. some_there s.rings) (filter is_filled ss)
      (filter_passes is_filled ss);
  sorted = sorted_filter is_filled ss sorted;
}

filled_if : (rings : Rings) (b : Bool) → (length rings == 0) ≡ not b → has_rings rings ≡ b
filled_if [] true e = cc
filled_if [] false e = refl
filled_if (ring ∷ rings) true e = refl
filled_if (ring ∷ rings) false e =
    let none : length (ring ∷ rings) ≡ 0 = eqb-true _ 0 e in
    absurd (omega arith)

-- one more sheet, which is left out if it has no rings
pub filled_step : (ss filled : List PlainSheet) (s : PlainSheet) (b : Bool) → (length s.rings == 0) ≡ not b
    → filled ≡ filter is_filled ss → filled ++ cond b (s ∷ []) [] ≡ filter is_filled (ss ++ s ∷ [])
filled_step ss filled s b e so =
    ap (λ fs. fs ++ cond b (s ∷ []) []) so
    ∙ sym (filter-append is_filled ss (s ∷ [])
    ∙ ap (λ t. filter is_filled ss ++ cond t (s ∷ []) []) (filled_if s.rings b e))

-- the sheets that are left after one more
pub sheets_go : (all ss rest rest' : List PlainSheet) (s : PlainSheet) → ss ++ rest ≡ all → rest ≡ s ∷ rest'
    → (ss ++ s ∷ []) ++ rest' ≡ all
sheets_go all ss rest rest' s parts next = append_assoc ss (s ∷ []) rest' ∙ (ap (λ r. ss ++ r) (sym next) ∙ parts)

-- with no visit left, what the top covers in the scope is drawn
covered : (s : Settled) (layers : List Layer) (scope : Scope) (sheets : List PlainSheet)
    → (w : IsWalking s layers scope sheets []) → (layer : Layer) (q : Square)
    → SomeCovers (rings_on layer (filter is_filled sheets)) q
    ↔ (IsOfScope layers scope layer q × CellCovers SomeCovers s.cells layer w.top q)
covered s layers scope sheets w layer q =
    let C : Rings → Type 0 = λ rs. SomeCovers rs q in
    let same = rings_on-filled sheets w.sorted layer in (
      λ a.
          let drawn : C (rings_on layer sheets) = subst C same a in
          let part : IsOfScope layers scope layer q = w.within layer q drawn in
          (part, (w.covers layer q part).1 (inl drawn)),
      λ h. elim ((w.covers layer q h.0).0 h.1) [
        | inl a ↦ subst C (sym same) a
        | inr b ↦ absurd (Any-nil (VisitCovers s.cells layer q) b)
      ],
    )

none_left : (s : Settled) (v : Visit) → Contains [] v → PicksFit s.cells v.map (pending s.cells v)
none_left s v has = let below : has.0 < 0 = has.1 in absurd (omega arith)

pub walk_ends : (s : Settled) (layers : List Layer) (scope : Scope) (sheets : List PlainSheet)
    → IsTopInRange s ⊎ AllListed layers s.cells → IsWalking s layers scope sheets []
    → IsFlattenedIn s layers scope (filter is_filled sheets)
walk_ends s layers Everything sheets fits w = λ listed. record {
  top = w.top;
  is_top = w.is_top;
  covers = λ layer q.
      let both = covered s layers Everything sheets w layer q in (
        λ a. (both.0 a).1,
        λ h. both.1 ((cells_listed s.cells layers listed layer s.top w.top q w.is_top h, tt), h),
      );
  count = λ layer. ap length (rings_on-filled sheets w.sorted layer) ∙ omega (arith, w.counts refl listed layer);
  in_range = w.fits listed (none_left s);
}
walk_ends s layers (Within window) sheets fits w = record {
  top = w.top;
  is_top = w.is_top;
  covers = covered s layers (Within window) sheets w;
  in_range =
      elim fits [
        | inl known ↦ subst (λ o. IfSome o (AllInRange s.cells)) w.is_top known
        | inr listed ↦ w.fits listed (none_left s)
      ];
}

-- sheets that have no rings have none on any Layer
pub rings_on_empty : (ss : List PlainSheet) → All (λ s. s.rings ≡ []) ss → (layer : Layer) → rings_on layer ss ≡ []
rings_on_empty [] empty layer = refl
rings_on_empty (t ∷ ss) empty layer =
    elim (same_layer t.layer layer)
    as (λ b. cond b t.rings (rings_on layer ss) ≡ []) [
      | true ↦ All-head (λ s. s.rings ≡ []) t ss empty
      | false ↦ rings_on_empty ss (All-tail (λ s. s.rings ≡ []) t ss empty) layer
    ]
