-- The state of the walk is kept where a cell is drawn.
use Rattle.std.proofs.Common.{◌≡◌, ◌+◌, ◌++◌, ℕ, suc, List, [], ◌∷◌, length, map, sum_by, slice_get, Some}
use Rattle.std.proofs.Common.{All, Any, Contains, ◌⊎◌, ◌↔◌, inl, inr, refl, sym, ap, subst, ◌∙◌, arith, rules}
use Rattle.std.proofs.lemmas.Int.{ints, clamps}
use Rattle.std.proofs.lemmas.List.Elements.{Contains-push_cases, Contains-push}
use Rattle.std.proofs.lemmas.List.Sums.{sum_by_push}
use Rattle.lvl_cells.proofs.Sequences.{one_answer}
use Rattle.lvl_cells.proofs.Walks.{contains_front}
use Rattle.lvl_grid.specs.declared.point.Point.{Point}
use Rattle.lvl_grid.specs.declared.point.Square.{Square}
use Rattle.lvl_grid.specs.declared.map.Map.{Map}
use Rattle.lvl_grid.specs.Placed.{IsPlaceOfCovered, moved_square}
use Rattle.lvl_grid.specs.Turn.{image, image_square, FitsPoint}
use Rattle.lvl_grid.specs.Winding.{Covers, SomeCovers}
use Rattle.lvl_grid.proofs.Anyone.{Any-nil, Any-head, Any-uncons, Any-push}
use Rattle.lvl_grid.proofs.Squares.{same_square}
use Rattle.lvl_names.specs.declared.layer.Layer.{Layer}
use Rattle.lvl_cells.specs.Cells.{PlainCell, PlainShape, Rings, each_ring, map_at, cell_named}
use Rattle.lvl_cells.specs.Chains.{Chain, IsComposed, own_rings_on, unmoved}
use Rattle.lvl_cells.specs.Checks.{Settled}
use Rattle.lvl_cells.specs.Coverage.{ShapeCovers, CellCovers, moved_back}
use Rattle.lvl_cells.specs.Soundness.{AreLinked, IsOrder}
use Rattle.lvl_flat.specs.declared.scope.Scope.{Scope}
use Rattle.lvl_flat.specs.declared.visit.Visit.{Visit}
use Rattle.lvl_flat.specs.Flattened.{FitShapes}
use Rattle.lvl_flat.specs.Sheet.{PlainSheet}
use Rattle.lvl_flat.specs.Sheets.{AreSorted, HaveSheets, rings_on}
use Rattle.lvl_flat.specs.inside.Drawn.{AreDrawn, RingPlacesCover, ShapePlacesCover, ShapesPlaceCover}
use Rattle.lvl_flat.specs.inside.Entering.{IsDrawn, begun}
use Rattle.lvl_flat.specs.inside.Scopes.{IsOfScope}
use Rattle.lvl_flat.specs.inside.Steps.{IsInto}
use Rattle.lvl_flat.specs.inside.Visits.{Pick, picks, pending, visit_weight, VisitCovers, FitsUnder, PicksFit, IsVisit}
use Rattle.lvl_flat.specs.inside.Walking.{AllListed, IsWalking, SheetsCover}
use Rattle.lvl_flat.proofs.Covering.{Under, back_and_there, there_and_back}
use Rattle.lvl_flat.proofs.Drawing.{layer_of, sorted_alike}
use Rattle.lvl_flat.proofs.Listing.{cell_listed}
use Rattle.lvl_flat.proofs.Picks.{picks_from_start, picks_within}
use Rattle.lvl_flat.proofs.Ranging.{chain_more, fits_under, image-unmoved}
use Rattle.lvl_flat.proofs.Stepping.{pending_at}
use Rattle.lvl_flat.proofs.UnderWay.{into_fits, only}
use Rattle.lvl_flat.proofs.Walking.{visit_begun, visit_into, weight_begun, weight_into}

-- a ring at the shifts, placed by the map
ring_place : (m : Map) (q : Square) (shifts : List Point) (ring : List Point)
    → RingPlacesCover m shifts q ring ↔ Under m q (λ t. Any (λ e. Covers ring (moved_back e t)) shifts)
ring_place m q shifts ring = (
  λ a.
      let at : IsPlaceOfCovered m a.1 ring q = a.4 in (
        moved_square a.1 at.from,
        at.place,
        (a.0, a.1, a.2, a.3, subst (Covers ring) (sym (there_and_back a.1 at.from)) at.covered),
      ),
  λ u.
      let a = u.2 in (
        a.0,
        a.1,
        a.2,
        a.3,
        record {
          from = moved_back a.1 u.0;
          place = ap (image_square m) (back_and_there a.1 u.0) ∙ u.1;
          covered = a.4;
        },
      ),
)

-- a shape: each ring at each shift, or at each shift each ring
shape_place : (m : Map) (q : Square) (h : PlainShape Rings)
    → ShapePlacesCover m q h ↔ Under m q (λ t. Any (λ e. SomeCovers h.figure (moved_back e t)) h.shifts)
shape_place m q h = (
  λ a.
      let u = (ring_place m q h.shifts a.1).0 a.4 in
      let e = u.2 in
      (u.0, u.1, (e.0, e.1, e.2, e.3, (a.0, a.1, a.2, a.3, e.4))),
  λ u.
      let e = u.2 in
      let a = e.4 in
      (a.0, a.1, a.2, a.3, (ring_place m q h.shifts a.1).1 (u.0, u.1, (e.0, e.1, e.2, e.3, a.4))),
)

-- the placed shapes of a Layer cover the images of the squares that the shapes cover
pub shapes_place : (layer : Layer) (m : Map) (q : Square) (shapes : List (PlainShape Rings))
    → ShapesPlaceCover layer m q shapes ↔ Under m q (λ t. Any (ShapeCovers SomeCovers layer t) shapes)
shapes_place layer m q shapes = (
  λ a.
      let u = (shape_place m q a.1).0 a.4.1 in
      (u.0, u.1, (a.0, a.1, a.2, a.3, (a.4.0, u.2))),
  λ u.
      let a = u.2 in
      (a.0, a.1, a.2, a.3, (a.4.0, (shape_place m q a.1).1 (u.0, u.1, a.4.1))),
)

-- where a square counts, drawn shapes add it if they cover its place
pub drawn_adds : (layer : Layer) (m : Map) (q : Square) (scope : Scope) (shapes : List (PlainShape Rings))
    (old new : List PlainSheet) → AreDrawn m scope shapes old new → IsOfScope (map layer_of old) scope layer q
    → SheetsCover new layer q
    ↔ (SheetsCover old layer q ⊎ Under m q (λ t. Any (ShapeCovers SomeCovers layer t) shapes))
drawn_adds layer m q scope shapes old new drawn part =
    let covers = drawn.covers layer q in
    let place = shapes_place layer m q shapes in (
      λ a. elim (covers.0 a) [ inl b ↦ inl b | inr b ↦ inr (place.0 b.1) ],
      λ e. covers.1 (elim e [ inl b ↦ inl b | inr b ↦ inr (part, place.1 b) ]),
    )

-- if squares of the scope are added to others of it, all are squares of the scope
still_within : (s : Settled) (i : ℕ) (m : Map) (layers : List Layer) (scope : Scope) (old new : List PlainSheet)
    → map layer_of old ≡ layers → IsDrawn s.cells i m scope old new
    → ((layer : Layer) (q : Square) → SheetsCover old layer q → IsOfScope layers scope layer q) → (layer : Layer)
    (q : Square) → SheetsCover new layer q → IsOfScope layers scope layer q
still_within s i m layers scope old new are d before layer q a =
    elim ((d.drawn.covers layer q).0 a) [
      | inl b ↦ before layer q b
      | inr b ↦ subst (λ ls. IsOfScope ls scope layer q) are b.0
    ]

-- if every shape is on a Layer of the list, the shapes of a cell have sheets
all_there : (cells : List (PlainCell Rings)) (layers : List Layer) (sheets : List PlainSheet) (i : ℕ)
    (c : PlainCell Rings) → slice_get cells i ≡ Some c → map layer_of sheets ≡ layers → AllListed layers cells
    → HaveSheets sheets c.shapes
all_there cells layers sheets i c at are listed =
    subst (λ ls. All (λ h. Contains ls h.layer) c.shapes) (sym are) (cell_listed layers cells i c listed at)

-- the shapes that are drawn fit, if they have sheets
drawn_fit : (m : Map) (scope : Scope) (shapes : List (PlainShape Rings)) (old new : List PlainSheet)
    → AreDrawn m scope shapes old new → HaveSheets old shapes → FitShapes m shapes
drawn_fit m scope shapes old new d have = λ k h inside. d.fits k h inside (have k h inside)

-- a chain to the cell of a visit's next pick
pub next_chain : (cells : List (PlainCell Rings)) (top : PlainCell Rings) (v : Visit) (m : Map) (p : Pick)
    (d : PlainCell Rings) → (old : IsVisit cells top v) → Contains (pending cells v) p
    → cell_named cells p.0.cell ≡ Some d
    → IsComposed v.map (map_at p.0 p.1) m → Chain cells top (suc old.steps) m d
next_chain cells top v m p d old has named whole =
    let among : Contains (picks old.cell.references) p =
    picks_within old.cell.references v.reference v.place p
    (subst (λ ps. Contains ps p) (pending_at cells v old.cell old.there) has) in
    chain_more cells top old.steps v.map m old.cell d p old.chain among named whole

-- a visit of that cell
pub next_visit : (cells : List (PlainCell Rings)) (top : PlainCell Rings) (v : Visit) (i : ℕ) (m : Map) (rest : Visit)
    → IsVisit cells top v → IsInto cells v i m rest → IsVisit cells top (begun i m)
next_visit cells top v i m rest old into =
    let first : Contains (pending cells v) into.pick =
    subst (λ ps. Contains ps into.pick) (sym into.pending_is) (0, omega arith, refl) in
    record {
      cell = into.next;
      there = into.there;
      steps = suc old.steps;
      chain = next_chain cells top v m into.pick into.next old first into.named into.placed;
    }

-- a visit of the top
pub top_visit : (s : Settled) (c : PlainCell Rings) → slice_get s.cells s.top ≡ Some c
    → IsVisit s.cells c (begun s.top unmoved)
top_visit s c at = record { cell = c; there = at; steps = 0; chain = (refl, refl) }

-- a visited cell fits if its shapes, its shift and the picks of the visit do
begun_fits : (cells : List (PlainCell Rings)) (i : ℕ) (m : Map) (c : PlainCell Rings) → slice_get cells i ≡ Some c
    → FitsPoint m.at → FitShapes m c.shapes → PicksFit cells m (pending cells (begun i m)) → FitsUnder cells m c
begun_fits cells i m c at shift vertices each =
    fits_under cells m c (record { shift = shift; vertices = vertices })
    (subst (PicksFit cells m) (pending_at cells (begun i m) c at ∙ picks_from_start c.references) each)

-- the visit goes into a cell: the shapes of the cell are drawn, and a visit of it is put on the stack
pub walk_into : (s : Settled) (layers : List Layer) (scope : Scope) (sheets new : List PlainSheet)
    (front : List Visit) (v : Visit) (i : ℕ) (m : Map) (rest : Visit) → AreLinked s.cells → IsOrder s.cells s.order
    → IsWalking s layers scope sheets (front ++ v ∷ []) → IsInto s.cells v i m rest
    → IsDrawn s.cells i m scope sheets new
    → IsWalking s layers scope new ((front ++ rest ∷ []) ++ begun i m ∷ [])
walk_into s layers scope sheets new front v i m rest linked ordered w into d =
    let cells : List (PlainCell Rings) = s.cells in
    let c : PlainCell Rings = into.next in
    let one : d.cell ≡ c = one_answer d.there into.there in
    let drawn : AreDrawn m scope c.shapes sheets new =
    subst (λ (b : PlainCell Rings). AreDrawn m scope b.shapes sheets new) one d.drawn in
    let have : AllListed layers cells → HaveSheets sheets c.shapes =
    all_there cells layers sheets i c into.there w.layers_are in
    let child : Visit = begun i m in
    let lower : List Visit = front ++ rest ∷ [] in
    let old : IsVisit cells w.top v = w.visits v (Contains-push front v) in
    record {
      top = w.top;
      is_top = w.is_top;
      covers = λ layer q counts.
          let V : Visit → Type 0 = VisitCovers cells layer q in
          let was = w.covers layer q counts in
          let before = Any-push V front v in
          let after = Any-push V lower child in
          let inner = Any-push V front rest in
          let go = visit_into cells layer v i m rest q into in
          let begin = visit_begun cells layer i m q c into.there in
          let part = subst (λ ls. IsOfScope ls scope layer q) (sym w.layers_are) counts in
          let mine = drawn_adds layer m q scope c.shapes sheets new drawn part in (
            λ h.
                elim (was.0 h) [
                  | inl a ↦ inl (mine.1 (inl a))
                  | inr b ↦
                      elim (before.0 b) [
                        | inl f ↦ inr (after.1 (inl (inner.1 (inl f))))
                        | inr u ↦
                            elim (go.0 u) [
                              | inl below ↦
                                  elim (begin.0 below)
                                  [ inl own ↦ inl (mine.1 (inr own)) | inr far ↦ inr (after.1 (inr far)) ]
                              | inr r ↦ inr (after.1 (inl (inner.1 (inr r))))
                            ]
                      ]
                ],
            λ e.
                was.1
                (elim e [
                  | inl a ↦
                      elim (mine.0 a)
                      [ inl x ↦ inl x | inr y ↦ inr (before.1 (inr (go.1 (inl (begin.1 (inl y)))))) ]
                  | inr b ↦
                      elim (after.0 b) [
                        | inl l ↦
                            elim (inner.0 l)
                            [ inl f ↦ inr (before.1 (inl f)) | inr r ↦ inr (before.1 (inr (go.1 (inr r)))) ]
                        | inr far ↦ inr (before.1 (inr (go.1 (inl (begin.1 (inr far))))))
                      ]
                ]),
          );
      fits = λ whole each.
          let under : FitsUnder cells m c =
          begun_fits cells i m c into.there into.in_range (drawn_fit m scope c.shapes sheets new drawn (have whole)) (each child (Contains-push lower child)) in
          let rest_fits : PicksFit cells v.map (pending cells rest) =
          subst (λ (n : Map). PicksFit cells n (pending cells rest)) into.map_is
          (each rest (contains_front lower child rest (Contains-push front rest))) in
          w.fits whole
          (λ u has.
          elim (Contains-push_cases front v u has) [
            | inl there ↦ each u (contains_front lower child u (contains_front front rest u there))
            | inr same ↦
                subst (λ (x : Visit). PicksFit cells x.map (pending cells x)) same
                (into_fits cells v i m rest into under rest_fits)
          ]);
      visits = λ u has.
          elim (Contains-push_cases lower child u has) [
            | inl there ↦
                elim (Contains-push_cases front rest u there) [
                  | inl far ↦ w.visits u (contains_front front v u far)
                  | inr same ↦
                      subst (IsVisit cells w.top) same
                      (record {
                        cell = old.cell;
                        there = ap (slice_get cells) into.cell_is ∙ old.there;
                        steps = old.steps;
                        chain =
                            subst (λ (n : Map). Chain cells w.top old.steps n old.cell) (sym into.map_is) old.chain;
                      })
                ]
            | inr same ↦
                subst (IsVisit cells w.top) same (next_visit cells w.top v i m rest old into)
          ];
      sorted = sorted_alike new sheets drawn.layers w.sorted;
      layers_are = drawn.layers ∙ w.layers_are;
      within = still_within s i m layers scope sheets new w.layers_are d w.within;
      counts = λ all listed layer.
          let own : PlainCell Rings → ℕ = own_rings_on each_ring layer in
          let weight : Visit → ℕ = visit_weight own cells in
          let long : length (rings_on layer new) ≡ length (rings_on layer sheets) + own c =
          drawn.count all (have listed) layer in
          omega (
            arith,
            w.counts all listed layer,
            long,
            sum_by_push weight front v,
            sum_by_push weight front rest,
            sum_by_push weight lower (begun i m),
            weight_into own cells v i m rest into,
            weight_begun own cells s.order i m c linked ordered into.there,
          );
    }

square_stays : (s : Square) → image_square unmoved s ≡ s
square_stays s = same_square _ _ (omega (arith, ints, clamps)) (omega (arith, ints, clamps))

-- a square that is covered under the map that moves no point
pub under_unmoved : (q : Square) (P : Square → Type 0) → Under unmoved q P ↔ P q
under_unmoved q P = (λ u. subst P (sym (square_stays u.0) ∙ u.1) u.2, λ p. (q, square_stays q, p))

fits_unmoved : FitsPoint unmoved.at
fits_unmoved = record { x_fits = search rules; y_fits = search rules }

-- the walk begins with the top drawn on empty sheets
pub walk_begins : (s : Settled) (layers : List Layer) (scope : Scope) (c : PlainCell Rings)
    (empty new : List PlainSheet) → AreLinked s.cells → IsOrder s.cells s.order → slice_get s.cells s.top ≡ Some c
    → AreSorted empty → map layer_of empty ≡ layers → ((layer : Layer) → rings_on layer empty ≡ [])
    → IsDrawn s.cells s.top unmoved scope empty new → IsWalking s layers scope new (begun s.top unmoved ∷ [])
walk_begins s layers scope c empty new linked ordered at sorted are none d =
    let cells : List (PlainCell Rings) = s.cells in
    let child : Visit = begun s.top unmoved in
    let one : d.cell ≡ c = one_answer d.there at in
    let drawn : AreDrawn unmoved scope c.shapes empty new =
    subst (λ (b : PlainCell Rings). AreDrawn unmoved scope b.shapes empty new) one d.drawn in
    let have : AllListed layers cells → HaveSheets empty c.shapes = all_there cells layers empty s.top c at are in
    let nothing : (layer : Layer) (q : Square) → SheetsCover empty layer q → ⊥ =
    λ layer q a. Any-nil (λ ring. Covers ring q) (subst (λ rs. SomeCovers rs q) (none layer) a) in
    record {
      top = c;
      is_top = at;
      covers = λ layer q counts.
          let begin = visit_begun cells layer s.top unmoved q c at in
          let part = subst (λ ls. IsOfScope ls scope layer q) (sym are) counts in
          let mine = drawn_adds layer unmoved q scope c.shapes empty new drawn part in
          let stays = under_unmoved q (CellCovers SomeCovers cells layer c) in
          let V : Visit → Type 0 = VisitCovers cells layer q in (
            λ h.
                elim (begin.0 (stays.1 h))
                [ inl own ↦ inl (mine.1 (inr own)) | inr far ↦ inr (Any-head V child [] far) ],
            λ e.
                stays.0 (elim e [
                  | inl a ↦
                      begin.1 (inl (elim (mine.0 a) [ inl x ↦ absurd (nothing layer q x) | inr own ↦ own ]))
                  | inr b ↦
                      elim (Any-uncons V child [] b)
                      [ inl far ↦ begin.1 (inr far) | inr nothing ↦ absurd (Any-nil V nothing) ]
                ]),
          );
      fits = λ whole each.
          let under : FitsUnder cells unmoved c =
          begun_fits cells s.top unmoved c at fits_unmoved (drawn_fit unmoved scope c.shapes empty new drawn (have whole)) (each child (0, omega arith, refl)) in
          λ n m e chain. under n m e chain m (λ p. sym (image-unmoved (image m p)));
      visits = λ u has. only child u has (λ v. IsVisit cells c v) (top_visit s c at);
      sorted = sorted_alike new empty drawn.layers sorted;
      layers_are = drawn.layers ∙ are;
      within =
          still_within s s.top unmoved layers scope empty new are d (λ layer q a. absurd (nothing layer q a));
      counts = λ all listed layer.
          let own : PlainCell Rings → ℕ = own_rings_on each_ring layer in
          let weight : Visit → ℕ = visit_weight own cells in
          let long : length (rings_on layer new) ≡ length (rings_on layer empty) + own c =
          drawn.count all (have listed) layer in
          let single : sum_by weight (child ∷ []) ≡ weight child = omega arith in
          omega (
            arith,
            long,
            ap length (none layer),
            single,
            weight_begun own cells s.order s.top unmoved c linked ordered at,
          );
    }
