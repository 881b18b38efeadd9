-- The state of the walk is kept where a visit is taken off the stack, or goes on.
use Rattle.std.proofs.Common.{◌≡◌, ◌<◌, ◌≤◌, ◌+◌, ◌-◌, ◌++◌, ℕ, zero, suc, List, [], ◌∷◌, sum_by, slice_get}
use Rattle.std.proofs.Common.{Option, Some, Any, Contains, ◌↔◌, inl, inr, refl, sym, ap, append_assoc, subst, ◌∙◌, arith}
use Rattle.std.proofs.lemmas.List.{append-nil}
use Rattle.std.proofs.lemmas.List.Elements.{Contains-append_cases, Contains-append_left, Contains-append_right}
use Rattle.std.proofs.lemmas.List.Elements.{Contains-push, Contains-push_cases}
use Rattle.std.proofs.lemmas.List.Sums.{sum_by-append, sum_by-cons, sum_by_push}
use Rattle.lvl_cells.proofs.Sequences.{one_answer}
use Rattle.lvl_cells.proofs.Walks.{contains_front}
use Rattle.lvl_grid.specs.declared.point.Square.{Square}
use Rattle.lvl_grid.specs.declared.point.Window.{Window}
use Rattle.lvl_grid.specs.declared.map.Map.{Map}
use Rattle.lvl_grid.specs.Turn.{image_square}
use Rattle.lvl_grid.proofs.Anyone.{Any-nil, Any-left, Any-right, Any-sides, Any-push, Any-tail, Any-uncons}
use Rattle.lvl_names.specs.declared.layer.Layer.{Layer}
use Rattle.lvl_cells.specs.Cells.{PlainCell, Rings, each_ring, map_at, cell_named}
use Rattle.lvl_cells.specs.Chains.{Chain, IsComposed, own_rings_on}
use Rattle.lvl_cells.specs.Checks.{Settled}
use Rattle.lvl_flat.specs.declared.bounds.Bounds.{Bounds}
use Rattle.lvl_flat.specs.declared.scope.Scope.{Scope}
use Rattle.lvl_flat.specs.declared.scope.Scope.TheVariants.{Everything, Within}
use Rattle.lvl_flat.specs.declared.visit.Visit.{Visit}
use Rattle.lvl_flat.specs.Boxes.{AreBoxes}
use Rattle.lvl_flat.specs.Sheet.{PlainSheet}
use Rattle.lvl_flat.specs.inside.Bounds.{IsPlacedOutside}
use Rattle.lvl_flat.specs.inside.Entering.{IsPushed}
use Rattle.lvl_flat.specs.inside.Passing.{at_place, IsMissedAt, IsPassedBy}
use Rattle.lvl_flat.specs.inside.Scopes.{IsOfScope}
use Rattle.lvl_flat.specs.inside.Steps.{IsPast, IsInto}
use Rattle.lvl_flat.specs.inside.Visits.{Pick, pending, pick_weight, visit_weight, PickCovers, VisitCovers}
use Rattle.lvl_flat.specs.inside.Visits.{FitsUnder, PicksFit, IsVisit}
use Rattle.lvl_flat.specs.Flattened.{AllInRange}
use Rattle.lvl_flat.specs.inside.Walking.{AllListed, IsWalking}
use Rattle.lvl_flat.proofs.Outside.{outside_covers, outside_fits}
use Rattle.lvl_flat.proofs.Ranging.{fits_alike}
use Rattle.lvl_flat.proofs.Stepping.{pending_alike}
use Rattle.lvl_flat.proofs.Walking.{visit_into}

pub only : (v u : Visit) → Contains (v ∷ []) u → (P : Visit → Type 0) → P v → P u
only v u (zero, below, same) P p = subst P same p
only v u (suc k, below, same) P p = absurd (omega arith)

-- a visit without picks to follow is left out
left_out : (s : Settled) (layers : List Layer) (scope : Scope) (sheets : List PlainSheet) (front back : List Visit)
    (v : Visit) → IsWalking s layers scope sheets (front ++ v ∷ back) → pending s.cells v ≡ []
    → IsWalking s layers scope sheets (front ++ back)
left_out s layers scope sheets front back v w none = record {
  top = w.top;
  is_top = w.is_top;
  covers = λ layer q counts.
      let V : Visit → Type 0 = VisitCovers s.cells layer q in
      let both = w.covers layer q counts in (
        λ h.
            elim (both.0 h) [
              | inl a ↦ inl a
              | inr b ↦
                  inr (elim (Any-sides V front (v ∷ back) b) [
                    | inl c ↦ Any-left V front back c
                    | inr d ↦
                        elim (Any-uncons V v back d) [
                          | inl u ↦
                              absurd (Any-nil (PickCovers s.cells layer u.0)
                              (subst (Any (PickCovers s.cells layer u.0)) none u.2))
                          | inr e ↦ Any-right V front back e
                        ]
                  ])
            ],
        λ e. both.1 (elim e [
          | inl a ↦ inl a
          | inr b ↦
              inr (elim (Any-sides V front back b) [
                | inl c ↦ Any-left V front (v ∷ back) c
                | inr d ↦ Any-right V front (v ∷ back) (Any-tail V v back d)
              ])
        ]),
      );
  fits = λ whole each.
      w.fits whole
      (λ u has.
      elim (Contains-append_cases front (v ∷ back) u has) [
        | inl there ↦ each u (Contains-append_left front back u there)
        | inr later ↦
            elim (Contains-append_cases (v ∷ []) back u later) [
              | inl here ↦
                  only v u here (λ x. PicksFit s.cells x.map (pending s.cells x))
                  (λ p d m chosen named whole. absurd (let chosen' : Contains [] p =
                  subst (λ ps. Contains ps p) none chosen in
                  let below : chosen'.0 < 0 = chosen'.1 in omega arith))
              | inr after ↦ each u (Contains-append_right front back u after)
            ]
      ]);
  visits = λ u has.
      w.visits u (elim (Contains-append_cases front back u has) [
        | inl there ↦ Contains-append_left front (v ∷ back) u there
        | inr later ↦ Contains-append_right front (v ∷ back) u (Contains-append_right (v ∷ []) back u later)
      ]);
  sorted = w.sorted;
  layers_are = w.layers_are;
  within = w.within;
  counts = λ all listed layer.
      let f : Visit → ℕ = visit_weight (own_rings_on each_ring layer) s.cells in
      let nothing : f v ≡ 0 = ap (sum_by (pick_weight (own_rings_on each_ring layer) s.cells)) none in
      omega (
        arith,
        w.counts all listed layer,
        sum_by-append f front (v ∷ back),
        sum_by-append f front back,
        sum_by-cons f v back,
        nothing,
      );
}

-- it is taken off
pub walk_done : (s : Settled) (layers : List Layer) (scope : Scope) (sheets : List PlainSheet) (front : List Visit)
    (v : Visit) → IsWalking s layers scope sheets (front ++ v ∷ []) → pending s.cells v ≡ []
    → IsWalking s layers scope sheets front
walk_done s layers scope sheets front v w none =
    subst (IsWalking s layers scope sheets) (append-nil front) (left_out s layers scope sheets front [] v w none)

-- or it isn't put on the stack, below another one
pub walk_left_out : (s : Settled) (layers : List Layer) (scope : Scope) (sheets : List PlainSheet)
    (front pushed : List Visit) (v u : Visit) → IsWalking s layers scope sheets ((front ++ v ∷ []) ++ u ∷ [])
    → IsPushed s.cells front v pushed → IsWalking s layers scope sheets (pushed ++ u ∷ [])
walk_left_out s layers scope sheets front pushed v u w (inl is) =
    subst (λ vs. IsWalking s layers scope sheets (vs ++ u ∷ [])) (sym is) w
walk_left_out s layers scope sheets front pushed v u w (inr none) =
    subst (λ vs. IsWalking s layers scope sheets (vs ++ u ∷ [])) (sym none.0)
    (left_out s layers scope sheets front (u ∷ []) v
    (subst (IsWalking s layers scope sheets) (append_assoc front (v ∷ []) (u ∷ [])) w) none.1)

-- a visit is replaced by one that covers the same, if then all is still in range
pub replaced_by : (s : Settled) (layers : List Layer) (scope : Scope) (sheets : List PlainSheet)
    (front : List Visit) (v rest : Visit)
    → (w : IsWalking s layers scope sheets (front ++ v ∷ [])) → rest.map ≡ v.map → rest.cell ≡ v.cell
    → ((layer : Layer) (q : Square) → IsOfScope layers scope layer q → VisitCovers s.cells layer q v ↔ VisitCovers s.cells layer q rest)
    → (AllListed layers s.cells
    → ((u : Visit) → Contains (front ++ rest ∷ []) u → PicksFit s.cells u.map (pending s.cells u))
    → AllInRange s.cells w.top)
    → (scope ≡ Everything → (weight : PlainCell Rings → ℕ)
    → visit_weight weight s.cells v ≡ visit_weight weight s.cells rest)
    → IsWalking s layers scope sheets (front ++ rest ∷ [])
replaced_by s layers scope sheets front v rest w map_is cell_is alike fitting weigh = record {
  top = w.top;
  is_top = w.is_top;
  covers = λ layer q counts.
      let both = w.covers layer q counts in
      let old = Any-push (VisitCovers s.cells layer q) front v in
      let new = Any-push (VisitCovers s.cells layer q) front rest in
      let same = alike layer q counts in (
        λ h.
            elim (both.0 h) [
              | inl a ↦ inl a
              | inr b ↦ inr (new.1 (elim (old.0 b) [ inl c ↦ inl c | inr u ↦ inr (same.0 u) ]))
            ],
        λ e. both.1 (elim e [
          | inl a ↦ inl a
          | inr b ↦ inr (old.1 (elim (new.0 b) [ inl c ↦ inl c | inr u ↦ inr (same.1 u) ]))
        ]),
      );
  fits = fitting;
  visits = λ u has.
      elim (Contains-push_cases front rest u has) [
        | inl there ↦ w.visits u (contains_front front v u there)
        | inr same ↦
            let old = w.visits v (Contains-push front v) in
            subst (IsVisit s.cells w.top) same
            (record {
              cell = old.cell;
              there = ap (slice_get s.cells) cell_is ∙ old.there;
              steps = old.steps;
              chain = subst (λ (n : Map). Chain s.cells w.top old.steps n old.cell) (sym map_is) old.chain;
            })
      ];
  sorted = w.sorted;
  layers_are = w.layers_are;
  within = w.within;
  counts = λ all listed layer.
      let f : Visit → ℕ = visit_weight (own_rings_on each_ring layer) s.cells in
      let same : f v ≡ f rest = weigh all (own_rings_on each_ring layer) in
      omega (arith, w.counts all listed layer, sum_by_push f front v, sum_by_push f front rest, same);
}

-- a visit is replaced by one with the same picks to follow, except for some that need nothing more
replaced : (s : Settled) (layers : List Layer) (scope : Scope) (sheets : List PlainSheet)
    (front : List Visit) (v rest : Visit)
    → IsWalking s layers scope sheets (front ++ v ∷ []) → rest.map ≡ v.map → rest.cell ≡ v.cell
    → ((layer : Layer) (q : Square) → IsOfScope layers scope layer q → VisitCovers s.cells layer q v ↔ VisitCovers s.cells layer q rest)
    → (PicksFit s.cells v.map (pending s.cells rest) → PicksFit s.cells v.map (pending s.cells v))
    → (scope ≡ Everything → (weight : PlainCell Rings → ℕ)
    → visit_weight weight s.cells v ≡ visit_weight weight s.cells rest)
    → IsWalking s layers scope sheets (front ++ rest ∷ [])
replaced s layers scope sheets front v rest w map_is cell_is alike fitting weigh =
    replaced_by s layers scope sheets front v rest w map_is cell_is alike
    (λ whole each.
    w.fits whole
    (λ u has.
    elim (Contains-push_cases front v u has) [
      | inl there ↦ each u (contains_front front rest u there)
      | inr same ↦
          subst (λ (x : Visit). PicksFit s.cells x.map (pending s.cells x)) same
          (fitting (subst (λ (n : Map). PicksFit s.cells n (pending s.cells rest)) map_is
          (each rest (Contains-push front rest))))
    ])) weigh

-- a visit is replaced by one with the same picks to follow
pub walk_alike : (s : Settled) (layers : List Layer) (scope : Scope) (sheets : List PlainSheet)
    (front : List Visit) (v rest : Visit) → IsWalking s layers scope sheets (front ++ v ∷ []) → rest.map ≡ v.map
    → rest.cell ≡ v.cell → pending s.cells v ≡ pending s.cells rest → IsWalking s layers scope sheets (front ++ rest ∷ [])
walk_alike s layers scope sheets front v rest w map_is cell_is pending_is =
    replaced s layers scope sheets front v rest w map_is cell_is
    (λ layer q counts. (
      λ u. (
        u.0,
        ap (λ (n : Map). image_square n u.0) map_is ∙ u.1,
        subst (Any (PickCovers s.cells layer u.0)) pending_is u.2,
      ),
      λ u. (
        u.0,
        sym (ap (λ (n : Map). image_square n u.0) map_is) ∙ u.1,
        subst (Any (PickCovers s.cells layer u.0)) (sym pending_is) u.2,
      ),
    ))
    (λ fit. subst (λ ps. PicksFit s.cells v.map ps) (sym pending_is) fit)
    (λ all weight. ap (sum_by (pick_weight weight s.cells)) pending_is)

-- a visit goes on with the next reference
pub walk_past : (s : Settled) (layers : List Layer) (scope : Scope) (sheets : List PlainSheet)
    (front : List Visit) (v rest : Visit)
    → IsWalking s layers scope sheets (front ++ v ∷ []) → IsPast s.cells v rest → IsWalking s layers scope sheets (front ++ rest ∷ [])
walk_past s layers scope sheets front v rest w past =
    walk_alike s layers scope sheets front v rest w past.map_is past.cell_is past.pending_is

-- picks fit if the first and the rest do
picks_fit_cons : (cells : List (PlainCell Rings)) (m : Map) (p : Pick) (ps : List Pick)
    → ((d : PlainCell Rings) (x : Map) → cell_named cells p.0.cell ≡ Some d → IsComposed m (map_at p.0 p.1) x
    → FitsUnder cells x d)
    → PicksFit cells m ps → PicksFit cells m (p ∷ ps)
picks_fit_cons cells m p ps first rest q d x (zero, below, same) named whole =
    first d x (subst (λ (y : Pick). cell_named cells y.0.cell ≡ Some d) (sym same) named)
    (subst (λ (y : Pick). IsComposed m (map_at y.0 y.1) x) (sym same) whole)
picks_fit_cons cells m p ps first rest q d x (suc k, below, same) named whole =
    rest q d x (k, omega arith, same) named whole

-- the picks that a visit has still to follow fit if the next and the rest do
pub into_fits : (cells : List (PlainCell Rings)) (v : Visit) (i : ℕ) (m : Map) (rest : Visit)
    → (into : IsInto cells v i m rest) → FitsUnder cells m into.next
    → PicksFit cells v.map (pending cells rest) → PicksFit cells v.map (pending cells v)
into_fits cells v i m rest into under rest_fits =
    let first : (b : PlainCell Rings) (x : Map) → cell_named cells into.pick.0.cell ≡ Some b
    → IsComposed v.map (map_at into.pick.0 into.pick.1) x → FitsUnder cells x b =
    λ b x named whole.
    let same : into.next ≡ b = one_answer into.named named in
    subst (FitsUnder cells x) same (fits_alike cells m x into.next (λ p. whole p ∙ sym (into.placed p)) under) in
    subst (PicksFit cells v.map) (sym into.pending_is)
    (picks_fit_cons cells v.map into.pick (pending cells rest) first rest_fits)

-- a cell whose placed box is outside of the window is skipped
pub walk_missed : (s : Settled) (known : List (Option Bounds)) (layers : List Layer) (window : Window)
    (sheets : List PlainSheet) (front : List Visit) (v : Visit) (i : ℕ) (m : Map) (rest : Visit) → AreBoxes s.cells known
    → IsWalking s layers (Within window) sheets (front ++ v ∷ []) → IsInto s.cells v i m rest
    → IsPlacedOutside known i m window → IsWalking s layers (Within window) sheets (front ++ rest ∷ [])
walk_missed s known layers window sheets front v i m rest boxes w into out =
    replaced s layers (Within window) sheets front v rest w into.map_is into.cell_is
    (λ layer q part.
    let go = visit_into s.cells layer v i m rest q into in (
      λ u. elim (go.0 u) [
        | inl below ↦
            absurd (outside_covers s.cells known i m window into.next boxes into.there out layer q part.1 below)
        | inr r ↦ r
      ],
      λ r. go.1 (inr r),
    ))
    (into_fits s.cells v i m rest into (outside_fits s.cells known i m window into.next boxes into.there out))
    (λ all weight. cc)

-- and so is a run of such places
runs_on : (s : Settled) (known : List (Option Bounds)) (layers : List Layer) (window : Window)
    (sheets : List PlainSheet) (front : List Visit) (u : Visit) (place n : ℕ) → AreBoxes s.cells known
    → IsWalking s layers (Within window) sheets (front ++ at_place u place ∷ [])
    → ((k : ℕ) → place ≤ k → k < place + n → IsMissedAt s.cells known window u k)
    → IsWalking s layers (Within window) sheets (front ++ at_place u (place + n) ∷ [])
runs_on s known layers window sheets front u place zero boxes w missed =
    let none : place ≡ place + 0 = omega arith in
    subst (λ k. IsWalking s layers (Within window) sheets (front ++ at_place u k ∷ [])) none w
runs_on s known layers window sheets front u place (suc n) boxes w missed =
    let before =
    runs_on s known layers window sheets front u place n boxes w (λ k l b. missed k l (omega (arith, b))) in
    let at = missed (place + n) (omega arith) (omega arith) in
    let one : place + n + 1 ≡ place + suc n = omega arith in
    subst (λ k. IsWalking s layers (Within window) sheets (front ++ at_place u k ∷ [])) one
    (walk_missed s known layers window sheets front (at_place u (place + n)) at.index at.map
    (at_place u (place + n + 1)) boxes before at.into at.out)

pub walk_passed : (s : Settled) (known : List (Option Bounds)) (layers : List Layer) (window : Window)
    (sheets : List PlainSheet) (front : List Visit) (v u : Visit) → AreBoxes s.cells known
    → IsWalking s layers (Within window) sheets (front ++ v ∷ []) → IsPassedBy s.cells known window v u
    → IsWalking s layers (Within window) sheets (front ++ u ∷ [])
walk_passed s known layers window sheets front v u boxes w passed =
    let start : Visit = at_place u v.place in
    let same : pending s.cells v ≡ pending s.cells start =
    pending_alike s.cells start v passed.cell_is passed.reference_is refl in
    let begins : IsWalking s layers (Within window) sheets (front ++ start ∷ []) =
    walk_alike s layers (Within window) sheets front v start w passed.map_is passed.cell_is same in
    let ends : v.place + (u.place - v.place) ≡ u.place = omega (arith, passed.on) in
    subst (λ k. IsWalking s layers (Within window) sheets (front ++ at_place u k ∷ [])) ends
    (runs_on s known layers window sheets front u v.place (u.place - v.place) boxes begins
    (λ k l b. passed.missed k l (omega (arith, b, ends))))
