-- The state of the search is kept by each move.
use Rattle.std.proofs.Common.{◌≡◌, ◌<◌, ◌≤◌, ◌+◌, ◌-◌, ◌++◌, ℕ, zero, suc, List, [], ◌∷◌, length, drop, take}
use Rattle.std.proofs.Common.{slice_get, Some, IsSomeAnd}
use Rattle.std.proofs.Common.{Any, Contains, ◌⊎◌, inl, inr, refl, sym, ap, append_assoc, subst, ◌∙◌, arith}
use Rattle.std.proofs.lemmas.Bool.{cases_order}
use Rattle.std.proofs.lemmas.List.{append-nil, drop-append-le, length-append, length-take}
use Rattle.std.proofs.Math.Seq.{drop-append_seam}
use Rattle.std.proofs.lemmas.Option.{slice_get_within}
use Rattle.lvl_grid.specs.declared.point.Square.{Square}
use Rattle.lvl_grid.specs.declared.map.Map.{Map}
use Rattle.lvl_grid.specs.Turn.{image_square}
use Rattle.lvl_grid.specs.Winding.{SomeCovers}
use Rattle.lvl_grid.proofs.Anyone.{Any-nil, Any-left, Any-right, Any-sides, Any-head, Any-tail, Any-uncons}
use Rattle.lvl_names.specs.declared.layer.Layer.{Layer}
use Rattle.lvl_cells.specs.Cells.{PlainCell, Rings}
use Rattle.lvl_cells.specs.Chains.{unmoved}
use Rattle.lvl_cells.specs.Checks.{IsChecked, Settled}
use Rattle.lvl_cells.proofs.Sequences.{item_there, one_answer, slice_get-front}
use Rattle.lvl_cells.specs.Coverage.{CellCovers}
use Rattle.lvl_flat.specs.Flattened.{CoversAt}
use Rattle.lvl_flat.specs.inside.Visits.{PickCovers}
use Rattle.lvl_flat.proofs.Covering.{some_is}
use Rattle.lvl_witness.specs.declared.frame.Frame.{Frame}
use Rattle.lvl_witness.specs.declared.witness.Step.{Step}
use Rattle.lvl_witness.specs.Witnesses.{Leads, LeadsOn}
use Rattle.lvl_witness.specs.inside.Moves.{begun, pending, FrameCovers, IsPast, Enters, IsReached}
use Rattle.lvl_witness.specs.inside.Known.{AreEmpty}
use Rattle.lvl_witness.specs.inside.Searching.{HasNoRing, IsLeft, IsPlaced, IsSearch, PlacedCovers}
use Rattle.lvl_witness.proofs.Covering.{covers_entered}
use Rattle.lvl_witness.proofs.Leading.{leads_alike, leads_chain}

-- the last frames are replaced by others that cover as much
pub left_after : (cells : List (PlainCell Rings)) (layers : List Layer) (q : Square) (front old new : List Frame)
    (k : ℕ) (m : Map) (c : PlainCell Rings) → k ≤ length front → IsLeft cells layers q (front ++ old) k m c
    → ((layer : Layer) → Contains layers layer → Any (FrameCovers cells layer q) old
    → Any (FrameCovers cells layer q) new)
    → IsLeft cells layers q (front ++ new) k m c
left_after cells layers q front old new k m c on before goes = record {
  left = λ layer listed covers.
      let P : Frame → Type 0 = FrameCovers cells layer q in
      let a : Any P (drop k front ++ old) =
      subst (Any P) (drop-append-le k front old on) (before.left layer listed covers) in
      subst (Any P) (sym (drop-append-le k front new on))
      (elim (Any-sides P (drop k front) old a) [
        | inl far ↦ Any-left P (drop k front) new far
        | inr near ↦ Any-right P (drop k front) new (goes layer listed near)
      ]);
}

-- and so is what is known of a frame before them
pub placed_after : (cells : List (PlainCell Rings)) (layers : List Layer) (q : Square) (top : PlainCell Rings)
    (front old new : List Frame) (steps others : List Step) (k : ℕ) (f g : Frame) → k ≤ length front
    → ((j : ℕ) → j < k → slice_get steps j ≡ slice_get others j) → g.cell ≡ f.cell → g.map ≡ f.map
    → IsPlaced cells layers q top (front ++ old) steps k f
    → ((layer : Layer) → Contains layers layer → Any (FrameCovers cells layer q) old
    → Any (FrameCovers cells layer q) new)
    → IsPlaced cells layers q top (front ++ new) others k g
placed_after cells layers q top front old new steps others k f g on same cell map before goes = record {
  cell = before.cell;
  there = ap (slice_get cells) cell ∙ before.there;
  leads =
      subst (λ (m : Map). Leads cells top others k m before.cell) (sym map)
      (leads_alike cells top steps others k f.map before.cell same before.leads);
  left =
      subst (λ (m : Map). IsLeft cells layers q (front ++ new) k m before.cell) (sym map)
      (left_after cells layers q front old new k f.map before.cell on before.left goes);
}

-- an item of a list, or one that is added
at_front : {X : Type 0} (xs ys : List X) (k : ℕ) (x : X) → k < length xs → slice_get (xs ++ ys) k ≡ Some x
    → slice_get xs k ≡ Some x
at_front xs ys k x below at =
    let there = item_there xs k below in
    there.1 ∙ ap Some (one_answer (slice_get-front xs ys k there.0 there.1) at)

pub at_end : {X : Type 0} (xs : List X) (y : X) → slice_get (xs ++ y ∷ []) (length xs) ≡ Some y
at_end [] y = refl
at_end (x ∷ xs) y = at_end xs y

pub at_push : {X : Type 0} (xs : List X) (y : X) (k : ℕ) (x : X) → slice_get (xs ++ y ∷ []) k ≡ Some x
    → ((k < length xs) × (slice_get xs k ≡ Some x)) ⊎ ((k ≡ length xs) × (y ≡ x))
at_push xs y k x at =
    let long : length (xs ++ y ∷ []) ≡ length xs + 1 = length-append xs (y ∷ []) in
    elim (cases_order k (length xs)) [
      | inl same ↦ inr (same, one_answer (at_end xs y) (subst (λ n. slice_get (xs ++ y ∷ []) n ≡ Some x) same at))
      | inr apart ↦
          elim apart [
            | inl below ↦ inl (below, at_front xs (y ∷ []) k x below at)
            | inr past ↦ absurd (omega (arith, past, long, slice_get_within (xs ++ y ∷ []) k x at))
          ]
    ]

front_same : {X : Type 0} (xs ys : List X) (k : ℕ) → k < length xs → slice_get xs k ≡ slice_get (xs ++ ys) k
front_same xs ys k below =
    let there = item_there xs k below in there.1 ∙ sym (slice_get-front xs ys k there.0 there.1)

take_same : {X : Type 0} (n : ℕ) (xs : List X) (k : ℕ) → k < n → slice_get xs k ≡ slice_get (take n xs) k
take_same zero xs k below = absurd (omega arith)
take_same (suc n) [] k below = refl
take_same (suc n) (x ∷ xs) zero below = refl
take_same (suc n) (x ∷ xs) (suc k) below = take_same n xs k (omega (arith, below))

-- there are as many steps as frames before the last
depth_is : (s : Settled) (layers : List Layer) (q : Square) (front : List Frame) (f : Frame) (steps : List Step)
    → IsSearch s layers q (front ++ f ∷ []) steps → length steps ≡ length front
depth_is s layers q front f steps w = omega (arith, w.depth, length-append front (f ∷ []))

-- the last frame ends
pub search_out : (s : Settled) (layers : List Layer) (q : Square) (front : List Frame) (f : Frame)
    (steps : List Step) → IsSearch s layers q (front ++ f ∷ []) steps → pending s.cells f ≡ []
    → IsSearch s layers q front (take (length steps - 1) steps)
search_out s layers q front f steps w none =
    let cells : List (PlainCell Rings) = s.cells in
    let depth : length steps ≡ length front = depth_is s layers q front f steps w in
    let goes : (layer : Layer) → Contains layers layer → Any (FrameCovers cells layer q) (f ∷ [])
    → Any (FrameCovers cells layer q) [] =
    λ layer listed a.
    elim (Any-uncons (FrameCovers cells layer q) f [] a) [
      | inl u ↦
          absurd (Any-nil (PickCovers cells layer u.0) (subst (Any (PickCovers cells layer u.0)) none u.2))
      | inr nothing ↦ nothing
    ] in
    let fewer : List Step = take (length steps - 1) steps in
    record {
      checked = w.checked;
      top = w.top;
      is_top = w.is_top;
      depth = omega (arith, depth, length-take (length steps - 1) steps);
      left =
          subst (λ fs. IsLeft cells layers q fs 0 unmoved w.top) (append-nil front)
          (left_after cells layers q front (f ∷ []) [] 0 unmoved w.top (omega arith) w.left goes);
      placed = λ k g at.
          let below : k < length front = slice_get_within front k g at in
          subst (λ fs. IsPlaced cells layers q w.top fs fewer k g) (append-nil front)
          (placed_after cells layers q w.top front (f ∷ []) [] steps fewer k g g (omega (arith, below))
          (λ j less. take_same (length steps - 1) steps j (omega (arith, less, below, depth))) refl refl
          (w.placed k g (slice_get-front front (f ∷ []) k g at)) goes);
    }

-- the last frame goes on, and covers no less
pub search_on : (s : Settled) (layers : List Layer) (q : Square) (front : List Frame) (f rest : Frame)
    (steps : List Step) → IsSearch s layers q (front ++ f ∷ []) steps → rest.cell ≡ f.cell → rest.map ≡ f.map
    → ((layer : Layer) → Contains layers layer → FrameCovers s.cells layer q f → FrameCovers s.cells layer q rest)
    → IsSearch s layers q (front ++ rest ∷ []) steps
search_on s layers q front f rest steps w cell map covers =
    let cells : List (PlainCell Rings) = s.cells in
    let goes : (layer : Layer) → Contains layers layer → Any (FrameCovers cells layer q) (f ∷ [])
    → Any (FrameCovers cells layer q) (rest ∷ []) =
    λ layer listed a.
    let P : Frame → Type 0 = FrameCovers cells layer q in
    elim (Any-uncons P f [] a)
    [ inl u ↦ Any-head P rest [] (covers layer listed u) | inr nothing ↦ absurd (Any-nil P nothing) ] in
    record {
      checked = w.checked;
      top = w.top;
      is_top = w.is_top;
      depth =
          omega (
            arith,
            depth_is s layers q front f steps w,
            length-append front (rest ∷ []),
          );
      left = left_after cells layers q front (f ∷ []) (rest ∷ []) 0 unmoved w.top (omega arith) w.left goes;
      placed = λ k g at.
          elim (at_push front rest k g at) [
            | inl there ↦
                placed_after cells layers q w.top front (f ∷ []) (rest ∷ []) steps steps k g g
                (omega (arith, there.0)) (λ j less. refl) refl refl
                (w.placed k g (slice_get-front front (f ∷ []) k g there.1)) goes
            | inr last ↦
                let on : k ≤ length front = omega (arith, last.0) in
                let at_f : slice_get (front ++ f ∷ []) k ≡ Some f =
                subst (λ n. slice_get (front ++ f ∷ []) n ≡ Some f) (sym last.0) (at_end front f) in
                subst (IsPlaced cells layers q w.top (front ++ rest ∷ []) steps k) last.1
                (placed_after cells layers q w.top front (f ∷ []) (rest ∷ []) steps steps k f rest on (λ j less. refl)
                cell map (w.placed k f at_f) goes)
          ];
    }

-- it goes on with the next reference
pub search_past : (s : Settled) (layers : List Layer) (q : Square) (front : List Frame) (f rest : Frame)
    (steps : List Step) → IsSearch s layers q (front ++ f ∷ []) steps → IsPast s.cells q f rest
    → IsSearch s layers q (front ++ rest ∷ []) steps
search_past s layers q front f rest steps w past =
    search_on s layers q front f rest steps w past.cell_is past.map_is (λ layer listed u. past.covers layer u)

-- or it would enter a cell that is known not to cover the square
pub search_known : (s : Settled) (layers : List Layer) (q : Square) (front : List Frame) (f : Frame)
    (steps : List Step) (step : Step) (m : Map) (rest : Frame) → IsSearch s layers q (front ++ f ∷ []) steps
    → (e : Enters s.cells q f step m rest)
    → ((layer : Layer) → Contains layers layer → ¬ PlacedCovers s.cells layer q m e.next)
    → IsSearch s layers q (front ++ rest ∷ []) steps
search_known s layers q front f steps step m rest w e none =
    search_on s layers q front f rest steps w (ap (λ (x : Frame). x.cell) e.rest_is)
    (ap (λ (x : Frame). x.map) e.rest_is)
    (λ layer listed u.
    elim (covers_entered s.cells layer q f step m rest e u)
    [ inl below ↦ absurd (none layer listed below) | inr later ↦ later ])

-- a frame that ends is of a cell that doesn't cover the square
pub last_empty : (s : Settled) (layers : List Layer) (q t : Square) (front : List Frame) (f : Frame)
    (steps : List Step) → IsSearch s layers q (front ++ f ∷ []) steps → pending s.cells f ≡ []
    → image_square f.map t ≡ q → (layer : Layer) → Contains layers layer → CoversAt s.cells f.cell layer t → ⊥
last_empty s layers q t front f steps w none place layer listed covers =
    let cells : List (PlainCell Rings) = s.cells in
    let last = w.placed (length front) f (at_end front f) in
    let found = some_is (λ c. CellCovers SomeCovers cells layer c t) (slice_get cells f.cell) covers in
    let of_cell : CellCovers SomeCovers cells layer last.cell t =
    subst (λ c. CellCovers SomeCovers cells layer c t) (one_answer found.1 last.there) found.2 in
    let P : Frame → Type 0 = FrameCovers cells layer q in
    let a : Any P (f ∷ []) =
    subst (Any P) (drop-append_seam front (f ∷ [])) (last.left.left layer listed (t, place, of_cell)) in
    elim (Any-uncons P f [] a) [
      | inl u ↦ Any-nil (PickCovers cells layer u.0) (subst (Any (PickCovers cells layer u.0)) none u.2)
      | inr nothing ↦ Any-nil P nothing
    ]

-- the steps lead to the cell that the last frame enters
pub leads_into : (s : Settled) (layers : List Layer) (q : Square) (front : List Frame) (f : Frame) (steps : List Step)
    (step : Step) (m : Map) (rest : Frame) → (w : IsSearch s layers q (front ++ f ∷ []) steps)
    → (e : Enters s.cells q f step m rest) → Leads s.cells w.top (steps ++ step ∷ []) (suc (length steps)) m e.next
leads_into s layers q front f steps step m rest w e =
    let cells : List (PlainCell Rings) = s.cells in
    let more : List Step = steps ++ step ∷ [] in
    let before = w.placed (length front) f (at_end front f) in
    let of_cell : before.cell ≡ e.cell = one_answer before.there e.there in (
      f.map,
      e.cell,
      leads_alike cells w.top steps more (length steps) f.map e.cell
          (λ j less. front_same steps (step ∷ []) j less)
          (subst (Leads cells w.top steps (length steps) f.map) of_cell
          (subst (λ n. Leads cells w.top steps n f.map before.cell) (sym (depth_is s layers q front f steps w))
          before.leads)),
      subst (λ o. IsSomeAnd o (LeadsOn cells f.map e.cell m e.next)) (sym (at_end steps step)) e.leads,
    )

-- the last frame enters a cell whose own shapes don't cover the square
pub search_into : (s : Settled) (layers : List Layer) (q : Square) (front : List Frame) (f : Frame) (steps : List Step)
    (step : Step) (m : Map) (rest : Frame) → IsSearch s layers q (front ++ f ∷ []) steps
    → (e : Enters s.cells q f step m rest)
    → HasNoRing s.cells step.cell m layers q
    → IsSearch s layers q ((front ++ rest ∷ []) ++ begun step.cell m ∷ []) (steps ++ step ∷ [])
search_into s layers q front f steps step m rest w e own =
    let cells : List (PlainCell Rings) = s.cells in
    let child : Frame = begun step.cell m in
    let lower : List Frame = front ++ rest ∷ [] in
    let more : List Step = steps ++ step ∷ [] in
    let depth : length steps ≡ length front = depth_is s layers q front f steps w in
    let whole : lower ++ child ∷ [] ≡ front ++ rest ∷ child ∷ [] = append_assoc front (rest ∷ []) (child ∷ []) in
    let goes : (layer : Layer) → Contains layers layer → Any (FrameCovers cells layer q) (f ∷ [])
    → Any (FrameCovers cells layer q) (rest ∷ child ∷ []) =
    λ layer listed a.
    let P : Frame → Type 0 = FrameCovers cells layer q in
    elim (Any-uncons P f [] a) [
      | inl u ↦
          elim (covers_entered cells layer q f step m rest e u) [
            | inl below ↦ Any-tail P rest (child ∷ []) (Any-head P child []
                (own layer e.next listed e.leads.cell_is below))
            | inr later ↦ Any-head P rest (child ∷ []) later
          ]
      | inr nothing ↦ absurd (Any-nil P nothing)
    ] in
    let kept : (j k : ℕ) → j < k → k ≤ length front → slice_get steps j ≡ slice_get more j =
    λ j k less on. front_same steps (step ∷ []) j (omega (arith, less, on, depth)) in
    let leads : Leads cells w.top more (suc (length steps)) m e.next =
    leads_into s layers q front f steps step m rest w e in
    record {
      checked = w.checked;
      top = w.top;
      is_top = w.is_top;
      depth =
          omega (
            arith,
            depth,
            length-append steps (step ∷ []),
            length-append front (rest ∷ []),
            length-append lower (child ∷ []),
          );
      left =
          subst (λ fs. IsLeft cells layers q fs 0 unmoved w.top) (sym whole)
          (left_after cells layers q front (f ∷ []) (rest ∷ child ∷ []) 0 unmoved w.top (omega arith) w.left goes);
      placed = λ k g at.
          elim (at_push lower child k g at) [
            | inl there ↦
                elim (at_push front rest k g there.1) [
                  | inl far ↦
                      subst (λ fs. IsPlaced cells layers q w.top fs more k g) (sym whole)
                      (placed_after cells layers q w.top front (f ∷ []) (rest ∷ child ∷ []) steps more k g g
                      (omega (arith, far.0)) (λ j less. kept j k less (omega (arith, far.0))) refl refl
                      (w.placed k g (slice_get-front front (f ∷ []) k g far.1)) goes)
                  | inr last ↦
                      let on : k ≤ length front = omega (arith, last.0) in
                      let at_f : slice_get (front ++ f ∷ []) k ≡ Some f =
                      subst (λ n. slice_get (front ++ f ∷ []) n ≡ Some f) (sym last.0) (at_end front f) in
                      subst (λ fs. IsPlaced cells layers q w.top fs more k g) (sym whole)
                      (subst (IsPlaced cells layers q w.top (front ++ rest ∷ child ∷ []) more k) last.1
                      (placed_after cells layers q w.top front (f ∷ []) (rest ∷ child ∷ []) steps more k f rest on
                      (λ j less. kept j k less on) (ap (λ (x : Frame). x.cell) e.rest_is)
                      (ap (λ (x : Frame). x.map) e.rest_is) (w.placed k f at_f) goes))
                ]
            | inr last ↦
                let size : k ≡ suc (length steps) = omega (arith, last.0, depth, length-append front (rest ∷ [])) in
                subst (IsPlaced cells layers q w.top (lower ++ child ∷ []) more k) last.1
                (record {
                  cell = e.next;
                  there = e.leads.cell_is;
                  leads = subst (λ n. Leads cells w.top more n m e.next) (sym size) leads;
                  left = record {
                    left = λ layer listed covers.
                        let P : Frame → Type 0 = FrameCovers cells layer q in
                        let rest_is : drop k (lower ++ child ∷ []) ≡ child ∷ [] =
                        ap (λ n. drop n (lower ++ child ∷ [])) last.0 ∙ drop-append_seam lower (child ∷ []) in
                        subst (Any P) (sym rest_is) (Any-head P child []
                        (own layer e.next listed e.leads.cell_is covers));
                  };
                })
          ];
    }

-- the last frame is of a cell that a chain leads to
pub last_reached : (s : Settled) (layers : List Layer) (q : Square) (front : List Frame) (f : Frame)
    (steps : List Step) → IsSearch s layers q (front ++ f ∷ []) steps → IsReached s f
last_reached s layers q front f steps w =
    let last = w.placed (length front) f (at_end front f) in
    record {
      top = w.top;
      is_top = w.is_top;
      cell = last.cell;
      there = last.there;
      steps = length front;
      chain = leads_chain s.cells w.top steps (length front) f.map last.cell last.leads;
    }

-- and so is the cell that it enters
pub entered_reached : (s : Settled) (layers : List Layer) (q : Square) (front : List Frame) (f : Frame)
    (steps : List Step) (step : Step) (m : Map) (rest : Frame) → IsSearch s layers q (front ++ f ∷ []) steps
    → Enters s.cells q f step m rest → IsReached s (begun step.cell m)
entered_reached s layers q front f steps step m rest w e = record {
  top = w.top;
  is_top = w.is_top;
  cell = e.next;
  there = e.leads.cell_is;
  steps = suc (length steps);
  chain =
      leads_chain s.cells w.top (steps ++ step ∷ []) (suc (length steps)) m e.next
      (leads_into s layers q front f steps step m rest w e);
}

-- the search begins with the top, if no own shape of it covers the square
pub search_begins : (s : Settled) (layers : List Layer) (q : Square) (top : PlainCell Rings) → IsChecked s
    → slice_get s.cells s.top ≡ Some top → HasNoRing s.cells s.top unmoved layers q
    → IsSearch s layers q (begun s.top unmoved ∷ []) []
search_begins s layers q top checked at own =
    let f : Frame = begun s.top unmoved in
    let left : IsLeft s.cells layers q (f ∷ []) 0 unmoved top =
    record {
      left = λ layer listed covers.
          Any-head (FrameCovers s.cells layer q) f [] (own layer top listed at covers);
    } in
    record {
      checked = checked;
      top = top;
      is_top = at;
      depth = refl;
      left = left;
      placed = λ k g there.
          elim (at_push [] f k g there) [
            | inl below ↦ absurd (omega (arith, below.0))
            | inr last ↦
                subst (IsPlaced s.cells layers q top (f ∷ []) [] k) last.1
                (subst (λ n. IsPlaced s.cells layers q top (f ∷ []) [] n f) (sym last.0)
                (record { cell = top; there = at; leads = (refl, refl); left = left }))
          ];
    }

-- an empty table
pub none_empty : (cells : List (PlainCell Rings)) (layers : List Layer) → AreEmpty cells layers []
none_empty cells layers = record {
  empty = λ s layer has listed. let below : has.0 < 0 = has.1 in absurd (omega arith);
}
