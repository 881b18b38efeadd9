-- Places of a reference that are skipped, since what it places there doesn't cover the square.
use Rattle.std.proofs.Common.{◌≡◌, ◌<◌, ◌≤◌, ◌+◌, ◌-◌, ℕ, zero, suc, List, [], ◌∷◌, drop, length, sum_by, slice_get}
use Rattle.std.proofs.Common.{Option, Some, None, Any, inl, inr, refl, sym, ap, subst, ◌∙◌, arith}
use Rattle.std.specs.Option.{option_map_or}
use Rattle.std.proofs.lemmas.Option.{slice_get_within, none-some}
use Rattle.std.proofs.lemmas.List.Sums.{sum_by-cons}
use Rattle.std.proofs.lemmas.Bool.{cases_order}
use Rattle.lvl_grid.specs.declared.point.Point.{Point}
use Rattle.lvl_grid.specs.declared.point.Square.{Square}
use Rattle.lvl_grid.specs.Turn.{image_square}
use Rattle.lvl_grid.proofs.Anyone.{Any-uncons}
use Rattle.lvl_names.specs.declared.layer.Layer.{Layer}
use Rattle.lvl_cells.specs.Cells.{PlainCell, PlainReference, Rings}
use Rattle.lvl_cells.proofs.Sequences.{item_there}
use Rattle.lvl_flat.specs.inside.Visits.{Pick, picks_from, pick_weight, PickCovers}
use Rattle.lvl_flat.proofs.Picks.{pick_next, pick_last, picks_past}
use Rattle.lvl_witness.specs.declared.frame.Frame.{Frame}
use Rattle.lvl_witness.specs.inside.Moves.{at_place, pending, references_left, IsPast, IsSkipped}

-- what a frame of a known cell has still to follow
pub pending_at : (cells : List (PlainCell Rings)) (f : Frame) (c : PlainCell Rings) → slice_get cells f.cell ≡ Some c
    → pending cells f ≡ picks_from (drop f.reference c.references) f.place
pending_at cells f c at =
    let of : Option (PlainCell Rings) → List Pick =
    λ o. option_map_or (λ (b : PlainCell Rings). picks_from (drop f.reference b.references) f.place) o [] in
    ap of at

pub left_at : (cells : List (PlainCell Rings)) (f : Frame) (c : PlainCell Rings) → slice_get cells f.cell ≡ Some c
    → references_left cells f ≡ length c.references - f.reference
left_at cells f c at =
    let of : Option (PlainCell Rings) → ℕ =
    λ o. option_map_or (λ (b : PlainCell Rings). length b.references - f.reference) o 0 in
    ap of at

nothing_skipped : (cells : List (PlainCell Rings)) (q : Square) (f : Frame) → IsSkipped cells q f f.place
nothing_skipped cells q f = record { on = omega arith; covers = λ layer h. h; less = λ w. omega arith }

-- past the last place there is nothing more to skip
past_skipped : (cells : List (PlainCell Rings)) (q : Square) (f : Frame) (c : PlainCell Rings) (r : PlainReference)
    → slice_get cells f.cell ≡ Some c → slice_get c.references f.reference ≡ Some r → length r.shifts ≤ f.place
    → IsSkipped cells q f (f.place + 1)
past_skipped cells q f c r at there past =
    let next : Frame = at_place f (f.place + 1) in
    let same : pending cells f ≡ pending cells next =
    pending_at cells f c at
    ∙ (pick_last c.references f.reference f.place r there past
    ∙ (sym (pick_last c.references f.reference (f.place + 1) r there (omega (arith, past)))
    ∙ sym (pending_at cells next c at))) in
    record {
      on = omega arith;
      covers = λ layer u. (u.0, u.1, subst (Any (PickCovers cells layer u.0)) same u.2);
      less = λ w. omega (arith, ap (sum_by (pick_weight w cells)) same);
    }

-- one place
one_skipped : (cells : List (PlainCell Rings)) (q : Square) (f : Frame) (c : PlainCell Rings) (r : PlainReference)
    (e : Point)
    → slice_get cells f.cell ≡ Some c → slice_get c.references f.reference ≡ Some r
    → slice_get r.shifts f.place ≡ Some e
    → ((layer : Layer) (t : Square) → image_square f.map t ≡ q → PickCovers cells layer t (r, e) → ⊥)
    → IsSkipped cells q f (f.place + 1)
one_skipped cells q f c r e at there shift none =
    let next : Frame = at_place f (f.place + 1) in
    let is : pending cells f ≡ (r, e) ∷ pending cells next =
    pending_at cells f c at
    ∙ (pick_next c.references f.reference f.place r e there shift
    ∙ ap (λ ps. (r, e) ∷ ps) (sym (pending_at cells next c at))) in
    record {
      on = omega arith;
      covers = λ layer u.
          let P : Pick → Type 0 = PickCovers cells layer u.0 in
          elim (Any-uncons P (r, e) (pending cells next) (subst (Any P) is u.2))
          [ inl here ↦ absurd (none layer u.0 u.1 here) | inr later ↦ (u.0, u.1, later) ];
      less = λ w.
          omega (
            arith,
            ap (sum_by (pick_weight w cells)) is,
            sum_by-cons (pick_weight w cells) (r, e) (pending cells next),
          );
    }

-- several places
skipped_by : (cells : List (PlainCell Rings)) (q : Square) (f : Frame) (c : PlainCell Rings) (r : PlainReference)
    (n : ℕ)
    → slice_get cells f.cell ≡ Some c → slice_get c.references f.reference ≡ Some r
    → ((layer : Layer) (t : Square) (k : ℕ) (e : Point) → image_square f.map t ≡ q → f.place ≤ k → k < f.place + n
    → slice_get r.shifts k ≡ Some e → PickCovers cells layer t (r, e) → ⊥)
    → IsSkipped cells q f (f.place + n)
skipped_by cells q f c r zero at there none =
    let same : f.place ≡ f.place + 0 = omega arith in subst (IsSkipped cells q f) same (nothing_skipped cells q f)
skipped_by cells q f c r (suc n) at there none =
    let before : IsSkipped cells q f (f.place + n) =
    skipped_by cells q f c r n at there
    (λ layer t k e place on below. none layer t k e place on (omega (arith, below))) in
    let u : Frame = at_place f (f.place + n) in
    let further : IsSkipped cells q u (f.place + n + 1) =
    elim (cases_order (length r.shifts) (f.place + n)) [
      | inl same ↦ past_skipped cells q u c r at there (omega (arith, same))
      | inr apart ↦
          elim apart [
            | inl past ↦ past_skipped cells q u c r at there (omega (arith, past))
            | inr inside ↦
                let shift = item_there r.shifts (f.place + n) inside in
                one_skipped cells q u c r shift.0 at there shift.1
                (λ layer t place. none layer t (f.place + n) shift.0 place (omega arith) (omega arith) shift.1)
          ]
    ] in
    let one : f.place + n + 1 ≡ f.place + suc n = omega arith in
    subst (IsSkipped cells q f) one
    (record {
      on = omega (arith, before.on);
      covers = λ layer h. further.covers layer (before.covers layer h);
      less = λ w. omega (arith, before.less w, further.less w);
    })

pub places_skipped : (cells : List (PlainCell Rings)) (q : Square) (f : Frame) (c : PlainCell Rings)
    (r : PlainReference) (to : ℕ)
    → slice_get cells f.cell ≡ Some c → slice_get c.references f.reference ≡ Some r → f.place ≤ to
    → ((layer : Layer) (t : Square) (k : ℕ) (e : Point) → image_square f.map t ≡ q → f.place ≤ k → k < to
    → slice_get r.shifts k ≡ Some e → PickCovers cells layer t (r, e) → ⊥)
    → IsSkipped cells q f to
places_skipped cells q f c r to at there on none =
    let ends : f.place + (to - f.place) ≡ to = omega (arith, on) in
    subst (IsSkipped cells q f) ends
    (skipped_by cells q f c r (to - f.place) at there
    (λ layer t k e place from below. none layer t k e place from (omega (arith, below, ends))))

-- no reference is left
pub none_left : (cells : List (PlainCell Rings)) (f : Frame) (c : PlainCell Rings) → slice_get cells f.cell ≡ Some c
    → length c.references ≤ f.reference → pending cells f ≡ []
none_left cells f c at past = pending_at cells f c at ∙ picks_past c.references f.reference f.place past

-- all places of the reference are skipped
pub goes_past : (cells : List (PlainCell Rings)) (q : Square) (f : Frame) (c : PlainCell Rings) (r : PlainReference)
    (to : ℕ) → slice_get cells f.cell ≡ Some c → slice_get c.references f.reference ≡ Some r → length r.shifts ≤ to
    → IsSkipped cells q f to
    → IsPast cells q f (record { cell = f.cell; map = f.map; reference = f.reference + 1; place = 0 })
goes_past cells q f c r to at there past skipped =
    let last : Frame = at_place f to in
    let rest : Frame = record { cell = f.cell; map = f.map; reference = f.reference + 1; place = 0 } in
    let same : pending cells last ≡ pending cells rest =
    pending_at cells last c at
    ∙ (pick_last c.references f.reference to r there past ∙ sym (pending_at cells rest c at)) in
    record {
      cell_is = refl;
      map_is = refl;
      covers = λ layer h.
          let u = skipped.covers layer h in (u.0, u.1, subst (Any (PickCovers cells layer u.0)) same u.2);
      less = λ w. omega (arith, skipped.less w, ap (sum_by (pick_weight w cells)) same);
      fewer =
          omega (
            arith,
            left_at cells f c at,
            left_at cells rest c at,
            slice_get_within c.references f.reference r there,
          );
    }

-- where there is no item, the list is at an end
pub past_end : {X : Type 0} (xs : List X) (k : ℕ) → slice_get xs k ≡ None → length xs ≤ k
past_end xs k none =
    elim (cases_order (length xs) k) [
      | inl same ↦ omega (arith, same)
      | inr apart ↦
          elim apart [
            | inl past ↦ omega (arith, past)
            | inr inside ↦ let some = item_there xs k inside in absurd (none-some some.0 (sym none ∙ some.1))
          ]
    ]
