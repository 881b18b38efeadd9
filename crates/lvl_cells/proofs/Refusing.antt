-- A library with a fault isn't sound, or places too much.
use Rattle.std.proofs.Common.{◌≡◌, ℕ, ◌<◌, ◌≤◌, List, [], ◌∷◌, ◌++◌, map, length, Option, Some, None, All, Contains}
use Rattle.std.proofs.Common.{refl, sym, ap, ◌∙◌, subst, arith}
use Rattle.std.specs.List.{slice_get, IsDistinct}
use Rattle.std.specs.Str.{bytes_eq}
use Rattle.std.proofs.lemmas.List.Elements.{All-head, All-tail, All-weaker, All-contains}
use Rattle.std.proofs.lemmas.Option.{slice_get_within}
use Rattle.lvl_grid.specs.Winding.{last_or, path_edges, edges}
use Rattle.lvl_cells.specs.Cells.{PlainCell, Rings, each_ring, names}
use Rattle.lvl_profile.specs.declared.limits.Limits.{Limits}
use Rattle.lvl_cells.specs.Chains.{chains, placed_rings}
use Rattle.lvl_cells.specs.Soundness.{links, AreLinked, IsRanked, IsTop}
use Rattle.lvl_cells.specs.Faults.{IsFaultOf, IsFirstRepeat, IsFirstMissing, IsCycle, IsSoundWith}
use Rattle.lvl_cells.specs.Checks.{PlacesFew}
use Rattle.lvl_cells.specs.declared.fault.CellFault.{CellFault}
use Rattle.lvl_cells.specs.declared.fault.CellFault.TheVariants.{NoCell, DuplicateCell, MissingCell, Cycle, TopMissing}
use Rattle.lvl_cells.specs.declared.fault.CellFault.TheVariants.{ManyTops, TooManyPlacements, TooManyRings}
use Rattle.lvl_names.proofs.Elements.{at_contains, contains_at}
use Rattle.lvl_cells.proofs.Arcs.{once_named}
use Rattle.lvl_cells.proofs.Orders.{names_long}
use Rattle.lvl_cells.proofs.Sequences.{one_answer, item_there, slice_get-front}

slice_get-later : {X : Type 0} (xs : List X) (y : X) (ys : List X) → slice_get (xs ++ y ∷ ys) (length xs) ≡ Some y
slice_get-later [] y ys = refl
slice_get-later (x ∷ xs) y ys = slice_get-later xs y ys

not_repeated : (all : List (List ℕ)) (name : List ℕ) → IsDistinct bytes_eq all → IsFirstRepeat all name → ⊥
not_repeated all name d r =
    let at = at_contains r.before name r.repeated in
    let first : slice_get all at.0 ≡ Some name =
    subst (λ (l : List (List ℕ)). slice_get l at.0 ≡ Some name) (sym r.there)
    (slice_get-front r.before (name ∷ r.after) at.0 name at.1) in
    let again : slice_get all (length r.before) ≡ Some name =
    subst (λ (l : List (List ℕ)). slice_get l (length r.before) ≡ Some name) (sym r.there)
    (slice_get-later r.before name r.after) in
    absurd (omega (
      arith,
      once_named all at.0 (length r.before) name d first again,
      slice_get_within r.before at.0 name at.1,
    ))

not_missing : (cells : List (PlainCell Rings)) (from name : List ℕ) → AreLinked cells → IsFirstMissing cells from name
    → ⊥
not_missing cells from name l m =
    let link : List ℕ × List ℕ = (from, name) in
    let at : slice_get (links cells) (length m.before) ≡ Some link =
    subst (λ (t : List (List ℕ × List ℕ)). slice_get t (length m.before) ≡ Some link) (sym m.there)
    (slice_get-later m.before link m.after) in
    m.missing (All-contains (λ (p : List ℕ × List ℕ). Contains (names cells) p.1) (links cells) link l.named
    (contains_at (links cells) (length m.before) link at))

falls_along : (rank : List ℕ → ℕ) (d : List ℕ) (xs : List (List ℕ))
    → All (λ (e : List ℕ × List ℕ). rank e.1 < rank e.0) (path_edges d xs) → rank (last_or d xs) ≤ rank d
falls_along rank d [] h = omega arith
falls_along rank d (x ∷ xs) h =
    let falls : (List ℕ × List ℕ) → Type 0 = λ e. rank e.1 < rank e.0 in
    let step : rank x < rank d = All-head falls (d, x) (path_edges x xs) h in
    omega (arith, step, falls_along rank x xs (All-tail falls (d, x) (path_edges x xs) h))

-- no rank decreases all the way round a cycle
not_round : (rank : List ℕ → ℕ) (p : List ℕ) (ps : List (List ℕ))
    → All (λ (e : List ℕ × List ℕ). rank e.1 < rank e.0) (edges (p ∷ ps)) → ⊥
not_round rank p ps h =
    let falls : (List ℕ × List ℕ) → Type 0 = λ e. rank e.1 < rank e.0 in
    let d : List ℕ = last_or p ps in
    let step : rank p < rank d = All-head falls (d, p) (path_edges p ps) h in
    absurd (omega (arith, step, falls_along rank p ps (All-tail falls (d, p) (path_edges p ps) h)))

not_cyclic : (cells : List (PlainCell Rings)) (round : List (List ℕ)) → IsRanked cells → IsCycle cells round → ⊥
not_cyclic cells [] r c = c.some refl
not_cyclic cells (p ∷ ps) r c =
    let rank = r.0 in
    not_round rank p ps (All-weaker {X = List ℕ × List ℕ} (λ (e : List ℕ × List ℕ). Contains (links cells) e)
    (λ (e : List ℕ × List ℕ). rank e.1 < rank e.0)
    (λ e there. All-contains (λ (q : List ℕ × List ℕ). rank q.1 < rank q.0) (links cells) e r.1 there)
    (edges (p ∷ ps)) c.linked)

-- a library has only one top
pub top_once : (cells : List (PlainCell Rings)) (given : Option (List ℕ)) (i j : ℕ) → AreLinked cells
    → IsTop cells given i → IsTop cells given j → i ≡ j
top_once cells (Some name) i j l h g = once_named (names cells) i j name l.distinct h g
top_once cells None i j l h g =
    let at = item_there (names cells) i (omega (arith, h.0, names_long cells)) in
    (g.1 i at.0 at.1).0 ((h.1 i at.0 at.1).1 refl)

same_cell : (cells : List (PlainCell Rings)) (given : Option (List ℕ)) (P Q : PlainCell Rings → Type 0)
    (v : IsSoundWith cells given P) (w : IsSoundWith cells given Q) → v.cell ≡ w.cell
same_cell cells given P Q v w =
    let place : v.index ≡ w.index = top_once cells given v.index w.index v.sound.linked v.sound.is_top w.sound.is_top in
    one_answer v.is (subst (λ n. slice_get cells n ≡ Some w.cell) (sym place) w.is)

-- a library with the fault isn't sound, or places too much
pub refused : (limits : Limits) (cells : List (PlainCell Rings)) (given : Option (List ℕ)) (f : CellFault) → IsFaultOf limits cells given f
    → IsSoundWith cells given (PlacesFew limits cells) → ⊥
refused limits cells given NoCell h w =
    let none : slice_get cells w.index ≡ None = ap (λ (l : List (PlainCell Rings)). slice_get l w.index) h in
    let s : Some w.cell ≡ None = sym w.is ∙ none in cc
refused limits cells given (DuplicateCell name) h w = not_repeated (names cells) name.items w.sound.linked.distinct h
refused limits cells given (MissingCell from name) h w = not_missing cells from.items name.items w.sound.linked h.1
refused limits cells given (Cycle round) h w = not_cyclic cells (map (λ name. name.items) round.items) w.sound.ranked h.1
refused limits cells given TopMissing h w =
    let top : IsTop cells (Some h.3.0) w.index =
    subst (λ (o : Option (List ℕ)). IsTop cells o w.index) h.3.1 w.sound.is_top in
    h.3.2 (contains_at (names cells) w.index h.3.0 top)
refused limits cells given ManyTops h w =
    let two = h.3 in
    let top : IsTop cells None w.index = subst (λ (o : Option (List ℕ)). IsTop cells o w.index) h.2 w.sound.is_top in
    let a : two.first ≡ w.index = (top.1 two.first two.first_name two.first_is).0 two.first_free in
    let b : two.second ≡ w.index = (top.1 two.second two.second_name two.second_is).0 two.second_free in
    absurd (omega (arith, a, b, two.apart))
refused limits cells given TooManyPlacements h w =
    let same : h.cell ≡ w.cell = same_cell cells given (λ c. limits.placed < chains cells c) (PlacesFew limits cells) h w in
    absurd (omega (arith, h.counts, w.counts.few_chains, ap (chains cells) same))
refused limits cells given TooManyRings h w =
    let same : h.cell ≡ w.cell =
    same_cell cells given (λ c. (chains cells c ≤ limits.placed) × (limits.placed < placed_rings each_ring cells c))
    (PlacesFew limits cells) h w in
    absurd (omega (arith, h.counts.1, w.counts.few_rings, ap (placed_rings each_ring cells) same))
