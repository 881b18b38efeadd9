-- What a walk over all cells leads to: a round of references, or an order of the cells.
use Rattle.std.proofs.Common.{◌≡◌, ℕ, zero, suc, ◌+◌, ◌-◌, ◌<◌, List, [], ◌∷◌, map, drop, reverse, replicate, length}
use Rattle.std.proofs.Common.{get_or, Option, Some, Contains, length-drop, sym, ap, ◌∙◌, subst, arith}
use Rattle.std.specs.List.{slice_get, IsDistinct}
use Rattle.std.specs.Bool.{nat_eq}
use Rattle.std.specs.Option.{option_map}
use Rattle.std.proofs.lemmas.Map.Keys.{IsDistinct-tail}
use Rattle.std.proofs.lemmas.List.{drop-map, get_or-reverse, length-replicate, get_or-replicate}
use Rattle.std.proofs.lemmas.Option.{slice_get-map, slice_get_within, slice_get-get_or, get_or_from_slice_get}
use Rattle.std.proofs.Math.ListN.{length-map, length-reverse}
use Rattle.lvl_cells.specs.declared.walk.Visit.{Visit}
use Rattle.lvl_cells.specs.declared.walk.Mark.{Mark}
use Rattle.lvl_cells.specs.declared.walk.Mark.TheVariants.{New, Open, Done}
use Rattle.lvl_cells.specs.Cells.{PlainCell, Rings, names}
use Rattle.lvl_cells.specs.Soundness.{links, AreLinked, IsOrder}
use Rattle.lvl_cells.specs.inside.Steps.{AreAllTargets}
use Rattle.lvl_cells.specs.inside.Walking.{IsArc, IsWalk, EachTargetWithin, LeadsBack}
use Rattle.lvl_cells.specs.inside.Rounding.{visited_name, IsFrom, IsRoundOf}
use Rattle.lvl_names.proofs.Elements.{contains_at}
use Rattle.lvl_cells.proofs.Arcs.{once_numbered, row_of, reference_in_row, arc_from_link, link_from_arc}
use Rattle.lvl_cells.proofs.Rounds.{name_there}
use Rattle.lvl_cells.proofs.Walks.{none_open}
use Rattle.lvl_cells.proofs.Sequences.{one_answer, item_there, slice_get-drop}

-- there are as many rows of targets as cells
pub rows_long : (cells : List (PlainCell Rings)) (targets : List (List ℕ)) → AreAllTargets cells targets
    → length targets ≡ length cells
rows_long cells targets t =
    let reach : List ℕ → List (Option (List ℕ)) = λ u. map (slice_get (names cells)) u in
    let asked : PlainCell Rings → List (Option (List ℕ)) = λ q. map (λ r. Some r.cell) q.references in
    sym (length-map targets reach) ∙ (ap length t ∙ length-map cells asked)

pub names_long : (cells : List (PlainCell Rings)) → length (names cells) ≡ length cells
names_long cells = let name_of : PlainCell Rings → List ℕ = λ c. c.name in length-map cells name_of

-- each target is the index of a cell
pub targets_within : (cells : List (PlainCell Rings)) (targets : List (List ℕ)) → AreAllTargets cells targets
    → EachTargetWithin targets (length targets)
targets_within cells targets t =
    λ k ts hk j b hj.
    let row : slice_get targets k ≡ Some (get_or targets k ts) = slice_get-get_or targets k ts hk in
    let c = item_there cells k (omega (arith, hk, rows_long cells targets t)) in
    let here = row_of cells targets k c.0 t c.1 in
    let same : get_or targets k ts ≡ here.0 = one_answer row here.1 in
    let items : List ℕ = get_or targets k ts in
    let at : slice_get items j ≡ Some (get_or items j b) = slice_get-get_or items j b hj in
    let from =
    reference_in_row (names cells) here.0 c.0.references j (get_or items j b) here.2
    (subst (λ (u : List ℕ). slice_get u j ≡ Some (get_or items j b)) same at) in
    omega (
      arith,
      slice_get_within (names cells) (get_or items j b) from.0.cell from.2,
      names_long cells,
      rows_long cells targets t,
    )

-- the visits on the path are to cells
path_within : (cells : List (PlainCell Rings)) (targets : List (List ℕ)) (marks : List Mark) (path : List Visit)
    (finished : List ℕ) (k : ℕ) (v : Visit) → AreAllTargets cells targets → IsWalk targets marks path finished
    → slice_get path k ≡ Some v → v.cell < length cells
path_within cells targets marks path finished k v t w h =
    let cell_of : Visit → ℕ = λ q. q.cell in
    let on : Contains (map cell_of path) v.cell =
    contains_at (map cell_of path) k v.cell (slice_get-map cell_of path k ∙ ap (option_map cell_of) h) in
    omega (arith, slice_get_within marks v.cell Open ((w.open_ones v.cell).1 on), w.long, rows_long cells targets t)

distinct_rest : (xs : List ℕ) (p : ℕ) → IsDistinct nat_eq xs → IsDistinct nat_eq (drop p xs)
distinct_rest xs zero d = d
distinct_rest [] (suc p) d = d
distinct_rest (x ∷ xs) (suc p) d = distinct_rest xs p (IsDistinct-tail nat_eq x xs d)

visit_link : (cells : List (PlainCell Rings)) (targets : List (List ℕ)) (v w : Visit)
    → AreAllTargets cells targets → v.cell < length cells → w.cell < length cells → IsArc targets v.cell v.done w.cell
    → Contains (links cells) (visited_name cells v, visited_name cells w)
visit_link cells targets v w t hv hw arc =
    link_from_arc cells targets v.cell v.done w.cell (visited_name cells v) (visited_name cells w) t
    (name_there cells v hv) (name_there cells w hw) arc

-- if the walk leads back to a cell on its path, the path from there on is a round
pub round_by : (cells : List (PlainCell Rings)) (targets : List (List ℕ)) (marks : List Mark) (path : List Visit)
    (finished : List ℕ) (start : ℕ) (round : List Visit) → AreAllTargets cells targets
    → IsWalk targets marks path finished → LeadsBack targets path start → IsFrom path start round
    → IsRoundOf cells round
round_by cells targets marks path finished start round t w back f =
    let cell_of : Visit → ℕ = λ q. q.cell in
    let p = f.place in
    let on : (k : ℕ) (v : Visit) → slice_get round k ≡ Some v → slice_get path (p + k) ≡ Some v =
    λ k v h. sym (slice_get-drop path p k) ∙ (ap (λ (l : List Visit). slice_get l k) (sym f.rest) ∙ h) in
    let low : (k : ℕ) (v : Visit) → slice_get round k ≡ Some v → v.cell < length cells =
    λ k v h. path_within cells targets marks path finished (p + k) v t w (on k v h) in
    let long : length round ≡ length path - p = ap length f.rest ∙ length-drop p path in
    let some : p < length path = slice_get_within path p f.visit f.there in
    record {
      some = omega (arith, long, some);
      within = λ k d h. low k (get_or round k d) (slice_get-get_or round k d h);
      apart =
          subst (λ (l : List Visit). IsDistinct nat_eq (map cell_of l)) (sym f.rest)
          (subst (IsDistinct nat_eq) (drop-map cell_of p path) (distinct_rest (map cell_of path) p w.apart));
      steps =
          λ k a b ha hb.
          let next : slice_get path (p + k + 1) ≡ Some b =
          subst (λ n. slice_get path n ≡ Some b) (omega arith) (on (suc k) b hb) in
          visit_link cells targets a b t (low k a ha) (low (suc k) b hb) (w.arcs (p + k) a b (on k a ha) next);
      closed =
          λ a b ha hb.
          let far : p + (length round - 1) ≡ length path - 1 = omega (arith, long, some) in
          let last : slice_get path (length path - 1) ≡ Some b =
          subst (λ n. slice_get path n ≡ Some b) far (on (length round - 1) b hb) in
          let same : back.0 ≡ b = one_answer back.1 last in
          let first : slice_get path p ≡ Some a = subst (λ n. slice_get path n ≡ Some a) (omega arith) (on 0 a ha) in
          let begin : f.visit ≡ a = one_answer f.there first in
          let to : start ≡ a.cell = sym f.cell_is ∙ ap cell_of begin in
          let arc : IsArc targets b.cell b.done a.cell =
          subst (λ (q : Visit). IsArc targets q.cell q.done a.cell) same
          (subst (λ n. IsArc targets back.0.cell back.0.done n) to back.2) in
          visit_link cells targets b a t (low (length round - 1) b hb) (low 0 a ha) arc;
    }

none_apart : IsDistinct nat_eq []
unfolding IsDistinct
none_apart = tt

-- before the first step
pub walk_none : (targets : List (List ℕ)) (marks : List Mark) → length marks ≡ length targets
    → ((k : ℕ) (m : Mark) → slice_get marks k ≡ Some m → m ≡ New) → IsWalk targets marks [] []
walk_none targets marks long new = record {
  long = long;
  open_ones = λ k. (λ h. let s : Open ≡ New = new k Open h in cc, λ h. absurd (omega (arith, h.1)));
  done_ones = λ k. (λ h. let s : Done ≡ New = new k Done h in cc, λ h. absurd (omega (arith, h.1)));
  apart = none_apart;
  once = none_apart;
  arcs = λ k v u h g. cc;
  later = λ k v j b h. cc;
  falls = λ i k j b h. cc;
}

pub all_new : (n : ℕ)
    → (length (replicate n New) ≡ n) × ((k : ℕ) (m : Mark) → slice_get (replicate n New) k ≡ Some m → m ≡ New)
all_new n = (
  length-replicate n New,
  λ k m h. let low : k < n = omega (arith, slice_get_within (replicate n New) k m h, length-replicate n New) in
      sym (get_or_from_slice_get (replicate n New) k m New h) ∙ get_or-replicate n k New New low,
)

slice_get-reverse : (xs : List ℕ) (k x : ℕ) → slice_get (reverse xs) k ≡ Some x
    → slice_get xs (length xs - 1 - k) ≡ Some x
slice_get-reverse xs k x h =
    let low : k < length xs = omega (arith, slice_get_within (reverse xs) k x h, length-reverse xs) in
    slice_get-get_or xs (length xs - 1 - k) x (omega (arith, low))
    ∙ ap Some (sym (get_or-reverse xs k x low) ∙ get_or_from_slice_get (reverse xs) k x x h)

reverse_contains : (xs : List ℕ) (x : ℕ) → Contains xs x → Contains (reverse xs) x
reverse_contains xs x h =
    let at : length xs - 1 - h.0 < length (reverse xs) = omega (arith, h.1, length-reverse xs) in
    let back : length xs - 1 - (length xs - 1 - h.0) ≡ h.0 = omega (arith, h.1) in
    (length xs - 1 - h.0, at, get_or-reverse xs (length xs - 1 - h.0) x (omega (arith, h.1)) ∙ rw back h.2)

seen_is_done : (marks : List Mark) (k : ℕ) → k < length marks → (slice_get marks k ≡ Some New → ⊥)
    → (slice_get marks k ≡ Some Open → ⊥) → slice_get marks k ≡ Some Done
seen_is_done marks k h new open_ =
    let at = item_there marks k h in
    elim at.0 as (λ m. slice_get marks k ≡ Some m → slice_get marks k ≡ Some Done) [
      | New ↦ λ e. absurd (new e)
      | Open ↦ λ e. absurd (open_ e)
      | Done ↦ λ e. e
    ] at.1

-- if no cell is new and the path is empty, the finished cells in reverse are an order
pub order_by : (cells : List (PlainCell Rings)) (targets : List (List ℕ)) (marks : List Mark) (finished : List ℕ)
    → AreLinked cells → AreAllTargets cells targets → IsWalk targets marks [] finished
    → ((k : ℕ) → k < length targets → slice_get marks k ≡ Some New → ⊥) → IsOrder cells (reverse finished)
order_by cells targets marks finished l t w seen =
    let long : length marks ≡ length cells = w.long ∙ rows_long cells targets t in
    let n : ℕ = length finished in
    record {
      there =
          λ k h.
          let is_done =
          seen_is_done marks k (omega (arith, h, long)) (seen k (omega (arith, h, rows_long cells targets t)))
          (none_open targets marks finished k w) in
          reverse_contains finished k ((w.done_ones k).0 is_done);
      once =
          λ i j k hi hj.
          let a = slice_get-reverse finished i k hi in
          let b = slice_get-reverse finished j k hj in
          let same : n - 1 - i ≡ n - 1 - j = once_numbered finished (n - 1 - i) (n - 1 - j) k w.once a b in
          omega (
            arith,
            same,
            slice_get_within (reverse finished) i k hi,
            slice_get_within (reverse finished) j k hj,
            length-reverse finished,
          );
      within =
          λ i d h.
          let at : slice_get (reverse finished) i ≡ Some (get_or (reverse finished) i d) =
          slice_get-get_or (reverse finished) i d h in
          let on : Contains finished (get_or (reverse finished) i d) =
          contains_at finished (n - 1 - i) (get_or (reverse finished) i d)
          (slice_get-reverse finished i (get_or (reverse finished) i d) at) in
          omega (
            arith,
            slice_get_within marks (get_or (reverse finished) i d) Done
                ((w.done_ones (get_or (reverse finished) i d)).1 on),
            long,
          );
      falls =
          λ i j k m a b hi hj ha hb link.
          let at_i = slice_get-reverse finished i k hi in
          let at_j = slice_get-reverse finished j m hj in
          let arc = arc_from_link cells targets k m a b l.distinct t ha hb link in
          let before = w.falls (n - 1 - i) k arc.0 m at_i arc.1 in
          let same : before.0 ≡ n - 1 - j = once_numbered finished before.0 (n - 1 - j) m w.once before.2 at_j in
          omega (
            arith,
            same,
            before.1,
            slice_get_within (reverse finished) i k hi,
            slice_get_within (reverse finished) j m hj,
            length-reverse finished,
          );
    }
