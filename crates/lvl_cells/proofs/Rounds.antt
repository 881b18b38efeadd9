-- A round of a walk, named from the first cell in file order on, is a cycle of the library.
use Rattle.std.proofs.Common.{◌≡◌, ℕ, suc, ◌-◌, ◌<◌, List, [], ◌++◌, map, take, drop, length, Some, None, All, Contains}
use Rattle.std.proofs.Common.{refl, sym, ap, ◌∙◌, subst, arith}
use Rattle.std.specs.List.{slice_get, IsDistinct}
use Rattle.std.specs.Str.{bytes_eq}
use Rattle.std.specs.Option.{option_map}
use Rattle.std.proofs.lemmas.Map.Keys.{IsDistinct-IsPermutation}
use Rattle.std.proofs.lemmas.List.{take-append-drop, map-append}
use Rattle.std.proofs.lemmas.List.Sorted.{IsPermutation-append_comm, Contains-permutation}
use Rattle.std.proofs.lemmas.List.Elements.{All-contains}
use Rattle.std.proofs.lemmas.Option.{slice_get-map, slice_get_within, slice_get-get_or}
use Rattle.std.proofs.Math.ListN.{length-map}
use Rattle.lvl_grid.specs.Winding.{edges}
use Rattle.lvl_cells.specs.declared.walk.Visit.{Visit}
use Rattle.lvl_cells.specs.Cells.{PlainCell, Rings, names}
use Rattle.lvl_cells.specs.Soundness.{links, AreLinked}
use Rattle.lvl_cells.specs.Faults.{IsCycle}
use Rattle.lvl_cells.specs.inside.Rounding.{visited_name, IsRoundOf, IsFirstIn}
use Rattle.lvl_names.proofs.Elements.{contains_at, at_contains}
use Rattle.lvl_cells.proofs.Indexes.{bytes_eq_laws}
use Rattle.lvl_cells.proofs.Arcs.{once_named, once_numbered, distinct_once}
use Rattle.lvl_cells.proofs.Sequences.{round_edges, edges_round, slice_get-drop, slice_get-front, item_there}

abbrev pub IsLink : List (PlainCell Rings) → (List ℕ × List ℕ) → Type 0
IsLink cells e = Contains (links cells) e

pub name_there : (cells : List (PlainCell Rings)) (v : Visit) → v.cell < length cells
    → slice_get (names cells) v.cell ≡ Some (visited_name cells v)
name_there cells v h =
    let name_of : PlainCell Rings → List ℕ = λ c. c.name in
    slice_get-get_or (names cells) v.cell [] (omega (arith, h, length-map cells name_of))

read_name : (cells : List (PlainCell Rings)) (round : List Visit) (k : ℕ) (x : List ℕ)
    → slice_get (map (visited_name cells) round) k ≡ Some x
    → (v : Visit) × (slice_get round k ≡ Some v) × (visited_name cells v ≡ x)
read_name cells round k x h =
    let read : option_map (visited_name cells) (slice_get round k) ≡ Some x =
    sym (slice_get-map (visited_name cells) round k) ∙ h in
    elim (slice_get round k)
    as (λ o. slice_get round k ≡ o → option_map (visited_name cells) o ≡ Some x
    → (v : Visit) × (slice_get round k ≡ Some v) × (visited_name cells v ≡ x)) [
      | None ↦ λ e g. cc
      | Some v ↦ λ e g. let same : visited_name cells v ≡ x = cc in (v, e, same)
    ] refl read

-- a cell on the path, by its visit
pub visit_there : (path : List Visit) (start : ℕ) → Contains (map (λ v. v.cell) path) start
    → (k : ℕ) × (v : Visit) × (k < length path) × (slice_get path k ≡ Some v) × (v.cell ≡ start)
visit_there path start h =
    let cell_of : Visit → ℕ = λ v. v.cell in
    let at = at_contains (map cell_of path) start h in
    let low : at.0 < length path =
    omega (arith, slice_get_within (map cell_of path) at.0 start at.1, length-map path cell_of) in
    let v = item_there path at.0 low in
    let same : Some v.0.cell ≡ Some start =
    sym (slice_get-map cell_of path at.0 ∙ ap (option_map cell_of) v.1) ∙ at.1 in
    (at.0, v.0, low, v.1, cc)

-- a name on the round, by the index of its cell
place_of_name : (cells : List (PlainCell Rings)) (round : List Visit) (i j : ℕ) (v : Visit) (x : List ℕ)
    → IsDistinct bytes_eq (names cells) → All (λ w. w.cell < length cells) round → slice_get round i ≡ Some v
    → visited_name cells v ≡ x → slice_get (names cells) j ≡ Some x → j ≡ v.cell
place_of_name cells round i j v x d within at named h =
    let low : v.cell < length cells =
    All-contains (λ (w : Visit). w.cell < length cells) round v within (contains_at round i v at) in
    once_named (names cells) j v.cell x d h (name_there cells v low ∙ ap Some named)

once_on_round : (cells : List (PlainCell Rings)) (round : List Visit) → IsDistinct bytes_eq (names cells)
    → IsRoundOf cells round → (i j : ℕ) (x : List ℕ) → slice_get (map (visited_name cells) round) i ≡ Some x
    → slice_get (map (visited_name cells) round) j ≡ Some x → i ≡ j
once_on_round cells round d r i j x hi hj =
    let cell_of : Visit → ℕ = λ v. v.cell in
    let a = read_name cells round i x hi in
    let b = read_name cells round j x hj in
    let low : b.0.cell < length cells =
    All-contains (λ (w : Visit). w.cell < length cells) round b.0 r.within (contains_at round j b.0 b.1) in
    let same : b.0.cell ≡ a.0.cell =
    place_of_name cells round i b.0.cell a.0 x d r.within a.1 a.2 (name_there cells b.0 low ∙ ap Some b.2) in
    let at_i : slice_get (map cell_of round) i ≡ Some a.0.cell =
    slice_get-map cell_of round i ∙ ap (option_map cell_of) a.1 in
    let at_j : slice_get (map cell_of round) j ≡ Some a.0.cell =
    slice_get-map cell_of round j ∙ (ap (option_map cell_of) b.1 ∙ ap Some same) in
    once_numbered (map cell_of round) i j a.0.cell r.apart at_i at_j

round_linked : (cells : List (PlainCell Rings)) (round : List Visit) → IsRoundOf cells round
    → All (IsLink cells) (edges (map (visited_name cells) round))
round_linked cells round r =
    let nm : Visit → List ℕ = visited_name cells in
    let far : length (map nm round) - 1 ≡ length round - 1 = omega (arith, length-map round nm) in
    round_edges (IsLink cells) (map nm round)
    (λ k a b ha hb.
    let v = read_name cells round k a ha in
    let w = read_name cells round (suc k) b hb in
    subst (λ (x : List ℕ). IsLink cells (x, b)) v.2
    (subst (λ (y : List ℕ). IsLink cells (nm v.0, y)) w.2 (r.steps k v.0 w.0 v.1 w.1)))
    (λ a b ha hb.
    let v = read_name cells round 0 a ha in
    let w = read_name cells round (length round - 1) b (subst (λ n. slice_get (map nm round) n ≡ Some b) far hb) in
    subst (λ (y : List ℕ). IsLink cells (y, a)) w.2
    (subst (λ (x : List ℕ). IsLink cells (nm w.0, x)) v.2 (r.closed v.0 w.0 v.1 w.1)))

cycle_from : (cells : List (PlainCell Rings)) (round : List Visit) (first : ℕ) → AreLinked cells → IsRoundOf cells round
    → IsFirstIn round first
    → IsCycle cells (map (visited_name cells) (drop first round) ++ map (visited_name cells) (take first round))
cycle_from cells round first l r f =
    let nm : Visit → List ℕ = visited_name cells in
    let all : List (List ℕ) = map nm round in
    let us : List (List ℕ) = map nm (take first round) in
    let vs : List (List ℕ) = map nm (drop first round) in
    let whole : all ≡ us ++ vs =
    ap (map nm) (sym (take-append-drop first round)) ∙ map-append nm (take first round) (drop first round) in
    let spread : IsDistinct bytes_eq all = distinct_once all (once_on_round cells round l.distinct r) in
    let here : slice_get (drop first round) 0 ≡ Some f.visit =
    slice_get-drop round first 0 ∙ subst (λ n. slice_get round n ≡ Some f.visit) (omega arith) f.there in
    let head : slice_get vs 0 ≡ Some (nm f.visit) = slice_get-map nm (drop first round) 0 ∙ ap (option_map nm) here in
    let begins : slice_get (vs ++ us) 0 ≡ Some (nm f.visit) = slice_get-front vs us 0 (nm f.visit) head in
    record {
      some =
          λ e. let none : slice_get (vs ++ us) 0 ≡ None = ap (λ (t : List (List ℕ)). slice_get t 0) e in
          let s : Some (nm f.visit) ≡ None = sym begins ∙ none in cc;
      distinct =
          IsDistinct-IsPermutation bytes_eq bytes_eq_laws.symm (us ++ vs) (vs ++ us) (IsPermutation-append_comm us vs)
          (subst (IsDistinct bytes_eq) whole spread);
      linked =
          edges_round (IsLink cells) us vs
          (subst (λ (t : List (List ℕ)). All (IsLink cells) (edges t)) whole (round_linked cells round r));
      first =
          λ i j name hi hj there.
          let on : Contains all name =
          subst (λ (t : List (List ℕ)). Contains t name) (sym whole)
          (Contains-permutation (vs ++ us) (us ++ vs) name (IsPermutation-append_comm vs us) there) in
          let at = at_contains all name on in
          let w = read_name cells round at.0 name at.1 in
          let to : j ≡ w.0.cell = place_of_name cells round at.0 j w.0 name l.distinct r.within w.1 w.2 hj in
          let from : i ≡ f.visit.cell =
          place_of_name cells round first i f.visit (nm f.visit) l.distinct r.within f.there refl (hi ∙ begins) in
          omega (arith, to, from, f.least at.0 w.0 w.1);
    }

-- the round, named from its first cell on, is a cycle
pub cycle_by : (cells : List (PlainCell Rings)) (round : List Visit) (first : ℕ) (ns : List (List ℕ)) → AreLinked cells
    → IsRoundOf cells round → IsFirstIn round first
    → ns ≡ map (visited_name cells) (drop first round) ++ map (visited_name cells) (take first round) → IsCycle cells ns
cycle_by cells round first ns l r f e = subst (IsCycle cells) (sym e) (cycle_from cells round first l r f)
