-- The arcs of a walk are the links of the library.
use Rattle.std.proofs.Common.{◌≡◌, ℕ, zero, suc, ◌<◌, Bool, true, false, List, [], ◌∷◌, ◌++◌, map, get_or, ◌⊎◌, inl}
use Rattle.std.proofs.Common.{inr, ⊎_elim, Option, Some, None, Contains, refl, sym, ap, ◌∙◌, subst, arith}
use Rattle.std.specs.List.{slice_get, IsDistinct}
use Rattle.std.specs.Str.{bytes_eq}
use Rattle.std.specs.Bool.{nat_eq}
use Rattle.std.proofs.lemmas.Bool.Decides.{Decides-eqb}
use Rattle.std.specs.Option.{option_map}
use Rattle.std.proofs.lemmas.Map.Keys.{apart_from_distinct, IsDistinct-from_apart}
use Rattle.std.proofs.lemmas.Slice.Eq.{bytes_eq-Decides}
use Rattle.std.proofs.lemmas.Bool.{false≢true, false_from_ne_true}
use Rattle.std.proofs.lemmas.List.Elements.{Contains-append_cases, Contains-append_left, Contains-append_right}
use Rattle.std.proofs.lemmas.Option.{slice_get-map, slice_get_within, slice_get-get_or, get_or_from_slice_get}
use Rattle.lvl_cells.specs.Cells.{PlainCell, PlainReference, Rings, names}
use Rattle.lvl_cells.specs.Soundness.{links}
use Rattle.lvl_cells.specs.inside.Steps.{AreAllTargets}
use Rattle.lvl_cells.specs.inside.Walking.{IsArc}
use Rattle.lvl_names.proofs.Elements.{contains_at, at_contains}
use Rattle.lvl_cells.proofs.Sequences.{one_answer}

pub order_of_two : (i j : ℕ) → (i ≡ j) ⊎ ((i < j) ⊎ (j < i))
order_of_two zero zero = inl refl
order_of_two zero (suc j) = inr (inl (omega arith))
order_of_two (suc i) zero = inr (inr (omega arith))
order_of_two (suc i) (suc j) =
    ⊎_elim (λ e. inl (ap suc e)) (λ o. ⊎_elim (λ l. inr (inl (omega (arith, l)))) (λ l. inr (inr (omega (arith, l)))) o)
    (order_of_two i j)

not_twice : {K : Type 0} (e : K → K → Bool) → ((x : K) → e x x ≡ true) → (xs : List K) (i j : ℕ) (x : K)
    → IsDistinct e xs → slice_get xs i ≡ Some x → slice_get xs j ≡ Some x → i < j → ⊥
not_twice e same xs i j x d hi hj lt =
    let apart = apart_from_distinct e xs i j x d lt (slice_get_within xs j x hj) in
    let unlike : e x x ≡ false = rw (get_or_from_slice_get xs i x x hi, get_or_from_slice_get xs j x x hj) at apart in
    false≢true (sym unlike ∙ same x)

-- in a list of distinct items each occurs once
once_in : {K : Type 0} (e : K → K → Bool) → ((x : K) → e x x ≡ true) → (xs : List K) (i j : ℕ) (x : K) → IsDistinct e xs
    → slice_get xs i ≡ Some x → slice_get xs j ≡ Some x → i ≡ j
once_in e same xs i j x d hi hj =
    ⊎_elim (λ h. h)
    (λ o. ⊎_elim (λ l. absurd (not_twice e same xs i j x d hi hj l))
    (λ l. absurd (not_twice e same xs j i x d hj hi l)) o) (order_of_two i j)

pub once_named : (xs : List (List ℕ)) (i j : ℕ) (x : List ℕ) → IsDistinct bytes_eq xs → slice_get xs i ≡ Some x
    → slice_get xs j ≡ Some x → i ≡ j
once_named xs i j x d hi hj = once_in bytes_eq (λ y. (bytes_eq-Decides y y).1 refl) xs i j x d hi hj

pub once_numbered : (xs : List ℕ) (i j x : ℕ) → IsDistinct nat_eq xs → slice_get xs i ≡ Some x → slice_get xs j ≡ Some x
    → i ≡ j
once_numbered xs i j x d hi hj = once_in nat_eq (λ y. (Decides-eqb y y).1 refl) xs i j x d hi hj

-- if each name occurs once, the names are distinct
pub distinct_once : (xs : List (List ℕ))
    → ((i j : ℕ) (x : List ℕ) → slice_get xs i ≡ Some x → slice_get xs j ≡ Some x → i ≡ j) → IsDistinct bytes_eq xs
distinct_once xs once =
    IsDistinct-from_apart bytes_eq xs (λ i j d lt le.
    let x : List ℕ = get_or xs i d in
    let y : List ℕ = get_or xs j d in
    false_from_ne_true (bytes_eq x y) (λ e.
    let same : x ≡ y = (bytes_eq-Decides x y).0 e in
    let at_i : slice_get xs i ≡ Some x = slice_get-get_or xs i d (omega (arith, lt, le)) in
    let at_j : slice_get xs j ≡ Some x = slice_get-get_or xs j d le ∙ ap Some (sym same) in
    let one : i ≡ j = once i j x at_i at_j in
    absurd (omega (arith, one, lt))))

-- the cell of the name at an index
pub cell_at : (cells : List (PlainCell Rings)) (t : ℕ) (name : List ℕ) → slice_get (names cells) t ≡ Some name
    → (d : PlainCell Rings) × (slice_get cells t ≡ Some d) × (d.name ≡ name)
cell_at cells t name h =
    let name_of : PlainCell Rings → List ℕ = λ q. q.name in
    let read : option_map name_of (slice_get cells t) ≡ Some name = sym (slice_get-map name_of cells t) ∙ h in
    elim (slice_get cells t)
    as (λ o. slice_get cells t ≡ o → option_map name_of o ≡ Some name
    → (d : PlainCell Rings) × (slice_get cells t ≡ Some d) × (d.name ≡ name)) [
      | None ↦ λ e g. cc
      | Some d ↦ λ e g. let same : d.name ≡ name = cc in (d, e, same)
    ] refl read

-- a link, by the cell and the reference that it comes from
pub record IsLinkOf (cells : List (PlainCell Rings)) (a b : List ℕ) : Type 0 where
  pub place : ℕ
  pub cell : PlainCell Rings
  pub cell_is : slice_get cells place ≡ Some cell
  pub name_is : cell.name ≡ a
  pub which : ℕ
  pub reference : PlainReference
  pub reference_is : slice_get cell.references which ≡ Some reference
  pub to_is : reference.cell ≡ b

link_of_references : (from : List ℕ) (refs : List PlainReference) (a b : List ℕ)
    → Contains (map {B = List ℕ × List ℕ} (λ r. (from, r.cell)) refs) (a, b)
    → (from ≡ a) × ((j : ℕ) × (r : PlainReference) × (slice_get refs j ≡ Some r) × (r.cell ≡ b))
link_of_references from refs a b h =
    let pair : PlainReference → (List ℕ × List ℕ) = λ r. (from, r.cell) in
    let at = at_contains (map pair refs) (a, b) h in
    let read : option_map pair (slice_get refs at.0) ≡ Some (a, b) = sym (slice_get-map pair refs at.0) ∙ at.1 in
    elim (slice_get refs at.0)
    as (λ o. slice_get refs at.0 ≡ o → option_map pair o ≡ Some (a, b)
    → (from ≡ a) × ((j : ℕ) × (r : PlainReference) × (slice_get refs j ≡ Some r) × (r.cell ≡ b))) [
      | None ↦ λ e g. cc
      | Some r ↦
          λ e g. let same : pair r ≡ (a, b) = cc in
          (ap (λ (p : List ℕ × List ℕ). p.0) same, (at.0, r, e, ap (λ (p : List ℕ × List ℕ). p.1) same))
    ] refl read

pub link_of : (cells : List (PlainCell Rings)) (a b : List ℕ) → Contains (links cells) (a, b) → IsLinkOf cells a b
link_of [] a b h = absurd (omega (arith, h.1))
link_of (c ∷ cs) a b h =
    let first : List (List ℕ × List ℕ) = map (λ (r : PlainReference). (c.name, r.cell)) c.references in
    ⊎_elim (λ k. let w = link_of_references c.name c.references a b k in
    record {
      place = 0;
      cell = c;
      cell_is = refl;
      name_is = w.0;
      which = w.1.0;
      reference = w.1.1;
      reference_is = w.1.2;
      to_is = w.1.3;
    })
    (λ k. let w = link_of cs a b k in
    record {
      place = suc w.place;
      cell = w.cell;
      cell_is = w.cell_is;
      name_is = w.name_is;
      which = w.which;
      reference = w.reference;
      reference_is = w.reference_is;
      to_is = w.to_is;
    }) (Contains-append_cases first (links cs) (a, b) h)

-- each reference of a cell is a link
pub is_link : (cells : List (PlainCell Rings)) (k : ℕ) (c : PlainCell Rings) (j : ℕ) (r : PlainReference)
    → slice_get cells k ≡ Some c → slice_get c.references j ≡ Some r → Contains (links cells) (c.name, r.cell)
is_link [] k c j r h g = cc
is_link (d ∷ ds) zero c j r h g =
    let same : d ≡ c = cc in
    let pair : PlainReference → (List ℕ × List ℕ) = λ q. (c.name, q.cell) in
    let at : slice_get (map pair c.references) j ≡ Some (pair r) =
    slice_get-map pair c.references j ∙ ap (option_map pair) g in
    subst
    (λ (q : PlainCell Rings).
    Contains (map {B = List ℕ × List ℕ} (λ p. (q.name, p.cell)) q.references ++ links ds) (pair r)) (sym same)
    (Contains-append_left (map pair c.references) (links ds) (pair r)
    (contains_at (map pair c.references) j (pair r) at))
is_link (d ∷ ds) (suc k) c j r h g =
    Contains-append_right (map {B = List ℕ × List ℕ} (λ (q : PlainReference). (d.name, q.cell)) d.references) (links ds)
    (c.name, r.cell) (is_link ds k c j r h g)

-- the row of targets of a cell
pub row_of : (cells : List (PlainCell Rings)) (targets : List (List ℕ)) (k : ℕ) (c : PlainCell Rings)
    → AreAllTargets cells targets → slice_get cells k ≡ Some c
    → (ts : List ℕ) × (slice_get targets k ≡ Some ts)
    × (map (slice_get (names cells)) ts ≡ map (λ r. Some r.cell) c.references)
row_of cells targets k c t h =
    let reach : List ℕ → List (Option (List ℕ)) = λ u. map (slice_get (names cells)) u in
    let asked : PlainCell Rings → List (Option (List ℕ)) = λ q. map (λ r. Some r.cell) q.references in
    let read : option_map reach (slice_get targets k) ≡ Some (asked c) =
    sym (slice_get-map reach targets k)
    ∙ (ap (λ (l : List (List (Option (List ℕ)))). slice_get l k) t
    ∙ (slice_get-map asked cells k ∙ ap (option_map asked) h)) in
    elim (slice_get targets k)
    as (λ o. slice_get targets k ≡ o → option_map reach o ≡ Some (asked c)
    → (ts : List ℕ) × (slice_get targets k ≡ Some ts)
    × (map (slice_get (names cells)) ts ≡ map (λ r. Some r.cell) c.references)) [
      | None ↦ λ e g. cc
      | Some ts ↦ λ e g. let same : reach ts ≡ asked c = cc in (ts, e, same)
    ] refl read

-- the target of a reference, in its row
pub target_in_row : (all : List (List ℕ)) (ts : List ℕ) (refs : List PlainReference) (j : ℕ) (r : PlainReference)
    → map (slice_get all) ts ≡ map (λ q. Some q.cell) refs → slice_get refs j ≡ Some r
    → (t : ℕ) × (slice_get ts j ≡ Some t) × (slice_get all t ≡ Some r.cell)
target_in_row all [] (q ∷ refs) j r e h = cc
target_in_row all ts [] j r e h = cc
target_in_row all (t ∷ ts) (q ∷ refs) zero r e h =
    let same : q ≡ r = cc in
    let at : slice_get all t ≡ Some q.cell = cc in
    (t, refl, at ∙ ap (λ (p : PlainReference). Some p.cell) same)
target_in_row all (t ∷ ts) (q ∷ refs) (suc j) r e h =
    let rest : map (slice_get all) ts ≡ map (λ (p : PlainReference). Some p.cell) refs = cc in
    target_in_row all ts refs j r rest h

-- the reference of a target, from its row
pub reference_in_row : (all : List (List ℕ)) (ts : List ℕ) (refs : List PlainReference) (j t : ℕ)
    → map (slice_get all) ts ≡ map (λ q. Some q.cell) refs → slice_get ts j ≡ Some t
    → (r : PlainReference) × (slice_get refs j ≡ Some r) × (slice_get all t ≡ Some r.cell)
reference_in_row all [] refs j t e h = cc
reference_in_row all (u ∷ ts) [] j t e h = cc
reference_in_row all (u ∷ ts) (q ∷ refs) zero t e h =
    let same : u ≡ t = cc in
    let at : slice_get all u ≡ Some q.cell = cc in
    (q, refl, ap (slice_get all) (sym same) ∙ at)
reference_in_row all (u ∷ ts) (q ∷ refs) (suc j) t e h =
    let rest : map (slice_get all) ts ≡ map (λ (p : PlainReference). Some p.cell) refs = cc in
    reference_in_row all ts refs j t rest h

-- a link between two cells is an arc between their indexes
pub arc_from_link : (cells : List (PlainCell Rings)) (targets : List (List ℕ)) (k l : ℕ) (a b : List ℕ)
    → IsDistinct bytes_eq (names cells) → AreAllTargets cells targets → slice_get (names cells) k ≡ Some a
    → slice_get (names cells) l ≡ Some b → Contains (links cells) (a, b) → (j : ℕ) × IsArc targets k j l
arc_from_link cells targets k l a b d t hk hl h =
    let name_of : PlainCell Rings → List ℕ = λ c. c.name in
    let w = link_of cells a b h in
    let named : slice_get (names cells) w.place ≡ Some a =
    slice_get-map name_of cells w.place ∙ (ap (option_map name_of) w.cell_is ∙ ap Some w.name_is) in
    let here : w.place ≡ k = once_named (names cells) w.place k a d named hk in
    let row = row_of cells targets w.place w.cell t w.cell_is in
    let to = target_in_row (names cells) row.0 w.cell.references w.which w.reference row.2 w.reference_is in
    let there : to.0 ≡ l = once_named (names cells) to.0 l b d (to.2 ∙ ap Some w.to_is) hl in
    (w.which, (row.0, subst (λ q. slice_get targets q ≡ Some row.0) here row.1, to.1 ∙ ap Some there))

-- an arc between the indexes of two cells is a link
pub link_from_arc : (cells : List (PlainCell Rings)) (targets : List (List ℕ)) (k j l : ℕ) (a b : List ℕ)
    → AreAllTargets cells targets → slice_get (names cells) k ≡ Some a → slice_get (names cells) l ≡ Some b
    → IsArc targets k j l → Contains (links cells) (a, b)
link_from_arc cells targets k j l a b t hk hl arc =
    let c = cell_at cells k a hk in
    let row = row_of cells targets k c.0 t c.1 in
    let same : row.0 ≡ arc.0 = one_answer row.1 arc.1 in
    let at : slice_get row.0 j ≡ Some l =
    subst (λ (u : List ℕ). slice_get u j ≡ Some l) (sym same) arc.2 in
    let from = reference_in_row (names cells) row.0 c.0.references j l row.2 at in
    let to : from.0.cell ≡ b = one_answer from.2 hl in
    subst (λ (n : List ℕ). Contains (links cells) (n, b)) c.2
    (subst (λ (n : List ℕ). Contains (links cells) (c.0.name, n)) to (is_link cells k c.0 j from.0 c.1 from.1))
