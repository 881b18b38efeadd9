-- The targets of all cells, and the first reference that names no cell.
use Rattle.std.proofs.Common.{◌≡◌, ℕ, ◌+◌, ◌<◌, List, [], ◌∷◌, ◌++◌, map, take, drop, length, get_or, Option, Some}
use Rattle.std.proofs.Common.{append_assoc, All, Contains, refl, sym, ap, ◌∙◌}
use Rattle.std.specs.List.{slice_get}
use Rattle.std.proofs.lemmas.List.{map-append, take_more}
use Rattle.std.proofs.lemmas.List.Concat.{flat_map-append}
use Rattle.std.proofs.lemmas.List.Elements.{All-nil, All-cons, All-head, All-tail, All-append}
use Rattle.lvl_cells.specs.Cells.{PlainCell, PlainReference, names, Rings}
use Rattle.lvl_cells.specs.Soundness.{links}
use Rattle.lvl_cells.specs.Faults.{IsFirstMissing}
use Rattle.lvl_cells.specs.inside.Targets.{AreTargets, IsFirstUnknown, IsMissingFault}
use Rattle.lvl_cells.specs.inside.Steps.{IsFirstMissingFault}
use Rattle.lvl_cells.specs.declared.fault.CellFault.{CellFault}
use Rattle.lvl_cells.specs.declared.fault.CellFault.TheVariants.{MissingCell}
use Rattle.lvl_names.proofs.Elements.{contains_at}
use Rattle.lvl_cells.proofs.NamedTargets.{split_here}

-- the targets of the first i cells among all cells
abbrev pub AreTargetsOf : List (List ℕ) → List (PlainCell Rings) → List (List ℕ) → Type 0
AreTargetsOf all cells targets =
    map (λ ts. map (slice_get all) ts) targets ≡ map (λ c. map (λ r. Some r.cell) c.references) cells

-- the targets of one more cell
pub cells_more : (all : List (List ℕ)) (cells : List (PlainCell Rings)) (i : ℕ) (c : PlainCell Rings)
    (tss : List (List ℕ)) (ts : List ℕ) → i < length cells → c ≡ get_or cells i c → AreTargets all c.references ts
    → AreTargetsOf all (take i cells) tss → AreTargetsOf all (take (i + 1) cells) (tss ++ ts ∷ [])
cells_more all cells i c tss ts h e at inv =
    let reach : List ℕ → List (Option (List ℕ)) = λ us. map (slice_get all) us in
    let asked : PlainCell Rings → List (Option (List ℕ)) = λ q. map (λ r. Some r.cell) q.references in
    let more : take (i + 1) cells ≡ take i cells ++ c ∷ [] =
    take_more cells i c h ∙ ap (λ (q : PlainCell Rings). take i cells ++ q ∷ []) (sym e) in
    map-append reach tss (ts ∷ [])
    ∙ (ap (λ l. l ++ reach ts ∷ []) inv
    ∙ (ap (λ o. map asked (take i cells) ++ o ∷ []) at
    ∙ sym (ap (map asked) more ∙ map-append asked (take i cells) (c ∷ []))))

abbrev IsNamed : List (List ℕ) → (List ℕ × List ℕ) → Type 0
IsNamed all link = Contains all link.1

abbrev links_from : PlainCell Rings → List (List ℕ × List ℕ)
links_from c = map (λ r. (c.name, r.cell)) c.references

named_from : (all : List (List ℕ)) (from : List ℕ) (refs : List PlainReference) (ts : List ℕ)
    → map (slice_get all) ts ≡ map (λ r. Some r.cell) refs → All (IsNamed all) (map (λ r. (from, r.cell)) refs)
named_from all from [] ts e = All-nil (IsNamed all)
named_from all from (r ∷ rs) [] e = cc
named_from all from (r ∷ rs) (t ∷ ts) e =
    let at : slice_get all t ≡ Some r.cell = cc in
    let rest : map (slice_get all) ts ≡ map (λ (q : PlainReference). Some q.cell) rs = cc in
    All-cons (IsNamed all) (from, r.cell) (map (λ (q : PlainReference). (from, q.cell)) rs)
    (contains_at all t r.cell at) (named_from all from rs ts rest)

pub named_links : (all : List (List ℕ)) (cells : List (PlainCell Rings)) (tss : List (List ℕ))
    → AreTargetsOf all cells tss → All (λ link. Contains all link.1) (links cells)
named_links all [] tss e = All-nil (IsNamed all)
named_links all (c ∷ cs) [] e = cc
named_links all (c ∷ cs) (ts ∷ tss) e =
    let first : map (slice_get all) ts ≡ map (λ (q : PlainReference). Some q.cell) c.references = cc in
    let rest : AreTargetsOf all cs tss = cc in
    All-append (IsNamed all) (links_from c) (links cs) (named_from all c.name c.references ts first)
    (named_links all cs tss rest)

paired : (from : List ℕ) (refs : List PlainReference)
    → map {B = List ℕ × List ℕ} (λ r. (from, r.cell)) refs
    ≡ map {B = List ℕ × List ℕ} (λ n. (from, n)) (map (λ r. r.cell) refs)
paired from [] = refl
paired from (r ∷ rs) =
    let p : List ℕ × List ℕ = (from, r.cell) in ap (λ (t : List (List ℕ × List ℕ)). p ∷ t) (paired from rs)

named_pairs : (all : List (List ℕ)) (from : List ℕ) (ns : List (List ℕ)) → All (Contains all) ns
    → All (IsNamed all) (map (λ n. (from, n)) ns)
named_pairs all from [] h = All-nil (IsNamed all)
named_pairs all from (n ∷ ns) h =
    All-cons (IsNamed all) (from, n) (map (λ (m : List ℕ). (from, m)) ns) (All-head (Contains all) n ns h)
    (named_pairs all from ns (All-tail (Contains all) n ns h))

pub first_missing : (cells : List (PlainCell Rings)) (i : ℕ) (c : PlainCell Rings) (tss : List (List ℕ))
    (from name : List ℕ) → i < length cells → c ≡ get_or cells i c → AreTargetsOf (names cells) (take i cells) tss
    → (from ≡ c.name) × IsFirstUnknown (names cells) (map (λ r. r.cell) c.references) name
    → IsFirstMissing cells from name
first_missing cells i c tss from name h e inv f =
    let u = f.1 in
    let pair : List ℕ → (List ℕ × List ℕ) = λ n. (c.name, n) in
    let front : List (List ℕ × List ℕ) = links (take i cells) in
    let back : List (List ℕ × List ℕ) = links (drop (i + 1) cells) in
    let whole : links cells ≡ front ++ (links_from c ++ back) =
    ap links (split_here cells i c h e) ∙ flat_map-append links_from (take i cells) (c ∷ drop (i + 1) cells) in
    let here : links_from c ≡ map pair u.before ++ pair name ∷ map pair u.after =
    paired c.name c.references ∙ (ap (map pair) u.there ∙ map-append pair u.before (name ∷ u.after)) in
    let at : pair name ≡ (from, name) = ap (λ (n : List ℕ). let p : List ℕ × List ℕ = (n, name) in p) (sym f.0) in
    record {
      before = front ++ map pair u.before;
      after = map pair u.after ++ back;
      there =
          whole
          ∙ (ap (λ (l : List (List ℕ × List ℕ)). front ++ (l ++ back)) here
          ∙ (ap (λ (p : List ℕ × List ℕ). front ++ ((map pair u.before ++ p ∷ map pair u.after) ++ back)) at
          ∙ simp append_assoc));
      named =
          All-append (IsNamed (names cells)) front (map pair u.before)
          (named_links (names cells) (take i cells) tss inv) (named_pairs (names cells) c.name u.before u.known);
      missing = u.unknown;
    }

pub missing_fault : (cells : List (PlainCell Rings)) (i : ℕ) (c : PlainCell Rings) (tss : List (List ℕ))
    (f : CellFault) → i < length cells → c ≡ get_or cells i c → AreTargetsOf (names cells) (take i cells) tss
    → IsMissingFault (names cells) c f → IsFirstMissingFault cells f
missing_fault cells i c tss (MissingCell from name) h e inv m =
    first_missing cells i c tss from.items name.items h e inv m
missing_fault cells i c tss _ h e inv m = absurd m
