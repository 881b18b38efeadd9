-- Numbers are replaced by names in at most one way, for all or for none.
use Rattle.std.proofs.Common.{◌≡◌, ℕ, List, [], ◌∷◌, ◌++◌, map, Some, None, refl, sym, ap, ◌∙◌, subst, append_assoc}
use Rattle.std.proofs.Common.{All}
use Rattle.std.specs.Prelude.{flat_map, IsSome, is_some, Option, Bool, true, false, Result, Ok, Err, IfErr}
use Rattle.std.specs.Result.{IsErr, IsErrAnd}
use Rattle.lvl_refusal.specs.Refused.{Says}
use Rattle.lvl_refusal.specs.declared.Cause.{Cause}
use Rattle.lvl_refusal.specs.declared.Cause.TheVariants.{Breach, OutOfMemory}
use Rattle.std.specs.List.{AllZip}
use Rattle.std.proofs.lemmas.List.Elements.{All-nil, All-cons, All-append, All-head, All-tail}
use Rattle.std.proofs.lemmas.Grind.{flat_map-append}
use Rattle.std.proofs.lemmas.List.{append-nil}
use Rattle.std.proofs.lemmas.List.Folds.{flat_map-map}
use Rattle.lvl_grid.specs.declared.map.Turn.{Turn}
use Rattle.lvl_grid.specs.declared.point.Point.{Point}
use Rattle.lvl_path.specs.Figure.{Figure, figure_rings}
use Rattle.lvl_cells.specs.Cells.{PlainCell, PlainReference, PlainShape, Rings, kept}
use Rattle.oasis_records.specs.declared.cell.CellName.{CellName}
use Rattle.oasis_records.specs.declared.cell.CellRef.{CellRef}
use Rattle.oasis_records.specs.declared.cell.CellRef.TheVariants.{Number, Name}
use Rattle.oasis_figures.specs.Figures.{Placed}
use Rattle.oasis_stream.specs.Names.{name_of, meant}
use Rattle.oasis_library.specs.Cells.{PlainDrawing, with_rings}
use Rattle.oasis_library.specs.Names.{IsReference, IsCell, AreCells, number_in, numbers_in, numbers_used, IsNamed}
use Rattle.oasis_library.specs.Names.{IsUnnamed}
use Rattle.oasis_library.specs.Ends.{is_read, is_read_error}
use Rattle.oasis_library.specs.declared.fault.OasisFault.{OasisFault}

pub zip-snoc : {A B : Type 0} (R : A → B → Type 0) (xs : List A) (ys : List B) (x : A) (y : B) → AllZip R xs ys → R x y
    → AllZip R (xs ++ x ∷ []) (ys ++ y ∷ [])
zip-snoc R [] [] x y p q = (q, tt)
zip-snoc R [] (b ∷ ys) x y p q = absurd p
zip-snoc R (a ∷ xs) [] x y p q = absurd p
zip-snoc R (a ∷ xs) (b ∷ ys) x y p q = (p.0, zip-snoc R xs ys x y p.1 q)

-- a number that stands for a name has one
some_is : {A : Type 0} (o : Option A) (x : A) → o ≡ Some x → IsSome o
some_is o x e = ap is_some e

pub meant_named : (names : List CellName) (c : CellRef) (s : List ℕ) → meant names c ≡ Some s
    → All (IsNamed names) (number_in c)
meant_named names (Number n) s e =
    All-cons (IsNamed names) n [] (some_is (name_of names n) s e) (All-nil (IsNamed names))
meant_named names (Name t) s e = All-nil (IsNamed names)

pub references_named : (names : List CellName) (ps : List Placed) (rs : List PlainReference)
    → AllZip (IsReference names) ps rs
    → All (IsNamed names) (flat_map (λ p. number_in p.cell) ps)
references_named names [] [] h = All-nil (IsNamed names)
references_named names [] (r ∷ rs) h = absurd h
references_named names (p ∷ ps) [] h = absurd h
references_named names (p ∷ ps) (r ∷ rs) h =
    All-append (IsNamed names) (number_in p.cell) (flat_map (λ q. number_in q.cell) ps)
    (meant_named names p.cell r.cell h.0.cell) (references_named names ps rs h.1)

cell_named : {F : Type 0} (names : List CellName) (d : PlainDrawing F) (c : PlainCell F) → IsCell names d c
    → All (IsNamed names) (numbers_in d)
cell_named names d c h =
    All-append (IsNamed names) (number_in d.name) (flat_map (λ q. number_in q.cell) d.placements)
    (meant_named names d.name c.name h.name) (references_named names d.placements c.references h.references)

pub cells_named : {F : Type 0} (names : List CellName) (ds : List (PlainDrawing F)) (cs : List (PlainCell F))
    → AreCells names ds cs → All (IsNamed names) (numbers_used ds)
cells_named names [] [] h = All-nil (IsNamed names)
cells_named names [] (c ∷ cs) h = absurd h
cells_named names (d ∷ ds) [] h = absurd h
cells_named names (d ∷ ds) (c ∷ cs) h =
    All-append (IsNamed names) (numbers_in d) (numbers_used ds) (cell_named names d c h.0) (cells_named names ds cs h.1)

-- the first number without a name, after numbers with names
pub unnamed_after : (names : List CellName) (xs ys : List ℕ) (n : ℕ) → All (IsNamed names) xs → IsUnnamed names ys n
    → IsUnnamed names (xs ++ ys) n
unnamed_after names xs ys n h u = record {
  before = xs ++ u.before;
  after = u.after;
  there = ap (λ l. xs ++ l) u.there ∙ sym (append_assoc xs u.before (n ∷ u.after));
  named = All-append (IsNamed names) xs u.before h u.named;
  unnamed = u.unnamed;
}

pub unnamed_before : (names : List CellName) (xs ys : List ℕ) (n : ℕ) → IsUnnamed names xs n
    → IsUnnamed names (xs ++ ys) n
unnamed_before names xs ys n u = record {
  before = u.before;
  after = u.after ++ ys;
  there = ap (λ l. l ++ ys) u.there ∙ append_assoc u.before (n ∷ u.after) ys;
  named = u.named;
  unnamed = u.unnamed;
}

pub unnamed_one : (names : List CellName) (n : ℕ) → name_of names n ≡ None → IsUnnamed names (n ∷ []) n
unnamed_one names n e = record { before = []; after = []; there = refl; named = All-nil (IsNamed names); unnamed = e }

-- it isn't one of those that have names
last_of : (P : ℕ → Type 0) (xs ys : List ℕ) (n : ℕ) → All P (xs ++ n ∷ ys) → P n
last_of P [] ys n h = All-head P n ys h
last_of P (x ∷ xs) ys n h = last_of P xs ys n (All-tail P x (xs ++ n ∷ ys) h)

pub unnamed_none : (names : List CellName) (used : List ℕ) (n : ℕ) → All (IsNamed names) used → IsUnnamed names used n
    → ⊥
unnamed_none names used n h u =
    let some : IsSome (name_of names n) = last_of (IsNamed names) u.before u.after n
    (subst (All (IsNamed names)) u.there h) in
    let z : false ≡ true = ap is_some (sym u.unnamed) ∙ some in cc

-- numbers stand for names in only one way
abbrev make_reference : List ℕ → Bool → Turn → Point → List Point → PlainReference
make_reference cell flip turn at shifts = record { cell = cell; flip = flip; turn = turn; at = at; shifts = shifts }

a_reference : (c d : PlainReference) → c.cell ≡ d.cell → c.flip ≡ d.flip → c.turn ≡ d.turn → c.at ≡ d.at
    → c.shifts ≡ d.shifts → c ≡ d
a_reference c d e f g h i =
    ap (λ x. make_reference x c.flip c.turn c.at c.shifts) e ∙ ap (λ x. make_reference d.cell x c.turn c.at c.shifts) f
    ∙ ap (λ x. make_reference d.cell d.flip x c.at c.shifts) g
    ∙ ap (λ x. make_reference d.cell d.flip d.turn x c.shifts) h
    ∙ ap (λ x. make_reference d.cell d.flip d.turn d.at x) i

pub same_name : (o : Option (List ℕ)) (s t : List ℕ) → o ≡ Some s → o ≡ Some t → t ≡ s
same_name o s t p q = (let e : Some t ≡ Some s = sym q ∙ p in cc)

same_references : (names : List CellName) (ps : List Placed) (rs ss : List PlainReference)
    → AllZip (IsReference names) ps rs → AllZip (IsReference names) ps ss → ss ≡ rs
same_references names [] [] [] p q = refl
same_references names [] [] (s ∷ ss) p q = absurd q
same_references names [] (r ∷ rs) ss p q = absurd p
same_references names (x ∷ ps) [] ss p q = absurd p
same_references names (x ∷ ps) (r ∷ rs) [] p q = absurd q
same_references names (x ∷ ps) (r ∷ rs) (s ∷ ss) p q =
    let one : s ≡ r = a_reference s r (same_name (meant names x.cell) r.cell s.cell p.0.cell q.0.cell)
    (q.0.flip ∙ sym p.0.flip) (q.0.turn ∙ sym p.0.turn) (q.0.at ∙ sym p.0.at) (q.0.shifts ∙ sym p.0.shifts) in
    ap (λ (i : PlainReference). i ∷ ss) one ∙ ap (λ l. r ∷ l) (same_references names ps rs ss p.1 q.1)

abbrev make_cell : {F : Type 0} → List ℕ → List (PlainShape F) → List PlainReference → PlainCell F
make_cell name shapes references = record { name = name; shapes = shapes; references = references }

a_cell : {F : Type 0} (c d : PlainCell F) → c.name ≡ d.name → c.shapes ≡ d.shapes → c.references ≡ d.references → c ≡ d
a_cell {F = F} c d e f g =
    ap (λ x. make_cell {F = F} x c.shapes c.references) e ∙ ap (λ x. make_cell {F = F} d.name x c.references) f
    ∙ ap (λ x. make_cell {F = F} d.name d.shapes x) g

pub same_cells : {F : Type 0} (names : List CellName) (ds : List (PlainDrawing F)) (cs es : List (PlainCell F))
    → AreCells names ds cs → AreCells names ds es → es ≡ cs
same_cells names [] [] [] p q = refl
same_cells names [] [] (e ∷ es) p q = absurd q
same_cells names [] (c ∷ cs) es p q = absurd p
same_cells names (d ∷ ds) [] es p q = absurd p
same_cells names (d ∷ ds) (c ∷ cs) [] p q = absurd q
same_cells {F = F} names (d ∷ ds) (c ∷ cs) (e ∷ es) p q =
    let one : e ≡ c = a_cell e c (same_name (meant names d.name) c.name e.name p.0.name q.0.name)
    (q.0.shapes ∙ sym p.0.shapes) (same_references names d.placements c.references e.references p.0.references
    q.0.references) in
    ap (λ (i : PlainCell F). i ∷ es) one ∙ ap (λ l. c ∷ l) (same_cells names ds cs es p.1 q.1)

-- cells with rings for their figures are the cells of figures, as they are kept
pub record AreKept (names : List CellName) (ds : List (PlainDrawing Figure)) (found : List (PlainCell Rings)) : Type 0
  where
    pub cells : List (PlainCell Figure)
    pub are : AreCells names ds cells
    pub kept_as : found ≡ kept figure_rings cells

abbrev figured : PlainDrawing Figure → PlainCell Rings → PlainCell Figure
figured d c = record { name = c.name; shapes = d.shapes; references = c.references }

abbrev ringed : List ℕ → List (PlainShape Rings) → List PlainReference → PlainCell Rings
ringed name shapes references = record { name = name; shapes = shapes; references = references }

pub kept_cells : (names : List CellName) (ds : List (PlainDrawing Figure)) (found : List (PlainCell Rings))
    → AreCells names (map with_rings ds) found → AreKept names ds found
kept_cells names [] [] h = record { cells = []; are = tt; kept_as = refl }
kept_cells names [] (c ∷ found) h = absurd h
kept_cells names (d ∷ ds) [] h = absurd h
kept_cells names (d ∷ ds) (c ∷ found) h =
    let rest = kept_cells names ds found h.1 in
    record {
      cells = figured d c ∷ rest.cells;
      are = (record { name = h.0.name; shapes = refl; references = h.0.references }, rest.are);
      kept_as = ap (λ s. ringed c.name s c.references ∷ found) h.0.shapes
          ∙ ap (λ l. ringed c.name (with_rings d).shapes c.references ∷ l) rest.kept_as;
    }

-- cells of rings use the same numbers as cells of figures
pub numbers_kept : (ds : List (PlainDrawing Figure)) → numbers_used (map with_rings ds) ≡ numbers_used ds
numbers_kept ds = flat_map-map numbers_in with_rings ds

-- a loop over a list: the elements that it has passed, the next one, and those still to come
pub rest_goes : {A : Type 0} (all came rest after : List A) (x : A) → came ++ rest ≡ all → rest ≡ x ∷ after
    → (came ++ x ∷ []) ++ after ≡ all
rest_goes all came rest after x e h = append_assoc came (x ∷ []) after ∙ ap (λ l. came ++ l) (sym h) ∙ e

pub rest_ends : {A : Type 0} (all came rest : List A) → came ++ rest ≡ all → rest ≡ [] → came ≡ all
rest_ends all came rest e h = sym (append-nil came) ∙ ap (λ l. came ++ l) (sym h) ∙ e

pub unnamed_there : {A : Type 0} (f : A → List ℕ) (names : List CellName) (all came rest after : List A) (x : A) (n : ℕ)
    → came ++ rest ≡ all → rest ≡ x ∷ after
    → All (IsNamed names) (flat_map f came) → IsUnnamed names (f x) n → IsUnnamed names (flat_map f all) n
unnamed_there f names all came rest after x n e h named u =
    let parts : flat_map f came ++ (f x ++ flat_map f after) ≡ flat_map f all = sym (flat_map-append f came (x ∷ after))
    ∙ ap (λ l. flat_map f (came ++ l)) (sym h) ∙ ap (flat_map f) e in
    subst (λ l. IsUnnamed names l n) parts (unnamed_after names (flat_map f came) (f x ++ flat_map f after) n named
    (unnamed_before names (f x) (flat_map f after) n u))

says_more : {F : Type 0} (P Q : F → Type 0) (e : Cause F) → ((f : F) → P f → Q f) → Says e P → Says e Q
says_more P Q (Breach f) h s = h f s
says_more P Q OutOfMemory h s = tt

-- whether a refusal is that the reader failed
abbrev pub is_refusal_read : Cause OasisFault → Bool
is_refusal_read (Breach f) = is_read_error f
is_refusal_read OutOfMemory = false

pub is_read_err : (A : Type 0) (e : Cause OasisFault) → is_read {A = A} (Err e) ≡ is_refusal_read e
is_read_err A (Breach f) = refl
is_read_err A OutOfMemory = refl

-- whether a result that is passed on as a refusal is that the reader failed
pub read_carried : (A : Type 0) (r : Result A (Cause OasisFault)) (e : Cause OasisFault)
    → IsErr r × IsErrAnd r (λ x. x ≡ e) → is_refusal_read e ≡ is_read r
read_carried A (Ok x) e g = (let z : false ≡ true = g.0 in cc)
read_carried A (Err x) e g = ap is_refusal_read (sym g.1) ∙ sym (is_read_err A x)

-- a refusal that is passed on
pub says_carried : {A F : Type 0} (P Q : F → Type 0) (r : Result A (Cause F)) (e : Cause F) → ((f : F) → P f → Q f)
    → Says e P
    → IsErr r × IsErrAnd r (λ x. x ≡ e) → IfErr r (λ x. Says x Q)
says_carried P Q (Ok x) e h s g = (let z : false ≡ true = g.0 in cc)
says_carried P Q (Err x) e h s g = subst (λ y. Says y Q) (sym g.1) (says_more P Q e h s)
