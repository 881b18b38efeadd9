-- What one more record, or one more element, does to the library that is spelled.
use Rattle.std.proofs.Common.{◌≡◌, ◌==◌, ℕ, Bool, true, false, if◌then◌else◌, List, [], ◌∷◌, ◌++◌, map, refl, sym, ap}
use Rattle.std.proofs.Common.{◌∙◌}
use Rattle.std.proofs.lemmas.List.{append-nil}
use Rattle.std.proofs.lemmas.Grind.{flat_map-append}
use Rattle.std.specs.List.{flat_map}
use Rattle.lvl_path.specs.Figure.{Figure, figure_rings}
use Rattle.lvl_cells.specs.Cells.{PlainShape, PlainReference, drawn, kept}
use Rattle.gds_elements.specs.Types.{bgnstr, strname, layer, datatype, width, xy, sname, colrow, strans, angle}
use Rattle.gds_elements.specs.Types.{pathtype}
use Rattle.gds_elements.specs.Rec.{Rec, is_type, is_opener, field}
use Rattle.gds_elements.specs.Values.{name}
use Rattle.gds_elements.specs.Meaning.{shapes_of, references_of, in_rings}
use Rattle.lvl_grammar.proofs.Orders.{type_same}
use Rattle.gds_elements.proofs.Fields.{last_there, field-snoc, if_not}
use Rattle.gds_library.specs.Drawn.{KeptShape, KeptCell}
use Rattle.gds_library.specs.Rec.{pieces}
use Rattle.gds_library.specs.Values.{drawing, drawings}
use Rattle.gds_library.specs.inside.Shown.{on_last, grown, grown_cell, with_drawn}
use Rattle.lvl_cells.specs.Building.{no_cell}
use Rattle.gds_library.proofs.Outside.{IsOutside}
use Rattle.gds_library.proofs.Elements.{opens_none}
use Rattle.gds_library.proofs.Pieces.{IsPiece, map-snoc, map_on_last, pieces-snoc, opener_piece, structure_piece}
use Rattle.gds_library.proofs.Pieces.{field_past, piece_lacks}

-- the shapes of an element stay the same with one more record that is outside of elements
shapes_same : (piece : List Rec) (r : Rec) → IsOutside r.kind → shapes_of (piece ++ r ∷ []) ≡ shapes_of piece
shapes_same [] r o = rw ((opens_none r.kind o.opens).boundary, (opens_none r.kind o.opens).path) refl
shapes_same (x ∷ xs) r o =
    rw (
      last_there layer (x ∷ xs) r o.no_value.layer,
      last_there datatype (x ∷ xs) r o.no_value.datatype,
      last_there xy (x ∷ xs) r o.no_value.xy,
      last_there width (x ∷ xs) r o.no_value.width,
      last_there pathtype (x ∷ xs) r o.no_value.pathtype,
    ) refl

references_same : (piece : List Rec) (r : Rec) → IsOutside r.kind
    → references_of (piece ++ r ∷ []) ≡ references_of piece
references_same [] r o = rw ((opens_none r.kind o.opens).sref, (opens_none r.kind o.opens).aref) refl
references_same (x ∷ xs) r o =
    rw (
      last_there sname (x ∷ xs) r o.no_value.sname,
      last_there strans (x ∷ xs) r o.no_value.strans,
      last_there angle (x ∷ xs) r o.no_value.angle,
      last_there xy (x ∷ xs) r o.no_value.xy,
      last_there colrow (x ∷ xs) r o.no_value.colrow,
    ) refl

flat_same : {A : Type 0} (f : List Rec → List A) (g : List Rec → List Rec) → ((p : List Rec) → f (g p) ≡ f p)
    → (ps : List (List Rec)) → flat_map f (on_last g ps) ≡ flat_map f ps
flat_same f g h [] = refl
flat_same f g h (p ∷ []) = ap (λ l. l ++ []) (h p)
flat_same f g h (p ∷ q ∷ ps) = ap (λ l. f p ++ l) (flat_same f g h (q ∷ ps))

flat_more : {A : Type 0} (f : List Rec → List A) (ps : List (List Rec)) (p : List Rec)
    → flat_map f (ps ++ p ∷ []) ≡ flat_map f ps ++ f p
flat_more f ps p = flat_map-append f ps (p ∷ []) ∙ ap (λ l. flat_map f ps ++ l) (append-nil (f p))

rings_append : (xs ys : List (PlainShape Figure)) → map in_rings (xs ++ ys) ≡ map in_rings xs ++ map in_rings ys
rings_append [] ys = refl
rings_append (x ∷ xs) ys = ap (λ l. in_rings x ∷ l) (rings_append xs ys)

-- the cell of a structure as it is kept
cell_from : List ℕ → List (PlainShape Figure) → List PlainReference → KeptCell
cell_from n shapes references = record { name = name n; shapes = map in_rings shapes; references = references }

kept_cell : List Rec → KeptCell
kept_cell rs =
    cell_from (field strname rs) (flat_map shapes_of (pieces is_opener rs))
    (flat_map references_of (pieces is_opener rs))

kept_cells : (ps : List (List Rec)) → kept figure_rings (map drawing ps) ≡ map kept_cell ps
unfolding kept_cell cell_from
kept_cells [] = refl
kept_cells (p ∷ ps) = ap (λ l. drawn figure_rings (drawing p) ∷ l) (kept_cells ps)

name_grown : (b : Bool) (k : ℕ) (payload n : List ℕ) (shapes : List (PlainShape Figure))
    (references : List PlainReference)
    → k == strname ≡ b
    → cell_from (if k == strname then payload else n) shapes references ≡ grown_cell k payload
    (cell_from n shapes references)
unfolding cell_from
name_grown true k payload n shapes references e = rw e refl
name_grown false k payload n shapes references e = rw e refl

-- a cell with one more record that is outside of elements
cell-snoc : (rs : List Rec) (r : Rec) → IsOutside r.kind
    → kept_cell (rs ++ r ∷ []) ≡ grown_cell r.kind r.payload (kept_cell rs)
unfolding kept_cell
cell-snoc rs r o =
    let ps : pieces is_opener (rs ++ r ∷ []) ≡ on_last (λ p. p ++ r ∷ []) (pieces is_opener rs) =
    pieces-snoc is_opener rs r ∙ if_not (is_opener r) _ _ o.opens in
    ap (λ n. cell_from n (flat_map shapes_of (pieces is_opener (rs ++ r ∷ [])))
    (flat_map references_of (pieces is_opener (rs ++ r ∷ [])))) (field-snoc strname rs r)
    ∙ ap (λ l. cell_from (if r.kind == strname then r.payload else field strname rs) l
    (flat_map references_of (pieces is_opener (rs ++ r ∷ [])))) (ap (flat_map shapes_of) ps ∙ flat_same shapes_of
    (λ p. p ++ r ∷ []) (λ p. shapes_same p r o) (pieces is_opener rs))
    ∙ ap (λ l. cell_from (if r.kind == strname then r.payload else field strname rs)
    (flat_map shapes_of (pieces is_opener rs)) l) (ap (flat_map references_of) ps ∙ flat_same references_of
    (λ p. p ++ r ∷ []) (λ p. references_same p r o) (pieces is_opener rs))
    ∙ name_grown (r.kind == strname) r.kind r.payload (field strname rs) (flat_map shapes_of (pieces is_opener rs))
    (flat_map references_of (pieces is_opener rs)) refl

cell_one : (r : Rec) → r.kind == bgnstr ≡ true → kept_cell (r ∷ []) ≡ no_cell
unfolding kept_cell cell_from
cell_one r e =
    ap (λ (k : ℕ). let x : Rec = record { kind = k; data_type = r.data_type; payload = r.payload } in
    kept_cell (x ∷ [])) (type_same r.kind bgnstr e)

cells_at : (rs : List Rec) (r : Rec) (b : Bool) → IsOutside r.kind → r.kind == bgnstr ≡ b
    → map kept_cell (if b then pieces (is_type bgnstr) rs ++ (r ∷ []) ∷ [] else on_last (λ p. p ++ r ∷ [])
    (pieces (is_type bgnstr) rs))
    ≡ (if b then map kept_cell (pieces (is_type bgnstr) rs) ++ no_cell ∷ [] else on_last (grown_cell r.kind r.payload)
    (map kept_cell (pieces (is_type bgnstr) rs)))
cells_at rs r true o e =
    map-snoc kept_cell (pieces (is_type bgnstr) rs) (r ∷ [])
    ∙ ap (λ f. map kept_cell (pieces (is_type bgnstr) rs) ++ f ∷ []) (cell_one r e)
cells_at rs r false o e =
    map_on_last kept_cell (λ p. p ++ r ∷ []) (grown_cell r.kind r.payload) (λ p. cell-snoc p r o)
    (pieces (is_type bgnstr) rs)

-- a library with one more record that is outside of elements
pub drawings-snoc : (rs : List Rec) (r : Rec) → IsOutside r.kind
    → kept figure_rings (drawings (rs ++ r ∷ [])) ≡ grown r.kind r.payload (kept figure_rings (drawings rs))
drawings-snoc rs r o =
    kept_cells (pieces (is_type bgnstr) (rs ++ r ∷ []))
    ∙ ap (map kept_cell) (pieces-snoc (is_type bgnstr) rs r) ∙ cells_at rs r (r.kind == bgnstr) o refl
    ∙ ap (grown r.kind r.payload) (sym (kept_cells (pieces (is_type bgnstr) rs)))

with_more : (n : List ℕ) (shapes more : List (PlainShape Figure)) (references others : List PlainReference)
    → cell_from n (shapes ++ more) (references ++ others) ≡ with_drawn (map in_rings more) others
    (cell_from n shapes references)
unfolding cell_from
with_more n shapes more references others =
    ap (λ (l : List KeptShape). let c : KeptCell = record {
      name = name n;
      shapes = l;
      references = references ++ others;
    } in c) (rings_append shapes more)

-- a cell with one more element
cell_element : (rs piece : List Rec) → IsPiece piece
    → kept_cell (rs ++ piece) ≡ with_drawn (map in_rings (shapes_of piece)) (references_of piece) (kept_cell rs)
unfolding kept_cell
cell_element rs piece p =
    let ps = opener_piece rs piece p in
    ap (λ n. cell_from n (flat_map shapes_of (pieces is_opener (rs ++ piece)))
    (flat_map references_of (pieces is_opener (rs ++ piece))))
    (field_past strname rs piece (piece_lacks piece strname p refl refl))
    ∙ ap (λ l. cell_from (field strname rs) l (flat_map references_of (pieces is_opener (rs ++ piece))))
    (ap (flat_map shapes_of) ps ∙ flat_more shapes_of (pieces is_opener rs) piece)
    ∙ ap (λ l. cell_from (field strname rs) (flat_map shapes_of (pieces is_opener rs) ++ shapes_of piece) l)
    (ap (flat_map references_of) ps ∙ flat_more references_of (pieces is_opener rs) piece)
    ∙ with_more (field strname rs) (flat_map shapes_of (pieces is_opener rs)) (shapes_of piece)
    (flat_map references_of (pieces is_opener rs)) (references_of piece)

-- a library with one more element
pub drawings_element : (rs piece : List Rec) → IsPiece piece
    → kept figure_rings (drawings (rs ++ piece)) ≡ on_last
    (with_drawn (map in_rings (shapes_of piece)) (references_of piece)) (kept figure_rings (drawings rs))
drawings_element rs piece p =
    kept_cells (pieces (is_type bgnstr) (rs ++ piece))
    ∙ ap (map kept_cell) (structure_piece rs piece p)
    ∙ map_on_last kept_cell (λ s. s ++ piece) (with_drawn (map in_rings (shapes_of piece)) (references_of piece))
    (λ s. cell_element s piece p) (pieces (is_type bgnstr) rs)
    ∙ ap (on_last (with_drawn (map in_rings (shapes_of piece)) (references_of piece)))
    (sym (kept_cells (pieces (is_type bgnstr) rs)))
