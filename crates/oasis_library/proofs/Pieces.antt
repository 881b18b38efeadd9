-- A list in pieces: the cells of its drawings, piece by piece.
use Rattle.std.proofs.Common.{◌≡◌, ℕ, List, [], ◌∷◌, ◌++◌, sym, ap, subst, ◌∙◌}
use Rattle.std.specs.Prelude.{flat_map}
use Rattle.std.specs.List.{AllZip}
use Rattle.std.proofs.lemmas.Grind.{flat_map-append}
use Rattle.std.proofs.lemmas.List.{append-nil, append_assoc}
use Rattle.lvl_cells.specs.Cells.{PlainCell, Rings}
use Rattle.oasis_records.specs.declared.cell.CellName.{CellName}
use Rattle.oasis_library.specs.Cells.{PlainDrawing}
use Rattle.oasis_library.specs.Names.{AreCells, IsCell, IsUnnamed, numbers_in, numbers_used}
use Rattle.oasis_library.proofs.Resolving.{cells_named, unnamed_after, unnamed_before}

module _ {X : Type 0} (items : X → List (PlainDrawing Rings)) where
  -- the pieces that are left after one more was taken
  pub piece_goes : (all : List (PlainDrawing Rings)) (came rest after : List X) (x : X)
      → flat_map items (came ++ rest) ≡ all → rest ≡ x ∷ after → flat_map items ((came ++ x ∷ []) ++ after) ≡ all
  piece_goes all came rest after x e h =
      ap (flat_map items) (append_assoc came (x ∷ []) after ∙ ap (λ l. came ++ l) (sym h)) ∙ e

  -- all pieces were taken
  pub pieces_end : (all : List (PlainDrawing Rings)) (came rest : List X)
      → flat_map items (came ++ rest) ≡ all → rest ≡ [] → flat_map items came ≡ all
  pieces_end all came rest e h =
      ap (flat_map items) (sym (append-nil came) ∙ ap (λ l. came ++ l) (sym h)) ∙ e

  -- a number without a name in a piece, after pieces whose numbers have names
  pub unnamed_in_piece : (names : List CellName) (all : List (PlainDrawing Rings)) (came rest after : List X) (x : X)
      (cells : List (PlainCell Rings)) (n : ℕ)
      → flat_map items (came ++ rest) ≡ all → rest ≡ x ∷ after → AreCells names (flat_map items came) cells
      → IsUnnamed names (numbers_used (items x)) n → IsUnnamed names (numbers_used all) n
  unnamed_in_piece names all came rest after x cells n e h are u =
      let a : List (PlainDrawing Rings) = flat_map items came in
      let b : List (PlainDrawing Rings) = items x in
      let c : List (PlainDrawing Rings) = flat_map items after in
      let parts : a ++ (b ++ c) ≡ all = sym (flat_map-append items came (x ∷ after))
      ∙ (ap (λ l. flat_map items (came ++ l)) (sym h) ∙ e) in
      let used : numbers_used a ++ (numbers_used b ++ numbers_used c) ≡ numbers_used all =
      ap (λ l. numbers_used a ++ l) (sym (flat_map-append numbers_in b c))
      ∙ (sym (flat_map-append numbers_in a (b ++ c)) ∙ ap numbers_used parts) in
      subst (λ l. IsUnnamed names l n) used
      (unnamed_after names (numbers_used a) (numbers_used b ++ numbers_used c) n (cells_named names a cells are)
      (unnamed_before names (numbers_used b) (numbers_used c) n u))

  zip-append : {A B : Type 0} (R : A → B → Type 0) (xs us : List A) (ys vs : List B) → AllZip R xs ys → AllZip R us vs
      → AllZip R (xs ++ us) (ys ++ vs)
  zip-append R [] us [] vs p q = q
  zip-append R [] us (y ∷ ys) vs p q = absurd p
  zip-append R (x ∷ xs) us [] vs p q = absurd p
  zip-append R (x ∷ xs) us (y ∷ ys) vs p q = (p.0, zip-append R xs us ys vs p.1 q)

  -- the cells of one more piece, appended
  pub piece_added : (names : List CellName) (came : List X) (x : X) (cells more : List (PlainCell Rings))
      → AreCells names (flat_map items came) cells → AreCells names (items x) more
      → AreCells names (flat_map items (came ++ x ∷ [])) (cells ++ more)
  piece_added names came x cells more are adds =
      subst (λ l. AreCells names l (cells ++ more))
      (sym (flat_map-append items came (x ∷ []) ∙ ap (λ l. flat_map items came ++ l) (append-nil (items x))))
      (zip-append (IsCell names) (flat_map items came) (items x) cells more are adds)
