-- What one more record does to the library of a builder.
use Rattle.std.proofs.Common.{◌≡◌, ◌==◌, ℕ, Bool, true, false, if◌then◌else◌, List, [], ◌∷◌, ◌++◌, Some, None, refl}
use Rattle.std.proofs.Common.{sym, ap, ◌∙◌, subst}
use Rattle.std.specs.Prelude.{Option}
use Rattle.gds_elements.specs.Types.{header, bgnlib, libname, units, endlib, bgnstr, strname, endstr}
use Rattle.gds_elements.specs.Values.{name}
use Rattle.gds_library.specs.Types.{fill}
use Rattle.gds_library.specs.Drawn.{KeptShape, KeptCell}
use Rattle.lvl_cells.specs.Cells.{PlainReference}
use Rattle.lvl_cells.specs.Building.{no_cell, with_shape, with_reference}
use Rattle.std.proofs.lemmas.List.{append-nil}
use Rattle.gds_library.specs.inside.Stage.{after}
use Rattle.gds_library.specs.inside.Shown.{on_last, grown, grown_cell, with_drawn, shown_at, done, open_cell}
use Rattle.gds_library.specs.declared.stage.LibraryStage.{LibraryStage}
use Rattle.gds_library.specs.declared.stage.LibraryStage.TheVariants.{Header, BgnLib, LibName, Units, Structures}
use Rattle.gds_library.specs.declared.stage.LibraryStage.TheVariants.{StrName}
use Rattle.gds_library.specs.declared.stage.LibraryStage.TheVariants.{Elements, Fill}
use Rattle.gds_library.specs.declared.builder.Builder.{Builder}
use Rattle.gds_library.proofs.Pieces.{on_last-append, on_last-id}

plain_cell : (k : ℕ) (p : List ℕ) (c : KeptCell) → k == strname ≡ false → grown_cell k p c ≡ c
plain_cell k p c s = rw s refl

-- a record that adds nothing to a cell or a library
pub plain : (k : ℕ) (p : List ℕ) (cs : List KeptCell) → k == bgnstr ≡ false → k == strname ≡ false → grown k p cs ≡ cs
plain k p cs n s = rw n (on_last-id (grown_cell k p) cs (λ c. plain_cell k p c s))

pub shown_bgnstr : (p q : LibraryStage) (b b' : Builder) (payload : List ℕ) → after p bgnstr ≡ Some q
    → b'.cells ≡ b.cells
    → shown_at q b' ≡ grown bgnstr payload (shown_at p b)
shown_bgnstr Structures q b b' payload e c = (let z : q ≡ StrName = cc in rw (z, c) refl)
shown_bgnstr _ q b b' payload e c = cc

pub shown_strname : (p q : LibraryStage) (b b' : Builder) (payload : List ℕ) → after p strname ≡ Some q
    → b'.cells ≡ record {
      cells = b.cells.cells;
      current = record { name = name payload; shapes = []; references = [] };
    }
    → shown_at q b' ≡ grown strname payload (shown_at p b)
shown_strname StrName q b b' payload e c =
    (let z : q ≡ Elements = cc in rw (z, c) (sym (on_last-append (grown_cell strname payload) (done b) no_cell)))
shown_strname _ q b b' payload e c = cc

pub shown_endstr : (p q : LibraryStage) (b b' : Builder) (payload : List ℕ) → after p endstr ≡ Some q
    → b'.cells.cells ≡ done b ++ open_cell b ∷ [] → shown_at q b' ≡ grown endstr payload (shown_at p b)
shown_endstr Elements q b b' payload e c =
    (let z : q ≡ Structures = cc in rw (z, c) (sym (plain endstr payload (done b ++ open_cell b ∷ []) refl refl)))
shown_endstr _ q b b' payload e c = cc

pub by_kind : (k j : ℕ) (p q : LibraryStage) (b b' : Builder) (payload : List ℕ) → k ≡ j
    → (after p j ≡ Some q → shown_at q b' ≡ grown j payload (shown_at p b)) → after p k ≡ Some q
    → shown_at q b' ≡ grown k payload (shown_at p b)
by_kind k j p q b b' payload e h a =
    subst (λ i. shown_at q b' ≡ grown i payload (shown_at p b)) (sym e) (h (subst (λ i. after p i ≡ Some q) e a))

-- a type whose records neither begin nor name nor end a structure
pub record IsOther (k : ℕ) : Type 0 where
  pub bgnstr : k == 0x05 ≡ false
  pub strname : k == 0x06 ≡ false
  pub endstr : k == 0x07 ≡ false

other_plain : (k : ℕ) (p q : LibraryStage) (b b' : Builder) (payload : List ℕ) → IsOther k
    → shown_at q b' ≡ shown_at p b
    → shown_at q b' ≡ grown k payload (shown_at p b)
other_plain k p q b b' payload o e = e ∙ sym (plain k payload (shown_at p b) o.bgnstr o.strname)

pub none_some : (b : Bool) (r q : LibraryStage) (x : Option LibraryStage) → b ≡ false
    → (if b then Some r else x) ≡ Some q
    → x ≡ Some q
none_some true r q x n e = cc
none_some false r q x n e = e

pub same_place : (b : Bool) (r q : LibraryStage) → (if b then Some r else None) ≡ Some q → q ≡ r
same_place true r q e = cc
same_place false r q e = cc

structures_rest : (k : ℕ) (q : LibraryStage) (b b' : Builder) (payload : List ℕ) → IsOther k → done b' ≡ done b
    → (t : Bool)
    → (if t then Some Fill else (if k == bgnstr then Some StrName else None)) ≡ Some q
    → shown_at q b' ≡ grown k payload (shown_at Structures b)
structures_rest k q b b' payload o c true e =
    (let z : q ≡ Fill = cc in rw z (other_plain k Structures Fill b b' payload o c))
structures_rest k q b b' payload o c false e =
    (let z : None ≡ Some q = none_some (k == bgnstr) StrName q None o.bgnstr e in cc)

-- such a record doesn't change the library so far
pub shown_other : (k : ℕ) (p q : LibraryStage) (b b' : Builder) (payload : List ℕ) → IsOther k → done b' ≡ done b
    → after p k ≡ Some q → shown_at q b' ≡ grown k payload (shown_at p b)
shown_other k Header q b b' payload o c e =
    (let z = same_place (k == header) BgnLib q e in rw z (other_plain k Header BgnLib b b' payload o c))
shown_other k BgnLib q b b' payload o c e =
    (let z = same_place (k == bgnlib) LibName q e in rw z (other_plain k BgnLib LibName b b' payload o c))
shown_other k LibName q b b' payload o c e =
    (let z = same_place (k == libname) Units q e in rw z (other_plain k LibName Units b b' payload o c))
shown_other k Units q b b' payload o c e =
    (let z = same_place (k == units) Structures q e in rw z (other_plain k Units Structures b b' payload o c))
shown_other k Structures q b b' payload o c e = structures_rest k q b b' payload o c (k == endlib) e
shown_other k StrName q b b' payload o c e =
    (let z : None ≡ Some q = none_some (k == strname) Elements q None o.strname e in cc)
shown_other k Elements q b b' payload o c e =
    (let z : None ≡ Some q = none_some (k == endstr) Structures q None o.endstr e in cc)
shown_other k Fill q b b' payload o c e =
    (let z = same_place (k == fill) Fill q e in rw z (other_plain k Fill Fill b b' payload o c))

-- what an element draws is added at the end of the open cell
pub shown_drawn : (p : LibraryStage) (b b' : Builder) (shapes : List KeptShape) (references : List PlainReference)
    → p ≡ Elements → b'.cells ≡ record { cells = b.cells.cells; current = with_drawn shapes references b.cells.current }
    → shown_at p b' ≡ on_last (with_drawn shapes references) (shown_at p b)
shown_drawn p b b' shapes references e c =
    rw (e, c) (sym (on_last-append (with_drawn shapes references) (done b) (open_cell b)))

cell_of : List ℕ → List KeptShape → List PlainReference → KeptCell
cell_of n s r = record { name = n; shapes = s; references = r }

-- one more shape, one more reference, and nothing
pub one_shape : (c : KeptCell) (s : KeptShape) → with_shape c s ≡ with_drawn (s ∷ []) [] c
unfolding cell_of
one_shape c s = ap (λ r. cell_of c.name (c.shapes ++ s ∷ []) r) (sym (append-nil c.references))

pub one_reference : (c : KeptCell) (r : PlainReference) → with_reference c r ≡ with_drawn [] (r ∷ []) c
unfolding cell_of
one_reference c r = ap (λ s. cell_of c.name s (c.references ++ r ∷ [])) (sym (append-nil c.shapes))

pub no_drawing : (c : KeptCell) → c ≡ with_drawn [] [] c
unfolding cell_of
no_drawing c =
    ap (λ s. cell_of c.name s c.references) (sym (append-nil c.shapes))
    ∙ ap (λ r. cell_of c.name (c.shapes ++ []) r) (sym (append-nil c.references))
