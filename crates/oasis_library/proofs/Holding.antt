-- What was read is updated with one more record.
use Rattle.std.proofs.Common.{◌≡◌, ◌+◌, false, List, [], ◌∷◌, ◌++◌, map, refl, sym, ap, ◌∙◌, subst, if◌then◌else◌}
use Rattle.std.proofs.Common.{Result, Ok, Err, IfOk, OnOk, append_assoc, arith}
use Rattle.std.proofs.lemmas.List.{append-nil}
use Rattle.std.specs.Prelude.{flat_map, Option, Some, None}
use Rattle.lvl_refusal.specs.declared.Cause.{Cause}
use Rattle.lvl_refusal.specs.declared.Cause.TheVariants.{Breach, OutOfMemory}
use Rattle.lvl_profile.specs.declared.ignore.Ignore.{Ignore}
use Rattle.lvl_profile.specs.declared.profile.Profile.{Profile}
use Rattle.oasis_records.specs.declared.cell.CellRef.{CellRef}
use Rattle.oasis_records.specs.declared.record.Record.TheVariants.{Cell}
use Rattle.oasis_figures.specs.Figures.{shifts_of, IsDrawn, PlacesFit}
use Rattle.oasis_figures.specs.Rules.{BreachesNone}
use Rattle.oasis_figures.specs.declared.drawn.DrawnRecord.{DrawnRecord}
use Rattle.oasis_figures.specs.declared.modal.Modal.{Modal}
use Rattle.oasis_figures.specs.declared.rule.FigureRule.{FigureRule}
use Rattle.oasis_figures.specs.declared.rule.FigureRule.TheVariants.{Undefined, Path as PathRule}
use Rattle.oasis_stream.specs.declared.fault.NameRule.{NameRule}
use Rattle.oasis_stream.specs.declared.fault.OasisKind.{OasisKind}
use Rattle.oasis_stream.specs.declared.fault.OasisKind.TheVariants.{Name, Figure}
use Rattle.oasis_values.specs.declared.number.Real.TheVariants.{Whole}
use Rattle.oasis_records.specs.declared.end.Validation.TheVariants.{Absent}
use Rattle.oasis_records.specs.declared.record.Record.{Record}
use Rattle.oasis_figures.specs.Keeping.{StandsFor}
use Rattle.oasis_blocks.specs.Packed.{Packed}
use Rattle.oasis_stream.specs.Items.{Item, magic, item, block, records, unpacked}
use Rattle.oasis_stream.specs.Order.{last_or, name_in, names_in}
use Rattle.oasis_stream.specs.Rules.{is_cell, since_cell, KeepsRules}
use Rattle.oasis_stream.specs.inside.Reached.{HasReached, passed}
use Rattle.oasis_stream.proofs.Reached.{law_passed, flat_map-snoc, last_or-append}
use Rattle.oasis_library.specs.Cells.{drawings, with_rings}
use Rattle.oasis_library.specs.Head.{unit_in, validation_in}
use Rattle.oasis_library.specs.inside.Answers.{of_name, of_figure}
use Rattle.oasis_library.specs.inside.Holds.{HoldsNames, Holds}
use Rattle.oasis_library.specs.inside.Kept.{begun, on_last}
use Rattle.oasis_library.specs.inside.Taken.{IsTaken, grown}
use Rattle.oasis_library.proofs.Growing.{since-snoc, since-other, kept-other, kept-cell}
use Rattle.oasis_library.specs.declared.reading.Reading.{Reading}

last-snoc : {A : Type 0} (f : Record → List A) (d x y : A) (rs : List Record) (r : Record)
    → x ≡ last_or d (flat_map f rs) → y ≡ last_or x (f r) → y ≡ last_or d (flat_map f (rs ++ r ∷ []))
last-snoc f d x y rs r e h =
    h ∙ ap (λ i. last_or i (f r)) e ∙ sym (last_or-append d (flat_map f rs) (f r)) ∙ ap (last_or d)
    (sym (flat_map-snoc f rs r))

-- what a record changes
pub record Goes (x y : Reading) (rs : List Record) (r : Record) : Type 0 where
  pub order : y.order ≡ passed x.order r
  pub names : HoldsNames y.names (names_in rs ++ name_in r)
  pub modal : StandsFor y.modal (since_cell (rs ++ r ∷ []))
  pub cells : y.cells ≡ map with_rings (drawings (rs ++ r ∷ []))
  pub unit : y.head.unit ≡ last_or x.head.unit (unit_in r)
  pub validation : y.head.validation ≡ last_or x.head.validation (validation_in r)

pub law_holds : (x y : Reading) (rs : List Record) (r : Record) → Holds x rs → Goes x y rs r → Holds y (rs ++ r ∷ [])
law_holds x y rs r h g = record {
  order = subst (λ o. HasReached o (rs ++ r ∷ [])) (sym g.order) (law_passed x.order rs r h.order);
  names = subst (HoldsNames y.names) (sym (flat_map-snoc name_in rs r)) g.names;
  modal = g.modal;
  cells = g.cells;
  unit = last-snoc unit_in (Whole 0) x.head.unit y.head.unit rs r h.unit g.unit;
  validation = last-snoc validation_in Absent x.head.validation y.head.validation rs r h.validation g.validation;
}

pub records-snoc : (is : List Item) (r : Record) → records (is ++ item r ∷ []) ≡ records is ++ r ∷ []
records-snoc [] r = refl
records-snoc (magic ∷ is) r = records-snoc is r
records-snoc (item x ∷ is) r = ap (λ l. x ∷ l) (records-snoc is r)
records-snoc (block p rs ∷ is) r =
    ap (λ l. rs ++ l) (records-snoc is r) ∙ sym (append_assoc rs (records is) (r ∷ []))

-- a block adds the records in it
pub records-block : (is : List Item) (p : Packed) (rs : List Record) → records (is ++ block p rs ∷ []) ≡ records is ++ rs
records-block [] p rs = append-nil rs
records-block (magic ∷ is) p rs = records-block is p rs
records-block (item x ∷ is) p rs = ap (λ l. x ∷ l) (records-block is p rs)
records-block (block q ss ∷ is) p rs =
    ap (λ l. ss ++ l) (records-block is p rs) ∙ sym (append_assoc ss (records is) rs)

-- what is unpacked after one more item
pub unpacked-snoc : (is : List Item) (i : Item) → unpacked (is ++ i ∷ []) ≡ unpacked is + unpacked (i ∷ [])
unpacked-snoc [] i = omega arith
unpacked-snoc (magic ∷ is) i = unpacked-snoc is i
unpacked-snoc (item x ∷ is) i = unpacked-snoc is i
unpacked-snoc (block q ss ∷ is) i = omega (arith, unpacked-snoc is i)

-- after a CELL
pub cell_goes : (x y : Reading) (rs : List Record) (next : Record) (name : CellRef) → next ≡ Cell name → Holds x rs
    → y.order ≡ passed x.order next → HoldsNames y.names (names_in rs ++ name_in next) → StandsFor y.modal []
    → y.cells ≡ x.cells ++ begun name ∷ []
    → y.head.unit ≡ last_or x.head.unit (unit_in next)
    → y.head.validation ≡ last_or x.head.validation (validation_in next) → Holds y (rs ++ next ∷ [])
cell_goes x y rs next name is h order names modal cells unit validation = law_holds x y rs next h (record {
  order = order;
  names = names;
  modal =
      subst (StandsFor y.modal) (sym
      (since-snoc [] rs next ∙ ap (λ (i : Record). if is_cell i then [] else i ∷ since_cell rs) is)) modal;
  cells = cells ∙ ap (λ l. l ++ begun name ∷ []) h.cells ∙ sym (kept-cell rs name)
      ∙ ap (λ (i : Record). map with_rings (drawings (rs ++ i ∷ []))) (sym is);
  unit = unit;
  validation = validation;
})

-- after another record
pub other_goes : (x y : Reading) (rs : List Record) (next : Record) → is_cell next ≡ false → Holds x rs
    → y.order ≡ passed x.order next → HoldsNames y.names (names_in rs ++ name_in next)
    → StandsFor y.modal (next ∷ since_cell rs) → y.cells ≡ on_last (grown (since_cell rs) next) x.cells
    → y.head.unit ≡ last_or x.head.unit (unit_in next)
    → y.head.validation ≡ last_or x.head.validation (validation_in next) → Holds y (rs ++ next ∷ [])
other_goes x y rs next other h order names modal cells unit validation = law_holds x y rs next h (record {
  order = order;
  names = names;
  modal = subst (StandsFor y.modal) (sym (since-other rs next other)) modal;
  cells = cells ∙ ap (on_last (grown (since_cell rs) next)) h.cells ∙ sym (kept-other rs next other);
  unit = unit;
  validation = validation;
})

-- the results for names and for figures

pub name_ok : {P : Type 0} (r : Result (Unit {0}) (Cause NameRule)) (q : Result (Unit {0}) (Cause OasisKind))
    (u : Unit {0}) → q ≡ of_name r → q ≡ Ok u → OnOk r P → P
name_ok (Ok v) q u e f p = p
name_ok (Err (Breach k)) q u e f p = (let z : Err (Breach (Name k)) ≡ Ok u = sym e ∙ f in cc)
name_ok (Err OutOfMemory) q u e f p = (let z : Err OutOfMemory ≡ Ok u = sym e ∙ f in cc)

pub record Takes (ignore : Ignore) (old new : Modal) (next : Record) (r : Result (Option DrawnRecord)
    (Cause FigureRule)) : Type 0 where
  pub drawn : IfOk r (λ drawn. (earlier : List Record) → StandsFor old earlier → IsDrawn earlier next drawn)
  pub places : IfOk r (λ drawn. (earlier : List Record) → StandsFor old earlier → PlacesFit (shifts_of earlier next)
      drawn)
  pub kept : OnOk r ((earlier : List Record) → StandsFor old earlier → StandsFor new (next ∷ earlier))
  pub none : OnOk r ((earlier : List Record) → StandsFor old earlier → BreachesNone ignore earlier next)

pub figure_ok : (ignore : Ignore) (old new : Modal) (next : Record) (r : Result (Option DrawnRecord) (Cause FigureRule))
    (q : Result (Option DrawnRecord) (Cause OasisKind)) (d : Option DrawnRecord)
    → q ≡ of_figure r → q ≡ Ok d → Takes ignore old new next r → (earlier : List Record) → StandsFor old earlier
    → IsTaken earlier next d new × BreachesNone ignore earlier next
figure_ok ignore old new next (Ok x) q d e f t earlier h =
    let z : Ok x ≡ Ok d = sym e ∙ f in
    let same : x ≡ d = cc in (
      subst (λ (i : Option DrawnRecord). IsTaken earlier next i new) same (record {
        stands = t.kept earlier h;
        draws = t.drawn earlier h;
        fits = t.places earlier h;
        none = (ignore, t.none earlier h);
      }),
      t.none earlier h,
    )
figure_ok ignore old new next (Err (Breach k)) q d e f t earlier h = (let z : Err (Breach
    (Figure k)) ≡ Ok d = sym e ∙ f in cc)
figure_ok ignore old new next (Err OutOfMemory) q d e f t earlier h = (let z : Err OutOfMemory ≡ Ok d = sym e ∙ f in cc)

-- a CELL breaches no rule
pub cell_keeps : (profile : Profile) (rs : List Record) (ref : CellRef) → KeepsRules profile rs (Cell ref)
cell_keeps profile rs ref = (λ k b. b, none)
  where
    none : BreachesNone profile.ignore (since_cell rs) (Cell ref)
    none (Undefined v) b = (let z : None ≡ Some v = b in cc)
    none (PathRule f) b = b
    none _ b = b
