use Rattle.std.proofs.Common.{List, ap, ◌∙◌, ◌∷◌, []}
use Rattle.lvl_grid.specs.declared.point.Point.{Point}
use Rattle.lvl_cells.specs.Building.{Built, with_shape}
use Rattle.lvl_cells.specs.Cells.{Rings}
use Rattle.lvl_names.specs.Shifts.{one_place}
use Rattle.gds_library.specs.Drawn.{KeptShape, KeptCell}
use Rattle.gds_library.proofs.Grown.{shown_drawn, one_shape, one_reference, no_drawing}
use Rattle.gds_library.proofs.builder.Builder.add.Goals as goal

pub returns-in_ok-add_rings-in-Rings-clause-shown : goal.returns-in_ok-add_rings-in-Rings-clause-shown
returns-in_ok-add_rings-in-Rings-clause-shown c = λ e.
    let b = c.args.self.now in
    let of : Rings → List Point → KeptShape = λ f es. record { layer = c.in-Rings.layer; figure = f; shifts = es } in
    let now : KeptCell → Built = λ i. record { cells = b.cells.cells; current = i } in
    let s : KeptShape = of c.in-Rings.rings.items one_place in
    let same = ap (λ (f : Rings). of f c.single.result) c.deref.ensures.value
    ∙ ap (λ (es : List Point). of c.in-Rings.rings.items es) c.single.ensures in
    rw c.in-Rings.is
    (shown_drawn b.stage b _ (s ∷ []) [] e (c.in_ok-add_rings-in-Rings.ensures.added
    ∙ (ap (λ (h : KeptShape). now (with_shape b.cells.current h)) same ∙ ap now (one_shape b.cells.current s))))

pub returns-in_ok-add_reference-in-Reference-clause-shown : goal.returns-in_ok-add_reference-in-Reference-clause-shown
returns-in_ok-add_reference-in-Reference-clause-shown c = λ e.
    let b = c.args.self.now in
    rw c.in-Reference.is (shown_drawn b.stage b _ [] (c.in-Reference.reference ∷ []) e
    (c.in_ok-add_reference-in-Reference.ensures.added ∙ ap (λ (i : KeptCell). let x : Built =
    record { cells = b.cells.cells; current = i } in x) (one_reference b.cells.current c.in-Reference.reference)))

pub returns-in-Nothing-clause-shown : goal.returns-in-Nothing-clause-shown
returns-in-Nothing-clause-shown c = λ e.
    let b = c.args.self.now in
    rw c.in-Nothing.is (shown_drawn b.stage b _ [] [] e
    (ap (λ (i : KeptCell). let x : Built = record { cells = b.cells.cells; current = i } in x)
    (no_drawing b.cells.current)))
