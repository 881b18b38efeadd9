use Rattle.std.proofs.Common.{List, ap, ◌∙◌, ◌∷◌, []}
use Rattle.lvl_grid.specs.declared.point.Point.{Point}
use Rattle.lvl_cells.specs.Building.{Built, with_shape}
use Rattle.lvl_cells.specs.Cells.{Rings}
use Rattle.lvl_names.specs.Shifts.{one_place}
use Rattle.gds_library.specs.Drawn.{KeptShape, KeptCell}
use Rattle.gds_library.proofs.Grown.{shown_drawn, one_shape}
use Rattle.gds_library.proofs.builder.Builder.add_ring.Goals as goal

pub returns-clause-shown : goal.returns-clause-shown
returns-clause-shown c = λ e.
    let b = c.args.self.now in
    let of : Rings → List Point → KeptShape = λ f es. record { layer = c.args.layer; figure = f; shifts = es } in
    let now : KeptCell → Built = λ i. record { cells = b.cells.cells; current = i } in
    let s : KeptShape = of (c.args.ring.now ∷ []) one_place in
    let same = ap (λ (ps : List Point). of (ps ∷ []) c.single.result) c.points.ensures.all
    ∙ ap (λ (es : List Point). of (c.args.ring.now ∷ []) es) c.single.ensures in
    shown_drawn b.stage b _ (s ∷ []) [] e (c.in_ok-add_ring.ensures.added
    ∙ (ap (λ (h : KeptShape). now (with_shape b.cells.current h)) same ∙ ap now (one_shape b.cells.current s)))
