use Rattle.std.specs.Prelude.{flat_map}
use Rattle.std.proofs.Common.{subst}
use Rattle.lvl_cells.specs.Cells.{Rings}
use Rattle.oasis_figures.specs.Figures.{Placed}
use Rattle.oasis_library.specs.Cells.{PlainDrawing}
use Rattle.oasis_library.specs.Names.{number_in, numbers_in, IsUnnamed}
use Rattle.oasis_library.specs.inside.Kept.{target_ref}
use Rattle.oasis_library.proofs.Resolving.{meant_named, unnamed_after, says_carried}
use Rattle.oasis_library.proofs.resolve.cell_of.Goals as goal

pub returns-in_err-references-clause-err : goal.returns-in_err-references-clause-err
returns-in_err-references-clause-err c =
    let cell = target_ref c.drawing.inside.name in
    says_carried _ _ c.from_residual-in_err-references.result c.in_err-references.field-0.0
    (λ n u given h. subst (λ (d : PlainDrawing Rings). IsUnnamed given (numbers_in d) n) c.drawing.view_is
    (unnamed_after given (number_in cell)
    (flat_map (λ (p : Placed). number_in p.cell) c.drawing.inside.placements) n
    (meant_named given cell c.in_ok-name.name (c.in_ok-name.ensures.ok given h)) (u given h)))
    c.in_err-references.ensures.err c.from_residual-in_err-references.ensures
