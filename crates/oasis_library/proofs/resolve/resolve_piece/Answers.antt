use Rattle.std.proofs.Common.{sym, ◌∙◌, subst}
use Rattle.std.proofs.lemmas.List.{nil_from_length}
use Rattle.std.specs.List.{AllZip}
use Rattle.lvl_cells.specs.Cells.{Rings}
use Rattle.oasis_library.specs.Cells.{PlainDrawing}
use Rattle.oasis_library.specs.Names.{IsCell, numbers_in}
use Rattle.oasis_library.proofs.Resolving.{zip-snoc, cells_named, rest_goes, rest_ends, unnamed_there, says_carried}
use Rattle.oasis_library.proofs.resolve.resolve_piece.Goals as goal

pub loop-drawing-init : goal.loop-drawing-init
loop-drawing-init c = record {
  all = c.into_iter-drawing-iterator.ensures.into_iter_gives.0;
  cells = λ given h. rw c.in_ok-cells.ensures.items tt;
}

pub returns-in_err-cell-clause-err : goal.returns-in_err-cell-clause-err
returns-in_err-cell-clause-err c =
    says_carried _ _ c.from_residual-in_err-cell.result c.in_err-cell.field-0.0
    (λ n u given h. unnamed_there (λ (d : PlainDrawing Rings). numbers_in d) given c.args.drawings.items
    c.loop-drawing.yielded c.loop-drawing.drawing-iterator.rest.items c.next.new.self.rest.items c.in-Some.drawing n
    c.loop-drawing.invariant.all c.in-Some.ensures.steps.0
    (cells_named given c.loop-drawing.yielded c.loop-drawing.cells.items (c.loop-drawing.invariant.cells given h))
    (u given h))
    c.in_err-cell.ensures.err c.from_residual-in_err-cell.ensures

pub loop-drawing-preserved : goal.loop-drawing-preserved
loop-drawing-preserved c = record {
  all = rest_goes c.args.drawings.items c.loop-drawing.yielded c.loop-drawing.drawing-iterator.rest.items
      c.next.new.self.rest.items c.in-Some.drawing c.loop-drawing.invariant.all c.in-Some.ensures.steps.0;
  cells = λ given h. rw c.in_ok-push.ensures.items (zip-snoc (IsCell given) c.loop-drawing.yielded
      c.loop-drawing.cells.items c.in-Some.drawing c.in_ok-cell.cell (c.loop-drawing.invariant.cells given h)
      (c.in_ok-cell.ensures.ok given h));
}

pub returns-clause-ok : goal.returns-clause-ok
returns-clause-ok c = λ given h.
    let none = nil_from_length c.loop-drawing.drawing-iterator.rest.items (sym c.loop-drawing.drawing-iterator.rest.ok.0
    ∙ c.in-None.ensures.steps.0) in
    subst (λ l. AllZip (IsCell given) l c.loop-drawing.cells.items)
    (rest_ends c.args.drawings.items c.loop-drawing.yielded c.loop-drawing.drawing-iterator.rest.items
    c.loop-drawing.invariant.all none) (c.loop-drawing.invariant.cells given h)
