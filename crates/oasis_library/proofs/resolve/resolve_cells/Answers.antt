use Rattle.std.proofs.Common.{◌++◌, ◌∷◌, List, [], sym, ap, subst, ◌∙◌}
use Rattle.std.specs.Global.{Vec}
use Rattle.std.specs.Prelude.{flat_map}
use Rattle.std.proofs.lemmas.List.{nil_from_length}
use Rattle.lvl_cells.specs.Cells.{Rings}
use Rattle.oasis_library.specs.Cells.{PlainDrawing}
use Rattle.oasis_library.specs.Names.{AreCells}
use Rattle.oasis_library.proofs.Pieces.{piece_added, piece_goes, pieces_end, unnamed_in_piece}
use Rattle.oasis_library.proofs.Resolving.{says_carried}
use Rattle.oasis_library.proofs.resolve.resolve_cells.Goals as goal

abbrev items : Vec (PlainDrawing Rings) → List (PlainDrawing Rings)
items p = p.items

pub loop-piece-init : goal.loop-piece-init
loop-piece-init c = record {
  all = ap (flat_map items) c.into_iter-piece-iterator.ensures.into_iter_gives.0 ∙ c.into_pieces-piece-items.ensures;
  cells = λ given h. rw c.new-cells.ensures.items tt;
}

pub returns-in_err-more-clause-err : goal.returns-in_err-more-clause-err
returns-in_err-more-clause-err c =
    says_carried _ _ c.from_residual.result c.in_err-more.field-0.0
    (λ n u given h. unnamed_in_piece items given c.args.drawings c.loop-piece.yielded
    c.loop-piece.piece-iterator.rest.items c.next.new.self.rest.items c.in-Some.piece c.loop-piece.cells.items n
    c.loop-piece.invariant.all c.in-Some.ensures.steps.0 (c.loop-piece.invariant.cells given h) (u given h))
    c.in_err-more.ensures.err c.from_residual.ensures

pub loop-piece-preserved : goal.loop-piece-preserved
loop-piece-preserved c = record {
  all = piece_goes items c.args.drawings c.loop-piece.yielded c.loop-piece.piece-iterator.rest.items
      c.next.new.self.rest.items c.in-Some.piece c.loop-piece.invariant.all c.in-Some.ensures.steps.0;
  cells = λ given h. subst (AreCells given (flat_map items (c.loop-piece.yielded ++ c.in-Some.piece ∷ [])))
      (sym c.in_ok-append.ensures.items)
      (piece_added items given c.loop-piece.yielded c.in-Some.piece c.loop-piece.cells.items c.in_ok-more.more.items
      (c.loop-piece.invariant.cells given h) (c.in_ok-more.ensures.ok given h));
}

pub returns-clause-ok : goal.returns-clause-ok
returns-clause-ok c = λ given h.
    let none = nil_from_length c.loop-piece.piece-iterator.rest.items (sym c.loop-piece.piece-iterator.rest.ok.0
    ∙ c.in-None.ensures.steps.0) in
    subst (λ l. AreCells given l c.loop-piece.cells.items)
    (pieces_end items c.args.drawings c.loop-piece.yielded c.loop-piece.piece-iterator.rest.items
    c.loop-piece.invariant.all none) (c.loop-piece.invariant.cells given h)
