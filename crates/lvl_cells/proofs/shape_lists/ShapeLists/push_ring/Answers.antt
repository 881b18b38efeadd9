use Rattle.std.proofs.Common.{◌∷◌, [], refl, sym, subst, ap, ◌∙◌}
use Rattle.lvl_cells.specs.declared.shape_lists.Span.{Span}
use Rattle.lvl_cells.proofs.Spanned.{AllGoOn, AreMore, AreSpans, shapes_in, one_more, refused, still, goes_on_same}
use Rattle.lvl_cells.proofs.Spanned.{always_err}
use Rattle.lvl_cells.proofs.shape_lists.ShapeLists.push_ring.Goals as goal
use Rattle.lvl_cells.proofs.shape_lists.ShapeLists.push_ring.Goals.{In_ok-push_lean}

pub invariant_of-self : goal.invariant_of-self
invariant_of-self c =
    still _ _ _ _ _ _ c.self.inside.spans.items
    (record {
      rings_on = c.figure_of_ring.ensures.before;
      moves_on = goes_on_same c.self.inside.moves.items;
      kept_on = goes_on_same c.self.inside.shifts.items;
    })
    c.self.invariant

pub returns-in_err-figure-clause-kept : goal.returns-in_err-figure-clause-kept
returns-in_err-figure-clause-kept c =
    always_err c.from_residual.result
    (refused _ _ _ _ _ _ c.self.inside.spans.items c.args.self.now
    (record {
      rings_on = c.figure_of_ring.ensures.before;
      moves_on = goes_on_same c.self.inside.moves.items;
      kept_on = goes_on_same c.self.inside.shifts.items;
    })
    c.self.invariant c.self.view_is)

pub invariant_of-self-in_err-moved : goal.invariant_of-self-in_err-moved
invariant_of-self-in_err-moved c =
    still _ _ _ _ _ _ c.self.inside.spans.items
    (record {
      rings_on = c.figure_of_ring.ensures.before;
      moves_on = c.number_of_move.ensures.before;
      kept_on = goes_on_same c.self.inside.shifts.items;
    })
    c.self.invariant

pub returns-in_err-moved-clause-kept : goal.returns-in_err-moved-clause-kept
returns-in_err-moved-clause-kept c =
    always_err c.from_residual-in_err-moved.result
    (refused _ _ _ _ _ _ c.self.inside.spans.items c.args.self.now
    (record {
      rings_on = c.figure_of_ring.ensures.before;
      moves_on = c.number_of_move.ensures.before;
      kept_on = goes_on_same c.self.inside.shifts.items;
    })
    c.self.invariant c.self.view_is)

pub invariant_of-self-in_err-number : goal.invariant_of-self-in_err-number
invariant_of-self-in_err-number c =
    still _ _ _ _ _ _ c.self.inside.spans.items
    (record {
      rings_on = c.figure_of_ring.ensures.before;
      moves_on = c.number_of_move.ensures.before;
      kept_on = c.number_of.ensures.before;
    })
    c.self.invariant

pub returns-in_err-number-clause-kept : goal.returns-in_err-number-clause-kept
returns-in_err-number-clause-kept c =
    always_err c.from_residual-in_err-number.result
    (refused _ _ _ _ _ _ c.self.inside.spans.items c.args.self.now
    (record {
      rings_on = c.figure_of_ring.ensures.before;
      moves_on = c.number_of_move.ensures.before;
      kept_on = c.number_of.ensures.before;
    })
    c.self.invariant c.self.view_is)

pub invariant_of-self-in_err-push_lean : goal.invariant_of-self-in_err-push_lean
invariant_of-self-in_err-push_lean c =
    let on : AllGoOn c.self.inside.rings c.figure_of_ring.new.rings c.self.inside.moves.items
    c.number_of_move.new.moves.items c.self.inside.shifts.items c.number_of.new.kept.items =
    record {
      rings_on = c.figure_of_ring.ensures.before;
      moves_on = c.number_of_move.ensures.before;
      kept_on = c.number_of.ensures.before;
    } in
    subst
    (AreSpans c.figure_of_ring.new.rings c.number_of_move.new.moves.items c.number_of.new.kept.items)
    (sym c.in_err-push_lean.ensures.kept) (still _ _ _ _ _ _ c.self.inside.spans.items on c.self.invariant)

pub returns-in_err-push_lean-clause-kept : goal.returns-in_err-push_lean-clause-kept
returns-in_err-push_lean-clause-kept c =
    let on : AllGoOn c.self.inside.rings c.figure_of_ring.new.rings c.self.inside.moves.items
    c.number_of_move.new.moves.items c.self.inside.shifts.items c.number_of.new.kept.items =
    record {
      rings_on = c.figure_of_ring.ensures.before;
      moves_on = c.number_of_move.ensures.before;
      kept_on = c.number_of.ensures.before;
    } in
    always_err c.from_residual-in_err-push_lean.result
    (ap (shapes_in c.figure_of_ring.new.rings c.number_of_move.new.moves.items c.number_of.new.kept.items)
    c.in_err-push_lean.ensures.kept
    ∙ refused _ _ _ _ _ _ c.self.inside.spans.items c.args.self.now on c.self.invariant c.self.view_is)

abbrev span : (c : In_ok-push_lean) → Span
span c = record {
  layer = c.args.layer;
  begin = c.in_ok-figure.figure.begin;
  end = c.in_ok-figure.figure.end;
  moved = c.in_ok-moved.moved;
  shifts = c.in_ok-number.number;
}

more : (c : In_ok-push_lean)
    → AreMore c.figure_of_ring.new.rings c.number_of_move.new.moves.items c.number_of.new.kept.items
    c.self.inside.spans.items (span c) (c.args.ring.now ∷ []) c.args.shifts.now c.args.self.now
more c =
    one_more c.self.inside.rings c.figure_of_ring.new.rings c.self.inside.moves.items c.number_of_move.new.moves.items
    c.self.inside.shifts.items c.number_of.new.kept.items c.self.inside.spans.items (span c) c.in_ok-figure.figure
    (c.args.ring.now ∷ []) c.args.shifts.now c.args.self.now
    (record {
      rings_on = c.figure_of_ring.ensures.before;
      moves_on = c.number_of_move.ensures.before;
      kept_on = c.number_of.ensures.before;
    })
    c.self.invariant c.self.view_is refl refl c.in_ok-figure.ensures.figure c.in_ok-moved.ensures.number
    c.in_ok-number.ensures.number

pub invariant_of-self-2 : goal.invariant_of-self-2
invariant_of-self-2 c =
    subst
    (AreSpans c.figure_of_ring.new.rings c.number_of_move.new.moves.items c.number_of.new.kept.items)
    (sym c.in_ok-push_lean.ensures.added) (more c).are

pub returns-clause-added : goal.returns-clause-added
returns-clause-added c =
    ap (shapes_in c.figure_of_ring.new.rings c.number_of_move.new.moves.items c.number_of.new.kept.items)
    c.in_ok-push_lean.ensures.added
    ∙ (more c).is
