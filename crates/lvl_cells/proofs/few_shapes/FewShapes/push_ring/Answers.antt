use Rattle.std.proofs.Common.{refl, sym, subst, ap, ◌∙◌}
use Rattle.lvl_cells.specs.declared.few_shapes.FewSpan.{FewSpan}
use Rattle.lvl_cells.specs.inside.Spans.{HasNumber}
use Rattle.lvl_cells.proofs.FewSpans.{AreFewSpans, AreMore, few_in, one_more, refused, still}
use Rattle.lvl_cells.proofs.Spanned.{always_err, goes_on_same}
use Rattle.lvl_cells.proofs.few_shapes.FewShapes.push_ring.Goals as goal
use Rattle.lvl_cells.proofs.few_shapes.FewShapes.push_ring.Goals.{In_ok-push_eighth}

pub invariant_of-self : goal.invariant_of-self
invariant_of-self c =
    still _ _ _ _ c.self.inside.spans.items c.ring_of.ensures.before
    (goes_on_same c.self.inside.shifts.items) c.self.invariant

pub returns-in_err-kept-clause-kept : goal.returns-in_err-kept-clause-kept
returns-in_err-kept-clause-kept c =
    always_err c.from_residual.result
    (refused _ _ _ _ c.self.inside.spans.items c.args.self.now c.ring_of.ensures.before
    (goes_on_same c.self.inside.shifts.items) c.self.invariant c.self.view_is)

pub invariant_of-self-in_err-number : goal.invariant_of-self-in_err-number
invariant_of-self-in_err-number c =
    still _ _ _ _ c.self.inside.spans.items c.ring_of.ensures.before c.number_of.ensures.before c.self.invariant

pub returns-in_err-number-clause-kept : goal.returns-in_err-number-clause-kept
returns-in_err-number-clause-kept c =
    always_err c.from_residual-in_err-number.result
    (refused _ _ _ _ c.self.inside.spans.items c.args.self.now c.ring_of.ensures.before
    c.number_of.ensures.before c.self.invariant c.self.view_is)

pub invariant_of-self-in_err-kept_index : goal.invariant_of-self-in_err-kept_index
invariant_of-self-in_err-kept_index c =
    still _ _ _ _ c.self.inside.spans.items c.ring_of.ensures.before c.number_of.ensures.before c.self.invariant

pub returns-in_err-kept_index-clause-kept : goal.returns-in_err-kept_index-clause-kept
returns-in_err-kept_index-clause-kept c =
    always_err c.from_residual-in_err-kept_index.result
    (refused _ _ _ _ c.self.inside.spans.items c.args.self.now c.ring_of.ensures.before
    c.number_of.ensures.before c.self.invariant c.self.view_is)

pub invariant_of-self-in_err-push_eighth : goal.invariant_of-self-in_err-push_eighth
invariant_of-self-in_err-push_eighth c =
    subst (AreFewSpans c.ring_of.new.points.items c.number_of.new.kept.items)
    (sym c.in_err-push_eighth.ensures.kept)
    (still _ _ _ _ c.self.inside.spans.items c.ring_of.ensures.before c.number_of.ensures.before
    c.self.invariant)

pub returns-in_err-push_eighth-clause-kept : goal.returns-in_err-push_eighth-clause-kept
returns-in_err-push_eighth-clause-kept c =
    always_err c.from_residual-in_err-push_eighth.result
    (ap (few_in c.ring_of.new.points.items c.number_of.new.kept.items)
    c.in_err-push_eighth.ensures.kept
    ∙ refused _ _ _ _ c.self.inside.spans.items c.args.self.now c.ring_of.ensures.before
    c.number_of.ensures.before c.self.invariant c.self.view_is)

abbrev span : (c : In_ok-push_eighth) → FewSpan
span c = record {
  layer = c.args.layer;
  by = c.in_ok-kept.kept.by;
  begin = c.in_ok-kept.kept.begin;
  end = c.in_ok-kept.kept.end;
  shifts = c.in_ok-kept_index.field-0;
  along_y = c.in_ok-kept.kept.along_y;
}

more : (c : In_ok-push_eighth)
    → AreMore c.ring_of.new.points.items c.number_of.new.kept.items c.self.inside.spans.items (span c)
    c.args.ring.now c.args.shifts.now c.args.self.now
more c =
    one_more c.self.inside.points.items c.ring_of.new.points.items c.self.inside.shifts.items
    c.number_of.new.kept.items c.self.inside.spans.items (span c) c.in_ok-kept.kept c.args.ring.now
    c.args.shifts.now c.args.self.now c.ring_of.ensures.before c.number_of.ensures.before c.self.invariant
    c.self.view_is refl refl refl refl c.in_ok-kept.ensures.kept
    (subst (λ n. HasNumber c.number_of.new.kept.items n c.args.shifts.now)
    (sym c.in_ok-kept_index.ensures) c.in_ok-number.ensures.number)

pub invariant_of-self-2 : goal.invariant_of-self-2
invariant_of-self-2 c =
    subst (AreFewSpans c.ring_of.new.points.items c.number_of.new.kept.items)
    (sym c.in_ok-push_eighth.ensures.added) (more c).are

pub returns-clause-added : goal.returns-clause-added
returns-clause-added c =
    ap (few_in c.ring_of.new.points.items c.number_of.new.kept.items)
    c.in_ok-push_eighth.ensures.added
    ∙ (more c).is
