use Rattle.std.proofs.Common.{subst, sym, FitsSigned, ◌∙◌, ap, ℤ, Bool, pos, ◌-ℤ◌}
use Rattle.std.specs.Int.{w8}
use Rattle.lvl_corners.specs.inside.Marks.{net}
use Rattle.lvl_corners.specs.Spans.{spanned}
use Rattle.lvl_corners.proofs.Totals.{corner_by_totals, spanned_fits}
use Rattle.lvl_corners.proofs.send.send_swept.Goals as goal

pub send_sums-requires-clause-order : goal.send_sums-requires-clause-order
send_sums-requires-clause-order g c = rw c.deref.ensures.value c.in_ok-marks.ensures.order

pub send_sums-requires-clause-small : goal.send_sums-requires-clause-small
send_sums-requires-clause-small g c = λ x y.
    let marks = c.in_ok-marks.ensures.marks in
    let at : ℤ → ℤ → Bool = λ u v. marks.covered (record { x = u; y = v }) in
    subst (FitsSigned w8) (sym (ap (net x y) c.deref.ensures.value ∙ marks.changes x y))
    (spanned_fits (spanned c.args.span x) (at x y) (at (x -ℤ pos 1) y) (at x (y -ℤ pos 1))
    (at (x -ℤ pos 1) (y -ℤ pos 1)))

pub returns : goal.returns
returns g c =
    let marks = c.in_ok-marks.ensures.marks in
    let sent = c.in_ok-send_sums.ensures in (
      sent.0,
      sent.1,
      sent.2,
      record {
        covered = marks.covered;
        is_covered = marks.is_covered;
        bounded = marks.bounded;
        rising = sent.3.rising;
        each = corner_by_totals marks.covered (λ x y. spanned c.args.span x) c.deref.result.now sent.0
            (λ x y. ap (net x y) c.deref.ensures.value ∙ marks.changes x y) sent.3;
      },
    )
