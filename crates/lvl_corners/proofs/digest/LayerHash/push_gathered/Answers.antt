use Rattle.std.proofs.Common.{◌∙◌, ℤ, Bool, pos, ◌-ℤ◌, ap, sym, subst, FitsSigned}
use Rattle.std.specs.Int.{w8}
use Rattle.lvl_corners.specs.Spans.{spanned}
use Rattle.lvl_corners.specs.inside.Marks.{net}
use Rattle.lvl_corners.proofs.Gathered.{within_changes}
use Rattle.lvl_corners.proofs.Totals.{corner_by_totals, spanned_fits}
use Rattle.lvl_corners.proofs.digest.LayerHash.push_gathered.Goals as goal

pub send_sums-requires-clause-small : goal.send_sums-requires-clause-small
send_sums-requires-clause-small c = λ u v.
    let at : ℤ → ℤ → Bool = λ z w. c.requires.0 (record { x = z; y = w }) in
    let is = within_changes c.requires.0 c.args.span c.args.self.now c.sort_within.new.marks.items c.requires.1 c.sort_within.ensures.changes in
    subst (FitsSigned w8) (sym (ap (net u v) c.deref.ensures.value ∙ is u v))
    (spanned_fits (spanned c.args.span u) (at u v) (at (u -ℤ pos 1) v) (at u (v -ℤ pos 1))
    (at (u -ℤ pos 1) (v -ℤ pos 1)))

pub returns-clause-hashed : goal.returns-clause-hashed
returns-clause-hashed c covered g =
    let is = within_changes covered c.args.span c.args.self.now c.sort_within.new.marks.items g c.sort_within.ensures.changes in
    let sent = c.in_ok-send_sums.ensures in (
      sent.0,
      record {
        covered = covered;
        is_covered = λ s. (λ t. t, λ p. p);
        bounded = g.bounded;
        rising = sent.3.rising;
        each = corner_by_totals covered (λ u v. spanned c.args.span u) c.deref.result.now sent.0
            (λ u v. ap (net u v) c.deref.ensures.value ∙ is u v) sent.3;
      },
      sent.2,
      λ before held.
          let more = c.put.ensures.taken c.in_ok-hashing.hashing sent.0 c.in_ok-hashing.ensures sent.1 before
          (record { bytes = held.bytes; count = held.count }) in
          record { bytes = more.bytes; count = more.count },
    )
