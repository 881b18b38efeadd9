use Rattle.std.proofs.Common.{◌≡◌, sym, ap, ◌∙◌}
use Rattle.lvl_names.specs.Shifts.{lattice}
use Rattle.lvl_cells.proofs.Moving.{points_same}
use Rattle.lvl_changed.proofs.Sums.{zero_point}
use Rattle.lvl_changed.proofs.Joining.{rows_joined}
use Rattle.lvl_changed.proofs.Lists.{if_same}
use Rattle.lvl_changed.proofs.lattices.joined.Goals as goal

pub returns-then-eq : goal.returns-then-eq
returns-then-eq c =
    let a = c.args.across in
    let m = c.args.columns in
    let n = c.args.rows in
    let next = sym (points_same c.in-Some.next c.args.up (sym c.if-eq.true ∙ c.eq.ensures)) ∙ c.in-Some.ensures in
    let all = c.in_ok-checked_mul.ensures.1 in
    if_same (λ shifts. shifts ≡ lattice a m c.args.up n) c.lattice.result
    (lattice a c.in_ok-checked_mul.field-0 zero_point 1)
    (ap (λ k. lattice a k zero_point 1) all ∙ sym (rows_joined a c.args.up zero_point m n next)) c.lattice.ensures.same
