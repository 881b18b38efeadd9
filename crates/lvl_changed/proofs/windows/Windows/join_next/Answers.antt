use Rattle.std.proofs.Common.{◌≡◌, ◌<◌, ◌+◌, List, length, refl, subst, arith}
use Rattle.lvl_grid.specs.declared.point.Window.{Window}
use Rattle.lvl_compare.proofs.InStrips.{hull}
use Rattle.lvl_changed.specs.declared.windows.Windows.{Windows}
use Rattle.lvl_changed.proofs.Widening.{next_joined}
use Rattle.lvl_changed.proofs.windows.Windows.join_next.Goals as goal

pub returns-clause-kept : goal.returns-clause-kept
returns-clause-kept c =
    let from : Windows = c.args.self.now in
    let xs : List Window = c.remove-next.new.self.items in
    let next : Window = c.remove-next.result in
    let first : Window = c.index.result.now in
    let low : c.args.i + 1 < length from.list.items = omega (arith, c.requires, from.list.ok.0) in
    let inside : c.args.i < length xs =
    omega (arith, c.requires, c.remove-next.ensures.len, c.remove-next.new.self.ok.0) in
    next_joined from _ xs next c.joined.result first c.args.i low c.remove-next.ensures.value
    c.remove-next.ensures.items refl inside
    (subst (λ (w : Window). c.joined.result ≡ hull w next) c.index.ensures c.joined.ensures) refl
