use Rattle.std.proofs.Common.{◌≡◌, ◌+◌, ◌-◌, ℕ, List, length, refl, arith}
use Rattle.lvl_grid.specs.declared.point.Point.{Point}
use Rattle.lvl_changed.proofs.Turned.{turned_covers}
use Rattle.lvl_changed.proofs.figures.have_same_points.Goals as goal

pub returns-then-has_points_of : goal.returns-then-has_points_of
returns-then-has_points_of c = λ t.
    let xs : List Point = c.args.first.now in
    let ys : List Point = c.args.second.now in
    let turn : ℕ = c.turn_of-turn.result in
    let rest : ℕ = c.len-count.result - turn in
    let same : length xs ≡ length ys = omega (arith, c.len-count.ensures, c.len.ensures, c.if-len-count.false) in
    let all : turn + rest ≡ length ys =
    omega (arith, c.len.ensures, c.if-len-count.false, c.turn_of-turn.ensures) in
    turned_covers xs ys turn rest all same (c.if-has_points_of.ensures refl)
    (c.has_points_of-then-has_points_of.ensures t)
