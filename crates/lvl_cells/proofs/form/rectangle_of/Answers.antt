use Rattle.std.proofs.Common.{◌≡◌, ◌∙◌, List, arith, get_or, length, pos, subst, sym}
use Rattle.lvl_grid.specs.declared.point.Point.{Point}
use Rattle.lvl_grid.specs.Turn.{FitsPoint}
use Rattle.lvl_cells.proofs.Moving.{not_apart}
use Rattle.lvl_cells.proofs.Outlined.{rectangle_again}
use Rattle.lvl_cells.proofs.form.rectangle_of.Goals as goal

pub returns : goal.returns
returns c =
    let ring : List Point = c.args.ring.now in
    let none : Point = record { x = pos 0; y = pos 0 } in
    let four : length ring ≡ 4 = omega (arith, c.if-ring-ne4.false) in
    let second : get_or ring 1 none ≡ c.beside.result = not_apart _ _ c.if-ne.ensures in
    let fourth : get_or ring 3 none ≡ c.beside-else-ne.result = not_apart _ _ c.if-ne-2.ensures in
    rectangle_again ring none c.in_ok-diagonal.diagonal _ four c.in_ok-diagonal.ensures
    (second ∙ c.beside.ensures.value) (fourth ∙ c.beside-else-ne.ensures.value)
    (subst FitsPoint (sym second) c.beside.ensures.fits) (subst FitsPoint (sym fourth) c.beside-else-ne.ensures.fits)
