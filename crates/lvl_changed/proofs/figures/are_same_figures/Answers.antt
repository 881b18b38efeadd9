use Rattle.std.proofs.Common.{◌<◌, ◌↔◌, List, [], length, get_or, take, subst, arith}
use Rattle.std.proofs.lemmas.List.{take_all}
use Rattle.lvl_grid.specs.declared.point.Point.{Point}
use Rattle.lvl_grid.specs.Winding.{Covers, SomeCovers}
use Rattle.lvl_cells.specs.Cells.{Rings, shape_at}
use Rattle.lvl_changed.proofs.Leaving.{figures_more}
use Rattle.lvl_changed.proofs.figures.are_same_figures.Goals as goal

pub loop-k-preserved : goal.loop-k-preserved
loop-k-preserved c =
    let xs : Rings = (shape_at c.args.first.now c.args.i).figure in
    let ys : Rings = (shape_at c.args.second.now c.args.j).figure in
    let here : c.loop-k.k < length xs = omega (arith, c.loop-k-test.true, c.ring_count-k-end.ensures) in
    let there : c.loop-k.k < length ys =
    omega (arith, here, c.if-ring_count.false, c.ring_count.ensures, c.ring_count-2.ensures) in
    figures_more xs ys c.loop-k.k here there c.loop-k.invariant (λ s.
    subst (λ (r : List Point). Covers r s ↔ Covers (get_or ys c.loop-k.k []) s) c.ring.ensures.value
    (subst (λ (r : List Point). Covers c.ring.result s ↔ Covers r s) c.ring-in-loop-k.ensures.value
    (c.are_same_rings.ensures c.if-not-are_same_rings.false s)))

pub returns : goal.returns
returns c = λ t s.
    let xs : Rings = (shape_at c.args.first.now c.args.i).figure in
    let ys : Rings = (shape_at c.args.second.now c.args.j).figure in
    subst (λ (rs : Rings). SomeCovers rs s ↔ SomeCovers ys s)
    (take_all c.loop-k.k xs (omega (arith, c.loop-k-test.false, c.ring_count-k-end.ensures)))
    (subst (λ (rs : Rings). SomeCovers (take c.loop-k.k xs) s ↔ SomeCovers rs s)
    (take_all c.loop-k.k ys
    (omega (
      arith,
      c.loop-k-test.false,
      c.ring_count-k-end.ensures,
      c.if-ring_count.false,
      c.ring_count.ensures,
      c.ring_count-2.ensures,
    ))) (c.loop-k.invariant s))
