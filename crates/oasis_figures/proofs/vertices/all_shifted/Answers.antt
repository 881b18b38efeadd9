use Rattle.std.proofs.Common.{arith, refl}
use Rattle.lvl_grid.specs.Turn.{FitsPoint, shifted}
use Rattle.std.proofs.lemmas.List.Elements.{All-map}
use Rattle.oasis_figures.proofs.Moved.{All-unmap}
use Rattle.oasis_figures.proofs.vertices.all_shifted.Goals as goal

pub returns-in_default-clause-refused : goal.returns-in_default-clause-refused
returns-in_default-clause-refused c = (
  refl,
  λ h. c.in_default.ensures
      (All-unmap FitsPoint (shifted c.args.by) c.args.points.now h c.loop-point.point-index _
      c.loop-point-test.true),
)

pub returns-clause-fit : goal.returns-clause-fit
returns-clause-fit c =
    All-map FitsPoint (shifted c.args.by) c.args.points.now
    (λ k d h. c.loop-point.invariant.in_range k d (grind arith))
