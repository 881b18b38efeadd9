use Rattle.std.proofs.Common.{List, sym, subst, ◌∙◌}
use Rattle.lvl_grid.specs.declared.point.Point.{Point}
use Rattle.lvl_names.specs.Shifts.{lattice}
use Rattle.lvl_changed.specs.declared.lattices.Lattice.{Lattice}
use Rattle.lvl_changed.specs.inside.Shifts.{AreMovedBy}
use Rattle.lvl_changed.proofs.Rebasing.{lattice_rebased, rebased_swapped}
use Rattle.lvl_changed.proofs.lattices.rebased.Goals.{then-found-gt1+then-comes_first+in_ok-listed}
use Rattle.lvl_changed.proofs.lattices.rebased.Goals.{else-found-gt1+in_ok-listed-2}
use Rattle.lvl_changed.proofs.lattices.rebased.Goals as goal

pub returns : goal.returns
returns c =
    let l : Lattice = c.in_ok-found.found in
    let is = c.in_ok-found.ensures in
    let shifts : List Point = c.args.shifts.now in
    let least : Point = c.in_ok-least.least in
    let across : Point = c.in_ok-from.across in
    let up : Point = c.in_ok-other.up in
    let plain : AreMovedBy least shifts (lattice across l.columns up l.rows) =
    subst (λ (d : Point). AreMovedBy d shifts (lattice across l.columns up l.rows)) (sym c.in_ok-least.ensures.1)
    (lattice_rebased shifts l.across l.up c.in_ok-from.from c.in_ok-other.other across up l.columns l.rows is.columns is.is
    c.in_ok-from.ensures c.in_ok-other.ensures) in
    elim c.if-found-gt1.branch [
      | then-found-gt1+then-comes_first+in_ok-listed w ↦
          subst (λ (es : List Point). AreMovedBy least shifts es) (sym (w.listed-is ∙ w.in_ok-listed.ensures))
          (rebased_swapped shifts least across up l.columns l.rows is.columns is.rows plain)
      | else-found-gt1+in_ok-listed-2 w ↦
          subst (λ (es : List Point). AreMovedBy least shifts es) (sym (w.listed-is ∙ w.in_ok-listed-2.ensures)) plain
    ]
