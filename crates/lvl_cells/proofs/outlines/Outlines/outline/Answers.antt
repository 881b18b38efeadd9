use Rattle.std.proofs.Common.{◌≡◌, ◌+◌, ◌*◌, ℕ, List, All, IfSome, sym, subst, arith, ◌∙◌}
use Rattle.lvl_grid.specs.declared.point.Point.{Point}
use Rattle.lvl_names.specs.Shifts.{IsBetween}
use Rattle.lvl_cells.specs.declared.outlines.OutlineSpan.{OutlineSpan}
use Rattle.lvl_cells.specs.inside.Outlines.{outline_in, IsAround}
use Rattle.lvl_cells.proofs.outlines.Outlines.outline.Goals as goal

pub returns-clause-reach : goal.returns-clause-reach
returns-clause-reach c =
    let span : OutlineSpan = c.index-span.result.now in
    let corners : List Point = c.kept_stretches.result.now in
    let same : c.deref-2.result.now ≡ c.deref.result.now = c.deref-2.ensures.value ∙ sym c.deref.ensures.value in
    let same' : c.deref-3.result.now ≡ c.deref.result.now = c.deref-3.ensures.value ∙ sym c.deref.ensures.value in
    record {
      reach =
          subst (λ ps. IfSome c.kept_reach.result (λ reach. All (IsBetween reach.0 reach.1) (outline_in ps span))) same
          c.kept_reach.ensures;
      stretches = λ k lt.
          let none : 0 + 2 * k ≡ 2 * k = omega arith in
          subst (λ ps. IsAround corners (2 * k) (outline_in ps span) k) same'
          (subst (λ i. IsAround corners i (outline_in c.deref-3.result.now span) k) none
          (c.kept_stretches.ensures.are k (omega (arith, lt, c.kept_stretches.ensures.size))));
    }
