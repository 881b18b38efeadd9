use Rattle.std.proofs.Common.{◌≡◌, false, Some, refl, ap, ◌∙◌, arith}
use Rattle.std.specs.List.{slice_get}
use Rattle.std.proofs.lemmas.Option.{slice_get-get_or}
use Rattle.lvl_cells.proofs.Roots.{root_passed, set_passed, none_other}
use Rattle.lvl_cells.proofs.top.is_other_unset.Goals as goal

pub loop-k-init : goal.loop-k-init
loop-k-init c = λ j h. absurd (omega (arith, h))

pub loop-k-preserved-then-k-root : goal.loop-k-preserved-then-k-root
loop-k-preserved-then-k-root c =
    root_passed c.args.marks.now c.args.root c.loop-k.k c.loop-k.invariant c.if-k-root.true

pub returns : goal.returns
returns c = (
  λ e. cc,
  λ w. absurd (none_other c.args.marks.now c.args.root c.loop-k.k c.loop-k.invariant c.loop-k-test.false w),
)

pub loop-k-preserved : goal.loop-k-preserved
loop-k-preserved c =
    set_passed c.args.marks.now c.args.root c.loop-k.k c.loop-k.invariant
    (slice_get-get_or c.args.marks.now c.loop-k.k false c.loop-k-test.true ∙ ap Some c.if-not-marks-k.false)

pub returns-then-not-marks-k : goal.returns-then-not-marks-k
returns-then-not-marks-k c =
    let unset : slice_get c.args.marks.now c.loop-k.k ≡ Some false =
    slice_get-get_or c.args.marks.now c.loop-k.k false c.loop-k-test.true ∙ ap Some c.if-not-marks-k.true in (
      λ e. (c.loop-k.k, c.if-k-root.false, unset),
      λ w. refl,
    )
