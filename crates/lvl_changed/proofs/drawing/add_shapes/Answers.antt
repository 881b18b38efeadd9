use Rattle.std.proofs.Common.{◌<◌, ◌≤◌, List, length, inl, inr, sym, ◌∙◌, subst, arith}
use Rattle.std.proofs.lemmas.List.{take_all}
use Rattle.lvl_cells.specs.Cells.{PlainShape, Rings}
use Rattle.lvl_changed.specs.inside.Layers.{IsOn}
use Rattle.lvl_changed.specs.inside.Shapes.{ShapesCover}
use Rattle.lvl_changed.proofs.Leaving.{shapes_more}
use Rattle.lvl_changed.proofs.drawing.add_shapes.Goals as goal

pub loop-i-preserved : goal.loop-i-preserved
loop-i-preserved c =
    let hs : List (PlainShape Rings) = c.args.shapes.now in
    let low : c.loop-i.i < length hs = omega (arith, c.loop-i-test.true, c.len-i-end.ensures) in
    record {
      added = λ l s covers.
          elim ((shapes_more hs c.loop-i.i l s low).0 covers) [
            | inl early ↦ c.in_ok-add.ensures.kept l (c.loop-i.invariant.added l s early)
            | inr this ↦ subst (IsOn c.add.new.self) (c.layer.ensures ∙ this.0) c.in_ok-add.ensures.added
          ];
      kept = λ l on. c.in_ok-add.ensures.kept l (c.loop-i.invariant.kept l on);
    }

pub returns-clause-added : goal.returns-clause-added
returns-clause-added c = λ l s covers.
    let hs : List (PlainShape Rings) = c.args.shapes.now in
    let long : length hs ≤ c.loop-i.i = omega (arith, c.loop-i-test.false, c.len-i-end.ensures) in
    c.loop-i.invariant.added l s
    (subst (λ (xs : List (PlainShape Rings)). ShapesCover xs l s) (sym (take_all c.loop-i.i hs long)) covers)
