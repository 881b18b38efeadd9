use Rattle.std.proofs.Common.{◌++◌, List, sym, ◌∙◌, subst}
use Rattle.std.proofs.lemmas.List.{nil_from_length}
use Rattle.lvl_changed.specs.declared.placements.Placement.{Placement}
use Rattle.lvl_changed.specs.inside.Arrays.{every_place}
use Rattle.lvl_changed.specs.inside.Placements.{PlaceSame}
use Rattle.lvl_changed.proofs.Adding.{array_more}
use Rattle.lvl_changed.proofs.Yielded.{rest_ends, rest_goes}
use Rattle.lvl_changed.proofs.placed.Placed.into_arrays.Goals as goal

pub loop-cell-preserved : goal.loop-cell-preserved
loop-cell-preserved c = record {
  all = rest_goes c.args.self.singles.items c.loop-cell.yielded c.loop-cell.cell-iterator.rest.items
      c.next.new.self.rest.items c.in-Some.field-0 c.loop-cell.invariant.all c.in-Some.ensures.steps.0;
  same = λ cells l s.
      array_more cells c.loop-cell.yielded c.in-Some.field-0 c.single.result c.args.self.arrays.items
      c.loop-cell.all.items c.push.new.self.items l s c.single.ensures c.in_ok-push.ensures.items
      (c.loop-cell.invariant.same cells l s);
}

pub returns : goal.returns
returns c =
    let none =
    nil_from_length c.loop-cell.cell-iterator.rest.items
    (sym c.loop-cell.cell-iterator.rest.ok.0 ∙ c.in-None.ensures.steps.0) in
    subst
    (λ (ps : List Placement). PlaceSame (every_place c.loop-cell.all.items) (ps ++ every_place c.args.self.arrays.items))
    (rest_ends c.args.self.singles.items c.loop-cell.yielded c.loop-cell.cell-iterator.rest.items
    c.loop-cell.invariant.all none) c.loop-cell.invariant.same
