use Rattle.std.proofs.Common.{List, sym, ◌∙◌, subst}
use Rattle.std.proofs.lemmas.List.{nil_from_length}
use Rattle.lvl_changed.specs.declared.arrays.Array.{Array}
use Rattle.lvl_changed.specs.inside.Arrays.{all_places, every_place, AddsArrays}
use Rattle.lvl_changed.proofs.Adding.{adds_more, adds_none}
use Rattle.lvl_changed.proofs.Yielded.{rest_ends, rest_goes}
use Rattle.lvl_changed.proofs.placed.Placed.push_all.Goals as goal

pub loop-array-init : goal.loop-array-init
loop-array-init c = record {
  all = c.into_iter-array-iterator.ensures.into_iter_gives.0;
  added = adds_none (all_places c.args.self.now);
}

pub loop-array-preserved : goal.loop-array-preserved
loop-array-preserved c = record {
  all = rest_goes c.args.arrays.items c.loop-array.yielded c.loop-array.array-iterator.rest.items
      c.next.new.self.rest.items c.in-Some.array c.loop-array.invariant.all c.in-Some.ensures.steps.0;
  added = adds_more (all_places c.args.self.now) (all_places c.loop-array.self) (all_places c.push.new.self)
      c.loop-array.yielded c.in-Some.array c.loop-array.invariant.added c.in_ok-push.ensures;
}

pub returns : goal.returns
returns c =
    let none =
    nil_from_length c.loop-array.array-iterator.rest.items
    (sym c.loop-array.array-iterator.rest.ok.0 ∙ c.in-None.ensures.steps.0) in
    subst (λ (xs : List Array). AddsArrays (all_places c.args.self.now) (all_places c.loop-array.self) (every_place xs))
    (rest_ends c.args.arrays.items c.loop-array.yielded c.loop-array.array-iterator.rest.items
    c.loop-array.invariant.all none) c.loop-array.invariant.added
