use Rattle.std.proofs.Common.{List, sym, ◌∙◌, subst}
use Rattle.std.proofs.lemmas.List.{nil_from_length}
use Rattle.lvl_changed.specs.declared.arrays.Array.{Array}
use Rattle.lvl_changed.specs.inside.Arrays.{every_place}
use Rattle.lvl_changed.specs.inside.Placements.{PlacedCover}
use Rattle.lvl_changed.specs.inside.Remains.{AddsOutside, PartnersDraw}
use Rattle.lvl_changed.proofs.Adding.{outside_more, outside_none}
use Rattle.lvl_changed.proofs.Growing.{grows_further, grows_itself}
use Rattle.lvl_changed.proofs.Yielded.{rest_ends, rest_goes}
use Rattle.lvl_changed.proofs.references.Partners.add_all.Goals as goal

pub loop-array-init : goal.loop-array-init
loop-array-init c = record {
  all = c.into_iter-array-iterator.ensures.into_iter_gives.0;
  added = λ pair known. outside_none pair.first.now.cells c.args.area.now (PartnersDraw pair c.args.self.now);
  kept = grows_itself c.args.area.now;
}

pub loop-array-preserved : goal.loop-array-preserved
loop-array-preserved c = record {
  all = rest_goes c.args.arrays.items c.loop-array.yielded c.loop-array.array-iterator.rest.items
      c.next.new.self.rest.items c.in-Some.array c.loop-array.invariant.all c.in-Some.ensures.steps.0;
  added = λ pair known.
      outside_more pair.first.now.cells c.loop-array.area c.add.new.area (PartnersDraw pair c.args.self.now)
      (PartnersDraw pair c.loop-array.self) (PartnersDraw pair c.add.new.self) c.loop-array.yielded c.in-Some.array
      c.in_ok-add.ensures.kept (c.loop-array.invariant.added pair known) (c.in_ok-add.ensures.added pair known);
  kept =
      grows_further c.args.area.now c.loop-array.area c.add.new.area c.loop-array.invariant.kept
      c.in_ok-add.ensures.kept;
}

pub returns-clause-added : goal.returns-clause-added
returns-clause-added c = λ pair known.
    let none =
    nil_from_length c.loop-array.array-iterator.rest.items
    (sym c.loop-array.array-iterator.rest.ok.0 ∙ c.in-None.ensures.steps.0) in
    subst
    (λ (xs : List Array). AddsOutside c.loop-array.area (PartnersDraw pair c.args.self.now)
    (PartnersDraw pair c.loop-array.self) (PlacedCover pair.first.now.cells (every_place xs)))
    (rest_ends c.args.arrays.items c.loop-array.yielded c.loop-array.array-iterator.rest.items
    c.loop-array.invariant.all none) (c.loop-array.invariant.added pair known)
