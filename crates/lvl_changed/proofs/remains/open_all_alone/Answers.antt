use Rattle.std.proofs.Common.{◌≡◌, [], arith}
use Rattle.std.proofs.lemmas.Grind.{common_steps}
use Rattle.lvl_changed.proofs.Growing.{grows_further, grows_itself}
use Rattle.lvl_changed.proofs.Remaining.{all_are_opened, last_covers, no_partners, none_cover, one_opened}
use Rattle.lvl_changed.proofs.remains.open_all_alone.Goals as goal

pub loop-array-init : goal.loop-array-init
loop-array-init c = record {
  opened = λ found l s out. no_partners (c.none-partners.ensures c.args.pair.now l s);
  kept = grows_itself c.args.area.now;
}

pub loop-array-preserved : goal.loop-array-preserved
loop-array-preserved c = record {
  opened = λ found l s out.
      one_opened (c.in_ok-open_alone.ensures.added found l s out)
      (last_covers c.args.pair.now.first.now.cells c.loop-array.left.items c.pop.new.self.items c.in-Some.array
      c.in-Some.ensures.items l s)
      (c.loop-array.invariant.opened found l s (λ h. out (c.in_ok-open_alone.ensures.kept.has l s h)));
  kept =
      grows_further c.args.area.now c.loop-array.area c.open_alone.new.area c.loop-array.invariant.kept
      c.in_ok-open_alone.ensures.kept;
}

pub returns-clause-opened : goal.returns-clause-opened
returns-clause-opened c = λ found l s out.
    let none : c.loop-array.left.items ≡ [] = grind (arith, common_steps, c.in_default.ensures) in
    all_are_opened (none_cover c.args.pair.now.first.now.cells c.loop-array.left.items none l s)
    (c.loop-array.invariant.opened found l s out)
