use Rattle.std.proofs.Common.{◌≡◌, All, subst, arith}
use Rattle.lvl_flat.specs.Boxes.{HoldsPoint}
use Rattle.lvl_flat.specs.inside.Near.{run_at}
use Rattle.lvl_flat.proofs.Holding.{widens_itself, widens_further}
use Rattle.lvl_flat.proofs.Replacing.{none_held, stretch_more}
use Rattle.lvl_flat.proofs.near.joined_with.Goals as goal

pub loop-k-init : goal.loop-k-init
loop-k-init c = record {
  wider = widens_itself c.args.bounds;
  all = none_held c.args.bounds c.args.ring.now c.args.begin;
}

pub loop-k-preserved : goal.loop-k-preserved
loop-k-preserved c = record {
  wider =
      widens_further c.args.bounds c.loop-k.wider c.joined-wider.result c.loop-k.invariant.wider
      c.joined-wider.ensures.first;
  all =
      stretch_more c.args.ring.now c.args.begin c.loop-k.k c.loop-k.wider c.in_ok-bounds_of_stretch.field-0
      c.joined-wider.result c.loop-k.auto.k c.loop-k.invariant.all c.in_ok-bounds_of_stretch.ensures
      c.joined-wider.ensures.first c.joined-wider.ensures.second;
}

pub returns-clause-all : goal.returns-clause-all
returns-clause-all c =
    let end : c.loop-k.k ≡ c.args.end = omega (arith, c.loop-k-test.false, c.loop-k.auto.k-end, c.requires) in
    subst (λ k. All (HoldsPoint c.loop-k.wider) (run_at c.args.ring.now c.args.begin k)) end c.loop-k.invariant.all
