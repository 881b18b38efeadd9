use Rattle.std.proofs.Common.{refl}
use Rattle.lvl_changed.specs.declared.windows.Windows.{Windows}
use Rattle.lvl_changed.proofs.Widening.{sorted_has, widens_further}
use Rattle.lvl_changed.proofs.windows.Windows.reduce.Goals as goal

pub returns-in_default : goal.returns-in_default
returns-in_default c =
    let old : Windows = c.args.self.now in
    let sorted : Windows = record {
      list = c.sort_unstable_by_key.new.self;
      most = old.most;
      anywhere = old.anywhere;
    } in
    widens_further old sorted _ (sorted_has old sorted refl c.sort_unstable_by_key.ensures.permutation)
    c.loop-self.invariant

pub loop-self-preserved : goal.loop-self-preserved
loop-self-preserved c =
    widens_further _ _ _ (widens_further _ _ _ c.loop-self.invariant c.join_next.ensures.kept) c.join_at.ensures.kept

pub returns : goal.returns
returns c =
    let old : Windows = c.args.self.now in
    let sorted : Windows = record {
      list = c.sort_unstable_by_key.new.self;
      most = old.most;
      anywhere = old.anywhere;
    } in
    widens_further old sorted _ (sorted_has old sorted refl c.sort_unstable_by_key.ensures.permutation)
    c.loop-self.invariant
