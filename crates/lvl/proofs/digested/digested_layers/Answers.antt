use Rattle.std.proofs.Common.{◌≡◌, ◌++◌, ◌≤◌, List, AllPairs, length, take, slice_range, subst, sym, arith}
use Rattle.lvl_flat.specs.Flattened.{TopCovers}
use Rattle.lvl_names.specs.declared.layer.Layer.{Layer}
use Rattle.lvl_names.specs.Layers.{ComesBefore}
use Rattle.lvl.specs.Hashes.{AreDigestsOn}
use Rattle.lvl.proofs.Listing.{pairs_up_to, up_to_end}
use Rattle.lvl.proofs.digested.digested_layers.Goals as goal

pub loop-start-preserved : goal.loop-start-preserved
loop-start-preserved c =
    let layers : List Layer = c.in_ok-layers.layers.items in
    let start = c.loop-start.start in
    let end = c.min-end.result in
    let more : start ≤ end =
    omega (
      arith,
      c.loop-start-test.true,
      c.saturating_add.ensures,
      c.min-end.ensures,
      c.len-in-loop-start.ensures,
      c.len-in-loop-start-2.ensures,
    ) in
    let within : end ≤ length layers = omega (arith, c.min-end.ensures, c.len-in-loop-start-2.ensures) in
    let held : c.deref.result.now ≡ layers = c.deref.ensures.value in
    let whole : take start layers ++ slice_range layers start end ≡ take end layers =
    up_to_end layers start end more in
    let rising : AllPairs ComesBefore (take start layers ++ slice_range layers start end) =
    subst (AllPairs ComesBefore) (sym whole) (pairs_up_to ComesBefore layers end c.in_ok-layers.ensures.rising) in
    let listed = rw held at c.in_ok-push_group.ensures in
    record {
      digested =
          subst (λ (ls : List Layer). AreDigestsOn (TopCovers c.args.fitted.now) ls c.push_group.new.digested.items) whole
          (listed (take start layers) rising c.loop-start.invariant.digested);
      within = within;
    }
