use Rattle.std.proofs.Common.{w64, arith}
use Rattle.std.specs.List.Sorted.{IsPermutation}
use Rattle.std.proofs.lemmas.Int.{to_z-of_z}
use Rattle.std.proofs.lemmas.List.{with_items_is}
use Rattle.std.proofs.lemmas.List.Sorted.{length_permutation}
use Rattle.lvl_sweep.proofs.Loads.{renewed, loaded, same_edges}
use Rattle.lvl_sweep.proofs.strips.Strips.load.Goals as goal

pub renew-merge-requires : goal.renew-merge-requires
renew-merge-requires c = record {
  renewed = rw (c.deref_mut.ensures.value, to_z-of_z w64 _ c.ranges.y)
      (renewed c.args.self.now c.end_of_start-end.result c.args.y c.requires c.end_of_start-end.ensures.after
      (rw c.deref.ensures.value at c.end_of_start-end.ensures.within)
      (rw (c.deref.ensures.value, to_z-of_z w64 _ c.ranges.y) at c.end_of_start-end.ensures.begun));
}

pub returns-clause-at : goal.returns-clause-at
returns-clause-at c =
    let moved : IsPermutation c.args.self.now.edges.items c.renew-merge.new.edges =
    rw c.deref_mut.ensures.value at c.renew-merge.ensures.permutation in
    let is = with_items_is c.args.self.now.edges c.renew-merge.new.edges
    (omega (arith, length_permutation _ _ moved, c.args.self.now.edges.ok.0)) in
    rw (to_z-of_z w64 _ c.ranges.y)
    (loaded c.args.self.now _ c.renew-merge.result.first c.end_of_start-end.result c.begins_at-begins.result
    c.renew-merge.result.top c.args.y c.requires
    c.end_of_start-end.ensures.after
    (rw c.deref.ensures.value at c.end_of_start-end.ensures.within)
    (rw (c.deref.ensures.value, to_z-of_z w64 _ c.ranges.y) at c.end_of_start-end.ensures.coming)
    (rw c.deref-2.ensures.value at c.begins_at-begins.ensures)
    (rw is moved)
    c.renew-merge.ensures.within
    (rw is (rw c.deref_mut.ensures.value at c.renew-merge.ensures.later))
    (rw is (rw (to_z-of_z w64 _ c.ranges.y) at c.renew-merge.ensures.ended))
    (rw is (rw (to_z-of_z w64 _ c.ranges.y) at c.renew-merge.ensures.begun))
    (rw is (rw (to_z-of_z w64 _ c.ranges.y) at c.renew-merge.ensures.alive))
    (rw is c.renew-merge.ensures.rising)
    (rw is c.renew-merge.ensures.top))

pub returns-clause-edges : goal.returns-clause-edges
returns-clause-edges c =
    let moved : IsPermutation c.args.self.now.edges.items c.renew-merge.new.edges =
    rw c.deref_mut.ensures.value at c.renew-merge.ensures.permutation in
    let is = with_items_is c.args.self.now.edges c.renew-merge.new.edges
    (omega (arith, length_permutation _ _ moved, c.args.self.now.edges.ok.0)) in
    rw is (same_edges c.args.self.now.edges.items c.renew-merge.new.edges moved)
