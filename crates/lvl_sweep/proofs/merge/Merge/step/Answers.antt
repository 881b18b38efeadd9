use Rattle.std.proofs.Common.{◌≡◌, length, w64, arith, refl}
use Rattle.std.proofs.lemmas.Int.{to_z-of_z}
use Rattle.std.proofs.lemmas.List.Sorted.{length_permutation}
use Rattle.lvl_sweep.proofs.Merges.{put_fresh, put_active, left_after, end_front}
use Rattle.lvl_sweep.proofs.merge.Merge.step.Goals as goal

pub returns-then-is_fresh_last-clause-merging : goal.returns-then-is_fresh_last-clause-merging
returns-then-is_fresh_last-clause-merging c =
    let last = c.is_fresh_last.ensures.fresh c.if-is_fresh_last.true in
    let long : length c.put.new.edges ≡ length c.args.edges.now =
    omega (arith, length_permutation _ _ c.put.ensures.permutation) in
    put_fresh c.args.edges.now c.put.new.edges c.args.y c.args.self.now c.put.new.self c.requires.merging last
    (rw c.put.ensures.fresh c.put.ensures.swapped) long c.put.ensures.low
    (omega (arith, c.put.ensures.fresh, last.0)) c.put.ensures.from c.put.ensures.alive c.put.ensures.first
    c.put.ensures.end

pub returns-then-is_fresh_last-clause-top : goal.returns-then-is_fresh_last-clause-top
returns-then-is_fresh_last-clause-top c = λ b h.
    let m = c.requires.merging in
    let last = c.is_fresh_last.ensures.fresh c.if-is_fresh_last.true in
    end_front c.args.edges.now c.put.new.edges _ c.put.new.self.first c.args.self.now.first c.args.self.now.end b _ _
    c.put.ensures.swapped c.put.ensures.first (omega (arith, m.fresh, m.from, m.gap, last.0)) m.first
    (omega (arith, m.fresh, m.from, m.gap, last.0, m.first, m.end)) c.put.ensures.some c.put.ensures.top h

pub returns-then-reaches_above-clause-merging : goal.returns-then-reaches_above-clause-merging
returns-then-reaches_above-clause-merging c =
    let last = c.is_fresh_last.ensures.active c.if-is_fresh_last.false in
    let long : length c.put-then-reaches_above.new.edges ≡ length c.args.edges.now =
    omega (arith, length_permutation _ _ c.put-then-reaches_above.ensures.permutation) in
    put_active c.args.edges.now c.put-then-reaches_above.new.edges c.args.y c.args.self.now
    c.put-then-reaches_above.new.self c.requires.merging last
    (rw c.put-then-reaches_above.ensures.alive c.put-then-reaches_above.ensures.swapped) long
    (rw c.put-then-reaches_above.ensures.alive
    (rw (to_z-of_z w64 c.args.y c.ranges.y) at (c.reaches_above.ensures.above c.if-reaches_above.true)))
    c.put-then-reaches_above.ensures.low c.put-then-reaches_above.ensures.fresh
    c.put-then-reaches_above.ensures.from (omega (arith, c.put-then-reaches_above.ensures.alive, last.0))
    c.put-then-reaches_above.ensures.first c.put-then-reaches_above.ensures.end

pub returns-then-reaches_above-clause-top : goal.returns-then-reaches_above-clause-top
returns-then-reaches_above-clause-top c = λ b h.
    let m = c.requires.merging in
    let last = c.is_fresh_last.ensures.active c.if-is_fresh_last.false in
    end_front c.args.edges.now c.put-then-reaches_above.new.edges _ c.put-then-reaches_above.new.self.first
    c.args.self.now.first c.args.self.now.end b _ _ c.put-then-reaches_above.ensures.swapped
    c.put-then-reaches_above.ensures.first (omega (arith, m.low, m.gap, last.0)) m.first
    (omega (arith, m.low, m.gap, last.0, m.first, m.end)) c.put-then-reaches_above.ensures.some
    c.put-then-reaches_above.ensures.top h

pub returns-else-reaches_above-clause-merging : goal.returns-else-reaches_above-clause-merging
returns-else-reaches_above-clause-merging c =
    let last = c.is_fresh_last.ensures.active c.if-is_fresh_last.false in
    left_after c.args.edges.now c.args.y c.args.self.now _ c.requires.merging last
    (rw (to_z-of_z w64 c.args.y c.ranges.y) at (c.reaches_above.ensures.ended c.if-reaches_above.false)) refl refl
    refl (omega (arith, last.0)) refl refl
