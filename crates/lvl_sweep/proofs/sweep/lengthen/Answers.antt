use Rattle.std.proofs.Common.{w64, FitsSigned, rules, arith, refl, ◌∙◌, sym}
use Rattle.std.proofs.lemmas.Int.{to_z-of_z}
use Rattle.lvl_sweep.specs.inside.Alive.{HasSame}
use Rattle.lvl_sweep.proofs.Alikes.{both_alike}
use Rattle.lvl_sweep.proofs.Settles.{has_room, held_on, read, smaller}
use Rattle.lvl_sweep.proofs.sweep.lengthen.Goals as goal

pub collect-requires-clause-room : goal.collect-requires-clause-room
collect-requires-clause-room c =
    has_room c.loop-strips.strips.edges.items c.load.new.self.edges.items c.loop-strips.row c.load.ensures.edges
    c.loop-strips.invariant.read.room

pub loop-strips-smaller : goal.loop-strips-smaller
loop-strips-smaller c =
    let fits : FitsSigned w64 c.in-Some.top = search rules in
    smaller c.loop-strips.strips.edges.items c.collect.new.self.edges.items c.loop-strips.strips.y
    c.collect.new.self.y c.in-Some.top (rw c.collect.ensures.edges c.load.ensures.edges)
    (c.collect.ensures.here ∙ (c.load.ensures.here ∙ to_z-of_z w64 _ fits)) c.in-Some.ensures.top.fewer

pub loop-strips-preserved : goal.loop-strips-preserved
loop-strips-preserved c =
    let fits : FitsSigned w64 c.in-Some.top = search rules in
    let same : HasSame c.loop-strips.strips.edges.items c.collect.new.self.edges.items =
    rw c.collect.ensures.edges c.load.ensures.edges in
    record {
      at = c.collect.ensures.at;
      read = read c.load.new.self c.collect.new.self c.loop-strips.row c.collect.new.intervals c.collect.ensures.row
          c.collect.ensures.few (has_room c.loop-strips.strips.edges.items c.load.new.self.edges.items
          c.loop-strips.row c.load.ensures.edges c.loop-strips.invariant.read.room) c.collect.ensures.capacity
          c.collect.ensures.edges c.collect.ensures.here;
      edges = both_alike c.args.strips.now.edges.items c.loop-strips.strips.edges.items
          c.collect.new.self.edges.items c.loop-strips.invariant.edges same;
      held = held_on c.loop-strips.strips c.collect.new.self.edges.items c.loop-strips.band _ c.in-Some.top _
          c.loop-strips.invariant.at c.loop-strips.invariant.held
          (sym c.loop-strips.invariant.read.items ∙ (sym c.deref.ensures.value
          ∙ (c.are_same.ensures.0 c.loop-strips-test.true ∙ c.deref-in-loop-strips.ensures.value)))
          c.in-Some.ensures.top same refl (to_z-of_z w64 _ fits) refl
          (c.collect.ensures.here ∙ (c.load.ensures.here ∙ to_z-of_z w64 _ fits));
      low = c.loop-strips.invariant.low;
      intervals = c.loop-strips.invariant.intervals;
      capacity = omega (arith, c.loop-strips.invariant.capacity, c.collect.ensures.capacity);
    }
