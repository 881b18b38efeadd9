use Rattle.std.proofs.Common.{◌≡◌, ◌≤◌, length, w64, FitsSigned, rules, arith, Some, ◌∙◌, sym}
use Rattle.std.specs.Vec.{vec_len}
use Rattle.std.proofs.lemmas.Bool.{eqb-true}
use Rattle.lvl_sweep.specs.inside.Alive.{HasSame}
use Rattle.lvl_sweep.proofs.Alikes.{both_alike, bands_alike}
use Rattle.lvl_sweep.proofs.Starts.{no_items}
use Rattle.std.proofs.lemmas.Int.{to_z-of_z}
use Rattle.lvl_sweep.proofs.Settles.{has_room, read, smaller, strip_skipped}
use Rattle.lvl_sweep.proofs.sweep.find_row.Goals as goal

pub collect-requires-clause-room : goal.collect-requires-clause-room
collect-requires-clause-room c =
    has_room c.loop-top.strips.edges.items c.load.new.self.edges.items c.loop-top.row c.load.ensures.edges
    c.loop-top.invariant.read.room

pub loop-top-smaller : goal.loop-top-smaller
loop-top-smaller c =
    let fits : FitsSigned w64 c.in_ok-top.top = search rules in
    smaller c.loop-top.strips.edges.items c.collect.new.self.edges.items c.loop-top.strips.y c.collect.new.self.y
    c.in_ok-top.top (rw c.collect.ensures.edges c.load.ensures.edges)
    (c.collect.ensures.here ∙ (c.load.ensures.here ∙ to_z-of_z w64 _ fits))
    c.in_ok-top.ensures.top.fewer

pub loop-top-preserved : goal.loop-top-preserved
loop-top-preserved c =
    let fits : FitsSigned w64 c.in_ok-top.top = search rules in
    let empty : vec_len c.loop-top.row ≡ 0 = eqb-true (vec_len c.loop-top.row) 0
    (sym c.is_empty.ensures ∙ c.if-not-is_empty.false) in
    let none : length c.loop-top.row.items ≤ 0 = omega (arith, c.loop-top.row.ok.0, empty) in
    let same : HasSame c.loop-top.strips.edges.items c.collect.new.self.edges.items =
    rw c.collect.ensures.edges c.load.ensures.edges in
    record {
      at = c.collect.ensures.at;
      read = read c.load.new.self c.collect.new.self c.loop-top.row c.collect.new.intervals c.collect.ensures.row
          c.collect.ensures.few (has_room c.loop-top.strips.edges.items c.load.new.self.edges.items c.loop-top.row
          c.load.ensures.edges c.loop-top.invariant.read.room) c.collect.ensures.capacity c.collect.ensures.edges
          c.collect.ensures.here;
      edges = both_alike c.args.strips.now.edges.items c.loop-top.strips.edges.items c.collect.new.self.edges.items
          c.loop-top.invariant.edges same;
      skipped = c.loop-top.invariant.skipped
          ∙ (strip_skipped c.loop-top.strips c.in_ok-top.top c.loop-top.row.items c.in_ok-top.ensures.top
          c.loop-top.invariant.read.items (no_items c.loop-top.row.items none)
          ∙ rw (c.collect.ensures.here, c.load.ensures.here, to_z-of_z w64 _ fits)
          (sym (bands_alike c.loop-top.strips.edges.items c.collect.new.self.edges.items (Some c.in_ok-top.top) same
          c.loop-top.invariant.at.strips.balanced)));
      capacity = omega (arith, c.loop-top.invariant.capacity, c.collect.ensures.capacity);
    }
