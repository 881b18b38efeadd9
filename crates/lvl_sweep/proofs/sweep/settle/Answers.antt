use Rattle.std.proofs.Common.{w64, FitsSigned, rules, Some, ◌∙◌, sym, arith}
use Rattle.std.proofs.lemmas.Int.{to_z-of_z}
use Rattle.lvl_sweep.specs.inside.Alive.{HasSame}
use Rattle.lvl_sweep.proofs.Alikes.{as_long, both_alike, bands_alike}
use Rattle.lvl_sweep.proofs.Settles.{none_left, held_first, held_start, read}
use Rattle.lvl_sweep.proofs.sweep.settle.Goals as goal

pub returns-in_default-clause-none : goal.returns-in_default-clause-none
returns-in_default-clause-none c =
    λ h. c.in_default.ensures.skipped ∙ none_left c.find_row.new.strips c.in_default.ensures.over

pub returns-in_default-clause-few : goal.returns-in_default-clause-few
returns-in_default-clause-few c =
    omega (
      arith,
      as_long c.args.strips.now.edges.items c.find_row.new.strips.edges.items c.in_default.ensures.edges,
      c.requires.few,
    )

pub returns-in_default-clause-room : goal.returns-in_default-clause-room
returns-in_default-clause-room c =
    omega (
      arith,
      as_long c.args.strips.now.edges.items c.find_row.new.strips.edges.items c.in_default.ensures.edges,
      c.requires.room,
    )

pub collect-requires-clause-room : goal.collect-requires-clause-room
collect-requires-clause-room c =
    rw c.swap.ensures.y_after
    (omega (
      arith,
      as_long c.args.strips.now.edges.items c.find_row.new.strips.edges.items c.in-Some.ensures.edges,
      as_long c.find_row.new.strips.edges.items c.load.new.self.edges.items c.load.ensures.edges,
      c.requires.room,
    ))

pub lengthen-requires-clause-read : goal.lengthen-requires-clause-read
lengthen-requires-clause-read c =
    read c.load.new.self c.collect.new.self c.swap.new.y c.collect.new.intervals c.collect.ensures.row
    c.collect.ensures.few (rw c.swap.ensures.y_after
    (omega (
      arith,
      as_long c.args.strips.now.edges.items c.find_row.new.strips.edges.items c.in-Some.ensures.edges,
      as_long c.find_row.new.strips.edges.items c.load.new.self.edges.items c.load.ensures.edges,
      c.requires.room,
    ))) c.collect.ensures.capacity c.collect.ensures.edges c.collect.ensures.here

pub lengthen-requires-clause-held : goal.lengthen-requires-clause-held
lengthen-requires-clause-held c =
    let low : FitsSigned w64 c.find_row.new.strips.y = search rules in
    let high : FitsSigned w64 c.in-Some.top = search rules in
    held_start c.find_row.new.strips c.collect.new.self.edges.items _ c.in-Some.top _ c.in-Some.ensures.at
    (rw c.swap.ensures.x_after c.in-Some.ensures.read.items) (rw c.swap.ensures.x_after c.in-Some.ensures.some)
    c.in-Some.ensures.top (rw c.collect.ensures.edges c.load.ensures.edges) (to_z-of_z w64 _ low)
    (to_z-of_z w64 _ high) (c.collect.ensures.here ∙ (c.load.ensures.here ∙ to_z-of_z w64 _ high))

pub returns-clause-next : goal.returns-clause-next
returns-clause-next c = λ h.
    let fits : FitsSigned w64 c.find_row.new.strips.y = search rules in
    let loaded : HasSame c.find_row.new.strips.edges.items c.collect.new.self.edges.items =
    rw c.collect.ensures.edges c.load.ensures.edges in
    let same : HasSame c.find_row.new.strips.edges.items c.lengthen.new.strips.edges.items =
    both_alike c.find_row.new.strips.edges.items c.collect.new.self.edges.items c.lengthen.new.strips.edges.items
    loaded c.lengthen.ensures.edges in
    c.in-Some.ensures.skipped
    ∙ (sym (bands_alike c.find_row.new.strips.edges.items c.lengthen.new.strips.edges.items
    (Some c.find_row.new.strips.y) same c.in-Some.ensures.at.strips.balanced)
    ∙ held_first c.lengthen.new.strips.edges.items c.lengthen.new.band _ _ c.lengthen.ensures.held
    (c.lengthen.ensures.low ∙ to_z-of_z w64 _ fits) c.lengthen.ensures.stops)

pub returns-clause-edges : goal.returns-clause-edges
returns-clause-edges c =
    let loaded : HasSame c.find_row.new.strips.edges.items c.collect.new.self.edges.items =
    rw c.collect.ensures.edges c.load.ensures.edges in
    both_alike c.args.strips.now.edges.items c.find_row.new.strips.edges.items c.lengthen.new.strips.edges.items
    c.in-Some.ensures.edges (both_alike c.find_row.new.strips.edges.items c.collect.new.self.edges.items
    c.lengthen.new.strips.edges.items loaded c.lengthen.ensures.edges)

pub returns-clause-few : goal.returns-clause-few
returns-clause-few c =
    rw (c.lengthen.ensures.intervals, c.swap.ensures.x_after)
    (omega (
      arith,
      as_long c.find_row.new.strips.edges.items c.load.new.self.edges.items c.load.ensures.edges,
      as_long c.load.new.self.edges.items c.lengthen.new.strips.edges.items
          (rw c.collect.ensures.edges at c.lengthen.ensures.edges),
      c.in-Some.ensures.read.few,
    ))

pub returns-clause-room : goal.returns-clause-room
returns-clause-room c =
    rw (c.lengthen.ensures.intervals, c.swap.ensures.x_after)
    (omega (
      arith,
      as_long c.find_row.new.strips.edges.items c.load.new.self.edges.items c.load.ensures.edges,
      as_long c.load.new.self.edges.items c.lengthen.new.strips.edges.items
          (rw c.collect.ensures.edges at c.lengthen.ensures.edges),
      c.in-Some.ensures.read.room,
    ))

pub returns-clause-capacity : goal.returns-clause-capacity
returns-clause-capacity c =
    rw (c.lengthen.ensures.intervals, c.swap.ensures.x_after)
    (omega (
      arith,
      c.lengthen.ensures.capacity,
      rw c.swap.ensures.y_after at c.collect.ensures.capacity,
      c.in-Some.ensures.capacity,
    ))
