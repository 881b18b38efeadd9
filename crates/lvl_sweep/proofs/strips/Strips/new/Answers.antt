use Rattle.std.proofs.Common.{w64, FitsSigned, rules, arith, refl, ◌∙◌, ◌<◌, ◌^◌, length, pos, None}
use Rattle.std.proofs.lemmas.Int.{to_z-of_z}
use Rattle.lvl_sweep.specs.declared.strips.Strips.{Strips}
use Rattle.lvl_sweep.proofs.Alikes.{edges_of_alike, row_at_alike}
use Rattle.lvl_sweep.proofs.Gathered.{length_same}
use Rattle.lvl_sweep.proofs.Starts.{rings_close, start_strips, can_start, no_start, none_below, none_anywhere}
use Rattle.lvl_sweep.proofs.strips.Strips.new.Goals.{in-Some, in_default}
use Rattle.lvl_sweep.proofs.strips.Strips.new.Goals as goal

pub load-requires : goal.load-requires
load-requires g c =
    let fits : FitsSigned w64 c.in-Some.y = search rules in
    let s : Strips = record {
      edges = c.in_ok-edges.edges;
      from = 0;
      next = 0;
      top = None;
      windings = c.in_ok-new.field-0;
      y = pos 0;
    } in
    let few : length c.in_ok-edges.edges.items < 2 ^ 63 =
    omega (arith, c.in_ok-edges.edges.small, c.in_ok-edges.edges.ok.0, c.in_ok-edges.edges.ok.1) in
    rw (to_z-of_z w64 _ fits) (can_start s c.in-Some.y (start_strips (g.R.RingList.rings c.args.rings.now) s
    c.in_ok-edges.ensures.edges c.in_ok-edges.ensures.order few refl refl c.in_ok-new.ensures.rest
    (c.in_ok-new.ensures.rings ∙ c.len.ensures))
    c.in_ok-edges.ensures.order refl refl (rw c.deref.ensures.value at c.in-Some.ensures))

pub returns-clause-at : goal.returns-clause-at
returns-clause-at g c =
    let s : Strips = record {
      edges = c.in_ok-edges.edges;
      from = 0;
      next = 0;
      top = None;
      windings = c.in_ok-new.field-0;
      y = pos 0;
    } in
    let few : length c.in_ok-edges.edges.items < 2 ^ 63 =
    omega (arith, c.in_ok-edges.edges.small, c.in_ok-edges.edges.ok.0, c.in_ok-edges.edges.ok.1) in
    elim c.match-begins_at.branch [
      | in-Some w ↦ rw w.strips-is w.load.ensures.at
      | in_default w ↦
          rw w.strips-is (no_start s (start_strips (g.R.RingList.rings c.args.rings.now) s c.in_ok-edges.ensures.edges
          c.in_ok-edges.ensures.order few refl refl c.in_ok-new.ensures.rest
          (c.in_ok-new.ensures.rings ∙ c.len.ensures))
          refl refl refl (rw c.deref.ensures.value at w.in_default.ensures))
    ]

pub returns-clause-edges : goal.returns-clause-edges
returns-clause-edges g c = elim c.match-begins_at.branch [
  | in-Some w ↦ rw w.strips-is (edges_of_alike (g.R.RingList.rings c.args.rings.now) c.in_ok-edges.edges.items
      w.load.new.self.edges.items w.load.ensures.edges c.in_ok-edges.ensures.edges)
  | in_default w ↦ rw w.strips-is c.in_ok-edges.ensures.edges
]

pub returns-clause-lowest : goal.returns-clause-lowest
returns-clause-lowest g c = elim c.match-begins_at.branch [
  | in-Some w ↦ λ v lt.
      let fits : FitsSigned w64 w.in-Some.y = search rules in
      rw w.strips-is (row_at_alike c.in_ok-edges.edges.items w.load.new.self.edges.items v w.load.ensures.edges
      (rings_close (g.R.RingList.rings c.args.rings.now) c.in_ok-edges.edges.items c.in_ok-edges.ensures.edges v)
      ∙ none_below c.in_ok-edges.edges.items w.in-Some.y v c.in_ok-edges.ensures.order
      (rw c.deref.ensures.value at w.in-Some.ensures)
      (rw (w.strips-is, w.load.ensures.here, to_z-of_z w64 _ fits) at lt))
  | in_default w ↦
      λ v lt. rw w.strips-is (none_anywhere c.in_ok-edges.edges.items v
      (rw c.deref.ensures.value at w.in_default.ensures))
]

pub returns-clause-many : goal.returns-clause-many
returns-clause-many g c = elim c.match-begins_at.branch [
  | in-Some w ↦ rw w.strips-is (length_same c.in_ok-edges.edges.items w.load.new.self.edges.items w.load.ensures.edges
      ∙ c.in_ok-edges.ensures.many)
  | in_default w ↦ rw w.strips-is c.in_ok-edges.ensures.many
]
