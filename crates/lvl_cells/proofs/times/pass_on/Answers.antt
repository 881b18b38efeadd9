use Rattle.std.proofs.Common.{◌≡◌, ◌<◌, length, get_or, set, drop, ◌+◌, ◌*◌, ℕ, refl, sym, ap, ◌∙◌, subst, arith}
use Rattle.std.proofs.lemmas.Option.{get_or_from_slice_get, slice_get_within}
use Rattle.lvl_cells.specs.Cells.{PlainCell, Rings}
use Rattle.lvl_cells.specs.Checks.{Settled}
use Rattle.lvl_cells.specs.inside.Times.{IsPassing}
use Rattle.lvl_cells.proofs.Passing.{cell_read, step_along, passing_begins}
use Rattle.lvl_cells.proofs.times.pass_on.Goals.{in-Some+in-Some-plus_times, in_default}
use Rattle.lvl_cells.proofs.times.pass_on.Goals as goal

pub loop-j-init : goal.loop-j-init
loop-j-init c =
    let s : Settled = c.args.linked.now in
    let k : ℕ = get_or c.order.result.now c.args.i 0 in
    let here : ℕ = get_or c.args.times.now k 0 in
    let at =
    cell_read s c.order.result.now c.cells.result.now c.args.i c.index-cells-index.result c.order.ensures.sorted
    c.order.ensures.value c.cells.ensures.value c.requires.within c.index-cells-index.is in
    let listed : c.cell.inside.references ≡ c.index-cells-index.result.references =
    ap (λ (d : PlainCell Rings). d.references) c.cell.view_is in
    subst (λ l. IsPassing s c.args.i here l c.args.times.now) (sym listed)
    (passing_begins s c.args.i k here c.index-cells-index.result c.args.times.now c.cells.ensures.linked
    c.order.ensures.sorted at.0 at.1 refl c.requires.way)

pub offset_bounds-times-target : goal.offset_bounds-times-target
offset_bounds-times-target c =
    let t = c.in-Some.ensures.target in
    omega
    (arith, slice_get_within c.args.linked.now.cells c.in-Some.target t.target t.target_is, c.loop-j.invariant.long)

pub bounds-times-target : goal.bounds-times-target
bounds-times-target c =
    let t = c.in-Some.ensures.target in
    omega
    (arith, slice_get_within c.args.linked.now.cells c.in-Some.target t.target t.target_is, c.loop-j.invariant.long)

pub returns-in_default-plus_times-clause-many : goal.returns-in_default-plus_times-clause-many
returns-in_default-plus_times-clause-many c = λ _.
    let s : Settled = c.args.linked.now in
    let step =
    step_along s c.args.i (get_or c.args.times.now (get_or c.order.result.now c.args.i 0) 0) c.loop-j.j c.in-Some.target
    c.shift_count.result c.order.result.now c.cells.result.now c.cell.inside.references c.index-cells-index.result
    c.reference-reference.result c.loop-j.times c.order.ensures.sorted c.order.ensures.value c.cells.ensures.value
    c.requires.within c.index-cells-index.is (ap (λ (d : PlainCell Rings). d.references) c.cell.view_is)
    (slice_get_within c.cell.inside.references c.loop-j.j c.reference-reference.result c.reference-reference.ensures)
    (sym (get_or_from_slice_get c.cell.inside.references c.loop-j.j c.reference-reference.result
    c.reference-reference.result c.reference-reference.ensures)) c.shift_count.ensures
    c.in-Some.ensures.target c.loop-j.invariant in
    step.many c.args.most (c.in_default-plus_times.ensures.many refl)

pub offset_bounds-times-target-in-Some : goal.offset_bounds-times-target-in-Some
offset_bounds-times-target-in-Some c =
    let t = c.in-Some.ensures.target in
    omega
    (arith, slice_get_within c.args.linked.now.cells c.in-Some.target t.target t.target_is, c.loop-j.invariant.long)

pub bounds-times-target-in-Some : goal.bounds-times-target-in-Some
bounds-times-target-in-Some c =
    let t = c.in-Some.ensures.target in
    omega
    (arith, slice_get_within c.args.linked.now.cells c.in-Some.target t.target t.target_is, c.loop-j.invariant.long)

pub loop-j-preserved : goal.loop-j-preserved
loop-j-preserved c =
    let s : Settled = c.args.linked.now in
    let here : ℕ = get_or c.args.times.now (get_or c.order.result.now c.args.i 0) 0 in
    let listed : c.cell.inside.references ≡ c.index-cells-index.result.references =
    ap (λ (d : PlainCell Rings). d.references) c.cell.view_is in
    elim c.match-target.branch [
      | in-Some+in-Some-plus_times w ↦
          let step =
          step_along s c.args.i here c.loop-j.j w.in-Some.target w.shift_count.result c.order.result.now
          c.cells.result.now c.cell.inside.references c.index-cells-index.result c.reference-reference.result
          c.loop-j.times
          c.order.ensures.sorted c.order.ensures.value c.cells.ensures.value c.requires.within c.index-cells-index.is
          listed
          (slice_get_within c.cell.inside.references c.loop-j.j c.reference-reference.result
          c.reference-reference.ensures)
          (sym (get_or_from_slice_get c.cell.inside.references c.loop-j.j c.reference-reference.result
          c.reference-reference.result c.reference-reference.ensures))
          w.shift_count.ensures w.in-Some.ensures.target c.loop-j.invariant in
          let new : set c.loop-j.times w.in-Some.target w.in-Some-plus_times.more ≡ c.match-target.times =
          sym w.times-is in
          let value : get_or c.loop-j.times w.in-Some.target 0 + here * w.shift_count.result
          ≡ w.in-Some-plus_times.more =
          sym w.in-Some-plus_times.ensures.value in
          subst (IsPassing s c.args.i here (drop (c.loop-j.j + 1) c.cell.inside.references))
          (ap (set c.loop-j.times w.in-Some.target) value ∙ new) step.next
      | in_default w ↦
          let at =
          cell_read s c.order.result.now c.cells.result.now c.args.i c.index-cells-index.result c.order.ensures.sorted
          c.order.ensures.value c.cells.ensures.value c.requires.within c.index-cells-index.is in
          let low : c.loop-j.j < length c.index-cells-index.result.references =
          omega (arith, c.loop-j-test.true, c.len-j-end.ensures, ap length listed) in
          absurd (w.in_default.ensures.past (c.index-cells-index.result, at.1, low))
    ]
