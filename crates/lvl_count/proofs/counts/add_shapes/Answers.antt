use Rattle.std.proofs.Common.{◌≡◌, ◌<◌, ◌+◌, ◌*◌, ℕ, cond, List, length, map, take, Contains, sym, ap, ◌∙◌}
use Rattle.std.proofs.Common.{subst, arith}
use Rattle.lvl_names.specs.declared.layer.Layer.{Layer}
use Rattle.lvl_names.specs.Layers.{same_layer}
use Rattle.lvl_cells.specs.Cells.{PlainShape, Rings}
use Rattle.lvl_count.specs.inside.Counts.{AreSorted, more, rings_on}
use Rattle.lvl_count.proofs.Growing.{layer_of, more_none, more_more, layers_kept, sorted_kept, shape_added, shape_few}
use Rattle.lvl_count.proofs.Growing.{shape_fits}
use Rattle.lvl_count.proofs.counts.add_shapes.Goals as goal

-- what the shapes so far add
abbrev so_far : ℕ → List (PlainShape Rings) → ℕ → Layer → ℕ
so_far times shapes i l = times * rings_on l (take i shapes)

pub loop-i-init : goal.loop-i-init
loop-i-init c = more_none (so_far c.args.times c.args.shapes.now 0) c.args.counts.now (λ l. omega arith)

pub overflow_mul-rings : goal.overflow_mul-rings
overflow_mul-rings c =
    let fits =
    shape_fits c.args.counts.now c.loop-i.counts c.args.shapes.now c.args.times c.loop-i.i c.ring_count.result
    c.shift_count.result (omega (arith, c.loop-i-test.true, c.len-i-end.ensures)) c.ring_count.ensures
    c.shift_count.ensures c.loop-i.invariant c.requires.there c.requires.placed c.requires.few in
    omega (arith, fits.0)

pub overflow_mul-times : goal.overflow_mul-times
overflow_mul-times c =
    let fits =
    shape_fits c.args.counts.now c.loop-i.counts c.args.shapes.now c.args.times c.loop-i.i c.ring_count.result
    c.shift_count.result (omega (arith, c.loop-i-test.true, c.len-i-end.ensures)) c.ring_count.ensures
    c.shift_count.ensures c.loop-i.invariant c.requires.there c.requires.placed c.requires.few in
    omega (arith, fits.1)

pub add_rings-requires-clause-sorted : goal.add_rings-requires-clause-sorted
add_rings-requires-clause-sorted c =
    subst AreSorted (sym c.loop-i.invariant)
    (sorted_kept (so_far c.args.times c.args.shapes.now c.loop-i.i) c.args.counts.now c.requires.sorted)

pub add_rings-requires-clause-there : goal.add_rings-requires-clause-there
add_rings-requires-clause-there c =
    let shapes : List (PlainShape Rings) = c.args.shapes.now in
    let low : c.loop-i.i < length shapes = omega (arith, c.loop-i-test.true, c.len-i-end.ensures) in
    let same : map layer_of c.loop-i.counts ≡ map layer_of c.args.counts.now =
    ap (map layer_of) c.loop-i.invariant ∙ layers_kept (so_far c.args.times shapes c.loop-i.i) c.args.counts.now in
    subst (λ ls. Contains ls c.layer.result) (sym same)
    (subst (Contains (map layer_of c.args.counts.now)) (sym c.layer.ensures) (c.requires.there c.loop-i.i _ low))

pub add_rings-requires-clause-few : goal.add_rings-requires-clause-few
add_rings-requires-clause-few c =
    shape_few c.args.counts.now c.loop-i.counts c.layer.result c.args.shapes.now c.args.times c.loop-i.i
    c.ring_count.result c.shift_count.result (omega (arith, c.loop-i-test.true, c.len-i-end.ensures))
    c.ring_count.ensures c.shift_count.ensures c.layer.ensures c.loop-i.invariant c.requires.few

pub loop-i-preserved : goal.loop-i-preserved
loop-i-preserved c =
    let times : ℕ = c.args.times in
    let shapes : List (PlainShape Rings) = c.args.shapes.now in
    let i : ℕ = c.loop-i.i in
    let n : ℕ = times * (c.ring_count.result * c.shift_count.result) in
    let g : Layer → ℕ = λ l. cond (same_layer c.layer.result l) n 0 in
    c.add_rings.ensures
    ∙ (ap (map (more g)) c.loop-i.invariant
    ∙ more_more (so_far times shapes i) g (so_far times shapes (i + 1)) c.args.counts.now
    (λ l. shape_added c.layer.result l shapes times i c.ring_count.result c.shift_count.result
    (omega (arith, c.loop-i-test.true, c.len-i-end.ensures)) c.ring_count.ensures c.shift_count.ensures
    c.layer.ensures))
