use Rattle.std.proofs.Common.{◌≡◌, ◌<ℤ◌, w64, FitsSigned, rules, arith, ◌∙◌}
use Rattle.std.proofs.lemmas.Int.{to_z-of_z, ints}
use Rattle.lvl_sweep.specs.Bands.{slab_of}
use Rattle.lvl_sweep.proofs.Aheads.{high_is, reported_lower, reported_upper, reported_row, reported_alike, min_ends}
use Rattle.lvl_sweep.proofs.rows.both.Goals as goal

pub returns-then-ours-theirs : goal.returns-then-ours-theirs
returns-then-ours-theirs c =
    let lt : c.least_square-ours.result.y <ℤ c.least_square-theirs.result.y = grind (arith, ints) in
    reported_lower c.args.from (slab_of c.args.first.now) (slab_of c.args.second.now) c.least_square-ours.result
    c.least_square-theirs.result.y c.requires.first
    (high_is c.args.from (slab_of c.args.first.now) _ c.requires.first c.least_square-ours.ensures.y)
    (high_is c.args.from (slab_of c.args.second.now) _ c.requires.second c.least_square-theirs.ensures.y)
    c.least_square-ours.ensures.x lt

pub returns-then-theirs-ours : goal.returns-then-theirs-ours
returns-then-theirs-ours c =
    let lt : c.least_square-theirs.result.y <ℤ c.least_square-ours.result.y = grind (arith, ints) in
    reported_upper c.args.from (slab_of c.args.first.now) (slab_of c.args.second.now) c.least_square-theirs.result
    c.least_square-ours.result.y c.requires.second
    (high_is c.args.from (slab_of c.args.second.now) _ c.requires.second c.least_square-theirs.ensures.y)
    (high_is c.args.from (slab_of c.args.first.now) _ c.requires.first c.least_square-ours.ensures.y)
    c.least_square-theirs.ensures.x lt

pub returns-in-Some : goal.returns-in-Some
returns-in-Some c =
    let x : FitsSigned w64 c.in-Some.x = search rules in
    let y : FitsSigned w64 c.least_square-ours.result.y = search rules in
    let level : c.least_square-ours.result.y ≡ c.least_square-theirs.result.y =
    omega (arith, ints, c.if-ours-theirs.false, c.if-theirs-ours.false) in
    rw (to_z-of_z w64 _ x, to_z-of_z w64 _ y)
    (reported_row c.args.from (slab_of c.args.first.now) (slab_of c.args.second.now) c.in-Some.x
    c.least_square-ours.result.y c.in-Some.side
    (high_is c.args.from (slab_of c.args.first.now) _ c.requires.first c.least_square-ours.ensures.y)
    (high_is c.args.from (slab_of c.args.second.now) _ c.requires.second (level ∙ c.least_square-theirs.ensures.y))
    (rw (c.deref.ensures.value, c.deref-2.ensures.value) at c.in-Some.ensures.differ))

pub returns-in-None : goal.returns-in-None
returns-in-None c =
    let fits : FitsSigned w64 c.min.result = search rules in
    let level : c.least_square-ours.result.y ≡ c.least_square-theirs.result.y =
    omega (arith, ints, c.if-ours-theirs.false, c.if-theirs-ours.false) in
    let b : FitsSigned w64 c.args.first.now.y1 = search rules in
    let d : FitsSigned w64 c.args.second.now.y1 = search rules in
    rw (to_z-of_z w64 _ fits)
    (reported_alike c.args.from (slab_of c.args.first.now) (slab_of c.args.second.now) c.least_square-ours.result.y
    c.min.result
    (high_is c.args.from (slab_of c.args.first.now) _ c.requires.first c.least_square-ours.ensures.y)
    (high_is c.args.from (slab_of c.args.second.now) _ c.requires.second (level ∙ c.least_square-theirs.ensures.y))
    (rw (c.deref.ensures.value, c.deref-2.ensures.value) at c.in-None.ensures.same)
    (rw (to_z-of_z w64 _ b) at c.min.ensures.self_bound) (rw (to_z-of_z w64 _ d) at c.min.ensures.other_bound)
    (min_ends c.args.first.now.y1 c.args.second.now.y1 c.min.result
    (rw (to_z-of_z w64 _ b, to_z-of_z w64 _ d) at c.min.ensures.value)))
