use Rattle.std.proofs.Common.{◌≡◌, ◌+◌, ℕ, List, Some, None, slice_get, sym, ◌∙◌, arith}
use Rattle.std.proofs.lemmas.List.Elements.{All-contains}
use Rattle.std.proofs.lemmas.Option.{slice_get_within}
use Rattle.lvl_cells.proofs.Sequences.{item_there}
use Rattle.lvl_grid.specs.declared.point.Point.{Point}
use Rattle.lvl_grid.specs.declared.point.Square.{Square}
use Rattle.lvl_grid.specs.declared.map.Map.{Map}
use Rattle.lvl_flat.specs.Flattened.{FitsRing}
use Rattle.lvl_names.proofs.Elements.{contains_at}
use Rattle.lvl_witness.specs.inside.Wide.{as_square}
use Rattle.lvl_witness.proofs.Apart.{apart_uncovered, none_covers, none_more}
use Rattle.lvl_witness.proofs.rings.place_of.Goals as goal

pub loop-place-init : goal.loop-place-init
loop-place-init c = λ k e below at.
    apart_uncovered c.args.map.now c.args.square (as_square c.pulled.result) c.args.ring.now c.args.shifts.now 0
    c.next_place-place.result c.area_of_ring-area.result c.pulled.ensures.square c.area_of_ring-area.ensures.has
    c.next_place-place.ensures.apart k e (omega arith) below at

pub unreachable-requires : goal.unreachable-requires
unreachable-requires c =
    let shifts : List Point = c.args.shifts.now in
    let there =
    item_there shifts c.loop-place.place (omega (arith, c.loop-place-test.true, c.len-count.ensures.count)) in
    let none : slice_get shifts c.loop-place.place ≡ None = sym c.at.ensures ∙ c.in_default.is in
    let some : slice_get shifts c.loop-place.place ≡ Some there.0 = there.1 in
    cc

pub covers_at-requires-clause-fits : goal.covers_at-requires-clause-fits
covers_at-requires-clause-fits c =
    let shifts : List Point = c.args.shifts.now in
    let at : slice_get shifts c.loop-place.place ≡ Some c.in-Some.shift = sym c.at.ensures ∙ c.in-Some.is in
    All-contains (λ e. FitsRing c.args.map.now e c.args.ring.now) shifts c.in-Some.shift c.requires.fits
    (contains_at shifts c.loop-place.place c.in-Some.shift at)

pub loop-place-preserved : goal.loop-place-preserved
loop-place-preserved c =
    let m : Map = c.args.map.now in
    let q : Square = c.args.square in
    let shifts : List Point = c.args.shifts.now in
    let ring : List Point = c.args.ring.now in
    let place : ℕ = c.loop-place.place in
    let next : ℕ = c.next_place-place-in-loop-place.result in
    let at : slice_get shifts place ≡ Some c.in-Some.shift = sym c.at.ensures ∙ c.in-Some.is in
    none_more m q shifts ring place next c.in-Some.shift c.loop-place.invariant at
    (λ covers. let yes = c.in_ok-covers_at.ensures.1 covers in let no = c.if-branch.false in cc)
    (apart_uncovered m q (as_square c.pulled.result) ring shifts (place + 1) next c.area_of_ring-area.result
    c.pulled.ensures.square c.area_of_ring-area.ensures.has c.next_place-place-in-loop-place.ensures.apart)

pub returns-clause-none : goal.returns-clause-none
returns-clause-none c =
    none_covers c.args.map.now c.args.square c.args.shifts.now c.args.ring.now c.loop-place.place
    c.loop-place.invariant
    (λ k e at. omega (
      arith,
      slice_get_within c.args.shifts.now k e at,
      c.loop-place-test.false,
      c.len-count.ensures.count,
    ))
