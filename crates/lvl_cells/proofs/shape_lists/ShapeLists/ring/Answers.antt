use Rattle.std.proofs.Common.{◌≡◌, ◌<◌, ◌+◌, List, map, get_or, [], length, arith, sym, subst, ap, ◌∙◌}
use Rattle.lvl_grid.specs.declared.point.Point.{Point}
use Rattle.lvl_grid.specs.Turn.{shifted}
use Rattle.lvl_grid.specs.Winding.{IsRing}
use Rattle.lvl_cells.specs.declared.shape_lists.Span.{Span}
use Rattle.lvl_cells.specs.inside.Outlines.{ring_of}
use Rattle.lvl_cells.specs.inside.Spans.{displaced, IsMovable}
use Rattle.lvl_cells.proofs.Spanned.{in_spans, span_read, ring_from}
use Rattle.lvl_cells.proofs.Moving.{movable, IsRing-moved}
use Rattle.lvl_cells.proofs.shape_lists.ShapeLists.ring.Goals as goal

pub index-span-requires : goal.index-span-requires
index-span-requires c =
    let there : c.args.i < length c.self.inside.spans.items =
    in_spans _ _ _ _ _ c.args.i c.self.view_is c.requires.shape in
    omega (arith, there, c.self.inside.spans.ok.0)

pub overflow_add-span : goal.overflow_add-span
overflow_add-span c =
    let s : Span = c.index-span.result.now in
    let before = (ring_from _ _ _ _ _ c.args.i c.args.j s c.self.invariant c.self.view_is c.requires.shape
    c.index-span.ensures c.requires.ring).before in
    omega (arith, before.0, before.1)

pub outline-outline-requires : goal.outline-outline-requires
outline-outline-requires c =
    (ring_from _ _ _ _ _ c.args.i c.args.j c.index-span.result.now c.self.invariant c.self.view_is c.requires.shape
    c.index-span.ensures c.requires.ring).inside

pub move_of-requires : goal.move_of-requires
move_of-requires c =
    let moved = (span_read _ _ _ _ _ c.args.i c.index-span.result.now c.self.invariant c.self.view_is c.requires.shape
    c.index-span.ensures).is.moved in
    omega (arith, moved, ap length c.deref.ensures.value)

pub new-requires-clause-ring : goal.new-requires-clause-ring
new-requires-clause-ring c =
    let s : Span = c.index-span.result.now in
    let by : c.move_of.result ≡ displaced c.self.inside.moves.items s.moved =
    c.move_of.ensures ∙ ap (λ ms. displaced ms s.moved) c.deref.ensures.value in
    let points : List Point = get_or c.self.inside.rings (s.begin + c.args.j) [] in
    let same : (ring_of c.outline-outline.result) ≡ points = c.outline-outline.ensures.value in
    let of = ring_from _ _ _ _ _ c.args.i c.args.j s c.self.invariant c.self.view_is c.requires.shape
    c.index-span.ensures c.requires.ring in
    subst (λ p. IsMovable p (ring_of c.outline-outline.result)) (sym by)
    (subst (IsMovable (displaced c.self.inside.moves.items s.moved)) (sym same)
    (movable _ points (subst IsRing same c.outline-outline.ensures.ring) of.fits))

pub returns-clause-value : goal.returns-clause-value
returns-clause-value c =
    let s : Span = c.index-span.result.now in
    let by : c.move_of.result ≡ displaced c.self.inside.moves.items s.moved =
    c.move_of.ensures ∙ ap (λ ms. displaced ms s.moved) c.deref.ensures.value in
    c.new.ensures
    ∙ (ap (λ p. map (shifted p) (ring_of c.outline-outline.result)) by
    ∙ (ap (map (shifted (displaced c.self.inside.moves.items s.moved))) c.outline-outline.ensures.value
    ∙ (ring_from _ _ _ _ _ c.args.i c.args.j s c.self.invariant c.self.view_is c.requires.shape
    c.index-span.ensures c.requires.ring).value))

pub returns-clause-ring : goal.returns-clause-ring
returns-clause-ring c =
    subst IsRing (sym c.new.ensures)
    (IsRing-moved c.move_of.result (ring_of c.outline-outline.result) c.outline-outline.ensures.ring)
