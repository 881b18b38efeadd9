use Rattle.std.proofs.Common.{◌≡◌, [], List, sym, ap, ◌∙◌}
use Rattle.lvl_grid.specs.declared.point.Point.{Point}
use Rattle.lvl_grid.specs.declared.map.Map.{Map}
use Rattle.lvl_cells.specs.Cells.{PlainReference}
use Rattle.lvl_changed.specs.declared.arrays.Array.{Array}
use Rattle.lvl_changed.proofs.Same.{maps}
use Rattle.lvl_changed.proofs.in_step.places_partner.Goals as goal

pub returns-then-eq-clause-places : goal.returns-then-eq-clause-places
returns-then-eq-clause-places c = λ h.
    let a : Array = c.args.array.now in
    let b : Array = c.args.other.now in
    let of : Map → List Point → PlainReference =
    λ m es. record { cell = []; flip = m.flip; turn = m.turn; at = m.at; shifts = es } in
    let map : a.by ≡ b.by = maps a.by b.by (sym c.eq.ensures ∙ c.if-eq.true) in
    sym (ap (λ m. of m a.shifts) map ∙ ap (of b.by) (c.are_same.ensures h))
