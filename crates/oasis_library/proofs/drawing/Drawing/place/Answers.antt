use Rattle.std.proofs.Common.{◌∷◌, refl, sym, ◌∙◌}
use Rattle.oasis_library.specs.inside.Kept.{placed}
use Rattle.oasis_library.proofs.Taking.{known_cell, placed_grown}
use Rattle.oasis_library.proofs.drawing.Drawing.place.Goals as goal

pub unreachable-requires : goal.unreachable-requires
unreachable-requires c =
    let w = c.requires in
    known_cell w.0 w.1 c.args.by c.args.modal.now w.2 (sym (c.in_default.ensures (w.1 ∷ w.0) w.2.stands))

pub returns : goal.returns
returns c = λ earlier r t.
    rw (c.in_ok-push.ensures, ← c.self.view_is)
    (placed_grown earlier r c.args.by c.args.modal.now _ (placed c.in-Some.cell.now c.args.by c.in_ok-shifts.shifts)
    c.in-Some.cell.now c.in_ok-shifts.shifts t
    (c.in-Some.ensures (r ∷ earlier) t.stands) (c.in_ok-shifts.ensures.cases ∙ c.shifts.ensures r earlier t.stands)
    refl)
