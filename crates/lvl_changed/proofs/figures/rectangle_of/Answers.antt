use Rattle.std.proofs.Common.{◌≡◌, ◌↔◌, [], ◌∷◌, List, sym, subst}
use Rattle.std.specs.Prelude.{IfSome}
use Rattle.lvl_grid.specs.declared.point.Point.{Point}
use Rattle.lvl_grid.specs.declared.point.Square.{Square}
use Rattle.lvl_grid.specs.Clip.{IsInWindow}
use Rattle.lvl_grid.specs.Winding.{Covers}
use Rattle.lvl_changed.proofs.Lists.{four_of}
use Rattle.lvl_changed.proofs.figures.rectangle_of.Goals as goal

pub returns : goal.returns
returns k =
    let found = k.in-Some-Some-Some-Some-None in
    let four : k.args.ring.now ≡ found.a ∷ found.b ∷ found.c ∷ found.d ∷ [] =
    four_of k.args.ring.now found.a found.b found.c found.d (cc) (cc) (cc) (cc) (cc) in
    subst (λ (ring : List Point). IfSome k.window_of.result (λ window. (s : Square) → Covers ring s ↔ IsInWindow window s))
    (sym four) k.window_of.ensures
