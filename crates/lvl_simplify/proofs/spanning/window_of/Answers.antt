use Rattle.std.proofs.Common.{List, subst, sym, ◌↔◌, ◌∙◌}
use Rattle.std.proofs.lemmas.Option.{IfSome_then}
use Rattle.std.specs.Option.{IfSome}
use Rattle.lvl_grid.specs.declared.point.Point.{Point}
use Rattle.lvl_grid.specs.declared.point.Square.{Square}
use Rattle.lvl_grid.specs.Clip.{IsInWindow}
use Rattle.lvl_grid.specs.Winding.{Covers}
use Rattle.lvl_simplify.proofs.Rectangles.{four_points, covers_round}
use Rattle.lvl_simplify.proofs.spanning.window_of.Goals as goal

pub returns-then-a-b : goal.returns-then-a-b
returns-then-a-b c =
    subst
    (λ (ps : List Point). IfSome c.window_of_four.result (λ window. (s : Square) → Covers ps s ↔ IsInWindow window s))
    (sym (four_points c.args.ring.now c.in-len4.len_at_least c.in-len4.len_below)) c.window_of_four.ensures

pub returns : goal.returns
returns c =
    let ring : List Point = c.args.ring.now in
    subst
    (λ (ps : List Point). IfSome c.window_of_four-2.result (λ window. (s : Square) → Covers ps s ↔ IsInWindow window s))
    (sym (four_points ring c.in-len4.len_at_least c.in-len4.len_below))
    (IfSome_then c.window_of_four-2.result c.window_of_four-2.ensures
    (λ window h s. (
      λ n. (h s).0 (λ e. n (covers_round _ _ _ _ s ∙ e)),
      λ w e. (h s).1 w (sym (covers_round _ _ _ _ s) ∙ e),
    )))
