use Rattle.std.proofs.Common.{◌≡◌, ◌∷◌, [], false, true, arith, refl, sym, subst}
use Rattle.lvl_cells.specs.declared.outlines.OutlineSpan.{OutlineSpan}
use Rattle.lvl_cells.specs.inside.Outlines.{rectangle_to, IsKept}
use Rattle.lvl_cells.proofs.Outlined.{appended, rectangle_ring}
use Rattle.lvl_cells.proofs.outlines.keep_diagonal.Goals as goal

pub returns-clause-kept : goal.returns-clause-kept
returns-clause-kept c =
    let span : OutlineSpan =
    record {
      begin = c.in_ok-begin.begin;
      end = c.in_ok-end.end;
      along_y = c.args.along_y;
      has_reach = false;
      stretches = 0;
    } in
    subst (λ ps. IsKept ps span (rectangle_to c.args.diagonal c.args.along_y)) (sym c.in_ok-push_lean.ensures.added)
    (appended c.args.points.now.items (c.args.diagonal ∷ []) span (rectangle_to c.args.diagonal c.args.along_y)
    (omega (arith, c.in_ok-begin.ensures, c.len.ensures, c.args.points.now.ok.0))
    (omega (arith, c.in_ok-end.ensures, c.len-2.ensures, c.args.points.now.ok.0)) refl
    (rectangle_ring c.args.diagonal c.args.along_y) (record {
      room = omega arith;
      stretches = λ k lt. absurd (omega (arith, lt));
      reach = λ none. let no : false ≡ true = none in cc;
    }))
