use Rattle.std.proofs.Common.{◌≡◌, ◌≤◌, ◌+◌, ◌-◌, ◌++◌, ◌∷◌, [], List, length, take, drop, get_or, arith, ◌∙◌, sym, ap}
use Rattle.std.proofs.Common.{subst}
use Rattle.std.proofs.lemmas.List.{get_or-drop, length-drop}
use Rattle.lvl_grid.specs.declared.point.Point.{Point}
use Rattle.lvl_grid.specs.Tidy.{IsLastNeedless}
use Rattle.lvl_grid.proofs.Ends.{drop-less_last, take-less_last, size-less_last}
use Rattle.lvl_grid.proofs.Tidying.{last_needless_closes, last_apart, WindsAs-then}
use Rattle.lvl_grid.proofs.tidy.close_tidied.Goals as goal

pub loop-points-preserved : goal.loop-points-preserved
loop-points-preserved c =
    let start = c.args.start in
    let old : List Point = c.loop-points.points.items in
    let next : Point = c.index.result.now in
    let n : IsLastNeedless (drop start old) next =
    subst (λ (ps : List Point). IsLastNeedless (drop start ps) next) c.deref.ensures.value
    (c.if-not-is_last_needless.ensures cc) in
    let zs : List Point = n.before ++ n.neighbour ∷ [] in
    let apart : drop start old ≡ zs ++ n.last ∷ [] = last_apart (drop start old) next n in
    let within : start ≤ length old = omega (arith, c.loop-points.invariant.from, c.loop-points.points.ok.0) in
    let new_is : c.truncate.new.self.items ≡ take (length old - 1) old =
    c.truncate.ensures.items
    ∙ ap (λ n. take (n - 1) old) (c.len-in-loop-points.ensures ∙ c.loop-points.points.ok.0) in
    let size : start + length zs + 1 ≡ length old = size-less_last old start zs n.last within apart in
    let many : 3 ≤ length (drop start old) =
    omega (arith, c.loop-points-test.true, c.len.ensures, c.loop-points.points.ok.0, length-drop start old) in
    let here : start + 0 ≡ start = omega arith in
    let first : next ≡ get_or (drop start old) 0 next =
    c.index.ensures ∙ sym (get_or-drop start old 0 next ∙ ap (λ k. get_or old k next) here) in
    record {
      kept = rw (new_is, take-less_last old start zs n.last within apart) c.loop-points.invariant.kept;
      winds =
          WindsAs-then _ _ _ c.loop-points.invariant.winds (rw (new_is, drop-less_last old start zs n.last within apart)
          (last_needless_closes (drop start old) next n many first));
      from = omega (arith, size, c.truncate.ensures.len, c.len-in-loop-points.ensures, c.loop-points.points.ok.0);
    }
