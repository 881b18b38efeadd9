use Rattle.std.proofs.Common.{◌≡◌, ◌≤◌, ◌+◌, ◌-◌, ◌++◌, ◌∷◌, [], List, length, take, drop, arith, ◌∙◌, ap, subst}
use Rattle.lvl_grid.specs.declared.point.Point.{Point}
use Rattle.lvl_grid.specs.Tidy.{IsLastNeedless}
use Rattle.lvl_grid.proofs.Ends.{drop-less_last, take-less_last, size-less_last}
use Rattle.lvl_grid.proofs.Tidying.{last_needless_dropped, last_apart, WindsAs-then}
use Rattle.lvl_grid.proofs.tidy.push_tidied.Goals as goal

pub loop-points-preserved : goal.loop-points-preserved
loop-points-preserved c =
    let start = c.args.start in
    let old : List Point = c.loop-points.points.items in
    let n : IsLastNeedless (drop start old) c.args.point =
    subst (λ (ps : List Point). IsLastNeedless (drop start ps) c.args.point) c.deref.ensures.value
    (c.loop-points-test.ensures cc) in
    let zs : List Point = n.before ++ n.neighbour ∷ [] in
    let apart : drop start old ≡ zs ++ n.last ∷ [] = last_apart (drop start old) c.args.point n in
    let within : start ≤ length old = omega (arith, c.loop-points.invariant.from, c.loop-points.points.ok.0) in
    let new_is : c.truncate.new.self.items ≡ take (length old - 1) old =
    c.truncate.ensures.items ∙ ap (λ n. take (n - 1) old) (c.len.ensures ∙ c.loop-points.points.ok.0) in
    let size : start + length zs + 1 ≡ length old = size-less_last old start zs n.last within apart in
    record {
      kept = rw (new_is, take-less_last old start zs n.last within apart) c.loop-points.invariant.kept;
      winds =
          λ rest. WindsAs-then _ _ _ (c.loop-points.invariant.winds rest)
          (rw (new_is, drop-less_last old start zs n.last within apart)
          (last_needless_dropped (drop start old) c.args.point n rest));
      from = omega (arith, size, c.truncate.ensures.len, c.len.ensures, c.loop-points.points.ok.0);
      len = omega (arith, c.truncate.ensures.len, c.loop-points.invariant.len);
      capacity = c.truncate.ensures.capacity ∙ c.loop-points.invariant.capacity;
    }
