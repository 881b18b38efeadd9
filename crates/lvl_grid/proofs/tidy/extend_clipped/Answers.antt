use Rattle.std.proofs.Common.{◌≡◌, ◌≤◌, ◌<◌, ◌+◌, ◌++◌, ◌∷◌, ℕ, List, length, map, take, drop, arith, ◌∙◌, sym, ap}
use Rattle.std.proofs.Common.{subst}
use Rattle.std.proofs.lemmas.List.{drop_more, length-drop}
use Rattle.lvl_grid.specs.declared.point.Point.{Point}
use Rattle.lvl_grid.specs.Clip.{put, GoesOnByClip}
use Rattle.lvl_grid.specs.Tidy.{WindsAs}
use Rattle.lvl_grid.proofs.Paths.{origin}
use Rattle.lvl_grid.proofs.ClipEnd.{goes_on, nothing_left, loop_end}
use Rattle.lvl_grid.proofs.Tidying.{WindsAs-then}
use Rattle.lvl_grid.proofs.tidy.extend_clipped.Goals as goal

pub loop-point-preserved : goal.loop-point-preserved
loop-point-preserved c =
    let i : ℕ = c.loop-point.point-index in
    let ring : List Point = c.args.ring.now in
    let into : Point → Point = put c.args.part.now in
    let start : ℕ = c.len-start.result in
    let rest : List Point = map into (drop (i + 1) ring) in
    let next : map into (drop i ring) ≡ c.put.result ∷ rest =
    ap (λ (ps : List Point). map into ps) (drop_more ring i origin c.loop-point-test.true)
    ∙ ap (λ (p : Point). p ∷ rest) (sym c.put.ensures) in
    record {
      start = c.loop-point.invariant.start;
      kept = c.push_tidied.ensures.kept ∙ c.loop-point.invariant.kept;
      winds =
          WindsAs-then _ _ _
          (subst (λ (ps : List Point). WindsAs (map into ring) (drop start c.loop-point.points.items ++ ps)) next
          c.loop-point.invariant.winds) (c.push_tidied.ensures.winds rest);
      from = c.push_tidied.ensures.from;
      room = omega (arith, c.push_tidied.ensures.len, c.push_tidied.ensures.capacity, c.loop-point.invariant.room);
    }

pub returns-then-len-start-lt3-clause-ok : goal.returns-then-len-start-lt3-clause-ok
returns-then-len-start-lt3-clause-ok c =
    let w = c.args.part.now in
    let ring : List Point = c.args.ring.now in
    let from : List Point = c.args.points.now.items in
    let closed : List Point = c.close_tidied.new.points.items in
    let at : c.len-start.result ≡ length from = c.loop-point.invariant.start in
    let winds : WindsAs (map (put w) ring) (drop (length from) closed) =
    loop_end w ring c.loop-point.points.items closed c.len-start.result c.loop-point.point-index (length from) at
    c.loop-point-test.false c.loop-point.invariant.winds c.close_tidied.ensures.winds in
    let few : length (drop (length from) closed) < 3 =
    omega (
      arith,
      length-drop (length from) closed,
      at,
      c.if-len-start-lt3.true,
      c.len.ensures,
      c.close_tidied.new.points.ok.0,
    ) in
    let same : c.truncate.new.self.items ≡ from =
    c.truncate.ensures.items ∙ (c.close_tidied.ensures.kept ∙ c.loop-point.invariant.kept) in
    subst (λ (ps : List Point). GoesOnByClip w ring from ps) (sym same)
    (nothing_left w ring from (drop (length from) closed) c.requires few winds)

pub returns-else-len-start-lt3-clause-ok : goal.returns-else-len-start-lt3-clause-ok
returns-else-len-start-lt3-clause-ok c =
    let w = c.args.part.now in
    let ring : List Point = c.args.ring.now in
    let from : List Point = c.args.points.now.items in
    let closed : List Point = c.close_tidied.new.points.items in
    let at : c.len-start.result ≡ length from = c.loop-point.invariant.start in
    let winds : WindsAs (map (put w) ring) (drop (length from) closed) =
    loop_end w ring c.loop-point.points.items closed c.len-start.result c.loop-point.point-index (length from) at
    c.loop-point-test.false c.loop-point.invariant.winds c.close_tidied.ensures.winds in
    let many : 3 ≤ length (drop (length from) closed) =
    omega (
      arith,
      length-drop (length from) closed,
      at,
      c.if-len-start-lt3.false,
      c.len.ensures,
      c.close_tidied.new.points.ok.0,
    ) in
    let kept : take (length from) closed ≡ from =
    subst (λ (k : ℕ). take k closed ≡ from) at (c.close_tidied.ensures.kept ∙ c.loop-point.invariant.kept) in
    goes_on w ring from closed c.requires kept many winds
