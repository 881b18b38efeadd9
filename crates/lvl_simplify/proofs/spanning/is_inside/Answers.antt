use Rattle.std.proofs.Common.{◌≡◌, ◌&&◌, not, false, int_eq, ℕ, List, get_or, sym, ◌∙◌, arith, map, subst}
use Rattle.std.proofs.lemmas.Int.{ints}
use Rattle.std.proofs.lemmas.List.{take_all}
use Rattle.lvl_grid.specs.declared.point.Point.{Point}
use Rattle.lvl_grid.specs.declared.part.Part.{Part}
use Rattle.lvl_grid.specs.declared.part.Part.TheVariants.{Within}
use Rattle.lvl_grid.specs.Clip.{put}
use Rattle.lvl_grid.proofs.Clipped.{keeps_more}
use Rattle.lvl_grid.proofs.Clipping.{kept_covers}
use Rattle.lvl_grid.proofs.Composing.{same_point}
use Rattle.lvl_grid.proofs.Paths.{origin}
use Rattle.lvl_simplify.proofs.spanning.is_inside.Goals as goal

same_from_ne : (p q : Point) → false ≡ not (int_eq p.x q.x && int_eq p.y q.y) → p ≡ q
same_from_ne p q h = same_point p q (grind (arith, ints)) (grind (arith, ints))

pub loop-point-preserved : goal.loop-point-preserved
loop-point-preserved c =
    let i : ℕ = c.loop-point.point-index in
    let ring : List Point = c.args.ring.now in
    let part : Part = Within c.args.window in
    let same : put part (get_or ring i origin) ≡ get_or ring i origin =
    sym c.put.ensures ∙ same_from_ne c.put.result (get_or ring i origin) c.if-ne.ensures in
    keeps_more (put part) ring i c.loop-point-test.true same c.loop-point.invariant

pub returns : goal.returns
returns c = λ h s covered.
    let part : Part = Within c.args.window in
    let kept : map (put part) c.args.ring.now ≡ c.args.ring.now =
    subst (λ (ps : List Point). map (put part) ps ≡ ps)
    (take_all c.loop-point.point-index c.args.ring.now c.loop-point-test.false) c.loop-point.invariant in
    ((kept_covers part c.args.ring.now s kept).0 covered).0
