use Rattle.std.proofs.Common.{◌≡◌, ◌↔◌, List, IfSome, inl, inr, sym, subst}
use Rattle.lvl_grid.specs.declared.point.Point.{Point}
use Rattle.lvl_grid.specs.declared.point.Square.{Square}
use Rattle.lvl_grid.specs.Clip.{IsInWindow}
use Rattle.lvl_grid.specs.Placed.{IsPlaceOfCovered}
use Rattle.lvl_grid.specs.Winding.{Covers}
use Rattle.lvl_flat.proofs.within.draw_near.Goals as goal

pub returns-clause-covers : goal.returns-clause-covers
returns-clause-covers c = λ q.
    let near : List Point = c.in-Some.near in
    let same : c.points.result.now ≡ near = c.points.ensures.all in
    let alike : (s : Square) → IsInWindow c.args.window.now s
    → Covers near s ↔ IsPlaceOfCovered c.args.map.now c.args.shift c.args.ring.now s =
    subst
    (λ found. IfSome found (λ ring. (s : Square) → IsInWindow c.args.window.now s
    → Covers ring s ↔ IsPlaceOfCovered c.args.map.now c.args.shift c.args.ring.now s))
    c.in-Some.is c.in-Ok.ensures in
    let clipped = c.in-Ok-push_clipped.ensures.covers q in (
      λ a. elim (clipped.0 a) [
        | inl b ↦ inl b
        | inr b ↦ inr (b.0, (alike q b.0).0 (subst (λ ps. Covers ps q) same b.1))
      ],
      λ a. clipped.1 (elim a [
        | inl b ↦ inl b
        | inr b ↦ inr (b.0, subst (λ ps. Covers ps q) (sym same) ((alike q b.0).1 b.1))
      ]),
    )
