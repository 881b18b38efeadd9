use Rattle.std.proofs.Common.{◌≡◌, List, [], ◌∷◌, ◌++◌, map, inl, inr, ap, sym, subst, ◌∙◌}
use Rattle.lvl_grid.specs.declared.point.Point.{Point}
use Rattle.lvl_grid.specs.declared.point.Square.{Square}
use Rattle.lvl_grid.specs.Placed.{placed_point}
use Rattle.lvl_grid.specs.Winding.{Covers, SomeCovers}
use Rattle.lvl_grid.proofs.Anyone.{Any-head, Any-nil, Any-uncons}
use Rattle.lvl_witness.proofs.rings.covers_at.Goals as goal

pub returns-in-Ok : goal.returns-in-Ok
returns-in-Ok c =
    let q : Square = c.args.square in
    let placed : List Point = map (placed_point c.args.map.now c.args.shift) c.args.ring.now in
    let is : c.push_placed.new.rings ≡ placed ∷ [] =
    c.in-Ok.ensures.ok ∙ ap (λ (rs : List (List Point)). rs ++ placed ∷ []) c.new-rings.ensures in
    let C : List Point → Type 0 = λ ring. Covers ring q in
    let one = c.in-Ok.ensures.covers q in (
      λ h.
          elim (Any-uncons C placed [] (subst (λ rs. SomeCovers rs q) is (c.covers.ensures.0 h)))
          [ inl a ↦ one.0 a | inr none ↦ absurd (Any-nil C none) ],
      λ p. c.covers.ensures.1 (subst (λ rs. SomeCovers rs q) (sym is) (Any-head C placed [] (one.1 p))),
    )
