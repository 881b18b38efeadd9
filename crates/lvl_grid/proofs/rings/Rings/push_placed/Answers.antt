use Rattle.std.proofs.Common.{◌≡◌, ◌++◌, ◌∷◌, [], ◌+◌, length, map, arith, ◌∙◌, ap}
use Rattle.std.proofs.lemmas.List.{length-append}
use Rattle.lvl_grid.specs.Placed.{placed_point}
use Rattle.lvl_grid.proofs.Placed.{IsRing-placed, covers_placed}
use Rattle.lvl_grid.proofs.Pieces.{cut-push, AreRings-push}
use Rattle.lvl_grid.proofs.rings.Rings.push_placed.Goals as goal

points_are : (c : goal.After-push_reserved)
    → c.extend_placed.new.points.items
    ≡ c.self.inside.points.items ++ map (placed_point c.args.by.now c.args.shift) c.args.ring.now
points_are c = c.in_ok-extend_placed.ensures.ok

size_is : (c : goal.After-push_reserved)
    → c.len.result
    ≡ length c.self.inside.points.items + length (map (placed_point c.args.by.now c.args.shift) c.args.ring.now)
size_is c =
    omega (
      arith,
      c.len.ensures,
      c.extend_placed.new.points.ok.0,
      ap length (points_are c),
      length-append c.self.inside.points.items (map (placed_point c.args.by.now c.args.shift) c.args.ring.now),
    )

ends_are : (c : goal.After-push_reserved)
    → c.push_reserved.new.self.items ≡ c.self.inside.ends.items ++ c.len.result ∷ []
ends_are c = c.push_reserved.ensures.items ∙ ap (λ es. es ++ c.len.result ∷ []) c.reserve.ensures.items

pub invariant_of-self-2 : goal.invariant_of-self-2
invariant_of-self-2 c =
    rw (ends_are c, points_are c)
    (AreRings-push c.self.inside.ends.items c.self.inside.points.items _ c.len.result (size_is c) c.self.invariant
    (IsRing-placed c.args.by.now c.args.shift c.args.ring.now c.requires))

pub returns-clause-ok : goal.returns-clause-ok
returns-clause-ok c =
    rw (ends_are c, points_are c, ← c.self.view_is) (cut-push 0 c.self.inside.ends.items c.self.inside.points.items _
    c.len.result c.self.invariant.rising (size_is c))

pub returns-clause-covers : goal.returns-clause-covers
returns-clause-covers c = covers_placed c.args.by.now c.args.shift c.args.ring.now c.requires.straight
