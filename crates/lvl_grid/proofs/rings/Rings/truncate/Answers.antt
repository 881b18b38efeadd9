use Rattle.std.proofs.Common.{◌≡◌, ◌<◌, ℕ, List, take, length, arith, ◌∙◌, ap}
use Rattle.lvl_grid.specs.Pieces.{begin_of}
use Rattle.lvl_grid.proofs.Pieces.{AreRings-take, cut-take, in_ends}
use Rattle.lvl_grid.proofs.rings.Rings.truncate.Goals as goal

pub begin-size-requires : goal.begin-size-requires
begin-size-requires c =
    let within : c.args.count < length c.args.self.now = omega (arith, c.if-count-len.false, c.len.ensures) in
    rw c.deref.ensures.value
    (in_ends c.self.inside.ends.items c.self.inside.points.items c.args.self.now c.args.count c.self.view_is within)

ends_are : (c : goal.After-truncate-2) → c.truncate-2.new.self.items ≡ take c.args.count c.self.inside.ends.items
ends_are c = c.truncate-2.ensures.items

size_is : (c : goal.After-truncate-2) → c.begin-size.result ≡ begin_of 0 c.self.inside.ends.items c.args.count
size_is c = c.begin-size.ensures ∙ ap (λ (es : List ℕ). begin_of 0 es c.args.count) c.deref.ensures.value

points_are : (c : goal.After-truncate-2)
    → c.truncate.new.self.items ≡ take (begin_of 0 c.self.inside.ends.items c.args.count) c.self.inside.points.items
points_are c = c.truncate.ensures.items ∙ ap (λ n. take n c.self.inside.points.items) (size_is c)

pub invariant_of-self : goal.invariant_of-self
invariant_of-self c =
    rw (ends_are c, points_are c)
    (AreRings-take c.self.inside.ends.items c.self.inside.points.items c.args.count c.self.invariant)

pub returns : goal.returns
returns c =
    rw (ends_are c, points_are c, ← c.self.view_is)
    (cut-take 0 c.self.inside.ends.items c.self.inside.points.items c.args.count c.self.invariant.rising)
