use Rattle.std.proofs.Common.{◌≡◌, ℤ, ◌≤ℤ◌, int_le, true, subst, arith, rules}
use Rattle.std.proofs.lemmas.Int.{ints}
use Rattle.std.specs.Int.{w64}
use mir.Val.{to_z, of_z}
use Rattle.lvl_flat.proofs.Outside.{inside_by}
use Rattle.lvl_flat.proofs.bounds.Bounds.is_inside.Goals as goal

-- the coordinates, as stored in 64 bits
abbrev kept : ℤ → ℤ
kept z = to_z w64 (of_z w64 z)

tested : (a b : ℤ) → int_le a b ≡ true → a ≤ℤ b
tested a b h = grind (arith, ints, h)

at_most : (a b : ℤ) → kept a ≡ a → kept b ≡ b → int_le (kept a) (kept b) ≡ true → a ≤ℤ b
at_most a b h k l = tested a b (subst (λ x. int_le x b ≡ true) h (subst (λ y. int_le (kept a) y ≡ true) k l))

pub returns-then-self-window-2 : goal.returns-then-self-window-2
returns-then-self-window-2 c = λ t.
    let b = c.args.self in
    let w = c.args.window.now in
    inside_by b w (at_most w.x0 b.low.x (search rules) (search rules) c.if-window-self.true)
    (at_most b.high.x w.x1 (search rules) (search rules) c.if-self-window.true)
    (at_most w.y0 b.low.y (search rules) (search rules) c.if-window-self-2.true)
    (at_most b.high.y w.y1 (search rules) (search rules) c.if-self-window-2.true)
