use Rattle.std.proofs.Common.{◌≡◌, ℤ, ◌≤ℤ◌, ◌+ℤ◌, arith, rules}
use Rattle.std.specs.Int.{w64}
use Rattle.std.proofs.lemmas.Int.{ints}
use mir.Val.{to_z, of_z}
use Rattle.lvl_flat.proofs.bounds.Bounds.moved.Goals as goal

-- the coordinates, as stored in 64 bits
abbrev kept : ℤ → ℤ
kept z = to_z w64 (of_z w64 z)

at_most : (a b s p e : ℤ) → kept s ≡ s → kept a ≡ a → kept b ≡ b → s ≡ kept a +ℤ kept b → a ≤ℤ p → b ≤ℤ e
    → kept s ≤ℤ (p +ℤ e)
at_most a b s p e h k l is v w = omega (arith, ints)

at_least : (a b s p e : ℤ) → kept s ≡ s → kept a ≡ a → kept b ≡ b → s ≡ kept a +ℤ kept b → p ≤ℤ a → e ≤ℤ b
    → (p +ℤ e) ≤ℤ kept s
at_least a b s p e h k l is v w = omega (arith, ints)

pub returns : goal.returns
returns c = λ p e v w.
    let a = c.args.self in
    let b = c.args.by in
    record {
      left =
          at_most a.low.x b.low.x c.in_ok-checked_add.field-0 p.x e.x (search rules) (search rules) (search rules)
          c.in_ok-checked_add.ensures.1 v.left w.left;
      right =
          at_least a.high.x b.high.x c.in_ok-checked_add-3.field-0 p.x e.x (search rules) (search rules) (search rules)
          c.in_ok-checked_add-3.ensures.1 v.right w.right;
      below =
          at_most a.low.y b.low.y c.in_ok-checked_add-2.field-0 p.y e.y (search rules) (search rules) (search rules)
          c.in_ok-checked_add-2.ensures.1 v.below w.below;
      above =
          at_least a.high.y b.high.y c.in_ok-checked_add-4.field-0 p.y e.y (search rules) (search rules) (search rules)
          c.in_ok-checked_add-4.ensures.1 v.above w.above;
    }
