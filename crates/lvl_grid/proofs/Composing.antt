-- One map after another is one map.
use Rattle.std.proofs.Common.{◌≡◌, Bool, true, false, not, ℤ, ◌+ℤ◌, neg_ℤ, refl, arith, ap, sym, ◌∙◌}
use Rattle.std.proofs.lemmas.Int.{ints}
use mathlib.Core.Bool.{beq}
use Rattle.lvl_grid.specs.declared.point.Point.{Point}
use Rattle.lvl_grid.specs.declared.map.Map.{Map}
use Rattle.lvl_grid.specs.declared.map.Turn.{Turn}
use Rattle.lvl_grid.specs.declared.map.Turn.TheVariants.{R0, R90, R180, R270}
use Rattle.lvl_grid.specs.Turn.{turned, reflected, shifted, image, turn_after, mirrored}

-- points with equal coordinates are equal
pub same_point : (p q : Point) → p.x ≡ q.x → p.y ≡ q.y → p ≡ q
same_point p q e f = let at : (x y : ℤ) → Point = λ x y. record { x = x; y = y } in ap (λ x. at x p.y) e ∙ ap (at q.x) f

neg_neg : (a : ℤ) → a ≡ neg_ℤ (neg_ℤ a)
neg_neg a = omega (arith, ints)

neg_plus : (a b : ℤ) → neg_ℤ (a +ℤ b) ≡ neg_ℤ a +ℤ neg_ℤ b
neg_plus a b = omega (arith, ints)

plus_plus : (a b c : ℤ) → (a +ℤ b) +ℤ c ≡ a +ℤ (b +ℤ c)
plus_plus a b c = omega (arith, ints)

turned_after : (a b : Turn) (p : Point) → turned (turn_after a b) p ≡ turned a (turned b p)
turned_after R0 b p = refl
turned_after R90 R0 p = refl
turned_after R90 R90 p = refl
turned_after R90 R180 p = same_point _ _ (neg_neg p.y) refl
turned_after R90 R270 p = same_point _ _ (neg_neg p.x) refl
turned_after R180 R0 p = refl
turned_after R180 R90 p = same_point _ _ (neg_neg p.y) refl
turned_after R180 R180 p = same_point _ _ (neg_neg p.x) (neg_neg p.y)
turned_after R180 R270 p = same_point _ _ refl (neg_neg p.x)
turned_after R270 R0 p = refl
turned_after R270 R90 p = same_point _ _ refl (neg_neg p.y)
turned_after R270 R180 p = same_point _ _ refl (neg_neg p.x)
turned_after R270 R270 p = refl

reflected_turned : (f : Bool) (t : Turn) (p : Point) → reflected f (turned t p) ≡ turned (mirrored f t) (reflected f p)
reflected_turned false t p = refl
reflected_turned true R0 p = refl
reflected_turned true R90 p = refl
reflected_turned true R180 p = refl
reflected_turned true R270 p = same_point _ _ (neg_neg p.y) (sym (neg_neg p.x))

reflected_twice : (f g : Bool) (p : Point) → reflected (not (beq f g)) p ≡ reflected f (reflected g p)
reflected_twice true true p = same_point _ _ refl (neg_neg p.y)
reflected_twice true false p = refl
reflected_twice false true p = refl
reflected_twice false false p = refl

pub turned_shifted : (t : Turn) (d p : Point) → turned t (shifted d p) ≡ shifted (turned t d) (turned t p)
turned_shifted R0 d p = refl
turned_shifted R90 d p = same_point _ _ (neg_plus p.y d.y) refl
turned_shifted R180 d p = same_point _ _ (neg_plus p.x d.x) (neg_plus p.y d.y)
turned_shifted R270 d p = same_point _ _ refl (neg_plus p.x d.x)

pub reflected_shifted : (f : Bool) (d p : Point) → reflected f (shifted d p) ≡ shifted (reflected f d) (reflected f p)
reflected_shifted false d p = refl
reflected_shifted true d p = same_point _ _ refl (neg_plus p.y d.y)

pub shifted_twice : (a b p : Point) → shifted a (shifted b p) ≡ shifted (shifted a b) p
shifted_twice a b p = same_point _ _ (plus_plus p.x b.x a.x) (plus_plus p.y b.y a.y)

-- the map that applies the second, then the first
abbrev pub composed : Map → Map → Map
composed m n = record {
  flip = not (beq m.flip n.flip);
  turn = turn_after m.turn (mirrored m.flip n.turn);
  at = image m n.at;
}

pub image-composed : (m n : Map) (p : Point) → image (composed m n) p ≡ image m (image n p)
image-composed m n p =
    let q : Point = reflected n.flip p in
    let inner : Point = turned n.turn q in
    rw (
      reflected_shifted m.flip n.at inner,
      turned_shifted m.turn (reflected m.flip n.at) (reflected m.flip inner),
      reflected_turned m.flip n.turn q,
    )
    (rw (
      turned_after m.turn (mirrored m.flip n.turn) (reflected (not (beq m.flip n.flip)) p),
      reflected_twice m.flip n.flip p,
    )
    (sym (shifted_twice m.at (turned m.turn (reflected m.flip n.at)) _)))
