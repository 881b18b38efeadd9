use Rattle.std.proofs.Common.{◌≡◌, ◌%◌, ◌⊎◌, inl, inr, arith}
use Rattle.std.proofs.lemmas.Bool.Decides.{nat_tests}
use Rattle.lvl_units.proofs.Comparing.{by_whole, by_rest, none_left}
use Rattle.lvl_units.proofs.fraction.+is_greater.Goals.{then-rest-eq0-via-then-rest-eq0}
use Rattle.lvl_units.proofs.fraction.+is_greater.Goals.{then-rest-eq0-via-else-rest-eq0+then-left-eq0}
use Rattle.lvl_units.proofs.fraction.+is_greater.Goals as goal

pub returns-then-whole-other : goal.returns-then-whole-other
returns-then-whole-other t c =
    let h = by_whole c.args.a c.args.b c.args.c c.args.d c.requires.first c.requires.second c.if-whole-other.true in (
      λ e. h.0 (grind (arith, nat_tests)),
      λ k. (let less = h.1 k in grind (arith, nat_tests)),
    )

pub returns-then-rest-eq0 : goal.returns-then-rest-eq0
returns-then-rest-eq0 t c =
    let none : (c.args.a % c.args.b ≡ 0) ⊎ (c.args.c % c.args.d ≡ 0) =
    elim c.then-rest-eq0.branch [
      | then-rest-eq0-via-then-rest-eq0 w ↦ inl w.if-rest-eq0.true
      | then-rest-eq0-via-else-rest-eq0+then-left-eq0 w ↦ inr w.if-left-eq0.true
    ] in
    let h = none_left c.args.b c.args.d (c.args.a % c.args.b) (c.args.c % c.args.d) c.requires.first c.requires.second
    none in
    let k = by_rest c.args.a c.args.b c.args.c c.args.d c.requires.first c.requires.second c.if-whole-other.false in (
      λ e. k.1 (h.0 (grind (arith, nat_tests))),
      λ m. (let less = h.1 (k.0 m) in grind (arith, nat_tests)),
    )

pub returns : goal.returns
returns t c =
    let k = by_rest c.args.a c.args.b c.args.c c.args.d c.requires.first c.requires.second c.if-whole-other.false in (
      λ e. k.1 (omega (arith, c.is_greater.ensures.0 e)),
      λ m. c.is_greater.ensures.1 (omega (arith, k.0 m)),
    )
