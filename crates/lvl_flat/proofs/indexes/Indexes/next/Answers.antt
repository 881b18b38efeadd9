use Rattle.std.proofs.Common.{◌≡◌, ◌<◌, ◌≤◌, ◌+◌, ◌-◌, ◌/◌, ℕ, List, AllPairs, inl, inr, length, get_or, ap, subst}
use Rattle.std.proofs.Common.{arith}
use Rattle.std.proofs.lemmas.Bool.{cases_lt}
use Rattle.lvl_flat.proofs.indexes.Indexes.next.Goals as goal

-- the items of a rising list before another are no greater
no_greater : (xs : List ℕ) (i j : ℕ) → AllPairs (λ a b. a < b) xs → i ≤ j → j < length xs
    → get_or xs i 0 ≤ get_or xs j 0
no_greater xs i j rising le inside =
    elim (cases_lt i j) [
      | inl lt ↦ omega (arith, rising i j 0 lt inside)
      | inr ge ↦
          let one : i ≡ j = omega (arith, le, ge) in
          omega (arith, ap (λ k. get_or xs k 0) one)
    ]

pub loop-low-preserved-then-at-from : goal.loop-low-preserved-then-at-from
loop-low-preserved-then-at-from c =
    let xs : List ℕ = c.args.self.now in
    let rising : AllPairs (λ a b. a < b) xs = subst (AllPairs (λ a b. a < b)) c.self.view_is c.self.invariant in
    let kept = c.loop-low.invariant in
    let middle : ℕ = c.loop-low.low + (c.loop-low.high - c.loop-low.low) / 2 in
    let inside : middle < length xs = omega (arith, kept.inside, c.loop-low-test.true) in
    let less : get_or xs middle 0 < c.args.from = omega (arith, c.at.ensures, c.if-at-from.true) in
    record {
      inside = kept.inside;
      order = omega (arith, kept.order, c.loop-low-test.true);
      less = λ k below. omega (arith, no_greater xs k middle rising (omega (arith, below)) inside, less);
      rest = kept.rest;
    }

pub loop-low-preserved : goal.loop-low-preserved
loop-low-preserved c =
    let xs : List ℕ = c.args.self.now in
    let rising : AllPairs (λ a b. a < b) xs = subst (AllPairs (λ a b. a < b)) c.self.view_is c.self.invariant in
    let kept = c.loop-low.invariant in
    let middle : ℕ = c.loop-low.low + (c.loop-low.high - c.loop-low.low) / 2 in
    let on : c.args.from ≤ get_or xs middle 0 = omega (arith, c.at.ensures, c.if-at-from.false) in
    record {
      inside = omega (arith, kept.inside, c.loop-low-test.true);
      order = omega arith;
      less = kept.less;
      rest = λ k past inside. omega (arith, no_greater xs middle k rising past inside, on);
    }

pub returns-then-low-len : goal.returns-then-low-len
returns-then-low-len c =
    let xs : List ℕ = c.args.self.now in
    let rising : AllPairs (λ a b. a < b) xs = subst (AllPairs (λ a b. a < b)) c.self.view_is c.self.invariant in
    let kept = c.loop-low.invariant in
    let low : ℕ = c.loop-low.low in
    let inside : low < length xs = omega (arith, c.if-low-len.true, c.len.ensures.value) in
    let is : c.at-then-low-len.result ≡ get_or xs low 0 = c.at-then-low-len.ensures in
    record {
      on = omega (arith, is, kept.rest low (omega (arith, c.loop-low-test.false)) inside);
      none = λ k there from.
          elim (cases_lt k low) [
            | inl lt ↦ absurd (omega (arith, kept.less k lt, from))
            | inr ge ↦ omega (arith, is, no_greater xs low k rising ge there)
          ];
    }
