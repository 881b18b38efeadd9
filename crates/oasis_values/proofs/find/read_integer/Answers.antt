use Rattle.std.proofs.Common.{◌<◌, ◌≤◌, ◌^◌, List, ℕ, length, take, Ok, Err, refl, ap, subst, arith}
use Rattle.std.proofs.lemmas.Result.{err_from_is_err_and}
use Rattle.oasis_values.specs.Numbers.{IsUnsigned, groups, Continues, most_bytes}
use Rattle.oasis_values.proofs.Found.{hand_front, front_within, breach_fails, stop_fails, stop_live}
use Rattle.oasis_values.proofs.Found.{hand_begun}
use Rattle.oasis_values.specs.declared.fault.ValueFault.TheVariants.{IntegerTooLarge}
use Rattle.oasis_values.proofs.Reading.{rule_live}
use Rattle.oasis_values.proofs.find.read_integer.Goals as goal

pub returns-in-Whole-clause-finds : goal.returns-in-Whole-clause-finds
returns-in-Whole-clause-finds g c = λ xs k.
    hand_front (IsUnsigned c.args.profile.now) c.integer.ahead c.ahead-hand.result.now _ xs c.min-most.result
    c.in-Whole.len (Ok c.in-Whole.value) c.ahead-hand.ensures.value (c.integer.invariant.stays xs k) c.in-Whole.ensures

pub returns-in-Whole-clause-had : goal.returns-in-Whole-clause-had
returns-in-Whole-clause-had g c =
    let w = front_within (IsUnsigned c.args.profile.now) c.ahead-hand.result.now c.min-most.result
    c.in-Whole.len (Ok c.in-Whole.value) c.in-Whole.ensures in
    let l = ap length c.ahead-hand.ensures.value in
    (omega (arith, w.1, l), omega (arith, w.0, c.min-most.ensures))

pub returns-in-TooLarge-clause-finds : goal.returns-in-TooLarge-clause-finds
returns-in-TooLarge-clause-finds g c = (
  rule_live IntegerTooLarge refl,
  λ xs k.
      let f = c.in-TooLarge.ensures in
      let n = c.in-TooLarge.field-0 in
      let w = front_within (IsUnsigned c.args.profile.now) c.ahead-hand.result.now c.min-most.result n
      (Err IntegerTooLarge) f in
      let l = ap length c.ahead-hand.ensures.value in
      breach_fails (IsUnsigned c.args.profile.now) c.args.room (length c.integer.ahead) n xs IntegerTooLarge refl
      (omega (arith, w.0, c.min-most.ensures)) (omega (arith, w.1, l))
      (hand_front (IsUnsigned c.args.profile.now) c.integer.ahead c.ahead-hand.result.now _ xs c.min-most.result n
      (Err IntegerTooLarge) c.ahead-hand.ensures.value (c.integer.invariant.stays xs k) f),
)

pub returns-in_err-want_more-in-Unfinished-clause-finds : goal.returns-in_err-want_more-in-Unfinished-clause-finds
returns-in_err-want_more-in-Unfinished-clause-finds g c =
    let p = err_from_is_err_and c.from_residual.result c.from_residual.ensures.1 in
    let stops = c.in_err-want_more-in-Unfinished.ensures.stops in
    let e = c.in_err-want_more-in-Unfinished.field-0.0 in
    let n = c.min-most.result in
    let within : n ≤ c.args.room = omega (arith, c.min-most.ensures) in
    let had : n ≤ length c.integer.ahead = let l = ap length c.ahead-hand.ensures.value in
    omega (arith, c.min-most.ensures, l) in
    let P : List ℕ → Type 0 = λ l. Continues (take n l) in
    let go = subst P c.ahead-hand.ensures.value c.in-Unfinished.ensures.0 in
    let Q : List ℕ → Type 0 = λ l. length (take n l) < most_bytes c.args.profile.now in
    let few = subst Q c.ahead-hand.ensures.value c.in-Unfinished.ensures.1 in
    let G : List ℕ → Type 0 = λ l. groups (take n l) < 2 ^ 64 in
    let fits = subst G c.ahead-hand.ensures.value c.in-Unfinished.ensures.2 in
    rw (p.1, p.2) (
      stop_live e stops.0,
      λ xs k.
          let known = c.integer.invariant.stays xs k in
          stop_fails (IsUnsigned c.args.profile.now) n c.args.room _ xs e within stops.0 (stops.1 xs known)
          (hand_begun c.args.profile.now c.integer.ahead _ xs n known had go few fits),
    )
