use Rattle.std.proofs.Common.{◌≡◌, ◌-◌, suc, sym, arith}
use Rattle.std.proofs.lemmas.Result.{err_from_is_err_and}
use Rattle.oasis_values.specs.Texts.{IsCharacter}
use Rattle.oasis_values.proofs.Values.{character_code}
use Rattle.oasis_values.proofs.Loops.{going_as, going_from, going_on, going_err, going_stop, going_end}
use Rattle.oasis_values.proofs.Moved.{going_taken}
use Rattle.oasis_values.proofs.input.Input.characters.Goals as goal

pub characters-init : goal.characters-init
characters-init g c = record {
  last = 0;
  going = going_as (sym c.in-Ok.ensures.items)
      (going_from (λ _. IsCharacter c.args.kind) (λ x. x) c.args.len 0 c.args.self.now (omega arith) c.requires);
}

pub characters-preserved : goal.characters-preserved
characters-preserved g c =
    let left : c.characters.left ≡ suc (c.characters.left - 1) = omega (arith, c.characters-test.true) in
    let more = going_as (sym c.in-Ok-push.ensures.items)
    (going_on (c.characters.left - 1) c.characters.invariant.going left c.in_ok-byte.ensures.reads) in
    let next = going_taken c.args.kind c.in-Ok-take_in_hand.taken (c.characters.left - 1) c.character.new.self
    c.take_in_hand.new.self more c.in-Ok-take_in_hand.ensures.bound c.in-Ok-take_in_hand.ensures.none
    c.in-Ok-take_in_hand.ensures.moved c.in-Ok-take_in_hand.ensures.any in
    record {
      last = next.0;
      going = going_as (sym c.in-Ok-take_in_hand.ensures.text) next.1;
    }

pub returns-in_default-push : goal.returns-in_default-push
returns-in_default-push g c =
    let left : c.characters.left ≡ suc (c.characters.left - 1) = omega (arith, c.characters-test.true) in
    record {
      reads = going_stop
          (going_on (c.characters.left - 1) c.characters.invariant.going left c.in_ok-byte.ensures.reads)
          c.stop-in_default-push.ensures;
    }

pub returns-in_default-take_in_hand : goal.returns-in_default-take_in_hand
returns-in_default-take_in_hand g c =
    let left : c.characters.left ≡ suc (c.characters.left - 1) = omega (arith, c.characters-test.true) in
    record {
      reads = going_stop
          (going_on (c.characters.left - 1) c.characters.invariant.going left c.in_ok-byte.ensures.reads)
          (rw (sym c.in_default-take_in_hand.ensures.kept) c.stop-in_default-take_in_hand.ensures);
    }

pub returns-in_err-byte : goal.returns-in_err-byte
returns-in_err-byte g c =
    let p = err_from_is_err_and c.from_residual.result c.from_residual.ensures.1 in
    let left : c.characters.left ≡ suc (c.characters.left - 1) = omega (arith, c.characters-test.true) in
    rw (p.1, p.2) (record {
      reads = going_err (c.characters.left - 1) (λ _. character_code c.args.kind)
          c.characters.invariant.going left c.in_err-byte.ensures.reads;
    })

pub returns : goal.returns
returns g c = record { reads = going_end c.characters.invariant.going (omega (arith, c.characters-test.false)) }
