use Rattle.std.proofs.Common.{◌≡◌, ◌≤◌, ℕ, [], ◌∷◌, ◌++◌, List, length, refl, sym, ◌∙◌, subst, arith, append_assoc}
use Rattle.std.proofs.lemmas.List.{append-nil}
use Rattle.std.specs.Prelude.{Some}
use Rattle.lvl_grammar.specs.inside.ReadTo.{ReadTo}
use Rattle.lvl_profile.specs.declared.profile.Profile.{Profile}
use Rattle.oasis_values.specs.Input.{input_profile, input_offset, input_reader, bytes_left}
use Rattle.oasis_stream.specs.Blocks.{inside}
use Rattle.oasis_stream.specs.Rules.{RecordBreaches, KeepsRules}
use Rattle.oasis_stream.specs.inside.Reached.{HasReached}
use Rattle.oasis_stream.proofs.Within.{inside_begin, inside_on, inside_takes, inside_whole, inside_breached}
use Rattle.oasis_library.specs.inside.Holds.{Holds}
use Rattle.oasis_library.proofs.Inside.{inside_says}
use Rattle.oasis_library.proofs.Resolving.{says_carried}
use Rattle.oasis_library.proofs.blocks.take_inside.Goals as goal

pub records-init : goal.records-init
records-init c = record {
  live = c.requires.fresh;
  profile = refl;
  to = λ rs ys h k.
      subst (λ n. ReadTo (inside (input_profile c.args.input.now) rs (length ys)) ys n
      (λ more. Holds c.args.reading.now (rs ++ more)) (bytes_left Some c.args.input.now)) (sym c.requires.start)
      (inside_begin (input_profile c.args.input.now) rs ys (λ more. Holds c.args.reading.now (rs ++ more)) _ k
      (subst (Holds c.args.reading.now) (sym (append-nil rs)) h));
  room = refl;
}

pub take-requires : goal.take-requires
take-requires c =
    let w = c.requires.held in
    let to = c.records.invariant.to w.0 _ w.1 refl in
    (w.0 ++ to.records, to.holds)

pub returns-in-Err-clause-refused : goal.returns-in-Err-clause-refused
returns-in-Err-clause-refused c =
    rw c.in_block.ensures
    (inside_says (input_profile c.args.input.now) c.args.reading.now c.records.reading c.args.count c.args.input.now c.in-Err.refusal
    (λ i. refl) c.records.invariant.to
    (λ rs h. c.in-Err.ensures.reads rs (subst (λ o. HasReached o rs) (sym c.order.ensures) h.order))
    c.records.invariant.live c.records.invariant.profile (omega (arith, c.records-test.true, c.offset.ensures))
    c.requires.counted c.requires.within)

pub returns-in_err-take-clause-refused : goal.returns-in_err-take-clause-refused
returns-in_err-take-clause-refused c =
    says_carried _ _ c.from_residual.result c.in_err-take.field-0.0
    (λ f b. λ rs ys h k.
    let to = c.records.invariant.to rs ys h k in
    let p = c.in-Ok.ensures.reads (rs ++ to.records) (subst (λ o. HasReached o (rs ++ to.records)) (sym c.order.ensures)
    to.holds.order) in
    inside_breached (input_profile c.args.input.now) rs ys (λ more. Holds c.records.reading (rs ++ more)) to
    c.read_inside.new.record f c.records.invariant.live c.records.invariant.profile p
    (subst (λ (i : Profile). RecordBreaches i (rs ++ to.records) c.read_inside.new.record f) c.profile-profile.ensures
    (b (rs ++ to.records) to.holds)))
    c.in_err-take.ensures.refused c.from_residual.ensures

pub records-preserved : goal.records-preserved
records-preserved c =
    let w = c.requires.held in
    let here = c.records.invariant.to w.0 _ w.1 refl in
    let q = c.in-Ok.ensures.reads (w.0 ++ here.records)
    (subst (λ o. HasReached o (w.0 ++ here.records)) (sym c.order.ensures) here.holds.order) in
    record {
      live = q.failed;
      profile = q.profiles ∙ c.records.invariant.profile;
      to = λ rs ys h k.
          let to = c.records.invariant.to rs ys h k in
          let r = c.read_inside.new.record in
          let y = c.take.new.self in
          let p = c.in-Ok.ensures.reads (rs ++ to.records)
          (subst (λ o. HasReached o (rs ++ to.records)) (sym c.order.ensures) to.holds.order) in
          inside_on (input_profile c.args.input.now) rs ys (λ more. Holds c.records.reading (rs ++ more))
          (λ more. Holds y (rs ++ more)) to r c.records.invariant.live c.records.invariant.profile p
          (subst (λ (i : Profile). KeepsRules i (rs ++ to.records) r) c.profile-profile.ensures
          (c.in_ok-take.ensures.none (rs ++ to.records) to.holds))
          (subst (Holds y) (append_assoc rs to.records (r ∷ []))
          (c.in_ok-take.ensures.kept (rs ++ to.records) to.holds));
      room = c.in_ok-take.ensures.room ∙ c.records.invariant.room;
    }

pub records-smaller : goal.records-smaller
records-smaller c =
    let w = c.requires.held in
    let here = c.records.invariant.to w.0 _ w.1 refl in
    let q = c.in-Ok.ensures.reads (w.0 ++ here.records)
    (subst (λ o. HasReached o (w.0 ++ here.records)) (sym c.order.ensures) here.holds.order) in
    let more = inside_takes (input_profile c.args.input.now) w.0 _ (λ more. Holds c.records.reading (w.0 ++ more)) here
    c.read_inside.new.record c.records.invariant.live c.records.invariant.profile q in
    omega (arith, more, c.records-test.true, c.offset.ensures)

pub returns-clause-whole : goal.returns-clause-whole
returns-clause-whole c = λ rs ys h k.
    let to = c.records.invariant.to rs ys h k in
    let all : length ys ≤ input_offset c.records.input =
    omega (arith, c.requires.counted ys k, c.records-test.false, c.offset.ensures) in (
      to.records,
      inside_whole (input_profile c.args.input.now) rs ys (input_offset c.records.input)
          (λ more. Holds c.records.reading (rs ++ more)) _ to all,
      to.holds,
    )
