use Rattle.std.proofs.Common.{◌≡◌, [], ◌∷◌, ◌++◌, List, refl, sym, ◌∙◌, subst, ap, arith, length-take}
use Rattle.lvl_refusal.specs.Refused.{Says}
use Rattle.oasis_records.specs.declared.record.Record.{Record}
use Rattle.oasis_stream.specs.Front.{Breaches}
use Rattle.oasis_stream.specs.Blocks.{cause}
use Rattle.oasis_stream.specs.Items.{Item, magic, item, records}
use Rattle.oasis_library.specs.inside.Blocks.{IsKept}
use Rattle.oasis_library.specs.inside.Holds.{HasRead, HasBegun, HasWhole}
use Rattle.oasis_stream.specs.inside.Reached.{HasReached}
use Rattle.oasis_values.specs.Input.{input_profile, input_offset, input_reader}
use Rattle.lvl_io.specs.Bytes.{CountsFailure}
use Rattle.oasis_library.proofs.Loop.{begun_read, first_on, first_refused, first_takes, item_kept, record_takes, HasMore}
use Rattle.oasis_library.proofs.Loop.{more_begun, more_whole, reads_as, next_refused, take_refused, take_unread}
use Rattle.oasis_library.proofs.Resolving.{is_read_err, is_refusal_read}
use Rattle.oasis_library.proofs.read.read_records.Goals as goal

pub returns-in-Err-clause-refused : goal.returns-in-Err-clause-refused
returns-in-Err-clause-refused g c =
    λ xs k. rw c.refuse.ensures (first_refused (input_profile c.args.input.now) xs c.in-Err.kind c.requires.fresh refl
    c.requires.start k
    c.in-Err.ensures.reads)

pub loop-init : goal.loop-init
loop-init g c = record {
  live = c.in-Ok.ensures.reads.failed;
  items = [];
  holds = c.requires.none;
  read_to = λ xs k. first_on (input_profile c.args.input.now) xs c.args.reading.now c.requires.fresh refl
      c.requires.start k c.requires.none c.in-Ok.ensures.reads;
  one_each = λ xs k. first_takes (input_profile c.args.input.now) xs magic c.requires.fresh refl k
      c.in-Ok.ensures.reads;
  errors = c.in-Ok.ensures.reads.counted;
  lent = c.in-Ok.ensures.reads.same;
  profile = c.in-Ok.ensures.reads.profiles;
}

pub returns-in-Err-read_next-clause-refused : goal.returns-in-Err-read_next-clause-refused
returns-in-Err-read_next-clause-refused g c = λ xs k.
    let to = c.loop.invariant.read_to xs k in
    let rs = records to.records in
    let p = c.in-Err-read_next.ensures.reads rs (subst (λ o. HasReached o rs) (sym c.order.ensures)
    to.holds.0.holds.order) in
    rw (c.refused_at.ensures, c.offset-offset.ensures)
    (next_refused (input_profile c.args.input.now) xs c.loop.reading to c.in-Err-read_next.refusal
    c.loop.invariant.live c.loop.invariant.profile p)

pub take_next-requires : goal.take_next-requires
take_next-requires g c = rw c.profile-profile.ensures (c.loop.invariant.items, c.loop.invariant.holds)

pub returns-in-Err-take_next-clause-refused : goal.returns-in-Err-take_next-clause-refused
returns-in-Err-take_next-clause-refused g c = λ xs k.
    let to = c.loop.invariant.read_to xs k in
    let rs = records to.records in
    let p = c.in-Ok-read_next.ensures.reads rs (subst (λ o. HasReached o rs) (sym c.order.ensures)
    to.holds.0.holds.order) in
    rw (c.refused_at-in-Err-take_next.ensures, c.offset-offset.ensures)
    (take_refused (input_profile c.args.input.now) xs c.loop.reading c.read_next.new.record to
    c.in-Err-take_next.refusal c.loop.invariant.live c.loop.invariant.profile p
    (rw c.profile-profile.ensures at c.in-Err-take_next.ensures.refused))

pub returns-in-Err-take_next-clause-reads : goal.returns-in-Err-take_next-clause-reads
returns-in-Err-take_next-clause-reads g c =
    let rs = records c.loop.invariant.items in
    let q = c.in-Ok-read_next.ensures.reads rs (subst (λ o. HasReached o rs) (sym c.order.ensures)
    c.loop.invariant.holds.holds.order) in
    let before = g.R.Read.read_errors (input_reader c.args.input.now) in
    let after = g.R.Read.read_errors (input_reader c.read_next.new.input) in
    let refused = rw c.profile-profile.ensures at c.in-Err-take_next.ensures.refused in
    subst (λ b. CountsFailure before after b)
    (sym (is_read_err (Unit {0}) c.refused_at-in-Err-take_next.result
    ∙ ap is_refusal_read c.refused_at-in-Err-take_next.ensures
    ∙ take_unread (input_profile c.args.input.now) c.loop.reading c.read_next.new.record c.offset-offset.result
    c.in-Err-take_next.refusal (c.loop.invariant.items, c.loop.invariant.holds) refused))
    (q.counted ∙ c.loop.invariant.errors)

pub returns-then-is_end-clause-whole : goal.returns-then-is_end-clause-whole
returns-then-is_end-clause-whole g c = λ xs k.
    let P = input_profile c.args.input.now in
    let to = c.loop.invariant.read_to xs k in
    let rs = records to.records in
    let r = c.read_next.new.record in
    let y = c.take_next.new.reading in
    let p = c.in-Ok-read_next.ensures.reads rs (subst (λ o. HasReached o rs) (sym c.order.ensures)
    to.holds.0.holds.order) in
    let kept = rw c.profile-profile.ensures at c.in-Ok-take_next.ensures.kept in
    let on = item_kept P xs c.loop.reading y r to c.loop.invariant.live c.loop.invariant.profile p
    (kept to.records to.holds.0) in
    reads_as P xs _ (HasMore P y r) (HasWhole P y) _ on
    (λ is m. more_whole P y r is (sym c.is_end-is_end.ensures ∙ c.if-is_end.true) m)

pub loop-preserved : goal.loop-preserved
loop-preserved g c =
    let P = input_profile c.args.input.now in
    let r = c.read_next.new.record in
    let y = c.take_next.new.reading in
    let next = λ (rs : List Record) (reached : HasReached c.loop.reading.order rs).
    c.in-Ok-read_next.ensures.reads rs (subst (λ o. HasReached o rs) (sym c.order.ensures) reached) in
    let q = next (records c.loop.invariant.items) c.loop.invariant.holds.holds.order in
    let kept = rw c.profile-profile.ensures at c.in-Ok-take_next.ensures.kept in
    let more = kept c.loop.invariant.items c.loop.invariant.holds in record {
      live = q.failed;
      items = c.loop.invariant.items ++ more.0 ∷ [];
      holds = more.3;
      read_to = λ xs k.
          let to = c.loop.invariant.read_to xs k in
          let on = item_kept P xs c.loop.reading y r to c.loop.invariant.live c.loop.invariant.profile
          (next (records to.records) to.holds.0.holds.order) (kept to.records to.holds.0) in
          reads_as P xs _ (HasMore P y r) (HasBegun P y) _ on
          (λ is m. more_begun P y r is (sym c.is_end-is_end.ensures ∙ c.if-is_end.false) m);
      one_each = λ xs k.
          let to = c.loop.invariant.read_to xs k in
          let takes = record_takes P xs c.loop.reading (item r) to c.loop.invariant.live c.loop.invariant.profile
          (next (records to.records) to.holds.0.holds.order) in
          omega (arith, c.loop.invariant.one_each xs k, takes);
      errors = q.counted ∙ c.loop.invariant.errors;
      lent = q.same ∙ c.loop.invariant.lent;
      profile = q.profiles ∙ c.loop.invariant.profile;
    }

pub returns-clause-refused : goal.returns-clause-refused
returns-clause-refused g c = λ xs k.
    let to = c.loop.invariant.read_to xs k in
    absurd (omega (
      arith,
      c.loop.invariant.one_each xs k,
      to.front.within,
      length-take (input_offset c.loop.input) xs,
      to.within,
      c.loop-test.false,
    ))
