use Rattle.std.proofs.Common.{[], ◌∷◌, ◌++◌, None, Err, inl, ◌≡◌, ◌∙◌, ◌-◌, length, drop, Ok, Some, refl, sym, ap}
use Rattle.std.proofs.Common.{subst, arith, true, add-zero}
use Rattle.lvl_grammar.specs.inside.ReadTo.{ReadTo}
use Rattle.lvl_grammar.proofs.Reading.{reads_begin}
use Rattle.std.proofs.Common.{ℕ, List, ◌<◌, ◌⊎◌}
use Rattle.lvl_refusal.specs.Refused.{Says}
use Rattle.gds_records.specs.Records.{room_left, records_offset, bytes_left, bytes_in_hand}
use Rattle.gds_records.specs.Records.{records_ignore, records_profile}
use Rattle.lvl_profile.specs.declared.profile.Profile.{Profile}
use Rattle.gds_elements.specs.Rec.{Rec}
use Rattle.gds_library.specs.Ignoring.{BreachesBy, BreachesOnlyBy, MayFollowBy}
use Rattle.gds_records.specs.Step.{step}
use Rattle.gds_records.specs.Spelled.{IsSpelledAt, IsUnfinished, IsBegun}
use Rattle.gds_records.specs.declared.records.Record.{Record as Answered}
use Rattle.gds_records.specs.declared.fault.RecordFault.{RecordFault}
use Rattle.gds_records.specs.declared.fault.RecordFault.TheVariants.{Truncated}
use Rattle.gds_records.specs.declared.fault.Stopped.TheVariants.{Fault}
use Rattle.gds_elements.specs.inside.Reading.{record_of}
use Rattle.gds_library.specs.Front.{gds}
use Rattle.gds_library.specs.inside.Holds.{HasReadBy}
use Rattle.gds_library.specs.declared.fault.GdsKind.TheVariants.{Record}
use Rattle.gds_library.specs.declared.stage.LibraryStage.TheVariants.{Header, Fill}
use Rattle.gds_library.proofs.Answered.{next_took, next_stopped, next_said, next_ended, next_seen}
use Rattle.gds_library.proofs.Streams.{reads_record, reads_refused, reads_cut, reads_fault, breach_no_read, refuses_by}
use Rattle.gds_library.proofs.read.read_all.Goals as goal

pub loop-init : goal.loop-init
loop-init g c = record {
  live = c.requires.fresh;
  not_whole = λ z. (let y : Header ≡ Fill = sym c.requires.stage ∙ z in cc);
  read_to = λ xs k. subst (λ i. ReadTo (gds c.args.profile) xs i (HasReadBy c.args.profile c.args.reading.now)
      (bytes_left g.R.Read.remaining c.args.records.now))
      (sym c.requires.start) (reads_begin (gds c.args.profile) xs
      (HasReadBy c.args.profile c.args.reading.now) _ k c.requires.none);
  four_each = omega arith;
  errors = refl;
  lent = refl;
  records = [];
  holds = c.requires.none;
  reading_profile = c.requires.reading;
  input_profile = c.requires.profile;
}

pub returns-in-Err-Breach-clause-refused : goal.returns-in-Err-Breach-clause-refused
returns-in-Err-Breach-clause-refused g c = λ xs k.
    let to = c.loop.invariant.read_to xs k in
    let at = records_offset c.loop.records in
    let new = c.next.follows.lender-at-none in
    let is : c.next.result ≡ Ok (Some c.in-Ok-Some.record) = c.in-Ok-Some.is ∙ ap Ok c.in-Ok-Some.field-0-is in
    let sp = subst (λ (i : Profile). IsSpelledAt i.ignore (i.limits.file - at) (drop at xs) c.in-Ok-Some.record.kind
    c.in-Ok-Some.record.payload.now) c.loop.invariant.input_profile
    (next_said (λ (r : Answered). IsSpelledAt (records_ignore c.loop.records) (room_left c.loop.records) (drop at xs)
    r.kind r.payload.now) c.next.result c.in-Ok-Some.record is
    (c.next.ensures.spelled c.loop.invariant.live (drop at xs) to.left_is)) in
    let p = next_took g.R.Read.remaining g.R.Read.read_errors g.R.Read.lent c.loop.records new c.next.result
    c.in-Ok-Some.record is c.next.follows.holds-at-none in
    refuses_by c.args.profile xs _ _ _ at c.in-Err-Breach.kind (rw c.in-Err-Breach.field-0-is at c.refuse.ensures)
    c.offset-offset.ensures
    (reads_refused c.args.profile xs at c.loop.reading _ _ _ _
    (bytes_in_hand new) c.in-Err-Breach.kind to c.loop.invariant.not_whole sp
    (λ d. rw c.in-Err-Breach.field-0-is at
    ((subst (λ i. (rs : List Rec) (d : ℕ) → HasReadBy i c.loop.reading rs → Says c.in-Err-Breach.field-0
    (λ k. BreachesBy i rs (record_of c.in-Ok-Some.record.kind d c.in-Ok-Some.record.payload.now) k
    × BreachesOnlyBy i rs (record_of c.in-Ok-Some.record.kind d c.in-Ok-Some.record.payload.now) k))
    c.loop.invariant.reading_profile c.in-Err-Breach.ensures.takes) to.records d to.holds))
    (p.left (drop at xs) to.left_is))

pub returns-in-Err-Breach-clause-reads : goal.returns-in-Err-Breach-clause-reads
returns-in-Err-Breach-clause-reads g c =
    let breach : BreachesBy c.args.profile c.loop.invariant.records
    (record_of c.in-Ok-Some.record.kind 0 c.in-Ok-Some.record.payload.now)
    c.in-Err-Breach.kind =
    (rw c.in-Err-Breach.field-0-is at
    ((subst (λ i. (rs : List Rec) (d : ℕ) → HasReadBy i c.loop.reading rs → Says c.in-Err-Breach.field-0
    (λ k. BreachesBy i rs (record_of c.in-Ok-Some.record.kind d c.in-Ok-Some.record.payload.now) k
    × BreachesOnlyBy i rs (record_of c.in-Ok-Some.record.kind d c.in-Ok-Some.record.payload.now) k))
    c.loop.invariant.reading_profile c.in-Err-Breach.ensures.takes) c.loop.invariant.records 0
    c.loop.invariant.holds)).0 in
    let is : c.next.result ≡ Ok (Some c.in-Ok-Some.record) = c.in-Ok-Some.is ∙ ap Ok c.in-Ok-Some.field-0-is in
    let p = next_took g.R.Read.remaining g.R.Read.read_errors g.R.Read.lent c.loop.records c.next.follows.lender-at-none
    c.next.result c.in-Ok-Some.record is c.next.follows.holds-at-none in
    rw (
      c.refuse.ensures,
      c.in-Err-Breach.field-0-is,
      breach_no_read c.args.profile c.loop.invariant.records
          (record_of c.in-Ok-Some.record.kind 0 c.in-Ok-Some.record.payload.now) c.in-Err-Breach.kind breach,
    )
    (p.counted ∙ c.loop.invariant.errors)

pub returns-in-Ok-None-clause-refused : goal.returns-in-Ok-None-clause-refused
returns-in-Ok-None-clause-refused g c = λ xs k.
    let to = c.loop.invariant.read_to xs k in
    let at = records_offset c.loop.records in
    let is : c.next.result ≡ Ok None = c.in-Ok-None.is ∙ ap Ok c.in-Ok-None.field-0-is in
    let none : drop at xs ≡ [] = next_ended (drop at xs ≡ []) c.next.result is
    (c.next.ensures.ended c.loop.invariant.live (drop at xs) to.left_is) in
    refuses_by c.args.profile xs _ _ _ at (Record Truncated) c.refuse-in-Ok-None.ensures c.offset-offset.ensures
    (reads_cut c.args.profile xs at c.loop.reading _ to c.loop.invariant.not_whole
    (inl (omega (arith, ap length none))))

pub returns-in-Err-Fault-clause-refused : goal.returns-in-Err-Fault-clause-refused
returns-in-Err-Fault-clause-refused g c = λ xs k.
    let to = c.loop.invariant.read_to xs k in
    let at = records_offset c.loop.records in
    let new = c.next.follows.lender-at-none in
    let f = c.in-Err-Fault.fault in
    let is : c.next.result ≡ Err (Fault f) = c.in-Err-Fault.is ∙ ap Err c.in-Err-Fault.field-0-is in
    let p = next_stopped g.R.Read.remaining g.R.Read.read_errors g.R.Read.lent c.loop.records new c.next.result
    (Fault f) is c.next.follows.holds-at-none in
    let seen = next_seen c.loop.records new c.next.result f is c.next.follows.holds-at-none.1 in
    let same = p.profile ∙ c.loop.invariant.input_profile in
    let room : room_left new ≡ c.args.profile.limits.file - at =
    ap (λ i. (records_profile new).limits.file - i) (p.offset ∙ add-zero at)
    ∙ ap (λ (i : Profile). i.limits.file - at) same in
    refuses_by c.args.profile xs _ _ _ at (Record f) (rw c.in-Err-Fault.field-0-is at c.refuse-in-Err-Fault.ensures)
    c.offset-offset.ensures
    (reads_fault c.args.profile xs at c.loop.reading _ _ (bytes_in_hand new) f to c.loop.invariant.not_whole
    (λ t r more. subst (λ (j : Profile). step j.ignore (c.args.profile.limits.file - at) (bytes_in_hand new ++ more) ≡ Err f) same
    (subst (λ i. step (records_ignore new) i (bytes_in_hand new ++ more) ≡ Err f) room (seen.0 t r more)))
    (λ e. subst (λ (i : Profile). (length (drop at xs) < 4) ⊎ IsBegun i.ignore (drop at xs))
    c.loop.invariant.input_profile
    (c.next.ensures.truncated c.loop.invariant.live (drop at xs) to.left_is
    (is ∙ ap (λ (i : RecordFault). Err (Fault i)) e)).1.1)
    (λ e. subst (λ (j : Profile). IsUnfinished j.ignore (c.args.profile.limits.file - at) (bytes_in_hand new)) same
    (subst (λ i. IsUnfinished (records_ignore new) i (bytes_in_hand new)) room (seen.1 e)))
    (p.left (drop at xs) to.left_is))

pub loop-preserved : goal.loop-preserved
loop-preserved g c =
    let at = records_offset c.loop.records in
    let new = c.next.follows.lender-at-none in
    let is : c.next.result ≡ Ok (Some c.in-Ok-Some.record) = c.in-Ok-Some.is ∙ ap Ok c.in-Ok-Some.field-0-is in
    let p = next_took g.R.Read.remaining g.R.Read.read_errors g.R.Read.lent c.loop.records new c.next.result
    c.in-Ok-Some.record is c.next.follows.holds-at-none in record {
      live = p.failed;
      not_whole = λ z. (let t : c.is_whole.result ≡ true = c.is_whole.ensures.1 z in cc);
      read_to = λ xs k.
          let to = c.loop.invariant.read_to xs k in
          let sp = subst (λ (i : Profile). IsSpelledAt i.ignore (i.limits.file - at) (drop at xs) c.in-Ok-Some.record.kind
          c.in-Ok-Some.record.payload.now) c.loop.invariant.input_profile
          (next_said (λ (r : Answered). IsSpelledAt (records_ignore c.loop.records) (room_left c.loop.records)
          (drop at xs)
          r.kind r.payload.now) c.next.result c.in-Ok-Some.record is
          (c.next.ensures.spelled c.loop.invariant.live (drop at xs) to.left_is)) in
          subst (λ i. ReadTo (gds c.args.profile) xs i (HasReadBy c.args.profile c.take.new.self)
          (bytes_left g.R.Read.remaining new)) (sym p.offset)
          (reads_record c.args.profile xs at c.loop.reading c.take.new.self _
          (bytes_left g.R.Read.remaining new) _ _ to sp
          (λ d. (subst (λ i. (rs : List Rec) (d : ℕ) → HasReadBy i c.loop.reading rs
          → HasReadBy i c.take.new.self (rs ++ record_of c.in-Ok-Some.record.kind d c.in-Ok-Some.record.payload.now
          ∷ [])
          × MayFollowBy i rs (record_of c.in-Ok-Some.record.kind d c.in-Ok-Some.record.payload.now))
          c.loop.invariant.reading_profile c.in-Ok.ensures.takes) to.records d to.holds)
          (p.left (drop at xs) to.left_is));
      four_each = omega (arith, p.offset, c.loop.invariant.four_each);
      errors = p.counted ∙ c.loop.invariant.errors;
      lent = p.same ∙ c.loop.invariant.lent;
      records = c.loop.invariant.records ++ record_of c.in-Ok-Some.record.kind 0 c.in-Ok-Some.record.payload.now ∷ [];
      holds = ((subst (λ i. (rs : List Rec) (d : ℕ) → HasReadBy i c.loop.reading rs
          → HasReadBy i c.take.new.self (rs ++ record_of c.in-Ok-Some.record.kind d c.in-Ok-Some.record.payload.now
          ∷ [])
          × MayFollowBy i rs (record_of c.in-Ok-Some.record.kind d c.in-Ok-Some.record.payload.now))
          c.loop.invariant.reading_profile c.in-Ok.ensures.takes) c.loop.invariant.records 0 c.loop.invariant.holds).0;
      reading_profile = c.in-Ok.ensures.profile ∙ c.loop.invariant.reading_profile;
      input_profile = p.profile ∙ c.loop.invariant.input_profile;
    }

pub returns-then-is_whole-clause-whole : goal.returns-then-is_whole-clause-whole
returns-then-is_whole-clause-whole g c = (
  c.is_whole.ensures.0 c.if-is_whole.true,
  c.in-Ok.ensures.profile ∙ c.loop.invariant.reading_profile,
  λ xs k.
      let at = records_offset c.loop.records in
      let new = c.next.follows.lender-at-none in
      let is : c.next.result ≡ Ok (Some c.in-Ok-Some.record) = c.in-Ok-Some.is ∙ ap Ok c.in-Ok-Some.field-0-is in
      let p = next_took g.R.Read.remaining g.R.Read.read_errors g.R.Read.lent c.loop.records new c.next.result
      c.in-Ok-Some.record is c.next.follows.holds-at-none in
      let to = c.loop.invariant.read_to xs k in
      let sp = subst (λ (i : Profile). IsSpelledAt i.ignore (i.limits.file - at) (drop at xs) c.in-Ok-Some.record.kind
      c.in-Ok-Some.record.payload.now) c.loop.invariant.input_profile
      (next_said (λ (r : Answered). IsSpelledAt (records_ignore c.loop.records) (room_left c.loop.records) (drop at xs)
      r.kind r.payload.now) c.next.result c.in-Ok-Some.record is
      (c.next.ensures.spelled c.loop.invariant.live (drop at xs) to.left_is)) in
      subst (λ i. ReadTo (gds c.args.profile) xs i (HasReadBy c.args.profile c.take.new.self)
      (bytes_left g.R.Read.remaining new)) (sym p.offset)
      (reads_record c.args.profile xs at c.loop.reading c.take.new.self _ (bytes_left g.R.Read.remaining new) _ _ to sp
      (λ d. (subst (λ i. (rs : List Rec) (d : ℕ) → HasReadBy i c.loop.reading rs
      → HasReadBy i c.take.new.self (rs ++ record_of c.in-Ok-Some.record.kind d c.in-Ok-Some.record.payload.now ∷ [])
      × MayFollowBy i rs (record_of c.in-Ok-Some.record.kind d c.in-Ok-Some.record.payload.now))
      c.loop.invariant.reading_profile c.in-Ok.ensures.takes) to.records d to.holds) (p.left (drop at xs) to.left_is)),
)
