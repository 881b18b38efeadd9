use Rattle.std.proofs.Common.{◌≡◌, ◌∙◌, ◌-◌, ℕ, List, drop, Ok, Err, Some, None, ap, subst, arith, length-take}
use Rattle.std.specs.Prelude.{Option, Result}
use Rattle.lvl_profile.specs.declared.profile.Profile.{Profile}
use Rattle.gds_records.specs.Records.{records_offset, bytes_in_hand}
use Rattle.gds_records.specs.Step.{Decides}
use Rattle.gds_records.specs.Tail.{AnswersTail}
use Rattle.gds_records.specs.declared.fault.RecordFault.{RecordFault}
use Rattle.gds_records.specs.declared.fault.Stopped.{Stopped}
use Rattle.gds_records.specs.declared.fault.Stopped.TheVariants.{Fault}
use Rattle.gds_library.specs.declared.fault.GdsKind.TheVariants.{Record, AfterEnd}
use Rattle.gds_library.proofs.Streams.{reads_end, reads_all, reads_after, reads_tail, refuses_by}
use Rattle.gds_library.proofs.read.read_whole.Goals as goal

-- what the result of `tail` says
abbrev says : Profile → (old new : ℕ) (xs : List ℕ) → Result (Option ℕ) Stopped → Type 0
says profile old new xs r = AnswersTail r old new (profile.limits.file - old) (drop old xs)

pub returns-in-Ok-None-clause-spelled : goal.returns-in-Ok-None-clause-spelled
returns-in-Ok-None-clause-spelled g c = λ xs k.
    let to = c.in_ok-read_all.ensures.whole.2 xs k in
    let at = records_offset c.read_all.new.records in
    let is : c.tail.result ≡ Ok None = c.in-Ok-None.is ∙ ap Ok c.in-Ok-None.field-0-is in
    let z = subst (says c.args.profile at (records_offset c.tail.new.self) xs) is
    (subst (λ (i : Profile). says i at (records_offset c.tail.new.self) xs c.tail.result) c.in_ok-read_all.ensures.profile
    (c.tail.ensures.exact c.in_ok-read_all.ensures.fresh (drop at xs) to.left_is)) in
    reads_all c.args.profile xs at c.read_all.new.reading.reading.builder _
    (reads_end c.args.profile xs at c.read_all.new.reading _ to c.in_ok-read_all.ensures.whole.0)
    c.in_ok-read_all.ensures.whole.0
    z.0 (omega (arith, z.1, to.front.within, length-take at xs, to.within))

pub returns-in-Ok-Some-clause-refused : goal.returns-in-Ok-Some-clause-refused
returns-in-Ok-Some-clause-refused g c = λ xs k.
    let to = c.in_ok-read_all.ensures.whole.2 xs k in
    let at = records_offset c.read_all.new.records in
    let is : c.tail.result ≡ Ok (Some c.in-Ok-Some.offset) = c.in-Ok-Some.is ∙ ap Ok c.in-Ok-Some.field-0-is in
    let z = subst (says c.args.profile at (records_offset c.tail.new.self) xs) is
    (subst (λ (i : Profile). says i at (records_offset c.tail.new.self) xs c.tail.result) c.in_ok-read_all.ensures.profile
    (c.tail.ensures.exact c.in_ok-read_all.ensures.fresh (drop at xs) to.left_is)) in
    let hand = bytes_in_hand c.tail.new.self in
    let moved : records_offset c.tail.new.self - at ≡ z.0 = omega (arith, z.3, z.4) in
    refuses_by c.args.profile xs _ _ _ _ AfterEnd c.refuse.ensures z.3
    (reads_after c.args.profile xs at z.0 c.read_all.new.reading.reading.builder _ _ z.2.0 z.2.1 hand
    (reads_end c.args.profile xs at c.read_all.new.reading _ to c.in_ok-read_all.ensures.whole.0)
    c.in_ok-read_all.ensures.whole.0
    z.2.3 z.2.2 z.1
    (rw c.in-Ok-Some.field-0-is at c.in-Ok-Some.ensures.seen) (λ ys y. c.tail.ensures.moves.left ys y
    ∙ ap (λ i. Some (drop i ys)) moved))

pub returns-in-Err-Fault-clause-refused : goal.returns-in-Err-Fault-clause-refused
returns-in-Err-Fault-clause-refused g c = λ xs k.
    let to = c.in_ok-read_all.ensures.whole.2 xs k in
    let at = records_offset c.read_all.new.records in
    let is : c.tail.result ≡ Err (Fault c.in-Err-Fault.fault) = c.in-Err-Fault.is ∙ ap Err c.in-Err-Fault.field-0-is in
    let z = subst (says c.args.profile at (records_offset c.tail.new.self) xs) is
    (subst (λ (i : Profile). says i at (records_offset c.tail.new.self) xs c.tail.result) c.in_ok-read_all.ensures.profile
    (c.tail.ensures.exact c.in_ok-read_all.ensures.fresh (drop at xs) to.left_is)) in
    refuses_by c.args.profile xs _ _ _ _ (Record c.in-Err-Fault.fault) c.refuse-in-Err-Fault.ensures c.offset.ensures
    (reads_tail c.args.profile xs at (records_offset c.tail.new.self) c.read_all.new.reading.reading.builder _ _
    (bytes_in_hand c.tail.new.self) c.in-Err-Fault.fault (reads_end c.args.profile xs at c.read_all.new.reading _ to
    c.in_ok-read_all.ensures.whole.0) c.in_ok-read_all.ensures.whole.0
    (omega (arith, to.front.within, length-take at xs, to.within)) z
    (subst (λ (i : Profile). Decides i.ignore c.in-Err-Fault.fault (i.limits.file - records_offset c.tail.new.self)
    (bytes_in_hand c.tail.new.self)) (c.tail.ensures.moves.profile ∙ c.in_ok-read_all.ensures.profile)
    (rw is at c.tail.ensures.decided).0)
    (λ e. c.tail.ensures.starved (is ∙ ap (λ (i : RecordFault). Err (Fault i)) e))
    c.tail.ensures.moves.left)
