-- How a block is read: it is unpacked, and then read record by record.
use Rattle.std.proofs.Common.{◌≡◌, ℕ, ◌+◌, ◌-◌, ◌<◌, ◌≤◌, true, false, List, [], ◌∷◌, ◌++◌, length, Ok, Err, refl, sym}
use Rattle.std.proofs.Common.{ap, ◌∙◌, subst, inl, inr, arith, append_assoc}
use Rattle.std.proofs.lemmas.List.{append-nil}
use Rattle.std.specs.Prelude.{Option, Some, Result, IfErr, OnOk}
use Rattle.std.specs.Borrow.{GName}
use Rattle.lvl_grammar.specs.Front.{SpellsWhole}
use Rattle.lvl_grammar.specs.inside.ReadTo.{ReadTo}
use Rattle.lvl_refusal.specs.Refused.{Says}
use Rattle.lvl_refusal.specs.declared.Cause.{Cause}
use Rattle.lvl_refusal.specs.declared.Cause.TheVariants.{Breach, OutOfMemory}
use Rattle.lvl_profile.specs.declared.profile.Profile.{Profile}
use Rattle.oasis_values.specs.Input.{bytes_left, input_offset, has_failed, input_profile, input_reader}
use Rattle.oasis_values.specs.Reads.{Reads}
use Rattle.oasis_values.specs.Spelling.{Spelling}
use Rattle.oasis_values.specs.declared.fault.ValueFault.TheVariants.{Read}
use Rattle.oasis_values.specs.declared.input.Input.{Input}
use Rattle.oasis_blocks.specs.Packed.{Packed}
use Rattle.oasis_blocks.specs.Unpacking.{Unpacks, Breaches as Refuses}
use Rattle.oasis_blocks.specs.declared.fault.BlockRule.{BlockRule}
use Rattle.oasis_records.specs.declared.record.Record.{Record}
use Rattle.oasis_records.specs.declared.record.Record.TheVariants.{Block as ABlock}
use Rattle.oasis_stream.specs.Items.{Item, item, block, records, unpacked}
use Rattle.oasis_stream.specs.Next.{IsNext}
use Rattle.oasis_stream.specs.Blocks.{inside, cause, room_after, HasInside, StopsInside, BlockBreaches}
use Rattle.oasis_stream.specs.Front.{is_block, PackedBreaches, Breaches}
use Rattle.oasis_stream.specs.Reported.{reported_record}
use Rattle.oasis_stream.specs.Rules.{RecordBreaches, KeepsRules}
use Rattle.oasis_stream.specs.declared.fault.OasisKind.{OasisKind}
use Rattle.oasis_stream.specs.declared.fault.OasisKind.TheVariants.{Value, Name, Figure, Block}
use Rattle.oasis_stream.proofs.Blocks.{stops_breaks, unpacks_breaks}
use Rattle.oasis_stream.proofs.Within.{inside_refused}
use Rattle.oasis_library.specs.inside.Blocks.{of_block, in_block, IsKept, HasMoreInside}
use Rattle.oasis_library.specs.inside.Holds.{Holds, HasRead}
use Rattle.oasis_library.specs.declared.reading.Reading.{Reading}
use Rattle.oasis_library.proofs.Holding.{records-snoc, records-block, unpacked-snoc}

-- a reader that never fails isn't reported as one that does
unread : {R A : Type 0} {remaining : R → Option (List ℕ)} {errors : R → ℕ} {lent : R → List GName} {S : Spelling A}
    {old new : Input R} → ((i : R) → errors i ≡ 0) → Reads remaining errors lent S old new (Err (Breach Read)) → ⊥
unread {old = old} {new = new} none p = omega (arith, p.counted.0, none (input_reader old), none (input_reader new))

not_read : {R : Type 0} {remaining : R → Option (List ℕ)} {errors : R → ℕ} {lent : R → List GName} (rs : List Record)
    {old new : Input R} (k : OasisKind) → ((i : R) → errors i ≡ 0)
    → Reads remaining errors lent (IsNext true rs) old new (reported_record (Err (Breach k))) → k ≡ Value Read → ⊥
not_read {remaining = remaining} {errors = errors} {lent = lent} rs {old = old} {new = new} k none p e =
    unread none (subst (λ (j : OasisKind). Reads remaining errors lent (IsNext true rs) old new
    (reported_record (Err (Breach j)))) e p)

-- the next record inside a block was refused
pub inside_says : {R : Type 0} {remaining : R → Option (List ℕ)} {errors : R → ℕ} {lent : R → List GName}
    (profile : Profile) (first now : Reading) (count : ℕ) (start : Input R) {old new : Input R} (e : Cause OasisKind)
    → ((i : R) → errors i ≡ 0)
    → ((rs : List Record) (ys : List ℕ) → Holds first rs → bytes_left remaining start ≡ Some ys
    → ReadTo (inside profile rs (length ys)) ys (input_offset old) (λ more. Holds now (rs ++ more))
    (bytes_left remaining old))
    → ((rs : List Record) → Holds now rs
    → Reads remaining errors lent (IsNext true rs) old new (reported_record (Err e)))
    → has_failed old ≡ false → input_profile old ≡ profile → input_offset old < count
    → ((ys : List ℕ) → bytes_left remaining start ≡ Some ys → length ys ≡ count) → count ≤ profile.limits.file
    → Says (in_block e) (λ kind. (rs : List Record) (ys : List ℕ) → Holds first rs
    → bytes_left remaining start ≡ Some ys → StopsInside profile rs ys (cause kind))
inside_says profile first now count start OutOfMemory none to reads live under some counted fits = tt
inside_says profile first now count start (Breach k) none to reads live under some counted fits = λ rs ys h known.
    let t = to rs ys h known in
    let p = reads (rs ++ t.records) t.holds in
    let long = counted ys known in
    inside_refused profile rs ys (λ more. Holds now (rs ++ more)) t k live under (not_read (rs ++ t.records) k none p)
    (omega (arith, some, long)) (omega (arith, long, fits)) p

-- a block couldn't be unpacked
pub unpack_says : (profile : Profile) (x : Reading) (p : Packed) (e : Cause BlockRule) → Says e (Refuses x.room p)
    → Says (of_block e) (λ kind. (is : List Item) → HasRead profile x is → BlockBreaches profile is p (cause kind))
unpack_says profile x p OutOfMemory s = tt
unpack_says profile x p (Breach k) s = λ is h. unpacks_breaks profile is p x.room k h.room s

-- what is inside breaches a rule
pub inside_breaks : (profile : Profile) (x : Reading) (p : Packed) (ys : List ℕ) (k : OasisKind) (is : List Item)
    → Unpacks p ys → length ys ≤ x.room → HasRead profile x is → StopsInside profile (records is) ys k
    → BlockBreaches profile is p k
inside_breaks profile x p ys k is u fits h s =
    stops_breaks profile is p ys k (omega (arith, fits, u.counted, h.room)) u s

-- all of it was taken
pub block_taken : (profile : Profile) (x y : Reading) (p : Packed) (ys : List ℕ) (is : List Item)
    → Unpacks p ys → length ys ≤ x.room → HasRead profile x is → HasMoreInside profile (records is) ys y
    → (rs : List Record) × HasInside profile is p rs × Holds y (records (is ++ block p rs ∷ []))
block_taken profile x y p ys is u fits h w = (
  w.0,
  record { bytes = ys; unpacks = u; within = omega (arith, fits, u.counted, h.room); whole = w.1 },
  subst (Holds y) (sym (records-block is p w.0)) w.2,
)

pub block_room : (profile : Profile) (is : List Item) (p : Packed) (rs : List Record) (room left : ℕ)
    → room ≡ room_after profile is → left ≡ room - p.count → left ≡ room_after profile (is ++ block p rs ∷ [])
block_room profile is p rs room left e f = omega (arith, e, f, unpacked-snoc is (block p rs))

pub item_room : (profile : Profile) (is : List Item) (r : Record)
    → room_after profile (is ++ item r ∷ []) ≡ room_after profile is
item_room profile is r = omega (arith, unpacked-snoc is (item r))

-- a rule of records is no rule of blocks
pub record_cause : (profile : Profile) (rs : List Record) (r : Record) (k : OasisKind) → RecordBreaches profile rs r k
    → RecordBreaches profile rs r (cause k)
record_cause profile rs r (Name j) b = b
record_cause profile rs r (Figure j) b = b
record_cause profile rs r _ b = absurd b

-- whether a record is a block
pub not_block : (r : Record) → ((p : Packed) → r ≡ ABlock p → ⊥) → is_block r ≡ false
not_block (ABlock p) h = absurd (h p refl)
not_block _ h = refl

pub record_kept : (profile : Profile) (x y : Reading) (is : List Item) (r : Record) → is_block r ≡ false
    → HasRead profile x is → Holds y (records is ++ r ∷ []) → KeepsRules profile (records is) r → y.room ≡ x.room
    → IsKept profile is r y
record_kept profile x y is r other h held keeps room = (
  item r,
  refl,
  (keeps, other),
  record {
    holds = subst (Holds y) (sym (records-snoc is r)) held;
    room = room ∙ h.room ∙ sym (item_room profile is r);
  },
)

-- the results of the calls that take a block or a record

pub block_says : (profile : Profile) (x : Reading) (next : Record) (p : Packed) → next ≡ ABlock p
    → (r : Result (Unit {0}) (Cause OasisKind))
    → IfErr r (λ e. Says e (λ k. (is : List Item) → HasRead profile x is → BlockBreaches profile is p (cause k)))
    → IfErr r (λ e. Says e (λ k. (is : List Item) → HasRead profile x is → Breaches profile is (item next) (cause k)))
block_says profile x next p e (Ok u) s = tt
block_says profile x next p e (Err OutOfMemory) s = tt
block_says profile x next p e (Err (Breach k)) s =
    λ is h. inr (subst (λ (n : Record). PackedBreaches profile is n (cause k)) (sym e) (s is h))

pub block_kept : (profile : Profile) (x y : Reading) (next : Record) (p : Packed) → next ≡ ABlock p
    → (r : Result (Unit {0}) (Cause OasisKind))
    → OnOk r ((is : List Item) → HasRead profile x is → (rs : List Record)
    × HasInside profile is p rs × HasRead profile y (is ++ block p rs ∷ []))
    → OnOk r ((is : List Item) → HasRead profile x is → IsKept profile is next y)
block_kept profile x y next p e (Ok u) s =
    λ is h. let t = s is h in (block p t.0, ap (λ (n : Record). item n) (sym e), t.1, t.2)
block_kept profile x y next p e (Err f) s = tt

pub record_says : (profile : Profile) (x : Reading) (next : Record) (r : Result (Unit {0}) (Cause OasisKind))
    → IfErr r (λ e. Says e (λ k. (rs : List Record) → Holds x rs → RecordBreaches profile rs next k))
    → IfErr r (λ e. Says e (λ k. (is : List Item) → HasRead profile x is → Breaches profile is (item next) (cause k)))
record_says profile x next (Ok u) s = tt
record_says profile x next (Err OutOfMemory) s = tt
record_says profile x next (Err (Breach k)) s =
    λ is h. inl (record_cause profile (records is) next k (s (records is) h.holds))

pub record_taken : (profile : Profile) (x y : Reading) (next : Record) → is_block next ≡ false
    → (r : Result (Unit {0}) (Cause OasisKind))
    → OnOk r ((rs : List Record) → Holds x rs → Holds y (rs ++ next ∷ []))
    → OnOk r ((rs : List Record) → Holds x rs → KeepsRules profile rs next) → OnOk r (y.room ≡ x.room)
    → OnOk r ((is : List Item) → HasRead profile x is → IsKept profile is next y)
record_taken profile x y next other (Ok u) kept keeps room =
    λ is h. record_kept profile x y is next other h (kept (records is) h.holds) (keeps (records is) h.holds) room
record_taken profile x y next other (Err f) kept keeps room = tt
