-- How a file is read: the magic string, and then record by record.
use Rattle.std.proofs.Common.{◌≡◌, ℕ, ◌<◌, true, false, List, [], ◌∷◌, ◌++◌, length, take, drop, Ok, Err, Some, refl}
use Rattle.std.proofs.Common.{sym, ap, ◌∙◌, subst, arith, length-append}
use Rattle.std.specs.Prelude.{Option, Result}
use Rattle.lvl_refusal.specs.declared.Cause.{Cause}
use Rattle.lvl_profile.specs.declared.profile.Profile.{Profile}
use Rattle.oasis_stream.proofs.Seen.{answers_under}
use Rattle.oasis_values.specs.declared.fault.ValueFault.{ValueFault}
use Rattle.std.specs.Borrow.{GName}
use Rattle.lvl_grammar.specs.inside.ReadTo.{ReadTo}
use Rattle.oasis_values.specs.Input.{bytes_left, input_offset, has_failed, input_reader, input_profile}
use Rattle.oasis_values.specs.Reads.{Reads}
use Rattle.oasis_values.specs.declared.input.Input.{Input}
use Rattle.oasis_records.specs.declared.end.Validation.{Validation}
use Rattle.oasis_records.specs.declared.record.Record.{Record}
use Rattle.oasis_records.specs.declared.record.Record.TheVariants.{End}
use Rattle.oasis_records.specs.declared.record.Record.TheVariants.{Block}
use Rattle.oasis_stream.specs.Items.{Item, magic, item, block, records, as_packed, IsEnded}
use Rattle.oasis_stream.specs.Blocks.{cause}
use Rattle.oasis_stream.specs.Order.{last_or}
use Rattle.oasis_stream.specs.Next.{IsItem, IsNext}
use Rattle.oasis_stream.specs.Front.{Breaches, oasis}
use Rattle.oasis_stream.specs.Reported.{of_kind, reported_record}
use Rattle.oasis_stream.specs.inside.Refuses.{RefusesAt}
use Rattle.oasis_stream.specs.declared.fault.OasisKind.{OasisKind}
use Rattle.oasis_stream.proofs.Items.{item_needs}
use Rattle.oasis_stream.proofs.Reached.{last_or-append}
use Rattle.oasis_stream.proofs.Steps.{item_on, next_refuses, breach_refuses, rule_in_item}
use Rattle.oasis_library.specs.inside.Blocks.{IsKept}
use Rattle.oasis_library.specs.inside.Holds.{HasRead, HasBegun, HasWhole, is_end}
use Rattle.lvl_refusal.specs.Refused.{Says}
use Rattle.lvl_refusal.specs.declared.Cause.TheVariants.{Breach, OutOfMemory}
use Rattle.oasis_library.specs.inside.Refuses.{Refuses, refused_at}
use Rattle.oasis_library.specs.declared.reading.Reading.{Reading}
use Rattle.oasis_values.specs.declared.fault.ValueFault.TheVariants.{Read}
use Rattle.oasis_stream.specs.declared.fault.OasisKind.TheVariants.{Value}
use Rattle.oasis_library.specs.declared.fault.OasisFault.TheVariants.{At}
use Rattle.oasis_library.proofs.Resolving.{is_refusal_read}

-- two equal lists have the same last element
last_same : {A : Type 0} (a b : List A) (x y : A) → a ++ x ∷ [] ≡ b ++ y ∷ [] → x ≡ y
last_same a b x y e = sym (last_or-append x a (x ∷ [])) ∙ ap (last_or x) e ∙ last_or-append x b (y ∷ [])

none_ended : IsEnded [] → ⊥
none_ended e = omega (arith, ap length e.2, length-append e.0 (item (End e.1) ∷ []))

-- nothing has been read

abbrev IsNothing : List Item → Type 0
IsNothing is = is ≡ []

start_to : (profile : Profile) (xs : List ℕ) (at : ℕ) (left : Option (List ℕ)) → at ≡ 0 → left ≡ Some xs
    → ReadTo (oasis profile) xs at IsNothing left
start_to profile xs at left e k = record {
  records = [];
  front = record {
    spelled = ap (λ i. take i xs) e;
    followed = tt;
    within = omega (arith, ap (λ i. length (take i xs)) e);
  };
  holds = refl;
  left_is = k ∙ ap (λ i. Some (drop i xs)) (sym e);
  within = omega (arith, e);
}

-- before any record
pub begun_read : {profile : Profile} {x : Reading} → HasRead profile x [] → HasRead profile x (magic ∷ [])
begun_read h = record { holds = h.holds; room = h.room }

-- the magic string was read
pub first_on : {R : Type 0} {remaining : R → Option (List ℕ)} {errors : R → ℕ} {lent : R → List GName} (profile : Profile)
    (xs : List ℕ)
    (x : Reading) {old new : Input R}
    → has_failed old ≡ false → input_profile old ≡ profile → input_offset old ≡ 0 → bytes_left remaining old ≡ Some xs
    → HasRead profile x []
    → Reads remaining errors lent (IsItem []) old new (Ok (Ok magic))
    → ReadTo (oasis profile) xs (input_offset new) (HasBegun profile x) (bytes_left remaining new)
first_on {remaining = remaining} {errors = errors} {lent = lent} profile xs x {old = old} {new =
    new} live under start known h p =
    let to = start_to profile xs (input_offset old) (bytes_left remaining old) start known in
    item_on profile xs IsNothing (HasBegun profile x) to magic live under
    (subst (λ is. Reads remaining errors lent (IsItem is) old new (Ok (Ok magic))) (sym to.holds) p)
    ((λ e. none_ended (subst IsEnded to.holds e)), tt)
    (subst (λ is. HasBegun profile x (is ++ magic ∷ [])) (sym to.holds)
    (begun_read h, (λ e. (let z : magic ≡ item (End e.1) = last_same [] e.0 magic (item (End e.1)) e.2 in cc)), [], refl))

-- or refused
pub first_refused : {R : Type 0} {remaining : R → Option (List ℕ)} {errors : R → ℕ} {lent : R → List GName}
    (profile : Profile) (xs : List ℕ) {old new : Input R} (k : OasisKind)
    → has_failed old ≡ false → input_profile old ≡ profile → input_offset old ≡ 0 → bytes_left remaining old ≡ Some xs
    → Reads remaining errors lent (IsItem []) old new (of_kind k)
    → RefusesAt profile xs (remaining (input_reader new)) 0 k
first_refused {remaining = remaining} {errors = errors} {lent = lent} profile xs {old = old} {new =
    new} k live under start known p =
    let to = start_to profile xs (input_offset old) (bytes_left remaining old) start known in
    subst (λ i. RefusesAt profile xs (remaining (input_reader new)) i k) start
    (next_refuses profile xs to k live under (λ e. none_ended (subst IsEnded to.holds e))
    (subst (λ is. Reads remaining errors lent (IsItem is) old new (of_kind k)) (sym to.holds) p))

-- after the magic string, the next item is a record
pub as_item : {R : Type 0} {remaining : R → Option (List ℕ)} {errors : R → ℕ} {lent : R → List GName}
    (profile : Profile) (x : Reading)
    (is : List Item) {old new : Input R} {r : Result (Result Item OasisKind) (Cause ValueFault)}
    → HasBegun profile x is → Reads remaining errors lent (IsNext false (records is)) old new r
    → Reads remaining errors lent (IsItem is) old new r
as_item {remaining = remaining} {errors = errors} {lent = lent} profile x is {old = old} {new = new} {r = r} h p =
    subst (λ js. Reads remaining errors lent (IsItem js) old new r) (sym h.3)
    (subst (λ js. Reads remaining errors lent (IsNext false (records js)) old new r) h.3 p)

-- one more item, after the magic string, which is packed as the record
abbrev pub HasMore : Profile → Reading → Record → List Item → Type 0
HasMore profile y r js =
    HasRead profile y js × (is : List Item) × (i : Item) × (as_packed i ≡ item r) × (js ≡ is ++ i ∷ [])
    × (rest : List Item) × (is ≡ magic ∷ rest)

pub item_kept : {R : Type 0} {remaining : R → Option (List ℕ)} {errors : R → ℕ} {lent : R → List GName}
    (profile : Profile) (xs : List ℕ)
    (x y : Reading) (r : Record) {old new : Input R}
    (to : ReadTo (oasis profile) xs (input_offset old) (HasBegun profile x) (bytes_left remaining old))
    → has_failed old ≡ false → input_profile old ≡ profile
    → Reads remaining errors lent (IsNext false (records to.records)) old new (Ok (Ok (item r)))
    → IsKept profile to.records r y
    → ReadTo (oasis profile) xs (input_offset new) (HasMore profile y r) (bytes_left remaining new)
item_kept {R = R} {remaining = remaining} {errors = errors} {lent = lent} profile xs x y r {old = old} {new = new} to live under p k =
    item_on profile xs (HasBegun profile x) (HasMore profile y r) to k.0 live under
    (subst (λ (j : Item). Reads remaining errors lent (IsItem to.records) old new (Ok (Ok j))) (sym k.1)
    (as_item profile x to.records to.holds p))
    (to.holds.1, k.2)
    (k.3, to.records, k.0, k.1, refl, to.holds.2, to.holds.3)

-- the record is END
end_is : (r : Record) → is_end r ≡ true → (v : Validation) × (r ≡ End v)
end_is (End v) h = (v, refl)
end_is _ h = cc

-- an item that is packed as END is END
packed_end : (i : Item) (v : Validation) → as_packed i ≡ item (End v) → i ≡ item (End v)
packed_end magic v e = (let z : magic ≡ item (End v) = e in cc)
packed_end (item r) v e = e
packed_end (block p rs) v e =
    let z : item (Block p) ≡ item (End v) = e in
    let y : Block p ≡ End v = cc in
    cc

pub more_begun : (profile : Profile) (y : Reading) (r : Record) (js : List Item) → is_end r ≡ false
    → HasMore profile y r js → HasBegun profile y js
more_begun profile y r js e m = (
  m.0,
  (λ ended.
      let last : m.2 ≡ item (End ended.1) = last_same m.1 ended.0 m.2 (item (End ended.1)) (sym m.4 ∙ ended.2) in
      let packed : item r ≡ item (End ended.1) = sym m.3 ∙ ap as_packed last in
      let is : r ≡ End ended.1 = cc in
      let z : false ≡ true = sym e ∙ ap is_end is in cc),
  m.5 ++ m.2 ∷ [],
  m.4 ∙ ap (λ l. l ++ m.2 ∷ []) m.6,
)

pub more_whole : (profile : Profile) (y : Reading) (r : Record) (js : List Item) → is_end r ≡ true
    → HasMore profile y r js → HasWhole profile y js
more_whole profile y r js e m =
    let v = end_is r e in
    let last : m.2 ≡ item (End v.0) = packed_end m.2 v.0 (m.3 ∙ ap (λ (i : Record). item i) v.1) in
    (m.0, (m.1, v.0, m.4 ∙ ap (λ (i : Item). m.1 ++ i ∷ []) last))

abbrev pub reads_as : (profile : Profile) (xs : List ℕ) (at : ℕ) (P Q : List Item → Type 0) (left : Option (List ℕ))
    → ReadTo (oasis profile) xs at P left → ((is : List Item) → P is → Q is) → ReadTo (oasis profile) xs at Q left
reads_as profile xs at P Q left to h =
    record {
      records = to.records;
      front = to.front;
      holds = h to.records to.holds;
      left_is = to.left_is;
      within = to.within;
    }

-- a record takes at least one byte
pub record_takes : {R : Type 0} {remaining : R → Option (List ℕ)} {errors : R → ℕ} {lent : R → List GName}
    (profile : Profile) (xs : List ℕ)
    (x : Reading) (i : Item) {old new : Input R}
    (to : ReadTo (oasis profile) xs (input_offset old) (HasBegun profile x) (bytes_left remaining old))
    → has_failed old ≡ false → input_profile old ≡ profile
    → Reads remaining errors lent (IsNext false (records to.records)) old new (Ok (Ok i))
    → input_offset old < input_offset new
record_takes {R = R} profile xs x i {old = old} to live under p =
    let q = as_item profile x to.records to.holds p in
    let f = (answers_under profile under q live (drop (input_offset old) xs) to.left_is).0 in
    omega (arith, item_needs profile to.records f.bytes (Ok (Ok i)) f.says, f.count)

pub first_takes : {R : Type 0} {remaining : R → Option (List ℕ)} {errors : R → ℕ} {lent : R → List GName}
    (profile : Profile) (xs : List ℕ)
    (i : Item) {old new : Input R}
    → has_failed old ≡ false → input_profile old ≡ profile → bytes_left remaining old ≡ Some xs
    → Reads remaining errors lent (IsItem []) old new (Ok (Ok i)) → 0 < input_offset new
first_takes profile xs i live under known p =
    let f = (answers_under profile under p live xs known).0 in
    omega (arith, item_needs profile [] f.bytes (Ok (Ok i)) f.says, f.count)

-- the next record was refused while it was read
pub next_refused : {R : Type 0} {remaining : R → Option (List ℕ)} {errors : R → ℕ} {lent : R → List GName}
    (profile : Profile) (xs : List ℕ)
    (x : Reading) {old new : Input R}
    (to : ReadTo (oasis profile) xs (input_offset old) (HasBegun profile x) (bytes_left remaining old)) (e : Cause OasisKind)
    → has_failed old ≡ false → input_profile old ≡ profile
    → Reads remaining errors lent (IsNext false (records to.records)) old new (reported_record (Err e))
    → Says (refused_at (input_offset old) e) (Refuses profile xs (remaining (input_reader new)))
next_refused profile xs x to (Breach k) live under p = next_refuses profile xs to k live under to.holds.1
    (as_item profile x to.records to.holds p)
next_refused profile xs x to OutOfMemory live under p = tt

-- a complete record was refused
pub take_refused : {R : Type 0} {remaining : R → Option (List ℕ)} {errors : R → ℕ} {lent : R → List GName}
    (profile : Profile) (xs : List ℕ)
    (x : Reading) (r : Record) {old new : Input R}
    (to : ReadTo (oasis profile) xs (input_offset old) (HasBegun profile x) (bytes_left remaining old)) (e : Cause OasisKind)
    → has_failed old ≡ false → input_profile old ≡ profile
    → Reads remaining errors lent (IsNext false (records to.records)) old new (Ok (Ok (item r)))
    → Says e (λ k. (is : List Item) → HasRead profile x is → Breaches profile is (item r) (cause k))
    → Says (refused_at (input_offset old) e) (Refuses profile xs (remaining (input_reader new)))
take_refused profile xs x r to (Breach k) live under p b =
    breach_refuses profile xs to (item r) k live under to.holds.1 (b to.records to.holds.0)
    (as_item profile x to.records to.holds p)
take_refused profile xs x r to OutOfMemory live under p b = tt

-- such a refusal isn't that the reader failed
breach_read : (profile : Profile) (is : List Item) (r : Record) (at : ℕ) (k : OasisKind)
    → Breaches profile is (item r) (cause k) → is_refusal_read (Breach (At at k)) ≡ false
breach_read profile is r at (Value Read) b =
    let z : false ≡ true = rule_in_item profile is (item r) Read b in cc
breach_read profile is r at _ b = refl

pub take_unread : (profile : Profile) (x : Reading) (r : Record) (at : ℕ) (e : Cause OasisKind)
    → (is : List Item) × HasRead profile x is
    → Says e (λ k. (is : List Item) → HasRead profile x is → Breaches profile is (item r) (cause k))
    → is_refusal_read (refused_at at e) ≡ false
take_unread profile x r at (Breach k) w b = breach_read profile w.0 r at k (b w.0 w.1)
take_unread profile x r at OutOfMemory w b = refl
