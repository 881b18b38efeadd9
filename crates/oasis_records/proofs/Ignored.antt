-- The laws of the records that are only read to be ignored.
use Rattle.std.proofs.Common.{◌≡◌, ℕ, ◌/◌, ◌==◌, Bool, true, false, if◌then◌else◌, List, [], ◌∷◌, Result, Ok, Err, refl}
use Rattle.std.proofs.Common.{sym, subst}
use Rattle.lvl_profile.specs.declared.profile.Profile.{Profile}
use Rattle.lvl_profile.specs.Profiles.{IsWider}
use Rattle.oasis_records.specs.Records.{Row, look_up, record_type, types, type_if}
use Rattle.oasis_values.specs.Known.{Unkept, Seen}
use Rattle.oasis_values.specs.Numbers.{IsUnsigned}
use Rattle.oasis_records.specs.declared.fault.RecordRule.TheVariants.{Unsupported}
use Rattle.oasis_records.specs.declared.record_type.RecordType.{RecordType}
use Rattle.oasis_values.proofs.Codes.{IsCode, gives_code, then_code, chain_code, seen_code}
use Rattle.oasis_values.proofs.Integers.{byte_code, unsigned_code}
use Rattle.oasis_values.proofs.Values.{unkept_string_code, value_code}
use Rattle.oasis_values.specs.declared.text.Text.{Text}
use Rattle.oasis_values.specs.declared.text.Text.TheVariants.{A, B, N}
use Rattle.oasis_records.specs.Fields.{has}
use Rattle.oasis_records.specs.Labels.{label, IsLabelOf, IsLabel}
use Rattle.oasis_records.specs.Names.{IsNumberedString, bounds, AreBounds, IsIntervalOf, IsInterval, IsLayerName}
use Rattle.oasis_records.specs.Names.{IsXName, IsNumberedXName, IsEntryOf, IsEntry, IsStringRef}
use Rattle.oasis_records.specs.Properties.{IsPropertyInfo, IsCountBy, IsCount, AreValues, IsPropertyOf, IsProperty}
use Rattle.oasis_records.specs.declared.names.EntryType.{EntryType}
use Rattle.oasis_records.specs.declared.names.EntryType.TheVariants.{String, NumberedString, LayerName, XName}
use Rattle.oasis_records.specs.declared.names.EntryType.TheVariants.{NumberedXName}
use Rattle.oasis_records.specs.declared.record.Record.TheVariants.{Property}
use Rattle.oasis_records.proofs.Codes.{if_code, on_layer_code, position_code}
use Rattle.oasis_records.proofs.Ruling.{and_then_code}
use Rattle.oasis_records.proofs.Shapes.{info_code}

pub number_code : IsCode (Unkept IsUnsigned)
number_code = seen_code (λ _. tt) unsigned_code

pub numbered_string_code : (kind : Text) → IsCode (IsNumberedString kind)
numbered_string_code kind = then_code (unkept_string_code kind) (λ _. number_code)

pub bounds_code : (n : ℕ) → IsCode (AreBounds n)
bounds_code n = seen_code (λ _. tt) (chain_code (λ x. x) n 0 (λ _. unsigned_code))

pub interval_of_code : (t : ℕ) → IsCode (IsIntervalOf t)
interval_of_code t = seen_code Ok (bounds_code (bounds t))

pub interval_code : IsCode IsInterval
interval_code = and_then_code (then_code unsigned_code (λ t. gives_code)) interval_of_code

pub layer_name_code : IsCode IsLayerName
layer_name_code = then_code (unkept_string_code N) (λ _. and_then_code interval_code (λ _. interval_code))

pub x_name_code : IsCode IsXName
x_name_code = then_code unsigned_code (λ _. unkept_string_code B)

pub numbered_x_name_code : IsCode IsNumberedXName
numbered_x_name_code = then_code unsigned_code (λ _. numbered_string_code B)

pub entry_of_code : (kind : EntryType) → IsCode (IsEntryOf kind)
entry_of_code (String kind) = seen_code Ok (unkept_string_code kind)
entry_of_code (NumberedString kind) = seen_code Ok (numbered_string_code kind)
entry_of_code LayerName = layer_name_code
entry_of_code XName = seen_code Ok x_name_code
entry_of_code NumberedXName = seen_code Ok numbered_x_name_code

pub entry_code : (kind : EntryType) → IsCode (IsEntry kind)
entry_code kind = and_then_code (entry_of_code kind) (λ _. gives_code)

pub string_ref_code : (kind : Text) (b : Bool) → IsCode (IsStringRef kind b)
string_ref_code kind true = number_code
string_ref_code kind false = unkept_string_code kind

pub label_of_code : (i : ℕ) → IsCode (IsLabelOf i)
label_of_code i =
    then_code (if_code (has i 0x40) (string_ref_code A (has i 0x20)))
    (λ _. then_code (on_layer_code i) (λ _. seen_code label (position_code i)))

pub label_code : IsCode IsLabel
label_code = and_then_code (info_code 0x80) (λ i. seen_code Ok (label_of_code i))

pub count_by_code : (b : Bool) (n : ℕ) → IsCode (IsCountBy b n)
count_by_code true n = unsigned_code
count_by_code false n = gives_code

pub values_code : (n : ℕ) → IsCode (AreValues n)
values_code n = seen_code (λ _. tt) (chain_code (λ x. x) n tt (λ _. value_code))

pub property_of_code : (i : ℕ) → IsCode (IsPropertyOf i)
property_of_code i =
    then_code (if_code (has i 0x04) (string_ref_code N (has i 0x02)))
    (λ _. then_code (count_by_code (i / 16 == 15) (i / 16)) (λ n. seen_code (λ _. Property) (values_code n)))

pub property_code : IsCode IsProperty
property_code = and_then_code (then_code byte_code (λ i. gives_code)) (λ i. seen_code Ok (property_of_code i))

-- if more is ignored, the same types are read, and perhaps more

abbrev AllGrow : Profile → Profile → List Row → Type 0
AllGrow less more [] = Unit {0}
AllGrow less more (r ∷ rs) = (r.is_read less ≡ true → r.is_read more ≡ true) × AllGrow less more rs

if_grows : {A F : Type 0} (b : Bool) (p q r s : Result A F) (x : A) → (p ≡ Ok x → r ≡ Ok x) → (q ≡ Ok x → s ≡ Ok x)
    → (if b then p else q) ≡ Ok x → (if b then r else s) ≡ Ok x
if_grows true p q r s x h k e = h e
if_grows false p q r s x h k e = k e

type_if_grows : (b c : Bool) (n : ℕ) (kind t : RecordType) → (b ≡ true → c ≡ true) → type_if b kind n ≡ Ok t
    → type_if c kind n ≡ Ok t
type_if_grows true c n kind t h e = subst (λ d. type_if d kind n ≡ Ok t) (sym (h refl)) e
type_if_grows false c n kind t h e = absurd (let k : Err (Unsupported n) ≡ Ok t = e in cc)

look_up_grows : (less more : Profile) (rows : List Row) (n : ℕ) (t : RecordType) → AllGrow less more rows
    → look_up less rows n ≡ Ok t → look_up more rows n ≡ Ok t
look_up_grows less more [] n t all e = absurd (let k : Err (Unsupported n) ≡ Ok t = e in cc)
look_up_grows less more (r ∷ rs) n t all e =
    if_grows (n == r.id) (type_if (r.is_read less) r.kind n) (look_up less rs n) (type_if (r.is_read more) r.kind n)
    (look_up more rs n) t (type_if_grows (r.is_read less) (r.is_read more) n r.kind t all.0)
    (look_up_grows less more rs n t all.1) e

pub type_grows : (less more : Profile) → IsWider less more → (n : ℕ) (t : RecordType) → record_type less n ≡ Ok t
    → record_type more n ≡ Ok t
type_grows less more within n t e =
    let a : true ≡ true → true ≡ true = λ h. h in
    let s = within.ignore.texts in
    let p = within.ignore.properties in
    let m = within.ignore.names in
    look_up_grows less more types n t (
      a,
      (
        a,
        (
          a,
          (
            a,
            (
              a,
              (
                s,
                (
                  s,
                  (
                    p,
                    (
                      p,
                      (
                        p,
                        (
                          p,
                          (
                            m,
                            (
                              m,
                              (
                                a,
                                (
                                  a,
                                  (
                                    a,
                                    (
                                      a,
                                      (
                                        a,
                                        (
                                          a,
                                          (
                                            s,
                                            (
                                              a,
                                              (
                                                a,
                                                (
                                                  a,
                                                  (
                                                    p,
                                                    (
                                                      p,
                                                      (
                                                        m,
                                                        (m, (within.unpack, tt)),
                                                      ),
                                                    ),
                                                  ),
                                                ),
                                              ),
                                            ),
                                          ),
                                        ),
                                      ),
                                    ),
                                  ),
                                ),
                              ),
                            ),
                          ),
                        ),
                      ),
                    ),
                  ),
                ),
              ),
            ),
          ),
        ),
      ),
    ) e
