-- The laws of fields that are there or aren't.
use Rattle.std.proofs.Common.{ℕ, Bool, true, false}
use Rattle.std.specs.Prelude.{Some}
use Rattle.oasis_values.specs.Spelling.{Spelling}
use Rattle.oasis_values.proofs.Codes.{IsCode, gives_code, then_code, seen_code}
use Rattle.oasis_values.proofs.Integers.{unsigned_code}
use Rattle.oasis_values.proofs.Places.{repetition_code}
use Rattle.oasis_values.proofs.Values.{signed_code}
use Rattle.oasis_records.specs.Fields.{has, If, on_layer, IsOnLayer, position, IsPosition}

pub if_code : {A : Type 0} (b : Bool) {S : Spelling A} → IsCode S → IsCode (If b S)
if_code true {S = S} s = seen_code Some {S = S} s
if_code false s = gives_code

pub on_layer_code : (i : ℕ) → IsCode (IsOnLayer i)
on_layer_code i =
    then_code (if_code (has i 0x01) unsigned_code) (λ l. seen_code (on_layer l) (if_code (has i 0x02) unsigned_code))

pub position_code : (i : ℕ) → IsCode (IsPosition i)
position_code i =
    then_code (if_code (has i 0x10) signed_code) (λ x.
    then_code (if_code (has i 0x08) signed_code)
    (λ y. seen_code (position x y) (if_code (has i 0x04) (repetition_code true))))
