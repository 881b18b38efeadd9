-- The last record of a type in a list with one more record.
use Rattle.std.proofs.Common.{◌≡◌, ◌==◌, ℕ, Bool, true, false, if◌then◌else◌, List, [], ◌∷◌, ◌++◌, reverse, Some, refl}
use Rattle.std.proofs.Common.{sym, ap, ◌∙◌}
use Rattle.std.specs.Prelude.{Option, find}
use Rattle.std.proofs.lemmas.List.{reverse-append}
use Rattle.gds_elements.specs.Rec.{Rec, kinds, is_type, opener, last_of, payload_of, field}

reverse-snoc : {A : Type 0} (xs : List A) (x : A) → reverse (xs ++ x ∷ []) ≡ x ∷ reverse xs
reverse-snoc xs x = reverse-append xs (x ∷ [])

find_more : (b : Bool) (r : Rec) (o : Option Rec)
    → payload_of (if b then Some r else o) ≡ (if b then r.payload else payload_of o)
find_more true r o = refl
find_more false r o = refl

pub last_of-snoc : (k : ℕ) (rs : List Rec) (r : Rec)
    → last_of k (rs ++ r ∷ []) ≡ (if r.kind == k then Some r else last_of k rs)
last_of-snoc k rs r = ap (find (is_type k)) (reverse-snoc rs r)

-- the last record of a type, with one more record
pub field-snoc : (k : ℕ) (rs : List Rec) (r : Rec)
    → field k (rs ++ r ∷ []) ≡ (if r.kind == k then r.payload else field k rs)
field-snoc k rs r = ap payload_of (last_of-snoc k rs r) ∙ find_more (r.kind == k) r (last_of k rs)

carried : {X A : Type 0} (g : X → A) (b : Bool) (p x : X) (old new : A) → old ≡ g x → new ≡ (if b then g p else old)
    → new ≡ g (if b then p else x)
carried g true p x old new h e = e
carried g false p x old new h e = e ∙ h

-- a value that changes as the records of a type do
pub field_read : {A : Type 0} (f : List ℕ → A) (j : ℕ) (rs : List Rec) (r : Rec) (old new : A) → old ≡ f (field j rs)
    → new ≡ (if r.kind == j then f r.payload else old) → new ≡ f (field j (rs ++ r ∷ []))
field_read f j rs r old new h e =
    carried f (r.kind == j) r.payload (field j rs) old new h e ∙ sym (ap f (field-snoc j rs r))

pub last_read : {A : Type 0} (f : Option Rec → A) (j : ℕ) (rs : List Rec) (r : Rec) (old new : A)
    → old ≡ f (last_of j rs) → new ≡ (if r.kind == j then f (Some r) else old) → new ≡ f (last_of j (rs ++ r ∷ []))
last_read f j rs r old new h e =
    carried f (r.kind == j) (Some r) (last_of j rs) old new h e ∙ sym (ap f (last_of-snoc j rs r))

pub if_so : {A : Type 0} (b : Bool) (x y : A) → b ≡ true → (if b then x else y) ≡ x
if_so b x y e = rw e refl

pub if_not : {A : Type 0} (b : Bool) (x y : A) → b ≡ false → (if b then x else y) ≡ y
if_not b x y e = rw e refl

pub field_here : (j : ℕ) (rs : List Rec) (r : Rec) → r.kind == j ≡ true → field j (rs ++ r ∷ []) ≡ r.payload
field_here j rs r e = field-snoc j rs r ∙ if_so (r.kind == j) r.payload (field j rs) e

pub field_there : (j : ℕ) (rs : List Rec) (r : Rec) → r.kind == j ≡ false → field j (rs ++ r ∷ []) ≡ field j rs
field_there j rs r e = field-snoc j rs r ∙ if_not (r.kind == j) r.payload (field j rs) e

pub last_there : (j : ℕ) (rs : List Rec) (r : Rec) → r.kind == j ≡ false → last_of j (rs ++ r ∷ []) ≡ last_of j rs
last_there j rs r e = last_of-snoc j rs r ∙ if_not (r.kind == j) (Some r) (last_of j rs) e

pub opener-snoc : (rs : List Rec) (r : Rec) (k : ℕ) → opener rs ≡ Some k → opener (rs ++ r ∷ []) ≡ Some k
opener-snoc [] r k e = cc
opener-snoc (x ∷ xs) r k e = e

pub kinds-snoc : (rs : List Rec) (r : Rec) → kinds (rs ++ r ∷ []) ≡ kinds rs ++ r.kind ∷ []
kinds-snoc [] r = refl
kinds-snoc (x ∷ xs) r = ap (λ l. x.kind ∷ l) (kinds-snoc xs r)
