-- A record has one spelling, and bytes begin with the spelling of at most one record.
use Rattle.lvl_profile.specs.declared.profile.Profile.{Profile}
use Rattle.std.proofs.Common.{◌≡◌, ℕ, ◌<◌, List, [], ◌∷◌, ◌++◌, length, take, refl, sym, ap, ◌∙◌, inl, inr, arith}
use Rattle.std.proofs.Math.Seq.{take-append_seam}
use Rattle.gds_records.specs.Spelled.{IsRecord, IsSpelling}
use Rattle.gds_library.specs.Types.{fill}
use Rattle.gds_elements.specs.Rec.{Rec, kinds}
use Rattle.gds_library.specs.Rec.{Spells}

abbrev pub a_fill : Rec
a_fill = record { kind = fill; data_type = 0; payload = [] }

same_front : (p q x y : List ℕ) → length p ≡ length q → p ++ x ≡ q ++ y → p ≡ q
same_front p q x y h e =
    sym (take-append_seam p x) ∙ ap (take (length p)) e ∙ ap (λ n. take n (q ++ y)) h ∙ take-append_seam q y

same_record : (r s : Rec) → r.kind ≡ s.kind → r.data_type ≡ s.data_type → r.payload ≡ s.payload → r ≡ s
same_record r s a b c =
    ap (λ (k : ℕ). let x : Rec = record { kind = k; data_type = r.data_type; payload = r.payload } in x) a
    ∙ ap (λ (d : ℕ). let x : Rec = record { kind = s.kind; data_type = d; payload = r.payload } in x) b
    ∙ ap (λ (p : List ℕ). let x : Rec = record { kind = s.kind; data_type = s.data_type; payload = p } in x) c

-- two records whose spellings begin the same bytes are the same
pub one_record : (a b x y : List ℕ) (r s : Rec) → IsSpelling a r.kind r.data_type r.payload
    → IsSpelling b s.kind s.data_type s.payload → a ++ x ≡ b ++ y → r ≡ s
one_record a b x y r s p q e =
    let f : (p.high ∷ p.low ∷ r.kind ∷ r.data_type ∷ r.payload) ++ x
    ≡ (q.high ∷ q.low ∷ s.kind ∷ s.data_type ∷ s.payload) ++ y =
    ap (λ l. l ++ x) (sym p.bytes_are) ∙ e ∙ ap (λ l. l ++ y) q.bytes_are in
    let h : p.high ≡ q.high = cc in
    let l : p.low ≡ q.low = cc in
    let k : r.kind ≡ s.kind = cc in
    let d : r.data_type ≡ s.data_type = cc in
    let t : r.payload ++ x ≡ s.payload ++ y = cc in
    let n : length r.payload ≡ length s.payload = omega (arith, p.len, q.len, h, l) in
    same_record r s k d (same_front r.payload s.payload x y n t)

-- a record has one spelling
one_spelling : (a b : List ℕ) (k d : ℕ) (p : List ℕ) → IsSpelling a k d p → IsSpelling b k d p → a ≡ b
one_spelling a b k d p s t =
    let h : s.high ≡ t.high = omega (arith, s.len, t.len, s.byte, t.byte) in
    let l : s.low ≡ t.low = omega (arith, s.len, t.len, s.byte, t.byte) in
    s.bytes_are ∙ ap (λ i. i ∷ s.low ∷ k ∷ d ∷ p) h ∙ ap (λ i. t.high ∷ i ∷ k ∷ d ∷ p) l ∙ sym t.bytes_are

no_fill : (profile : Profile) (r : Rec) → IsRecord profile.ignore r.kind r.data_type r.payload → r ≡ a_fill → ⊥
no_fill profile r p e = let k : r.kind ≡ 256 = ap (λ (x : Rec). x.kind) e in omega (arith, p.known, k)

pub spells_once : (profile : Profile) (a b : List ℕ) (r : Rec) → Spells profile a r → Spells profile b r → a ≡ b
spells_once profile a b r p q = elim p [
  | inl x ↦ elim q [
    | inl y ↦ one_spelling a b r.kind r.data_type r.payload x.1 y.1
    | inr y ↦ absurd (no_fill profile r x.0 y.0)
  ]
  | inr x ↦ elim q [ inl y ↦ absurd (no_fill profile r y.0 x.0) | inr y ↦ x.1 ∙ sym y.1 ]
]

pub spells_some : (profile : Profile) (b : List ℕ) (r : Rec) → Spells profile b r → 0 < length b
spells_some profile b r p = elim p [
  | inl x ↦ omega (arith, ap length x.1.bytes_are)
  | inr y ↦ omega (arith, ap length y.1)
]

pub map-append : (xs ys : List Rec) → kinds (xs ++ ys) ≡ kinds xs ++ kinds ys
map-append [] ys = refl
map-append (x ∷ xs) ys = ap (λ l. x.kind ∷ l) (map-append xs ys)
