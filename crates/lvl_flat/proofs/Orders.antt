-- The order of the Layers, and of sheets.
use Rattle.std.proofs.Common.{◌≡◌, ◌<◌, ◌≤◌, ◌+◌, ℕ, List, length, get_or, Some, inl, inr, refl, subst, sym, ap, arith}
use Rattle.std.proofs.Common.{slice_get, All, ◌∙◌, ◌≢◌, [], ◌∷◌, zero, suc, cond}
use Rattle.std.proofs.lemmas.Option.{slice_get_within, get_or_from_slice_get, slice_get-get_or}
use Rattle.std.proofs.lemmas.Bool.{cases_lt}
use Rattle.std.proofs.lemmas.List.Elements.{All-head, All-tail, All-weaker}
use Rattle.lvl_names.specs.declared.layer.Layer.{Layer}
use Rattle.lvl_flat.specs.Sheet.{PlainSheet}
use Rattle.lvl_flat.specs.Sheets.{AreSorted, rings_on}
use Rattle.lvl_names.specs.Layers.{ComesBefore}
use Rattle.lvl_names.proofs.Layers.{before_trans, before_itself, same_is, differs_is}

-- a sheet comes before those after it
pub sorted_at : (sheets : List PlainSheet) (i j : ℕ) (s t : PlainSheet) → AreSorted sheets → slice_get sheets i ≡ Some s
    → slice_get sheets j ≡ Some t → i < j → ComesBefore s.layer t.layer
sorted_at sheets i j s t sorted at_i at_j lt =
    let P : PlainSheet → PlainSheet → Type 0 = λ u v. ComesBefore u.layer v.layer in
    let left : get_or sheets i s ≡ s = get_or_from_slice_get sheets i s s at_i in
    let right : get_or sheets j s ≡ t = get_or_from_slice_get sheets j t s at_j in
    subst (λ u. P u t) left
    (subst (λ v. P (get_or sheets i s) v) right (sorted i j s lt (slice_get_within sheets j t at_j)))

-- sheets up to one that comes before the Layer come before it too
pub up_to : (sheets : List PlainSheet) (layer : Layer) (m k : ℕ) (t s : PlainSheet) → AreSorted sheets
    → slice_get sheets m ≡ Some t → ComesBefore t.layer layer → k ≤ m → slice_get sheets k ≡ Some s
    → ComesBefore s.layer layer
up_to sheets layer m k t s sorted there before low at =
    elim (cases_lt k m) [
      | inl lt ↦ before_trans s.layer t.layer layer (sorted_at sheets k m s t sorted at there lt) before
      | inr le ↦
          let same : k ≡ m = omega (arith, le, low) in
          let one : Some s ≡ Some t = sym at ∙ (ap (slice_get sheets) same ∙ there) in
          let here : t ≡ s = cc in
          subst (λ (u : PlainSheet). ComesBefore u.layer layer) here before
    ]

-- sheets after one that doesn't come before the Layer don't either
pub from_on : (sheets : List PlainSheet) (layer : Layer) (m k : ℕ) (t s : PlainSheet) → AreSorted sheets
    → slice_get sheets m ≡ Some t → (ComesBefore t.layer layer → ⊥) → m ≤ k → slice_get sheets k ≡ Some s
    → ComesBefore s.layer layer → ⊥
from_on sheets layer m k t s sorted there late high at before =
    late (up_to sheets layer k m s t sorted at before high there)

-- a Layer that isn't that of a sheet before an index, at it, or after it has no sheet
pub nowhere : (sheets : List PlainSheet) (layer : Layer) (low : ℕ) → AreSorted sheets
    → ((k : ℕ) (s : PlainSheet) → k < low → slice_get sheets k ≡ Some s → ComesBefore s.layer layer)
    → ((k : ℕ) (s : PlainSheet) → low ≤ k → slice_get sheets k ≡ Some s → ComesBefore s.layer layer → ⊥)
    → ((s : PlainSheet) → slice_get sheets low ≡ Some s → s.layer ≡ layer → ⊥)
    → (k : ℕ) (d : PlainSheet) → k < length sheets → (get_or sheets k d).layer ≡ layer → ⊥
nowhere sheets layer low sorted below above other k d in' same =
    let s : PlainSheet = get_or sheets k d in
    let at : slice_get sheets k ≡ Some s = slice_get-get_or sheets k d in' in
    elim (cases_lt k low) [
      | inl lt ↦ before_itself layer (subst (λ (x : Layer). ComesBefore x layer) same (below k s lt at))
      | inr le ↦
          elim (cases_lt low k) [
            | inl gt ↦
                let first : PlainSheet = get_or sheets low d in
                let there : slice_get sheets low ≡ Some first =
                slice_get-get_or sheets low d (omega (arith, gt, in')) in
                above low first (omega arith) there (subst (λ (x : Layer). ComesBefore first.layer x) same
                (sorted_at sheets low k first s sorted there at gt))
            | inr eq ↦
                let here : k ≡ low = omega (arith, le, eq) in
                other s (subst (λ (j : ℕ). slice_get sheets j ≡ Some s) here at) same
          ]
    ]

-- a Layer before that of the first sheet has no sheet
pub before_first : (sheets : List PlainSheet) (layer : Layer) (first : PlainSheet) → AreSorted sheets
    → slice_get sheets 0 ≡ Some first → ComesBefore layer first.layer → All (λ s. s.layer ≢ layer) sheets
before_first sheets layer first sorted at before =
    let late : ComesBefore first.layer layer → ⊥ =
    λ b. before_itself layer (before_trans layer first.layer layer before b) in
    nowhere sheets layer 0 sorted (λ k s lt there. absurd (omega (arith, lt)))
    (λ k s le there. from_on sheets layer 0 k first s sorted at late le there)
    (λ s there e.
    let one : Some s ≡ Some first = sym there ∙ at in
    let here : s ≡ first = cc in
    before_itself layer
    (subst (λ (x : Layer). ComesBefore layer x) (sym (ap (λ (u : PlainSheet). u.layer) here) ∙ e) before))

-- a Layer after that of the last sheet has no sheet
pub after_last : (sheets : List PlainSheet) (layer : Layer) (m : ℕ) (last : PlainSheet) → AreSorted sheets
    → slice_get sheets m ≡ Some last → length sheets ≤ m + 1 → ComesBefore last.layer layer
    → All (λ s. s.layer ≢ layer) sheets
after_last sheets layer m last sorted there short before k d in' same =
    before_itself layer (subst (λ (x : Layer). ComesBefore x layer) same
    (up_to sheets layer m k last (get_or sheets k d) sorted there before (omega (arith, in', short))
    (slice_get-get_or sheets k d in')))

pub sorted_tail : (s : PlainSheet) (sheets : List PlainSheet) → AreSorted (s ∷ sheets) → AreSorted sheets
sorted_tail s sheets sorted = λ i j d lt in'. sorted (suc i) (suc j) d (omega (arith, lt)) (omega (arith, in'))

-- a sheet comes before all after it, so these are for other Layers
pub comes_before_rest : (t : PlainSheet) (ss : List PlainSheet) → AreSorted (t ∷ ss)
    → All (λ s. ComesBefore t.layer s.layer) ss
comes_before_rest t ss sorted = λ k d inside. sorted 0 (suc k) d (omega arith) (omega arith)

pub others_after : (t : PlainSheet) (ss : List PlainSheet) (layer : Layer) → AreSorted (t ∷ ss) → t.layer ≡ layer
    → All (λ s. s.layer ≢ layer) ss
others_after t ss layer sorted here =
    All-weaker (λ s. ComesBefore t.layer s.layer) (λ s. s.layer ≢ layer)
    (λ s before same. before_itself layer (subst (λ (x : Layer). ComesBefore x layer) here
    (subst (λ (x : Layer). ComesBefore t.layer x) same before))) ss
    (comes_before_rest t ss sorted)

-- the rings on a Layer that has a sheet, and on one that has none
pub rings_where : (sheets : List PlainSheet) (layer : Layer) (i : ℕ) (s : PlainSheet) → AreSorted sheets
    → slice_get sheets i ≡ Some s → s.layer ≡ layer → rings_on layer sheets ≡ s.rings
rings_where [] layer i s sorted at is = cc
rings_where (t ∷ sheets) layer zero s sorted at is =
    let one : t ≡ s = cc in
    ap (λ b. cond b t.rings (rings_on layer sheets)) (same_is t.layer layer (ap (λ (x : PlainSheet). x.layer) one ∙ is))
    ∙ ap (λ (x : PlainSheet). x.rings) one
rings_where (t ∷ sheets) layer (suc i) s sorted at is =
    let before : ComesBefore t.layer s.layer = sorted_at (t ∷ sheets) 0 (suc i) t s sorted refl at (omega arith) in
    let other : t.layer ≡ layer → ⊥ =
    λ e. before_itself layer
    (subst (λ (x : Layer). ComesBefore x layer) e (subst (λ (x : Layer). ComesBefore t.layer x) is before)) in
    ap (λ b. cond b t.rings (rings_on layer sheets)) (differs_is t.layer layer other)
    ∙ rings_where sheets layer i s (sorted_tail t sheets sorted) at is

pub rings_nowhere : (sheets : List PlainSheet) (layer : Layer) → All (λ s. s.layer ≢ layer) sheets
    → rings_on layer sheets ≡ []
rings_nowhere [] layer none = refl
rings_nowhere (t ∷ sheets) layer none =
    ap (λ b. cond b t.rings (rings_on layer sheets))
    (differs_is t.layer layer (All-head (λ s. s.layer ≢ layer) t sheets none))
    ∙ rings_nowhere sheets layer (All-tail (λ s. s.layer ≢ layer) t sheets none)
