-- Two lists of sheets, walked Layer by Layer: the Layers on which they differ are still to come.
use Rattle.std.proofs.Common.{◌≡◌, ◌↔◌, ◌+◌, ◌<◌, ◌≤◌, ℕ, zero, suc, Bool, true, false, not, IsTrue, List, [], ◌∷◌}
use Rattle.std.proofs.Common.{Option, Some, None, map, drop, length, slice_get, get_or, refl, sym, ap, ◌∙◌, subst, inl}
use Rattle.std.proofs.Common.{inr, arith}
use Rattle.std.specs.Prelude.{◌⊎◌}
use Rattle.std.proofs.lemmas.Bool.{cases_lt}
use Rattle.std.proofs.lemmas.List.{drop-drop}
use Rattle.lvl_names.specs.declared.layer.Layer.{Layer}
use Rattle.lvl_flat.specs.Sheet.{PlainSheet}
use Rattle.lvl_flat.specs.Sheets.{rings_on, AreSorted}
use Rattle.lvl_names.specs.Layers.{same_layer, ComesBefore}
use Rattle.lvl_flat.proofs.Orders.{sorted_tail}
use Rattle.lvl_names.proofs.Layers.{before_trans, before_itself, layers_equal, tested_layer, same_is, differs_is}
use Rattle.lvl_compare.specs.Flats.{AlikeOn, head_layer, later, IsLesser}

pub head_is : (flat : List PlainSheet) (n : ℕ) → slice_get (map (λ s. s.layer) flat) n ≡ head_layer (drop n flat)
head_is [] zero = refl
head_is [] (suc n) = refl
head_is (s ∷ flat) zero = refl
head_is (s ∷ flat) (suc n) = head_is flat n

after_head : (us : List PlainSheet) (l : Layer) → head_layer us ≡ Some l → later l us ≡ drop 1 us
after_head [] l e = refl
after_head (s ∷ us) l e = let same : s.layer ≡ l = cc in rw (same_is s.layer l same) refl

pub after_other : (us : List PlainSheet) (l : Layer) → (head_layer us ≡ Some l → ⊥) → later l us ≡ us
after_other [] l e = refl
after_other (s ∷ us) l e = rw (differs_is s.layer l (λ same. e (ap Some same))) refl

drop_none : (n : ℕ) → drop {A = PlainSheet} n [] ≡ []
drop_none zero = refl
drop_none (suc n) = refl

pub drop_after : (flat : List PlainSheet) (n : ℕ) (l : Layer) → head_layer (drop n flat) ≡ Some l
    → drop (n + 1) flat ≡ later l (drop n flat)
drop_after flat n l e = sym (drop-drop 1 n flat) ∙ sym (after_head (drop n flat) l e)

pub past_all : (flat : List PlainSheet) (n : ℕ) (l : Layer) → length flat ≤ n → drop n flat ≡ later l (drop n flat)
past_all [] n l h = rw (drop_none n) refl
past_all (s ∷ flat) zero l h = absurd (omega (arith, h))
past_all (s ∷ flat) (suc n) l h = past_all flat n l (omega (arith, h))

some_same : (a b : Layer) → Some a ≡ Some b → a ≡ b
some_same a b e = cc

-- whether the Layer at an index is this one
pub tested_at : (flat : List PlainSheet) (n : ℕ) (here l : Layer) → Some here ≡ slice_get (map (λ s. s.layer) flat) n
    → (test : Bool) → test ≡ same_layer here l → IsTrue test ↔ (head_layer (drop n flat) ≡ Some l)
tested_at flat n here l at test is =
    let head : head_layer (drop n flat) ≡ Some here = sym (head_is flat n) ∙ sym at in (
      λ t. head ∙ ap Some (tested_layer here l (ap not (sym is ∙ t))),
      λ e. is ∙ same_is here l (some_same here l (sym head ∙ e)),
    )

-- the Layer is that of one of the sheets
abbrev pub Among : Layer → List PlainSheet → Type 0
Among l [] = ⊥
Among l (s ∷ us) = (s.layer ≡ l) ⊎ Among l us

among_or_none : (l : Layer) (us : List PlainSheet) → Among l us ⊎ (rings_on l us ≡ [])
among_or_none l [] = inr refl
among_or_none l (s ∷ us) =
    elim (same_layer s.layer l) as (λ t. same_layer s.layer l ≡ t → Among l (s ∷ us) ⊎ (rings_on l (s ∷ us) ≡ [])) [
      | true ↦ λ e. inl (inl (tested_layer s.layer l (rw e refl)))
      | false ↦ λ e. elim (among_or_none l us) [ inl a ↦ inl (inr a) | inr n ↦ inr (rw e n) ]
    ] refl

-- a Layer of the sheets is one of those after a given Layer, or that Layer
among_after : (l m : Layer) (us : List PlainSheet) → Among l us → Among l (later m us) ⊎ (l ≡ m)
among_after l m [] a = absurd a
among_after l m (s ∷ us) a =
    elim (same_layer s.layer m) as (λ t. same_layer s.layer m ≡ t → Among l (later m (s ∷ us)) ⊎ (l ≡ m)) [
      | true ↦ λ e. rw e (elim a [ inl h ↦ inr (sym h ∙ tested_layer s.layer m (rw e refl)) | inr b ↦ inl b ])
      | false ↦ λ e. rw e (inl a)
    ] refl

among_at : (l : Layer) (us : List PlainSheet) → Among l us
    → (k : ℕ) × (k < length us) × ((d : PlainSheet) → (get_or us k d).layer ≡ l)
among_at l [] a = absurd a
among_at l (s ∷ us) (inl h) = (0, omega arith, λ d. h)
among_at l (s ∷ us) (inr a) = let p = among_at l us a in (suc p.0, omega (arith, p.1), p.2)

head_first : (l : Layer) (s : PlainSheet) (us : List PlainSheet) → AreSorted (s ∷ us) → Among l us
    → ComesBefore s.layer l
head_first l s us sorted a =
    let p = among_at l us a in
    subst (ComesBefore s.layer) (p.2 s) (sorted 0 (suc p.0) s (omega arith) (omega (arith, p.1)))

-- a Layer that comes before the first sheet, or before a Layer that does, isn't one of the sheets
not_among : (l m h : Layer) (us : List PlainSheet) → AreSorted us → head_layer us ≡ Some h → (ComesBefore l h)
    → Among l us → ⊥
not_among l m h [] sorted e b a = absurd a
not_among l m h (s ∷ us) sorted e b (inl is) =
    let same : s.layer ≡ h = cc in
    before_itself l (subst (ComesBefore l) (sym same ∙ is) b)
not_among l m h (s ∷ us) sorted e b (inr a) =
    let same : s.layer ≡ h = cc in
    before_itself l (before_trans l s.layer l (subst (ComesBefore l) (sym same) b) (head_first l s us sorted a))

-- the state of the walk, with these sheets left of both lists: a Layer on which both aren't yet known to cover the same
-- is still to come
abbrev pub IsWalked : (Layer → Type 0) → (us vs : List PlainSheet) → Type 0
IsWalked alike us vs = (l : Layer) → alike l ⊎ (Among l us ⊎ Among l vs)

-- at first only a Layer that neither list has isn't to come
pub walked_none : (alike : Layer → Type 0) (a b : List PlainSheet)
    → ((l : Layer) → rings_on l a ≡ [] → rings_on l b ≡ [] → alike l) → IsWalked alike a b
walked_none alike a b none l = elim (among_or_none l a) [
  | inl x ↦ inr (inl x)
  | inr x ↦ elim (among_or_none l b) [
    | inl y ↦ inr (inr y)
    | inr y ↦ inl (none l x y)
  ]
]

-- and neither covers anything there
pub alike_absent : (a b : List PlainSheet) (l : Layer) → rings_on l a ≡ [] → rings_on l b ≡ [] → AlikeOn a b l
alike_absent a b l x y s = rw (x, y) (λ h. h, λ h. h)

pub sorted_drop : (n : ℕ) (us : List PlainSheet) → AreSorted us → AreSorted (drop n us)
sorted_drop zero us p = p
sorted_drop (suc n) [] p = p
sorted_drop (suc n) (s ∷ us) p = sorted_drop n us (sorted_tail s us p)

-- one Layer further, if both cover the same on it
pub walked_more : (alike : Layer → Type 0) (us vs : List PlainSheet) (m : Layer) → IsWalked alike us vs → alike m
    → IsWalked alike (later m us) (later m vs)
walked_more alike us vs m w passed l =
    let here : l ≡ m → alike l = λ e. subst alike (sym e) passed in
    elim (w l) [
      | inl x ↦ inl x
      | inr x ↦ elim x [
        | inl y ↦ elim (among_after l m us y) [ inl z ↦ inr (inl z) | inr z ↦ inl (here z) ]
        | inr y ↦ elim (among_after l m vs y) [ inl z ↦ inr (inr z) | inr z ↦ inl (here z) ]
      ]
    ]

-- if no sheet is left, both cover the same on all Layers
pub walked_all : (alike : Layer → Type 0) (us vs : List PlainSheet) → IsWalked alike us vs
    → IsLesser (head_layer us) (head_layer vs) None → (l : Layer) → alike l
walked_all alike [] [] w e l = elim (w l) [ inl x ↦ x | inr x ↦ elim x [ inl y ↦ absurd y | inr y ↦ absurd y ] ]
walked_all alike [] (t ∷ vs) w e l = cc
walked_all alike (s ∷ us) [] w e l = cc
walked_all alike (s ∷ us) (t ∷ vs) w e l = elim e [ inl x ↦ (let y = x.0 in cc) | inr x ↦ (let y = x.0 in cc) ]

before_or : (a b : Layer) → (ComesBefore b a → ⊥) → (a ≡ b) ⊎ ComesBefore a b
before_or a b late = elim (cases_lt a.layer b.layer) [
  | inl lt ↦ inr (inl lt)
  | inr ge ↦ elim (cases_lt b.layer a.layer) [
    | inl gt ↦ absurd (late (inl gt))
    | inr le ↦
        let same : a.layer ≡ b.layer = omega (arith, ge, le) in
        elim (cases_lt a.datatype b.datatype) [
          | inl lt ↦ inr (inr (same, lt))
          | inr ge2 ↦ elim (cases_lt b.datatype a.datatype) [
            | inl gt ↦ absurd (late (inr (sym same, gt)))
            | inr le2 ↦ inl (layers_equal a b same (omega (arith, ge2, le2)))
          ]
        ]
  ]
]

-- neither first Layer comes before the lesser of both
lesser_ours : (p q m : Layer) → IsLesser (Some p) (Some q) (Some m) → (m ≡ p) ⊎ ComesBefore m p
lesser_ours p q m (inl h) = inl (let e = h.0 in cc)
lesser_ours p q m (inr h) =
    inr (let e : m ≡ q = (let f = h.0 in cc) in subst (λ (x : Layer). ComesBefore x p) (sym e) h.1)

lesser_theirs : (p q m : Layer) → IsLesser (Some p) (Some q) (Some m) → (m ≡ q) ⊎ ComesBefore m q
lesser_theirs p q m (inl h) =
    let e : m ≡ p = (let f = h.0 in cc) in
    elim (before_or p q h.1) [ inl s ↦ inl (e ∙ s) | inr b ↦ inr (subst (λ (x : Layer). ComesBefore x q) (sym e) b) ]
lesser_theirs p q m (inr h) = inl (let e = h.0 in cc)

before_head : (l m h : Layer) → ComesBefore l m → (m ≡ h) ⊎ ComesBefore m h → ComesBefore l h
before_head l m h b (inl e) = subst (ComesBefore l) e b
before_head l m h b (inr c) = before_trans l m h b c

-- on a Layer before the lesser first Layer both cover the same
pub walked_before : (alike : Layer → Type 0) (us vs : List PlainSheet) (m l : Layer) → AreSorted us → AreSorted vs
    → IsWalked alike us vs → IsLesser (head_layer us) (head_layer vs) (Some m) → ComesBefore l m → alike l
walked_before alike [] [] m l ours theirs w e before = cc
walked_before alike [] (t ∷ vs) m l ours theirs w e before =
    let at : m ≡ t.layer = cc in
    elim (w l) [
      | inl x ↦ x
      | inr x ↦
          elim x [
            | inl y ↦ absurd y
            | inr y ↦
                absurd (not_among l m t.layer (t ∷ vs) theirs refl (before_head l m t.layer before (inl at))
                y)
          ]
    ]
walked_before alike (s ∷ us) [] m l ours theirs w e before =
    let at : m ≡ s.layer = cc in
    elim (w l) [
      | inl x ↦ x
      | inr x ↦
          elim x [
            | inl y ↦
                absurd (not_among l m s.layer (s ∷ us) ours refl (before_head l m s.layer before (inl at))
                y)
            | inr y ↦ absurd y
          ]
    ]
walked_before alike (s ∷ us) (t ∷ vs) m l ours theirs w e before =
    elim (w l) [
      | inl x ↦ x
      | inr x ↦ elim x [
        | inl y ↦
            absurd (not_among l m s.layer (s ∷ us) ours refl
            (before_head l m s.layer before (lesser_ours s.layer t.layer m e)) y)
        | inr y ↦
            absurd (not_among l m t.layer (t ∷ vs) theirs refl
            (before_head l m t.layer before (lesser_theirs s.layer t.layer m e)) y)
      ]
    ]

after_shorter : (m : Layer) (us : List PlainSheet) → length (later m us) ≤ length us
after_shorter m [] = omega arith
after_shorter m (s ∷ us) =
    elim (same_layer s.layer m) as (λ t. same_layer s.layer m ≡ t → length (later m (s ∷ us)) ≤ length (s ∷ us)) [
      | true ↦ λ e. rw e (omega arith)
      | false ↦ λ e. rw e (omega arith)
    ] refl

after_less : (m : Layer) (s : PlainSheet) (us : List PlainSheet) → s.layer ≡ m
    → length (later m (s ∷ us)) < length (s ∷ us)
after_less m s us e = rw (same_is s.layer m e) (omega arith)

-- and fewer sheets are left
pub walked_less : (us vs : List PlainSheet) (m : Layer) → IsLesser (head_layer us) (head_layer vs) (Some m)
    → length (later m us) + length (later m vs) < length us + length vs
walked_less [] [] m e = cc
walked_less [] (t ∷ vs) m e = let at : t.layer ≡ m = cc in omega (arith, after_less m t vs at)
walked_less (s ∷ us) [] m e = let at : s.layer ≡ m = cc in omega (arith, after_less m s us at)
walked_less (s ∷ us) (t ∷ vs) m (inl e) =
    let f = e.0 in let at : s.layer ≡ m = cc in omega (arith, after_less m s us at, after_shorter m (t ∷ vs))
walked_less (s ∷ us) (t ∷ vs) m (inr e) =
    let f = e.0 in let at : t.layer ≡ m = cc in omega (arith, after_less m t vs at, after_shorter m (s ∷ us))

-- the lesser of the Layers at two indexes is the lesser first Layer of the sheets from there on
pub lesser_heads : (a b : List PlainSheet) (i j : ℕ) (p q r m : Option Layer) → p ≡ slice_get (map (λ s. s.layer) a) i
    → q ≡ slice_get (map (λ s. s.layer) b) j → IsLesser p q r → r ≡ m
    → IsLesser (head_layer (drop i a)) (head_layer (drop j b)) m
lesser_heads a b i j p q r m at_i at_j h e =
    subst (IsLesser (head_layer (drop i a)) (head_layer (drop j b))) e
    (subst (λ x. IsLesser x (head_layer (drop j b)) r) (at_i ∙ head_is a i)
    (subst (λ y. IsLesser p y r) (at_j ∙ head_is b j) h))
