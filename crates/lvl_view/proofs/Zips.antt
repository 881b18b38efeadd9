-- Two lists whose items are related in pairs, with one more pair.
use Rattle.std.proofs.Common.{◌≡◌, ℕ, zero, suc, ◌<◌, ◌≤◌, ◌+◌, map, take, get_or, option_map, List, [], ◌∷◌, ◌++◌}
use Rattle.std.proofs.Common.{length, Option, Some, sym, ap, subst, ◌∙◌, arith, refl}
use Rattle.std.specs.List.{AllZip, slice_get}
use Rattle.std.proofs.lemmas.Option.{none-some, same_Some, slice_get-map, slice_get-get_or, get_or_from_slice_get}
use Rattle.std.proofs.lemmas.List.{take_more}
use Rattle.lvl_view.specs.Texts.{IsOnly}
use Rattle.lvl_view.specs.inside.Reading.{IsAlone}

map_push : {V A : Type 0} (f : V → A) (xs : List V) (x : V) → map f (xs ++ x ∷ []) ≡ map f xs ++ f x ∷ []
map_push f [] x = refl
map_push {V} {A} f (w ∷ xs) x = ap (λ (l : List A). f w ∷ l) (map_push f xs x)

-- the item at an index, with itself as the default
pub read_at : {V : Type 0} (xs : List V) (i : ℕ) (d : V) → i < length xs → get_or xs i d ≡ get_or xs i (get_or xs i d)
read_at xs i d h = sym (get_or_from_slice_get xs i (get_or xs i d) (get_or xs i d) (slice_get-get_or xs i d h))

take_past : {V : Type 0} (i : ℕ) (xs : List V) → length xs ≤ i → take i xs ≡ xs
take_past zero [] h = refl
take_past (suc i) [] h = refl
take_past zero (x ∷ xs) h = absurd (omega arith)
take_past {V} (suc i) (x ∷ xs) h = ap (λ (l : List V). x ∷ l) (take_past i xs (omega arith))

module _ {A B : Type 0} (R : A → B → Type 0) where
  zip_nil : (ys : List B) → AllZip R [] ys → ys ≡ []
  zip_nil [] h = refl
  zip_nil (y ∷ ys) h = absurd h

  zip_push : (xs : List A) (ys : List B) (x : A) (y : B) → AllZip R xs ys → R x y
      → AllZip R (xs ++ x ∷ []) (ys ++ y ∷ [])
  zip_push [] [] x y h r = (r, tt)
  zip_push [] (z ∷ ys) x y h r = absurd h
  zip_push (w ∷ xs) [] x y h r = absurd h
  zip_push (w ∷ xs) (z ∷ ys) x y h r = (h.0, zip_push xs ys x y h.1 r)

  zip_unpush : (xs : List A) (x : A) (ys : List B) → AllZip R (xs ++ x ∷ []) ys
      → (zs : List B) × (z : B) × (ys ≡ zs ++ z ∷ []) × AllZip R xs zs × R x z
  zip_unpush [] x [] h = absurd h
  zip_unpush [] x (y ∷ []) h = ([], y, refl, tt, h.0)
  zip_unpush [] x (y ∷ z ∷ ys) h = absurd h.1
  zip_unpush (w ∷ xs) x [] h = absurd h
  zip_unpush (w ∷ xs) x (y ∷ ys) h =
      let p = zip_unpush xs x ys h.1 in (y ∷ p.0, p.1, ap (λ (t : List B). y ∷ t) p.2, (h.0, p.3), p.4)

  pub alone_nil : IsAlone (AllZip R []) []
  alone_nil = λ ys. (zip_nil ys, λ e. subst (AllZip R []) (sym e) tt)

  -- one more item, related to one value only
  pub alone_push : (xs : List A) (ys : List B) (x : A) (y : B) → IsAlone (AllZip R xs) ys → IsOnly (R x) (Some y)
      → IsAlone (AllZip R (xs ++ x ∷ [])) (ys ++ y ∷ [])
  alone_push xs ys x y all one = λ bs. (
    λ h. let p = zip_unpush xs x bs h in
        let front : p.0 ≡ ys = (all p.0).0 p.3 in
        let back : y ≡ p.1 = same_Some y p.1 ((one p.1).0 p.4) in
        p.2 ∙ (ap (λ (t : List B). t ++ p.1 ∷ []) front ∙ ap (λ (b : B). ys ++ b ∷ []) (sym back)),
    λ e. subst (AllZip R (xs ++ x ∷ [])) (sym e) (zip_push xs ys x y ((all ys).1 refl) ((one y).1 refl)),
  )

  -- an item that is related to no value
  pub zip_none : (xs : List A) (ys : List B) (i : ℕ) (x : A) → slice_get xs i ≡ Some x → ((y : B) → ¬ R x y)
      → ¬ AllZip R xs ys
  zip_none [] ys i x e n h = none-some x e
  zip_none (w ∷ xs) [] i x e n h = absurd h
  zip_none (w ∷ xs) (y ∷ ys) zero x e n h = n y (subst (λ t. R t y) (same_Some w x e) h.0)
  zip_none (w ∷ xs) (y ∷ ys) (suc i) x e n h = zip_none xs ys i x e n h.1

  module _ (V : Type 0) (view : V → A) (parts : List V) where
    -- one more part, related to one value only
    pub parts_more : (ys : List B) (i : ℕ) (part : V) (y : B) → i < length parts → part ≡ get_or parts i part
        → IsAlone (AllZip R (map view (take i parts))) ys → IsOnly (R (view part)) (Some y)
        → IsAlone (AllZip R (map view (take (i + 1) parts))) (ys ++ y ∷ [])
    parts_more ys i part y h e all one =
        let more : take (i + 1) parts ≡ take i parts ++ part ∷ [] =
        take_more parts i part h ∙ ap (λ (q : V). take i parts ++ q ∷ []) (sym e) in
        subst (λ (l : List A). IsAlone (AllZip R l) (ys ++ y ∷ []))
        (sym (ap (λ (l : List V). map view l) more ∙ map_push view (take i parts) part))
        (alone_push (map view (take i parts)) ys (view part) y all one)

    pub part_none : (all : List A) → map view parts ≡ all → (i : ℕ) (part : V) → i < length parts
        → part ≡ get_or parts i part → ((y : B) → ¬ R (view part) y) → (ys : List B) → ¬ AllZip R all ys
    part_none all same i part h e n ys z =
        zip_none (map view parts) ys i (view part)
        (slice_get-map view parts i
        ∙ ap (λ (o : Option V). option_map view o) (slice_get-get_or parts i part h ∙ ap Some (sym e))) n
        (subst (λ (l : List A). AllZip R l ys) (sym same) z)

    pub parts_all : (all : List A) → map view parts ≡ all → (ys : List B) (i : ℕ) → length parts ≤ i
        → IsAlone (AllZip R (map view (take i parts))) ys → IsAlone (AllZip R all) ys
    parts_all all same ys i h a =
        subst (λ (l : List A). IsAlone (AllZip R l) ys) (ap (λ (l : List V). map view l) (take_past i parts h) ∙ same) a
