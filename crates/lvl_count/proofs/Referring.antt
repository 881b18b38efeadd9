-- Sets of names to which references refer.
use Rattle.std.proofs.Common.{◌≡◌, ◌+◌, ◌||◌, ◌⊎◌, ℕ, Bool, true, false, List, take, inl}
use Rattle.std.proofs.Common.{inr, refl, sym, ap, ◌∙◌, subst, slice_get, Some}
use Rattle.std.specs.BTreeMap.{is_at}
use Rattle.std.specs.BTreeSet as sorted
use Rattle.std.specs.BTreeSet.{BTreeSet}
use Rattle.std.specs.Cmp.{eq_by_cmp_equiv}
use Rattle.std.specs.Cmp.Lexicographic.{nat_list_cmp_total, slice_cmp}
use Rattle.std.specs.Global.{Vec}
use Rattle.std.specs.List.{list_any}
use Rattle.std.specs.Map.{IsKeyTest, AreApart}
use Rattle.std.specs.Ordering.{is_eq, nat_cmp}
use Rattle.std.specs.Set.{KeepsOthers}
use Rattle.std.specs.Str.{bytes_eq}
use Rattle.std.proofs.lemmas.List.Folds.{list_any_more}
use Rattle.std.proofs.lemmas.Option.{get_or_from_slice_get, slice_get_within}
use Rattle.std.proofs.lemmas.Map.Text.{is_eq-slice_cmp}
use Rattle.std.proofs.lemmas.Slice.Eq.{bytes_eq-Decides}
use Rattle.lvl_count.specs.inside.Referring.{has_name}

pub by_bool : (b : Bool) → (b ≡ true) ⊎ (b ≡ false)
by_bool true = inl refl
by_bool false = inr refl

or_true : (b : Bool) → (b || true) ≡ true
or_true true = refl
or_true false = refl

or_false : (b : Bool) → (b || false) ≡ b
or_false true = refl
or_false false = refl

pub or_or : (a b d : Bool) → ((a || b) || d) ≡ (a || (b || d))
or_or true b d = refl
or_or false b d = refl

same : (a b : List ℕ) → bytes_eq a b ≡ true → a ≡ b
same a b = (bytes_eq-Decides a b).0

-- a name that the set has adds nothing
pub name_known : (s : BTreeSet (Vec ℕ)) (name q : List ℕ) → has_name s name ≡ true
    → has_name s q ≡ (has_name s q || bytes_eq q name)
name_known s name q there = elim (by_bool (bytes_eq q name)) [
  | inl e ↦ (ap (has_name s) (same q name e) ∙ there)
      ∙ sym (ap (λ b. has_name s q || b) e ∙ or_true (has_name s q))
  | inr e ↦ sym (ap (λ b. has_name s q || b) e ∙ or_false (has_name s q))
]

other_keys : {K : Type 0} (eq : K → K → Bool) (test : K → Bool) (old new : List K) → KeepsOthers eq test old new
    → (other : K → Bool) → IsKeyTest eq other → AreApart test other → list_any other new ≡ list_any other old
unfolding KeepsOthers
other_keys eq test old new h = h

apart : (a b k : List ℕ) → bytes_eq b a ≡ false → is_eq (slice_cmp nat_cmp a k) ≡ true
    → is_eq (slice_cmp nat_cmp b k) ≡ false
apart a b k n y =
    let at : a ≡ k = same a k (sym (is_eq-slice_cmp a k) ∙ y) in
    is_eq-slice_cmp b k ∙ subst (λ x. bytes_eq b x ≡ false) at n

-- a name that is inserted is the only one that is new
pub name_added : (s n : BTreeSet (Vec ℕ)) (name q : List ℕ)
    → sorted.UpdatesBy (λ x y. slice_cmp nat_cmp x.items y.items) (λ k. slice_cmp nat_cmp name k.items) s n true
    → has_name n q ≡ (has_name s q || bytes_eq q name)
name_added s n name q u = elim (by_bool (bytes_eq q name)) [
  | inl e ↦ (ap (has_name n) (same q name e) ∙ u.1)
      ∙ sym (ap (λ b. has_name s q || b) e ∙ or_true (has_name s q))
  | inr e ↦ other_keys _ _ _ _ u.3 (is_at (λ (k : Vec ℕ). slice_cmp nat_cmp q k.items))
      (λ x y. (eq_by_cmp_equiv nat_list_cmp_total).congr q x.items y.items) (λ k. apart name q k.items e)
      ∙ sym (ap (λ b. has_name s q || b) e ∙ or_false (has_name s q))
]

-- one more item of a list of which some are looked at
pub any_more : {X : Type 0} (p : X → Bool) (xs : List X) (i : ℕ) (x : X) (b u : Bool) → slice_get xs i ≡ Some x
    → b ≡ list_any p (take i xs) → u ≡ (b || p x) → u ≡ list_any p (take (i + 1) xs)
any_more p xs i x b u there so_far is =
    is ∙ ap (λ a. a || p x) so_far
    ∙ ap (λ y. list_any p (take i xs) || p y) (sym (get_or_from_slice_get xs i x x there))
    ∙ sym (list_any_more p xs i x (slice_get_within xs i x there))

-- one more item, beside what was known before the list
pub or_any_more : {X : Type 0} (p : X → Bool) (xs : List X) (i : ℕ) (x : X) (a b u : Bool) → slice_get xs i ≡ Some x
    → b ≡ (a || list_any p (take i xs)) → u ≡ (b || p x) → u ≡ (a || list_any p (take (i + 1) xs))
or_any_more p xs i x a b u there so_far is =
    is ∙ ap (λ d. d || p x) so_far ∙ or_or a (list_any p (take i xs)) (p x)
    ∙ ap (λ d. a || d) (any_more p xs i x (list_any p (take i xs)) (list_any p (take i xs) || p x) there refl refl)

or_twice : (b d : Bool) → ((b || d) || d) ≡ (b || d)
or_twice true d = refl
or_twice false true = refl
or_twice false false = refl

-- one more item that is like the one before it changes nothing
pub or_any_repeated : {X : Type 0} (p : X → Bool) (xs : List X) (i k : ℕ) (x y : X) (a b : Bool) → k + 1 ≡ i
    → slice_get xs k ≡ Some x → slice_get xs i ≡ Some y → p y ≡ p x → b ≡ (a || list_any p (take i xs))
    → b ≡ (a || list_any p (take (i + 1) xs))
or_any_repeated p xs i k x y a b next there here same so_far =
    let before : Bool = list_any p (take k xs) in
    let last : (before || p x) ≡ list_any p (take i xs) =
    any_more p xs k x before (before || p x) there refl refl ∙ ap (λ n. list_any p (take n xs)) next in
    let more : (list_any p (take i xs) || p y) ≡ list_any p (take (i + 1) xs) =
    any_more p xs i y (list_any p (take i xs)) (list_any p (take i xs) || p y) here refl refl in
    so_far
    ∙ ap (λ d. a || d)
    (sym last ∙ sym (or_twice before (p x)) ∙ ap (λ d. d || p x) last ∙ ap (λ d. list_any p (take i xs) || d) (sym same)
    ∙ more)
