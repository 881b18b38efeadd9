-- What one more name does to the names by their numbers.
use Rattle.std.proofs.Common.{◌≡◌, ◌==◌, ℕ, ◌+◌, Bool, true, false, ◌||◌, cond, if◌then◌else◌, List, [], ◌∷◌, ◌++◌}
use Rattle.std.proofs.Common.{length, map, Some, None, refl, sym, ap, ◌∙◌, subst, arith, Contains}
use Rattle.std.specs.Prelude.{Option, is_some, unwrap_or}
use Rattle.std.specs.BTreeMap.{BTreeMap, get, btree_map_len, Updates}
use Rattle.std.specs.BTreeSet as sorted
use Rattle.std.specs.BTreeSet.{BTreeSet, contains}
use Rattle.std.specs.Cmp.Lexicographic.{slice_cmp}
use Rattle.std.specs.Global.{Vec}
use Rattle.std.specs.List.{list_any}
use Rattle.std.specs.Option.{option_or}
use Rattle.std.specs.Ordering.{nat_cmp, is_eq}
use Rattle.std.specs.Str.{bytes_eq}
use Rattle.std.proofs.lemmas.Bool.Decides.{nat_tests}
use Rattle.std.proofs.lemmas.List.{map-append, length_push}
use Rattle.std.proofs.lemmas.List.Folds.{list_any-append}
use Rattle.std.proofs.lemmas.Map.Text.{is_eq-slice_cmp}
use Rattle.std.proofs.lemmas.Map.Views.{list_any-from_Contains, Contains-from_any}
use Rattle.std.proofs.lemmas.Slice.Eq.{bytes_eq-Decides}
use Rattle.lvl_names.proofs.Elements.{same_answer}
use Rattle.lvl_cells.proofs.Indexes.{bytes_eq_laws}
use Rattle.oasis_records.specs.declared.cell.CellName.{CellName}
use Rattle.oasis_stream.specs.Names.{number_by, number_after, name_from, name_of, RepeatsNumber, RepeatsName}
use Rattle.oasis_stream.specs.Rules.{NameBreaches}
use Rattle.oasis_stream.specs.declared.fault.NameRule.{NameRule}
use Rattle.oasis_stream.specs.declared.fault.NameRule.TheVariants.{Mixed, NumberTwice, NameTwice}
use Rattle.oasis_library.specs.inside.Holds.{HoldsNames}
use Rattle.oasis_library.specs.declared.names.Names.{Names}

or_none : {A : Type 0} (o : Option A) → option_or o None ≡ o
or_none None = refl
or_none (Some x) = refl

or_if : {A : Type 0} (b : Bool) (x : A) (o p : Option A)
    → option_or (if b then Some x else o) p ≡ (if b then Some x else option_or o p)
or_if true x o p = refl
or_if false x o p = refl

name_from-snoc : (i : ℕ) (cs : List CellName) (c : CellName) (n : ℕ)
    → name_from i (cs ++ c ∷ []) n ≡ option_or (name_from i cs n) (if number_after (i + length cs) c == n
    then Some c.name else None)
name_from-snoc i [] c n =
    ap (λ k. if number_after k c == n then Some c.name else None) (let e : i ≡ i + 0 = omega arith in e)
name_from-snoc i (x ∷ cs) c n =
    let e : (i + 1) + length cs ≡ i + length (x ∷ cs) = omega arith in
    ap (λ o. if number_after i x == n then Some x.name else o)
    (name_from-snoc (i + 1) cs c n
    ∙ ap (λ k. option_or (name_from (i + 1) cs n) (if number_after k c == n then Some c.name else None)) e)
    ∙ sym (or_if (number_after i x == n) x.name (name_from (i + 1) cs n) (if number_after (i + length (x ∷ cs)) c == n
    then Some c.name else None))

name_if : (b : Bool) (number k : ℕ) (name : List ℕ) (f : ℕ → Option (List ℕ)) → number == k ≡ b → f number ≡ None
    → option_or (f k) (if b then Some name else None) ≡ (if b then Some name else f k)
name_if true number k name f e none =
    let same : number ≡ k = grind (arith, nat_tests) in
    ap (λ o. option_or o (Some name)) (ap f (sym same) ∙ none)
name_if false number k name f e none = or_none (f k)

-- the number of the new name, which no other has, stands for that name
name_on : (cs : List CellName) (c : CellName) (k : ℕ) → name_of cs (number_after (length cs) c) ≡ None
    → name_of (cs ++ c ∷ []) k ≡ (if number_after (length cs) c == k then Some c.name else name_of cs k)
name_on cs c k none =
    let e : 0 + length cs ≡ length cs = omega arith in
    name_from-snoc 0 cs c k
    ∙ ap (λ j. option_or (name_of cs k) (if number_after j c == k then Some c.name else None)) e
    ∙ name_if (number_after (length cs) c == k) (number_after (length cs) c) k c.name (name_of cs) refl none

same_key : (a k : ℕ) → is_eq (nat_cmp a k) ≡ (a == k)
same_key a k = grind (arith, nat_tests)

-- one more name, by its number
pub numbered_on : (m n : BTreeMap ℕ (List ℕ)) (cs : List CellName) (c : CellName) (number : ℕ) (name : List ℕ)
    → ((k : ℕ) → get nat_cmp m k ≡ name_of cs k) → number ≡ number_after (length cs) c → name ≡ c.name
    → name_of cs number ≡ None
    → Updates nat_cmp m n number (Some name) → (k : ℕ) → get nat_cmp n k ≡ name_of (cs ++ c ∷ []) k
numbered_on m n cs c number name old is named none u k =
    u.0 k
    ∙ ap (λ b. cond b (Some name) (get nat_cmp m k)) (same_key number k)
    ∙ ap (λ o. if number == k then Some name else o) (old k)
    ∙ ap (λ (s : List ℕ). if number == k then Some s else name_of cs k) named
    ∙ ap (λ j. if j == k then Some c.name else name_of cs k) is
    ∙ sym (name_on cs c k (subst (λ j. name_of cs j ≡ None) is none))

abbrev names : List CellName → List (List ℕ)
names cs = map (λ c. c.name) cs

eq_sym : (x y : List ℕ) → bytes_eq x y ≡ bytes_eq y x
eq_sym x y =
    same_answer (bytes_eq x y) (bytes_eq y x) (λ h. (bytes_eq-Decides y x).1 (sym ((bytes_eq-Decides x y).0 h)))
    (λ h. (bytes_eq-Decides x y).1 (sym ((bytes_eq-Decides y x).0 h)))

cond_or : (b a : Bool) → cond b true a ≡ (a || (b || false))
cond_or true true = refl
cond_or true false = refl
cond_or false true = refl
cond_or false false = refl

-- one more name in the set of names
pub seen_on : (s t : BTreeSet (Vec ℕ)) (cs : List CellName) (c : CellName) (key : Vec ℕ)
    → ((q : Vec ℕ) → contains (λ x y. slice_cmp nat_cmp x.items y.items) s q ≡ list_any (bytes_eq q.items) (names cs))
    → key.items ≡ c.name
    → sorted.Updates (λ x y. slice_cmp nat_cmp x.items y.items) s t key true → (q : Vec ℕ)
    → contains (λ x y. slice_cmp nat_cmp x.items y.items) t q ≡ list_any (bytes_eq q.items) (names (cs ++ c ∷ []))
seen_on s t cs c key old is u q =
    u.0 q
    ∙ ap (λ b. cond b true (contains (λ x y. slice_cmp nat_cmp x.items y.items) s q)) (is_eq-slice_cmp key.items q.items
    ∙ eq_sym key.items q.items ∙ ap (bytes_eq q.items) is)
    ∙ cond_or (bytes_eq q.items c.name) (contains (λ x y. slice_cmp nat_cmp x.items y.items) s q)
    ∙ ap (λ b. b || (bytes_eq q.items c.name || false)) (old q)
    ∙ sym (list_any-append (bytes_eq q.items) (names cs) (c.name ∷ []))
    ∙ ap (list_any (bytes_eq q.items)) (sym (map-append (λ (o : CellName). o.name) cs (c ∷ [])))

-- the set has exactly the names so far
pub seen_contains : (cs : List CellName) (name : List ℕ) → list_any (bytes_eq name) (names cs) ≡ true
    → Contains (names cs) name
seen_contains cs name h = Contains-from_any (λ x y e. (bytes_eq-Decides x y).0 e) name (names cs) h

pub contains_seen : (cs : List CellName) (name : List ℕ) → Contains (names cs) name
    → list_any (bytes_eq name) (names cs) ≡ true
contains_seen cs name h = list_any-from_Contains bytes_eq_laws name (names cs) h

none_is : {A : Type 0} (o : Option A) → is_some o ≡ false → o ≡ None
none_is None h = refl
none_is (Some x) h = (let z : true ≡ false = h in cc)

number_is : (o : Option ℕ) (n m k : ℕ) → k ≡ unwrap_or o n → n ≡ m → k ≡ number_by m o
number_is None n m k e h = e ∙ h
number_is (Some j) n m k e h = e

-- a name whose number no other has
pub record IsFresh (n : Names) (c : CellName) (number : ℕ) (key : Vec ℕ) : Type 0 where
  pub number_of : number ≡ unwrap_or c.number (btree_map_len n.by_number)
  pub free : is_some (get nat_cmp n.by_number number) ≡ false
  pub key_is : key.items ≡ c.name

fresh_number : (n : Names) (cs : List CellName) (c : CellName) (number : ℕ) (key : Vec ℕ) → HoldsNames n cs
    → IsFresh n c number key
    → (number ≡ number_after (length cs) c) × (name_of cs number ≡ None)
fresh_number n cs c number key h f = (
  number_is c.number (btree_map_len n.by_number) (length cs) number f.number_of h.counted,
  sym (h.numbered number)
      ∙ none_is (get nat_cmp n.by_number number) f.free,
)

unrepeated : (n : Names) (cs : List CellName) (c : CellName) (number : ℕ) (key : Vec ℕ) → HoldsNames n cs
    → IsFresh n c number key → RepeatsNumber cs c → ⊥
unrepeated n cs c number key h f r =
    let p = fresh_number n cs c number key h f in
    let e : name_of cs (number_after (length cs) c) ≡ None = subst (λ k. name_of cs k ≡ None) p.0 p.1 in
    let z : false ≡ true = ap is_some (sym e) ∙ r in cc

-- if the set has the name, an earlier record has it
pub name_twice : (n : Names) (cs : List CellName) (c : CellName) (number : ℕ) (key : Vec ℕ) → HoldsNames n cs
    → IsFresh n c number key
    → contains (λ x y. slice_cmp nat_cmp x.items y.items) n.seen key ≡ true
    → (RepeatsNumber cs c → ⊥) × RepeatsName cs c
name_twice n cs c number key h f t = (
  unrepeated n cs c number key h f,
  seen_contains cs c.name (ap (λ s. list_any (bytes_eq s) (names cs)) (sym f.key_is) ∙ sym (h.seen key) ∙ t),
)

-- if the set doesn't have the name, it breaches no rule
pub name_none : (n : Names) (cs : List CellName) (c : CellName) (number : ℕ) (key : Vec ℕ) → HoldsNames n cs
    → IsFresh n c number key
    → contains (λ x y. slice_cmp nat_cmp x.items y.items) n.seen key ≡ false → (rule : NameRule)
    → NameBreaches cs c rule → ⊥
name_none n cs c number key h f t NumberTwice b = unrepeated n cs c number key h f b
name_none n cs c number key h f t NameTwice b =
    let z : false ≡ true = sym t ∙ h.seen key ∙ ap (λ s. list_any (bytes_eq s) (names cs)) f.key_is ∙ contains_seen cs
    c.name b.1 in cc
name_none n cs c number key h f t Mixed b = b

-- the name is added
pub name_added : (n m : Names) (cs : List CellName) (c : CellName) (number : ℕ) (key : Vec ℕ) (name : List ℕ)
    (old : Option (List ℕ)) → HoldsNames n cs → IsFresh n c number key
    → name ≡ c.name → old ≡ get nat_cmp n.by_number number → Updates nat_cmp n.by_number m.by_number number (Some name)
    → btree_map_len m.by_number ≡ btree_map_len n.by_number + (if is_some old then 0 else 1)
    → sorted.Updates (λ x y. slice_cmp nat_cmp x.items y.items) n.seen m.seen key true → HoldsNames m (cs ++ c ∷ [])
name_added n m cs c number key name old h f named was u long s =
    let p = fresh_number n cs c number key h f in
    let one : is_some old ≡ false = ap is_some was ∙ f.free in
    record {
      numbered = numbered_on n.by_number m.by_number cs c number name h.numbered p.0 named p.1 u;
      counted = long ∙ ap (λ b. btree_map_len n.by_number + (if b then 0 else 1)) one ∙ ap (λ k. k + 1) h.counted
          ∙ sym (length_push cs c);
      seen = seen_on n.seen m.seen cs c key h.seen f.key_is s;
    }

pub fresh : (n : Names) (c : CellName) (number : ℕ) (key : Vec ℕ)
    → number ≡ unwrap_or c.number (btree_map_len n.by_number)
    → is_some (get nat_cmp n.by_number number) ≡ false → key.items ≡ c.name → IsFresh n c number key
fresh n c number key a b d = record { number_of = a; free = b; key_is = d }
