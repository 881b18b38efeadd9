-- A text that is written in parts, and one that is written item by item.
use Rattle.std.proofs.Common.{◌≡◌, ◌<◌, ◌+◌, ℕ, get_or, List, [], ◌∷◌, ◌++◌, take, drop, length, flat_map, Option}
use Rattle.std.proofs.Common.{Result, Ok, Err, OnErr}
use Rattle.std.proofs.Common.{sym, ap, subst, ◌∙◌, append_assoc}
use Rattle.std.specs.Io.KnownBytes.{Appends}
use Rattle.std.proofs.KnownBytes.{Appends-trans}
use Rattle.std.proofs.lemmas.List.{append-nil, take_more, take-append-drop}
use Rattle.std.proofs.lemmas.List.Concat.{flat_map-append}
use Rattle.lvl_report.specs.Writing.{AppendsBeginning}

-- a beginning of the first part is a beginning of the whole
pub begins : (old new : Option (List ℕ)) (a b : List ℕ) → AppendsBeginning old new a
    → AppendsBeginning old new (a ++ b)
begins old new a b h = record {
  front = h.front;
  rest = h.rest ++ b;
  split = ap (λ l. l ++ b) h.split ∙ append_assoc h.front h.rest b;
  appended = h.appended;
}

-- the first part whole, and then a beginning of the second
pub begins_later : (old mid new : Option (List ℕ)) (a b : List ℕ) → Appends old mid a → AppendsBeginning mid new b
    → AppendsBeginning old new (a ++ b)
begins_later old mid new a b whole h = record {
  front = a ++ h.front;
  rest = h.rest;
  split = ap (λ l. a ++ l) h.split ∙ sym (append_assoc a h.front h.rest);
  appended = Appends-trans _ _ _ _ _ whole h.appended;
}

-- the texts of the items up to index i, then the one of the item there, then those of the rest
text_split : {X : Type 0} (text : X → List ℕ) (xs : List X) (i : ℕ) (d : X) → i < length xs
    → flat_map text xs ≡ flat_map text (take i xs) ++ (text (get_or xs i d) ++ flat_map text (drop (i + 1) xs))
text_split text xs i d h =
    let x = get_or xs i d in
    let all : flat_map text (take (i + 1) xs) ≡ flat_map text (take i xs) ++ text x =
    ap (flat_map text) (take_more xs i d h) ∙ flat_map-append text (take i xs) (x ∷ [])
    ∙ ap (λ l. flat_map text (take i xs) ++ l) (append-nil (text x)) in
    ap (flat_map text) (sym (take-append-drop (i + 1) xs))
    ∙ flat_map-append text (take (i + 1) xs) (drop (i + 1) xs)
    ∙ ap (λ l. l ++ flat_map text (drop (i + 1) xs)) all
    ∙ append_assoc (flat_map text (take i xs)) (text x) (flat_map text (drop (i + 1) xs))

-- the texts of the items up to index i whole, and then a beginning of the text of the item there
pub begins_at : {X : Type 0} (text : X → List ℕ) (xs : List X) (i : ℕ) (d : X) (old mid new : Option (List ℕ))
    → i < length xs → Appends old mid (flat_map text (take i xs)) → AppendsBeginning mid new (text (get_or xs i d))
    → AppendsBeginning old new (flat_map text xs)
begins_at text xs i d old mid new h whole begun =
    let before = flat_map text (take i xs) in
    let after = flat_map text (drop (i + 1) xs) in
    subst (AppendsBeginning old new) (sym (text_split text xs i d h))
    (begins_later old mid new before (text (get_or xs i d) ++ after) whole (begins mid new (text (get_or xs i d)) after begun))

-- what holds anyway holds of an error
pub on_err : {T E : Type 0} (P : Type 0) (r : Result T E) → P → OnErr r P
on_err P (Ok x) h = tt
on_err P (Err e) h = h

pub on_err_map : {T E : Type 0} (P Q : Type 0) (r : Result T E) → (P → Q) → OnErr r P → OnErr r Q
on_err_map P Q (Ok x) f h = tt
on_err_map P Q (Err e) f h = f h

-- of a text in three parts, a beginning of the first was written
pub in_first_part : (old new : Option (List ℕ)) (x a b c : List ℕ) → x ≡ a → AppendsBeginning old new x
    → AppendsBeginning old new (a ++ (b ++ c))
in_first_part old new x a b c is h = begins old new a (b ++ c) (subst (AppendsBeginning old new) is h)

-- the first was written, and a beginning of the second
pub in_second_part : (old mid new : Option (List ℕ)) (x a b c : List ℕ) → x ≡ a → Appends old mid x
    → AppendsBeginning mid new b → AppendsBeginning old new (a ++ (b ++ c))
in_second_part old mid new x a b c is whole h =
    begins_later old mid new a (b ++ c) (subst (Appends old mid) is whole) (begins mid new b c h)

-- the first and the second were written, and a beginning of the third
pub in_third_part : (old mid late new : Option (List ℕ)) (x y a b c : List ℕ) → x ≡ a → y ≡ c → Appends old mid x
    → Appends mid late b → AppendsBeginning late new y → AppendsBeginning old new (a ++ (b ++ c))
in_third_part old mid late new x y a b c first third whole too h =
    begins_later old mid new a (b ++ c) (subst (Appends old mid) first whole)
    (begins_later mid late new b c too (subst (AppendsBeginning late new) third h))
