-- Pieces of a growing list.
use Rattle.std.proofs.Common.{◌≡◌, ◌==◌, ℕ, Bool, true, false, if◌then◌else◌, List, [], ◌∷◌, ◌++◌, map, inl, inr, refl}
use Rattle.std.proofs.Common.{sym, ap, ◌∙◌, subst, append_assoc}
use Rattle.std.proofs.lemmas.List.{append-nil}
use Rattle.std.specs.List.{AllByRecursion}
use Rattle.lvl_grammar.specs.Order.{IsWord, Begins, has}
use Rattle.gds_elements.specs.Order.{an_element, opens}
use Rattle.gds_elements.specs.Types.{bgnstr}
use Rattle.gds_elements.specs.Rec.{Rec, kinds, is_type, is_opener, field}
use Rattle.gds_elements.specs.inside.Reading.{IsReading}
use Rattle.gds_elements.specs.declared.element.Element.{Element}
use Rattle.gds_elements.proofs.Fields.{field_there, if_so, if_not}
use Rattle.lvl_grammar.proofs.Orders.{type_same, empty_word}
use Rattle.gds_elements.proofs.Words.{Stands}
use Rattle.gds_elements.proofs.Elements.{opens_first, stands_not, after_opener}
use Rattle.gds_library.specs.Rec.{until, pieces, last_list, last_piece}
use Rattle.gds_library.specs.inside.Shown.{on_last}
use Rattle.gds_library.proofs.Elements.{begins_open, IsOpen, reading_open}

pub on_last-append : {A : Type 0} (f : A → A) (xs : List A) (x : A) → on_last f (xs ++ x ∷ []) ≡ xs ++ f x ∷ []
on_last-append f [] x = refl
on_last-append f (y ∷ []) x = refl
on_last-append f (y ∷ z ∷ zs) x = ap (λ l. y ∷ l) (on_last-append f (z ∷ zs) x)

pub on_last-id : {A : Type 0} (f : A → A) (xs : List A) → ((x : A) → f x ≡ x) → on_last f xs ≡ xs
on_last-id f [] h = refl
on_last-id f (y ∷ []) h = ap (λ l. l ∷ []) (h y)
on_last-id f (y ∷ z ∷ zs) h = ap (λ l. y ∷ l) (on_last-id f (z ∷ zs) h)

pub map-snoc : {A B : Type 0} (f : A → B) (xs : List A) (x : A) → map f (xs ++ x ∷ []) ≡ map f xs ++ f x ∷ []
map-snoc f [] x = refl
map-snoc f (y ∷ ys) x = ap (λ l. f y ∷ l) (map-snoc f ys x)

pub if_ap : {A B : Type 0} (f : A → B) (b : Bool) (x y : A) → f (if b then x else y) ≡ (if b then f x else f y)
if_ap f true x y = refl
if_ap f false x y = refl

until_stop_at : {A : Type 0} (test : A → Bool) (x : A) (xs : List A) (y : A) (p : List A) (ps : List (List A))
    → (pieces test xs ≡ p ∷ ps → until test (xs ++ y ∷ []) ≡ until test xs)
    → (b : Bool) → test x ≡ b → (if test x then (x ∷ until test xs) ∷ pieces test xs else pieces test xs) ≡ p ∷ ps
    → until test ((x ∷ xs) ++ y ∷ []) ≡ until test (x ∷ xs)
until_stop_at test x xs y p ps h true t e = rw t refl
until_stop_at test x xs y p ps h false t e = rw t (ap (λ l. x ∷ l) (h (rw t at e)))

until_all_at : {A : Type 0} (test : A → Bool) (x : A) (xs : List A) (y : A)
    → (pieces test xs ≡ [] → until test (xs ++ y ∷ []) ≡ (if test y then xs else xs ++ y ∷ []))
    → (b : Bool) → test x ≡ b → (if test x then (x ∷ until test xs) ∷ pieces test xs else pieces test xs) ≡ []
    → until test ((x ∷ xs) ++ y ∷ []) ≡ (if test y then x ∷ xs else (x ∷ xs) ++ y ∷ [])
until_all_at test x xs y h true t e = (let z : (x ∷ until test xs) ∷ pieces test xs ≡ [] = rw t at e in cc)
until_all_at test x xs y h false t e =
    rw t (ap (λ l. x ∷ l) (h (rw t at e)) ∙ if_ap (λ l. x ∷ l) (test y) xs (xs ++ y ∷ []))

-- what comes before the first element that passes the test, with one more element
until_stop : {A : Type 0} (test : A → Bool) (xs : List A) (y : A) (p : List A) (ps : List (List A))
    → pieces test xs ≡ p ∷ ps → until test (xs ++ y ∷ []) ≡ until test xs
until_stop test [] y p ps e = cc
until_stop test (x ∷ xs) y p ps e = until_stop_at test x xs y p ps (until_stop test xs y p ps) (test x) refl e

until_all : {A : Type 0} (test : A → Bool) (xs : List A) (y : A) → pieces test xs ≡ []
    → until test (xs ++ y ∷ []) ≡ (if test y then xs else xs ++ y ∷ [])
until_all test [] y e = refl
until_all test (x ∷ xs) y e = until_all_at test x xs y (until_all test xs y) (test x) refl e

until_none_at : {A : Type 0} (test : A → Bool) (x : A) (xs : List A) → (pieces test xs ≡ [] → until test xs ≡ xs)
    → (b : Bool) → test x ≡ b
    → (if test x then (x ∷ until test xs) ∷ pieces test xs else pieces test xs) ≡ [] → until test (x ∷ xs) ≡ x ∷ xs
until_none_at test x xs h true t e = (let z : (x ∷ until test xs) ∷ pieces test xs ≡ [] = rw t at e in cc)
until_none_at test x xs h false t e = rw t (ap (λ l. x ∷ l) (h (rw t at e)))

-- if no element passes the test, all come before the first that does
until_none : {A : Type 0} (test : A → Bool) (xs : List A) → pieces test xs ≡ [] → until test xs ≡ xs
until_none test [] e = refl
until_none test (x ∷ xs) e = until_none_at test x xs (until_none test xs) (test x) refl e

by_last : {A : Type 0} (b : Bool) (test : A → Bool) (x : A) (xs : List A) (y : A)
    → until test (xs ++ y ∷ []) ≡ (if b then xs else xs ++ y ∷ []) → until test xs ≡ xs
    → pieces test (xs ++ y ∷ []) ≡ (if b then [] ++ (y ∷ []) ∷ [] else [])
    → (x ∷ until test (xs ++ y ∷ [])) ∷ pieces test
    (xs ++ y ∷ []) ≡ (if b then ((x ∷ until test xs) ∷ []) ++ (y ∷ []) ∷ [] else (x ∷ until test xs ++ y ∷ []) ∷ [])
by_last true test x xs y u n h = rw (u, n, h) refl
by_last false test x xs y u n h = rw (u, n, h) refl

-- the piece that begins at x takes the new element, if no other piece begins after it
last_grown : {A : Type 0} (test : A → Bool) (x : A) (xs : List A) (y : A) (ps : List (List A)) → pieces test xs ≡ ps
    → pieces test (xs ++ y ∷ []) ≡ (if test y then ps ++ (y ∷ []) ∷ [] else on_last (λ p. p ++ y ∷ []) ps)
    → (x ∷ until test (xs ++ y ∷ [])) ∷ pieces test
    (xs ++ y ∷ []) ≡ (if test y then ((x ∷ until test xs) ∷ ps) ++ (y ∷ []) ∷ [] else on_last (λ p. p ++ y ∷ [])
    ((x ∷ until test xs) ∷ ps))
last_grown test x xs y [] n h = by_last (test y) test x xs y (until_all test xs y n) (until_none test xs n) h
last_grown test x xs y (p ∷ ps) n h =
    ap (λ l. (x ∷ l) ∷ pieces test (xs ++ y ∷ [])) (until_stop test xs y p ps n) ∙ ap (λ l. (x ∷ until test xs) ∷ l) h
    ∙ if_ap (λ l. (x ∷ until test xs) ∷ l) (test y) ((p ∷ ps) ++ (y ∷ []) ∷ []) (on_last (λ p. p ++ y ∷ []) (p ∷ ps))

pieces_at : {A : Type 0} (test : A → Bool) (x : A) (xs : List A) (y : A) (b : Bool) → test x ≡ b
    → pieces test (xs ++ y ∷ []) ≡ (if test y then pieces test xs ++ (y ∷ []) ∷ [] else on_last (λ p. p ++ y ∷ [])
    (pieces test xs))
    → pieces test ((x ∷ xs) ++ y ∷ []) ≡ (if test y then pieces test (x ∷ xs) ++ (y ∷ []) ∷ []
    else on_last (λ p. p ++ y ∷ []) (pieces test (x ∷ xs)))
pieces_at test x xs y true t h = rw t (last_grown test x xs y (pieces test xs) refl h)
pieces_at test x xs y false t h = rw t h

pub pieces-snoc : {A : Type 0} (test : A → Bool) (xs : List A) (y : A)
    → pieces test (xs ++ y ∷ []) ≡ (if test y then pieces test xs ++ (y ∷ []) ∷ [] else on_last (λ p. p ++ y ∷ [])
    (pieces test xs))
pieces-snoc test [] y = refl
pieces-snoc test (x ∷ xs) y = pieces_at test x xs y (test x) refl (pieces-snoc test xs y)

pub map_on_last : {A B : Type 0} (f : A → B) (g : A → A) (h : B → B) → ((x : A) → f (g x) ≡ h (f x)) → (xs : List A)
    → map f (on_last g xs) ≡ on_last h (map f xs)
map_on_last f g h e [] = refl
map_on_last f g h e (x ∷ []) = ap (λ l. l ∷ []) (e x)
map_on_last f g h e (x ∷ y ∷ ys) = ap (λ l. f x ∷ l) (map_on_last f g h e (y ∷ ys))

on_last_twice : {A : Type 0} (f g h : A → A) → ((x : A) → g (f x) ≡ h x) → (xs : List A)
    → on_last g (on_last f xs) ≡ on_last h xs
on_last_twice f g h e [] = refl
on_last_twice f g h e (x ∷ []) = ap (λ i. i ∷ []) (e x)
on_last_twice f g h e (x ∷ y ∷ []) = ap (λ l. x ∷ l) (on_last_twice f g h e (y ∷ []))
on_last_twice f g h e (x ∷ y ∷ z ∷ zs) = ap (λ l. x ∷ l) (on_last_twice f g h e (y ∷ z ∷ zs))

-- elements that don't pass the test go to the last piece
pub pieces_within : {A : Type 0} (test : A → Bool) (xs ys : List A) → AllByRecursion (λ y. test y ≡ false) ys
    → pieces test (xs ++ ys) ≡ on_last (λ p. p ++ ys) (pieces test xs)
pieces_within test xs [] h =
    ap (pieces test) (append-nil xs) ∙ sym (on_last-id (λ p. p ++ []) (pieces test xs) (λ p. append-nil p))
pieces_within test xs (y ∷ ys) h =
    ap (pieces test) (sym (append_assoc xs (y ∷ []) ys)) ∙ pieces_within test (xs ++ y ∷ []) ys h.1
    ∙ ap (on_last (λ p. p ++ ys)) (pieces-snoc test xs y ∙ if_not (test y) _ _ h.0)
    ∙ on_last_twice (λ p. p ++ y ∷ []) (λ p. p ++ ys) (λ p. p ++ (y ∷ ys)) (λ p. append_assoc p (y ∷ []) ys)
    (pieces test xs)

-- an element that passes it begins a piece
pub pieces_next : {A : Type 0} (test : A → Bool) (xs : List A) (y : A) (ys : List A) → test y ≡ true
    → AllByRecursion (λ y. test y ≡ false) ys → pieces test (xs ++ (y ∷ ys)) ≡ pieces test xs ++ (y ∷ ys) ∷ []
pieces_next test xs y ys t h =
    ap (pieces test) (sym (append_assoc xs (y ∷ []) ys)) ∙ pieces_within test (xs ++ y ∷ []) ys h
    ∙ ap (on_last (λ p. p ++ ys)) (pieces-snoc test xs y ∙ if_so (test y) _ _ t)
    ∙ on_last-append (λ p. p ++ ys) (pieces test xs) (y ∷ [])

last_list-append : {A : Type 0} (xss : List (List A)) (ys : List A) → last_list (xss ++ ys ∷ []) ≡ ys
last_list-append [] ys = refl
last_list-append (x ∷ []) ys = refl
last_list-append (x ∷ y ∷ rest) ys = last_list-append (y ∷ rest) ys

-- records that begin an element
pub record IsPiece (piece : List Rec) : Type 0 where
  pub first : Rec
  pub rest : List Rec
  pub parts : piece ≡ first ∷ rest
  pub begun : Begins an_element (first.kind ∷ kinds rest)

piece_by : (piece : List Rec) → IsOpen (kinds piece) → IsPiece piece
piece_by [] o = (let z : [] ≡ o.first ∷ o.rest = o.parts in cc)
piece_by (r ∷ rs) o = record { first = r; rest = rs; parts = refl; begun = o.begun }

pub reading_piece : (e : Element) (piece : List Rec) → IsReading e piece → IsPiece piece
reading_piece e piece h = piece_by piece (reading_open e piece h)

pub word_piece : (piece : List Rec) → IsWord an_element (kinds piece) → IsPiece piece
word_piece [] w = (let z : false ≡ true = empty_word an_element w in cc)
word_piece (r ∷ rs) w =
    record {
      first = r;
      rest = rs;
      parts = refl;
      begun = ([], subst (IsWord an_element) (sym (append-nil (r.kind ∷ kinds rs))) w);
    }

none_of : (t : ℕ → Bool) (rs : List Rec) → ((k : ℕ) → Stands k (kinds rs) → t k ≡ false)
    → AllByRecursion (λ r. t r.kind ≡ false) rs
none_of t [] h = tt
none_of t (r ∷ rs) h = (h r.kind (inl refl), none_of t rs (λ k s. h k (inr s)))

unlike_at : (b : Bool) (k j : ℕ) → k == j ≡ b → (k ≡ j → ⊥) → k == j ≡ false
unlike_at true k j e h = absurd (h (type_same k j e))
unlike_at false k j e h = e

pub unlike : (k j : ℕ) → (k ≡ j → ⊥) → k == j ≡ false
unlike k j h = unlike_at (k == j) k j refl h

-- a type that no element has isn't among its records
pub piece_lacks : (piece : List Rec) (j : ℕ) → IsPiece piece → opens j ≡ false → has after_opener j ≡ false
    → AllByRecursion (λ r. r.kind == j ≡ false) piece
piece_lacks piece j p o n =
    let first : p.first.kind == j ≡ false =
    unlike p.first.kind j (λ e. (let z : false ≡ true = sym o ∙ sym (ap opens e) ∙ begins_open p.first.kind
    (kinds p.rest) p.begun in cc)) in
    let rest =
    none_of (λ k. k == j) p.rest (λ k s. unlike k j (λ e. stands_not p.first.kind j (kinds p.rest) n p.begun
    (subst (λ i. Stands i (kinds p.rest)) e s))) in
    subst (AllByRecursion (λ r. r.kind == j ≡ false)) (sym p.parts) (first, rest)

-- the records of an element are the last piece by their opener
pub opener_piece : (before piece : List Rec) → IsPiece piece
    → pieces is_opener (before ++ piece) ≡ pieces is_opener before ++ piece ∷ []
opener_piece before piece p =
    let rest : AllByRecursion (λ r. is_opener r ≡ false) p.rest =
    none_of opens p.rest (λ k s. opens_first p.first.kind k (kinds p.rest) p.begun s) in
    subst (λ l. pieces is_opener (before ++ l) ≡ pieces is_opener before ++ l ∷ []) (sym p.parts)
    (pieces_next is_opener before p.first p.rest (begins_open p.first.kind (kinds p.rest) p.begun) rest)

pub last_opened : (before piece : List Rec) → IsPiece piece → last_piece is_opener (before ++ piece) ≡ piece
last_opened before piece p =
    ap last_list (opener_piece before piece p) ∙ last_list-append (pieces is_opener before) piece

-- and are within the last structure
pub structure_piece : (before piece : List Rec) → IsPiece piece
    → pieces (is_type bgnstr) (before ++ piece) ≡ on_last (λ s. s ++ piece) (pieces (is_type bgnstr) before)
structure_piece before piece p = pieces_within (is_type bgnstr) before piece (piece_lacks piece bgnstr p refl refl)

-- records of other types don't change what is looked up
pub field_past : (j : ℕ) (rs ys : List Rec) → AllByRecursion (λ r. r.kind == j ≡ false) ys
    → field j (rs ++ ys) ≡ field j rs
field_past j rs [] h = ap (field j) (append-nil rs)
field_past j rs (y ∷ ys) h =
    ap (field j) (sym (append_assoc rs (y ∷ []) ys)) ∙ field_past j (rs ++ y ∷ []) ys h.1 ∙ field_there j rs y h.0
