-- The parts of a line, and where it ends.
use Rattle.std.proofs.Common.{◌≡◌, ◌==◌, ◌∙◌, ◌||◌, ◌+◌, ◌≤◌, ℕ, Bool, true, false, cond, not, refl, sym, ap, subst, List, suc}
use Rattle.std.proofs.Common.{eqb-true, length-append}
use Rattle.std.proofs.Common.{[], ◌∷◌, ◌++◌, length, take, drop, arith, append_assoc, get_or, Some}
use Rattle.std.specs.Prelude.{nat_lt, string_bytes}
use Rattle.std.specs.List.{list_all, list_any, position, position_or_len}
use Rattle.std.proofs.lemmas.Bool.{and_parts}
use Rattle.std.proofs.lemmas.List.Folds.{list_all-append, list_any-append}
use Rattle.std.proofs.lemmas.List.{append-nil}
use Rattle.std.proofs.lemmas.Grind.{flat_map-append}
use Rattle.std.proofs.lemmas.List.Quantifiers.{position-Some}
use Rattle.std.proofs.Math.Seq.{drop-append_seam, split_at, take-append_seam}
use Rattle.lvl_list.specs.List.{backslash, entry_front, entry_text, escaped, escaped_byte, is_digest, is_digit}
use Rattle.lvl_list.specs.List.{have_digests, is_special, line_feed, line_of, lines_of, mark, space}
use Rattle.lvl_list.specs.declared.entry.Entry.{Entry}
use Rattle.lvl_list.specs.inside.Read.{is_marked, unmarked}

-- ---- the digits

module _ (text digits rest : List ℕ) (is : is_digest digits ≡ true) (parts : text ≡ digits ++ space ∷ space ∷ rest) where
  digits_length : length digits ≡ 64
  digits_length = eqb-true _ _ (and_parts _ _ is).0

  -- a text with digits is cut at their number
  pub cut_digits : take 64 text ≡ digits
  cut_digits =
      subst (λ n. take n text ≡ digits) digits_length
      (subst (λ l. take (length digits) l ≡ digits) (sym parts) (take-append_seam digits (space ∷ space ∷ rest)))

  pub cut_rest : drop 64 text ≡ space ∷ space ∷ rest
  cut_rest =
      subst (λ n. drop n text ≡ space ∷ space ∷ rest) digits_length
      (subst (λ l. drop (length digits) l ≡ space ∷ space ∷ rest) (sym parts)
      (drop-append_seam digits (space ∷ space ∷ rest)))

  pub long_enough : 64 ≤ length text
  long_enough = subst (λ l. 64 ≤ length l) (sym parts) (omega (arith, length-append digits (space ∷ space ∷ rest), digits_length))

-- a text has only one part after digits
pub same_rest : (text digits rest others left : List ℕ) → is_digest digits ≡ true → is_digest others ≡ true
    → text ≡ digits ++ space ∷ space ∷ rest → text ≡ others ++ space ∷ space ∷ left → rest ≡ left
same_rest text digits rest others left is too parts again =
    ap (drop 2) (sym (cut_rest text digits rest is parts) ∙ cut_rest text others left too again)

-- ---- the mark

-- of a line, the mark and the rest
pub line_parts : (line digits name : List ℕ) → is_digest digits ≡ true → line ≡ entry_front digits name
    → (is_marked line ≡ list_any is_special name) × (unmarked line ≡ digits ++ space ∷ space ∷ escaped name)
line_parts line digits name is parts =
    subst (λ l. (is_marked l ≡ list_any is_special name) × (unmarked l ≡ digits ++ space ∷ space ∷ escaped name))
    (sym parts) (go (list_any is_special name) digits is)
  where
    no_mark : (d : ℕ) → is_digit d ≡ true → (d == backslash) ≡ false
    no_mark d e = grind arith

    go : (b : Bool) (digits : List ℕ) → is_digest digits ≡ true
        → (is_marked (cond b (backslash ∷ []) [] ++ digits ++ space ∷ space ∷ escaped name) ≡ b)
        × (unmarked (cond b (backslash ∷ []) [] ++ digits ++ space ∷ space ∷ escaped name)
        ≡ digits ++ space ∷ space ∷ escaped name)
    go true digits is = (refl, refl)
    go false [] is = cc
    go false (d ∷ ds) is =
        let plain = no_mark d (and_parts _ _ (and_parts _ _ is).1).0 in
        (plain, ap (λ (b : Bool). cond b (ds ++ space ∷ space ∷ escaped name) (d ∷ ds ++ space ∷ space ∷ escaped name)) plain)

-- ---- the end of a line

abbrev pub is_feed : ℕ → Bool
is_feed byte = byte == line_feed

no_feed_digit : (d : ℕ) {b : Bool} → is_digit d ≡ true → b ≡ false → (is_feed d || b) ≡ false
no_feed_digit d e h = grind (arith, e, h)

no_feed_digits : (digits : List ℕ) → list_all is_digit digits ≡ true → list_any is_feed digits ≡ false
no_feed_digits [] e = refl
no_feed_digits (d ∷ ds) e =
    let parts = and_parts _ _ e in
    no_feed_digit d parts.0 (no_feed_digits ds parts.1)

no_feed_byte : (b : ℕ) → list_any is_feed (escaped_byte b) ≡ false
no_feed_byte b = go (b == 92) (b == 10) refl (b == 13)
  where
    go : (x y : Bool) → (b == 10) ≡ y → (z : Bool)
        → list_any is_feed (cond x (92 ∷ 92 ∷ []) (cond y (92 ∷ 110 ∷ []) (cond z (92 ∷ 114 ∷ []) (b ∷ [])))) ≡ false
    go true y e z = refl
    go false true e z = refl
    go false false e true = refl
    go false false e false = rw e refl

neither : (a b : Bool) → a ≡ false → b ≡ false → (a || b) ≡ false
neither true b e h = cc
neither false b e h = h

none_in : (xs ys : List ℕ) → list_any is_feed xs ≡ false → list_any is_feed ys ≡ false
    → list_any is_feed (xs ++ ys) ≡ false
none_in xs ys e h = list_any-append is_feed xs ys ∙ neither _ _ e h

no_feed_name : (name : List ℕ) → list_any is_feed (escaped name) ≡ false
no_feed_name [] = refl
no_feed_name (b ∷ bs) =
    none_in (escaped_byte b) (escaped bs) (no_feed_byte b) (no_feed_name bs)

no_feed_mark : (b : Bool) → list_any is_feed (cond b (backslash ∷ []) []) ≡ false
no_feed_mark true = refl
no_feed_mark false = refl

-- a line has no line feed before its end
pub no_feed : (digits name : List ℕ) → is_digest digits ≡ true → list_any is_feed (entry_front digits name) ≡ false
no_feed digits name is =
    none_in (mark name ++ digits) (space ∷ space ∷ escaped name)
    (none_in (mark name) digits (no_feed_mark (list_any is_special name)) (no_feed_digits digits (and_parts _ _ is).1))
    (no_feed_name name)

feed_after : (xs more : List ℕ) → list_any is_feed xs ≡ false
    → position_or_len is_feed (xs ++ line_feed ∷ more) ≡ length xs
feed_after [] more e = refl
feed_after (x ∷ xs) more e = go (is_feed x) (feed_after xs more) e
  where
    go : (b : Bool) → (list_any is_feed xs ≡ false → position_or_len is_feed (xs ++ line_feed ∷ more) ≡ length xs)
        → (b || list_any is_feed xs) ≡ false
        → cond (not b) (1 + position_or_len is_feed (xs ++ line_feed ∷ more)) 0 ≡ suc (length xs)
    go true later e = cc
    go false later e = omega (arith, later e)

-- the first line feed is that after a line that has none
pub feed_at : (xs more : List ℕ) → list_any is_feed xs ≡ false
    → position is_feed (xs ++ line_feed ∷ more) ≡ Some (length xs)
feed_at xs more e =
    let is = feed_after xs more e in
    let within : nat_lt (length xs) (length (xs ++ line_feed ∷ more)) ≡ true = grind (arith, length-append) in
    rw (is, within) refl

-- a line and its line feed
pub entry_whole : (digits name more : List ℕ)
    → entry_text digits name ++ more ≡ entry_front digits name ++ line_feed ∷ more
entry_whole digits name more = append_assoc (entry_front digits name) (line_feed ∷ []) more

-- a line is cut at its line feed
cut_line : (text : List ℕ) (n : ℕ) → Some n ≡ position is_feed text
    → text ≡ take n text ++ line_feed ∷ drop (n + 1) text
cut_line text n e =
    let at = position-Some is_feed text n 0 (sym e) in
    let feed : get_or text n 0 ≡ line_feed = eqb-true _ _ at.1 in
    let next : suc n ≡ n + 1 = omega arith in
    split_at text n 0 at.0 ∙ ap (λ b. take n text ++ b ∷ drop (suc n) text) feed
    ∙ ap (λ k. take n text ++ line_feed ∷ drop k text) next

-- the lines of the entries so far, and one line more
pub list_grows : (text rest after : List ℕ) (before more : List Entry) (e : Entry) (n : ℕ) → text ≡ lines_of before ++ rest
    → Some n ≡ position is_feed rest → take n rest ≡ entry_front e.digits.items (string_bytes e.name)
    → after ≡ drop (n + 1) rest → more ≡ before ++ e ∷ [] → text ≡ lines_of more ++ after
list_grows text rest after before more e n parts found read left is =
    parts
    ∙ ap (λ l. lines_of before ++ l) (cut_line rest n found ∙ ap (λ l. l ++ line_feed ∷ drop (n + 1) rest) read
    ∙ ap (λ l. entry_front e.digits.items (string_bytes e.name) ++ line_feed ∷ l) (sym left)
    ∙ sym (append_assoc (entry_front e.digits.items (string_bytes e.name)) (line_feed ∷ []) after))
    ∙ sym (append_assoc (lines_of before) (line_of e) after)
    ∙ ap (λ l. l ++ after) (ap (λ l. lines_of before ++ l) (sym (append-nil (line_of e)))
    ∙ sym (flat_map-append line_of before (e ∷ []))) ∙ ap (λ l. lines_of l ++ after) (sym is)

-- each entry so far has a digest, and one more
pub digests_grow : (before more : List Entry) (e : Entry) → have_digests before ≡ true
    → is_digest e.digits.items ≡ true → more ≡ before ++ e ∷ [] → have_digests more ≡ true
digests_grow before more e digests is grown =
    ap have_digests grown ∙ list_all-append has_digest before (e ∷ []) ∙ rw (digests, is) refl
  where
    has_digest : Entry → Bool
    has_digest e = is_digest e.digits.items

-- the first line of a text, if it is that of a file, ends at the first line feed
pub first_line : (rest digits name more : List ℕ) → is_digest digits ≡ true → rest ≡ entry_text digits name ++ more
    → position is_feed rest ≡ Some (length (entry_front digits name))
first_line rest digits name more is e =
    ap (position is_feed) (e ∙ entry_whole digits name more)
    ∙ feed_at (entry_front digits name) more (no_feed digits name is)

pub first_front : (rest digits name more : List ℕ) (n : ℕ) → is_digest digits ≡ true
    → rest ≡ entry_text digits name ++ more → Some n ≡ position is_feed rest → take n rest ≡ entry_front digits name
first_front rest digits name more n is e found =
    let at : n ≡ length (entry_front digits name) =
    (let both : Some n ≡ Some (length (entry_front digits name)) = found ∙ first_line rest digits name more is e in cc) in
    ap (λ k. take k rest) at ∙ ap (take (length (entry_front digits name))) (e ∙ entry_whole digits name more)
    ∙ take-append_seam (entry_front digits name) (line_feed ∷ more)

pub not_empty : (l : List ℕ) → (length l == 0) ≡ false → l ≡ [] → ⊥
not_empty [] e is = cc
not_empty (x ∷ xs) e is = cc
