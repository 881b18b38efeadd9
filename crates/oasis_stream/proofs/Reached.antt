-- The state of a reader of ids decides which record may come next, and can be updated with each record.
use Rattle.std.proofs.Common.{◌||◌, ◌≡◌, ℕ, ◌+◌, Bool, true, false, List, [], ◌∷◌, ◌++◌, length, refl, sym, ap, ◌∙◌}
use Rattle.std.proofs.Common.{arith}
use Rattle.std.proofs.Common.{length-append}
use Rattle.std.specs.Prelude.{flat_map, nat_lt, min, is_some, is_none, if◌then◌else◌}
use Rattle.std.proofs.lemmas.Bool.{ltb-true, ltb-false}
use Rattle.std.proofs.lemmas.List.{flat_map_more}
use Rattle.oasis_records.specs.declared.cell.CellName.{CellName as AName}
use Rattle.oasis_records.specs.declared.record.Record.{Record}
use Rattle.oasis_records.specs.declared.record.Record.TheVariants.{Pad, Start, End, CellName, Cell, XyAbsolute}
use Rattle.oasis_records.specs.declared.record.Record.TheVariants.{XyRelative, Placement, Rectangle, Polygon, Path}
use Rattle.oasis_records.specs.declared.record.Record.TheVariants.{Entry, Text, Property, Block}
use Rattle.oasis_stream.specs.Order.{last_or, opens, flags, name_in, names_in, cell_in, cells_in, in_cell}
use Rattle.oasis_stream.specs.Order.{at_end, any_numbered, any_unnumbered}
use Rattle.oasis_stream.specs.declared.order.Order.{Order}
use Rattle.oasis_stream.specs.inside.Reached.{most_counted, are_none, HasReached, order, passed}

-- what one more record adds

pub flat_map-snoc : {A B : Type 0} (f : A → List B) (xs : List A) (x : A)
    → flat_map f (xs ++ x ∷ []) ≡ flat_map f xs ++ f x
flat_map-snoc f xs x = sym (flat_map_more f [] xs x)

pub last_or-append : {A : Type 0} (d : A) (xs ys : List A) → last_or d (xs ++ ys) ≡ last_or (last_or d xs) ys
last_or-append d [] ys = refl
last_or-append d (x ∷ xs) ys = last_or-append x xs ys

or_assoc : (a b c : Bool) → ((a || b) || c) ≡ (a || (b || c))
or_assoc true b c = refl
or_assoc false b c = refl

numbered-append : (xs ys : List AName) → any_numbered (xs ++ ys) ≡ (any_numbered xs || any_numbered ys)
numbered-append [] ys = refl
numbered-append (x ∷ xs) ys =
    ap (λ b. is_some x.number || b) (numbered-append xs ys)
    ∙ sym (or_assoc (is_some x.number) (any_numbered xs) (any_numbered ys))

unnumbered-append : (xs ys : List AName) → any_unnumbered (xs ++ ys) ≡ (any_unnumbered xs || any_unnumbered ys)
unnumbered-append [] ys = refl
unnumbered-append (x ∷ xs) ys =
    ap (λ b. is_none x.number || b) (unnumbered-append xs ys)
    ∙ sym (or_assoc (is_none x.number) (any_unnumbered xs) (any_unnumbered ys))

or_false : (a : Bool) → (a || false) ≡ a
or_false true = refl
or_false false = refl

none_snoc : (rs : List Record) (r : Record) → are_none (rs ++ r ∷ []) ≡ false
none_snoc [] r = refl
none_snoc (x ∷ xs) r = refl

in_cell_on : (rs : List Record) (r : Record) → in_cell (rs ++ r ∷ []) ≡ last_or (in_cell rs) (opens r)
in_cell_on rs r =
    ap (λ l. last_or false l) (flat_map-snoc opens rs r) ∙ last_or-append false (flat_map opens rs) (opens r)

at_end_on : (rs : List Record) (r : Record) → at_end (rs ++ r ∷ []) ≡ last_or (at_end rs) (flags r)
at_end_on rs r =
    ap (λ l. last_or false l) (flat_map-snoc flags rs r) ∙ last_or-append false (flat_map flags rs) (flags r)

cells_on : (rs : List Record) (r : Record) → length (cells_in (rs ++ r ∷ [])) ≡ length (cells_in rs) + length
    (cell_in r)
cells_on rs r = ap length (flat_map-snoc cell_in rs r) ∙ length-append (cells_in rs) (cell_in r)

numbered_on : (rs : List Record) (r : Record)
    → any_numbered (names_in (rs ++ r ∷ [])) ≡ (any_numbered (names_in rs) || any_numbered (name_in r))
numbered_on rs r = ap any_numbered (flat_map-snoc name_in rs r) ∙ numbered-append (names_in rs) (name_in r)

unnumbered_on : (rs : List Record) (r : Record)
    → any_unnumbered (names_in (rs ++ r ∷ [])) ≡ (any_unnumbered (names_in rs) || any_unnumbered (name_in r))
unnumbered_on rs r = ap any_unnumbered (flat_map-snoc name_in rs r) ∙ unnumbered-append (names_in rs) (name_in r)

-- the state after one more record, by what it adds
after_record : (o : Order) (rs : List Record) (r : Record) (cell : Bool) (cells : ℕ) (numbered unnumbered ends : Bool)
    → HasReached o rs
    → cell ≡ last_or o.in_cell (opens r) → cells ≡ min (length (cells_in rs) + length (cell_in r)) most_counted
    → numbered ≡ (o.has_numbered || any_numbered (name_in r))
    → unnumbered ≡ (o.has_unnumbered || any_unnumbered (name_in r))
    → ends ≡ last_or o.has_offsets_at_end (flags r) → HasReached (order cell cells numbered unnumbered ends)
    (rs ++ r ∷ [])
after_record o rs r cell cells numbered unnumbered ends h a b c d e = record {
  fresh = sym (none_snoc rs r);
  in_cell = a ∙ ap (λ i. last_or i (opens r)) h.in_cell ∙ sym (in_cell_on rs r);
  cells = b ∙ ap (λ i. min i most_counted) (sym (cells_on rs r));
  numbered = c ∙ ap (λ i. i || any_numbered (name_in r)) h.numbered ∙ sym (numbered_on rs r);
  unnumbered = d ∙ ap (λ i. i || any_unnumbered (name_in r)) h.unnumbered ∙ sym (unnumbered_on rs r);
  at_end = e ∙ ap (λ i. last_or i (flags r)) h.at_end ∙ sym (at_end_on rs r);
}

counted_if : (b : Bool) (n c : ℕ) → nat_lt c most_counted ≡ b → c ≡ min n most_counted
    → (if b then c + 1 else c) ≡ min (n + 1) most_counted
counted_if true n c t h = omega (arith, ltb-true c most_counted t, h)
counted_if false n c t h = omega (arith, ltb-false c most_counted t, h)

-- the count stays at the limit
counted : (n c : ℕ) → c ≡ min n most_counted → (if nat_lt c most_counted then c + 1 else c) ≡ min (n + 1) most_counted
counted n c h = counted_if (nat_lt c most_counted) n c refl h

same_count : (n c : ℕ) → c ≡ min n most_counted → c ≡ min (n + 0) most_counted
same_count n c h = omega (arith, h)

-- a record that neither opens nor ends a cell, and is neither START nor a name
after_other : (o : Order) (rs : List Record) (r : Record) → HasReached o rs → opens r ≡ [] → flags r ≡ []
    → name_in r ≡ [] → cell_in r ≡ []
    → HasReached (order o.in_cell o.cells o.has_numbered o.has_unnumbered o.has_offsets_at_end) (rs ++ r ∷ [])
after_other o rs r h opens_none flags_none no_name no_cell =
    after_record o rs r o.in_cell o.cells o.has_numbered o.has_unnumbered o.has_offsets_at_end h
    (ap (λ l. last_or o.in_cell l) (sym opens_none))
    (same_count (length (cells_in rs)) o.cells h.cells ∙ ap (λ l. min (length (cells_in rs) + length l) most_counted)
    (sym no_cell))
    (sym (or_false o.has_numbered) ∙ ap (λ l. o.has_numbered || any_numbered l) (sym no_name))
    (sym (or_false o.has_unnumbered) ∙ ap (λ l. o.has_unnumbered || any_unnumbered l) (sym no_name))
    (ap (λ l. last_or o.has_offsets_at_end l) (sym flags_none))

-- the state is that after each record
pub law_passed : (o : Order) (rs : List Record) (r : Record) → HasReached o rs → HasReached (passed o r) (rs ++ r ∷ [])
law_passed o rs (Start s) h =
    after_record o rs (Start s) o.in_cell o.cells o.has_numbered o.has_unnumbered s.has_offsets_at_end h refl
    (same_count (length (cells_in rs)) o.cells h.cells) (sym (or_false o.has_numbered))
    (sym (or_false o.has_unnumbered)) refl
law_passed o rs (CellName c) h =
    after_record o rs (CellName c) false o.cells (o.has_numbered || is_some c.number)
    (o.has_unnumbered || is_none c.number) o.has_offsets_at_end h refl
    (same_count (length (cells_in rs)) o.cells h.cells)
    (ap (λ i. o.has_numbered || i) (sym (or_false (is_some c.number))))
    (ap (λ i. o.has_unnumbered || i) (sym (or_false (is_none c.number)))) refl
law_passed o rs (Cell c) h =
    after_record o rs (Cell c) true (if nat_lt o.cells most_counted then o.cells + 1 else o.cells) o.has_numbered
    o.has_unnumbered o.has_offsets_at_end h refl
    (counted (length (cells_in rs)) o.cells h.cells) (sym (or_false o.has_numbered)) (sym (or_false o.has_unnumbered))
    refl
law_passed o rs Entry h =
    after_record o rs Entry false o.cells o.has_numbered o.has_unnumbered o.has_offsets_at_end h refl
    (same_count (length (cells_in rs)) o.cells h.cells) (sym (or_false o.has_numbered))
    (sym (or_false o.has_unnumbered)) refl
law_passed o rs (Text p) h = after_other o rs (Text p) h refl refl refl refl
law_passed o rs Property h = after_other o rs Property h refl refl refl refl
law_passed o rs (Block p) h = after_other o rs (Block p) h refl refl refl refl
law_passed o rs Pad h = after_other o rs Pad h refl refl refl refl
law_passed o rs (End v) h = after_other o rs (End v) h refl refl refl refl
law_passed o rs XyAbsolute h = after_other o rs XyAbsolute h refl refl refl refl
law_passed o rs XyRelative h = after_other o rs XyRelative h refl refl refl refl
law_passed o rs (Placement p) h = after_other o rs (Placement p) h refl refl refl refl
law_passed o rs (Rectangle p) h = after_other o rs (Rectangle p) h refl refl refl refl
law_passed o rs (Polygon p) h = after_other o rs (Polygon p) h refl refl refl refl
law_passed o rs (Path p) h = after_other o rs (Path p) h refl refl refl refl
