-- A whole file, by the definitions: the 168 bytes of a square of ten steps spell one library and no other.
use Rattle.std.proofs.Common.{◌≡◌, ◌==◌, ℕ, ◌≤◌, ◌%◌, false, List, [], ◌∷◌, ◌++◌, length, take, drop, All}
use Rattle.std.proofs.Common.{◌+◌, Some, true, nat_lt, nat_le, pos, inl, inr, refl, arith}
use Rattle.std.specs.List.{AllByRecursion, flat_map}
use Rattle.std.proofs.lemmas.Int.{ints}
use Rattle.std.proofs.lemmas.Bool.{ltb-true, leb-true}
use Rattle.std.proofs.lemmas.List.Elements.{All-nil, All-cons}
use Rattle.lvl_grid.specs.declared.point.Point.{Point}
use Rattle.lvl_grid.specs.Winding.{IsStraight}
use Rattle.lvl_path.specs.Figure.{rings}
use Rattle.lvl_grammar.specs.Front.{SpellsAll, FollowAll}
use Rattle.lvl_grammar.specs.Order.{IsWord, Begins}
use Rattle.lvl_names.specs.Names.{IsName}
use Rattle.lvl_profile.specs.Profiles.{strict}
use Rattle.gds_records.specs.Table.{form_of}
use Rattle.gds_records.specs.Spelled.{IsOfForm}
use Rattle.gds_elements.specs.Types.{boundary, strname, bgnstr, layer, datatype, xy}
use Rattle.gds_elements.specs.Order.{an_element}
use Rattle.gds_elements.specs.Rec.{Rec, kinds, opener, is_opener}
use Rattle.gds_elements.specs.Values.{points}
use Rattle.gds_elements.specs.Rules.{steps, ValueBreaches}
use Rattle.gds_elements.specs.declared.fault.ElementRule.{ElementRule}
use Rattle.gds_elements.proofs.Allowed.{allowed, law_boundary}
use Rattle.gds_elements.proofs.OneRule.{is_value}
use Rattle.gds_library.specs.Order.{a_library}
use Rattle.gds_library.specs.Rec.{Spells, last_piece}
use Rattle.gds_library.specs.Rules.{MayFollow}
use Rattle.gds_library.specs.Ignoring.{essential, AwaitsValue, MayFollowBy}
use Rattle.gds_library.proofs.Passing.{follows_essential}
use Rattle.gds_library.specs.Drawn.{Drawing}
use Rattle.gds_library.specs.Front.{gds, SpellsLibrary}
use Rattle.gds_library.specs.declared.head.GdsHead.{GdsHead}
use Rattle.gds_library.proofs.Readable.{law_only}
use Rattle.gds_library.proofs.Refusing.{is_not}
use Rattle.gds_library.proofs.Steps.{may_follow, may_follow_inside}
use Rattle.gds_library.proofs.Vectors.{rec, accepted}
use Rattle.lvl_profile.specs.declared.profile.Profile.{Profile}

-- twelve numbers of two bytes, all of them 0
abbrev dates : List ℕ
dates = 0 ∷ 0 ∷ 0 ∷ 0 ∷ 0 ∷ 0 ∷ 0 ∷ 0 ∷ 0 ∷ 0 ∷ 0 ∷ 0 ∷ 0 ∷ 0 ∷ 0 ∷ 0 ∷ 0 ∷ 0 ∷ 0 ∷ 0 ∷ 0 ∷ 0 ∷ 0 ∷ 0 ∷ []

-- the points (0, 0), (10, 0), (10, 10), (0, 10) and (0, 0)
abbrev corners : List ℕ
corners =
    0 ∷ 0 ∷ 0 ∷ 0 ∷ 0 ∷ 0 ∷ 0 ∷ 0 ∷ 0 ∷ 0 ∷ 0 ∷ 10 ∷ 0 ∷ 0 ∷ 0 ∷ 0 ∷ 0 ∷ 0 ∷ 0 ∷ 10 ∷ 0 ∷ 0 ∷ 0 ∷ 10
    ∷ 0 ∷ 0 ∷ 0 ∷ 0 ∷ 0 ∷ 0 ∷ 0 ∷ 10 ∷ 0 ∷ 0 ∷ 0 ∷ 0 ∷ 0 ∷ 0 ∷ 0 ∷ 0 ∷ []

abbrev ones : List ℕ
ones = 0x41 ∷ 0x10 ∷ 0 ∷ 0 ∷ 0 ∷ 0 ∷ 0 ∷ 0 ∷ 0x41 ∷ 0x10 ∷ 0 ∷ 0 ∷ 0 ∷ 0 ∷ 0 ∷ 0 ∷ []

-- the file
abbrev file : List ℕ
file =
    (0x00 ∷ 0x06 ∷ 0x00 ∷ 0x02 ∷ 0x02 ∷ 0x58 ∷ [])
    ++ (0x00 ∷ 0x1C ∷ 0x01 ∷ 0x02 ∷ dates)
    ++ (0x00 ∷ 0x06 ∷ 0x02 ∷ 0x06 ∷ 0x4C ∷ 0x42 ∷ [])
    ++ (0x00 ∷ 0x14 ∷ 0x03 ∷ 0x05 ∷ ones)
    ++ (0x00 ∷ 0x1C ∷ 0x05 ∷ 0x02 ∷ dates)
    ++ (0x00 ∷ 0x08 ∷ 0x06 ∷ 0x06 ∷ 0x54 ∷ 0x4F ∷ 0x50 ∷ 0x00 ∷ [])
    ++ (0x00 ∷ 0x04 ∷ 0x08 ∷ 0x00 ∷ [])
    ++ (0x00 ∷ 0x06 ∷ 0x0D ∷ 0x02 ∷ 0x00 ∷ 0x01 ∷ [])
    ++ (0x00 ∷ 0x06 ∷ 0x0E ∷ 0x02 ∷ 0x00 ∷ 0x00 ∷ [])
    ++ (0x00 ∷ 0x2C ∷ 0x10 ∷ 0x03 ∷ corners)
    ++ (0x00 ∷ 0x04 ∷ 0x11 ∷ 0x00 ∷ [])
    ++ (0x00 ∷ 0x04 ∷ 0x07 ∷ 0x00 ∷ [])
    ++ (0x00 ∷ 0x04 ∷ 0x04 ∷ 0x00 ∷ [])

file_length : length file ≡ 168
file_length = refl

-- its records
abbrev square : List Rec
square =
    rec 0x00 2 (2 ∷ 0x58 ∷ []) ∷ rec 0x01 2 dates ∷ rec 0x02 6 (0x4C ∷ 0x42 ∷ []) ∷ rec 0x03 5 ones ∷ rec 0x05 2 dates
    ∷ rec 0x06 6 (0x54 ∷ 0x4F ∷ 0x50 ∷ 0 ∷ []) ∷ rec 0x08 0 [] ∷ rec 0x0D 2 (0 ∷ 1 ∷ []) ∷ rec 0x0E 2 (0 ∷ 0 ∷ [])
    ∷ rec 0x10 3 corners ∷ rec 0x11 0 [] ∷ rec 0x07 0 [] ∷ rec 0x04 0 [] ∷ []

-- a record of fewer than 256 bytes with an allowed form
record IsShort (r : Rec) : Type 0 where
  few : nat_lt (4 + length r.payload) 256 ≡ true
  even : (4 + length r.payload) % 2 ≡ 0
  kind : nat_lt r.kind 60 ≡ true
  data_type : nat_lt r.data_type 7 ≡ true
  form : IsOfForm (form_of strict.ignore r.kind) r.data_type (length r.payload)

abbrev spelling : Rec → List ℕ
spelling r = 0 ∷ (4 + length r.payload) ∷ r.kind ∷ r.data_type ∷ r.payload

short_spelled : (r : Rec) → IsShort r → Spells strict (spelling r) r
short_spelled r s =
    let few = ltb-true (4 + length r.payload) 256 s.few in
    inl (
      record {
        fits = omega (arith, few);
        even = λ e. omega (arith, s.even, e);
        known = ltb-true r.kind 60 s.kind;
        data_type = ltb-true r.data_type 7 s.data_type;
        form = s.form;
      },
      record { high = 0; low = 4 + length r.payload; byte = few; len = omega arith; bytes_are = refl },
    )

all_spelled : (before rs : List Rec) → AllByRecursion IsShort rs
    → SpellsAll (gds strict) before (flat_map spelling rs) rs
all_spelled before [] p = refl
all_spelled before (r ∷ rs) p =
    (spelling r, flat_map spelling rs, short_spelled r p.0, all_spelled (before ++ r ∷ []) rs p.1, refl)

by_form : (r : Rec) → nat_lt (4 + length r.payload) 256 ≡ true → (4 + length r.payload) % 2 ≡ 0
    → nat_lt r.kind 60 ≡ true
    → nat_lt r.data_type 7 ≡ true → IsOfForm (form_of strict.ignore r.kind) r.data_type (length r.payload) → IsShort r
by_form r few even kind data_type form =
    record { few = few; even = even; kind = kind; data_type = data_type; form = form }

short_ends : AllByRecursion IsShort (drop 10 square)
short_ends = (
  by_form (rec 0x11 0 []) refl refl refl refl (refl, refl),
  (
    by_form (rec 0x07 0 []) refl refl refl refl (refl, refl),
    (by_form (rec 0x04 0 []) refl refl refl refl (refl, refl), tt),
  ),
)

short_element : AllByRecursion IsShort (drop 6 square)
short_element = (
  by_form (rec 0x08 0 []) refl refl refl refl (refl, refl),
  (
    by_form (rec 0x0D 2 (0 ∷ 1 ∷ [])) refl refl refl refl
        (refl, refl),
    (
      by_form (rec 0x0E 2 (0 ∷ 0 ∷ [])) refl refl refl refl (refl, refl),
      (by_form (rec 0x10 3 corners) refl refl refl refl (refl, (leb-true 8 40 refl, refl)), short_ends),
    ),
  ),
)

short_heads : AllByRecursion IsShort square
short_heads = (
  by_form (rec 0x00 2 (2 ∷ 0x58 ∷ [])) refl refl refl refl (refl, refl),
  (
    by_form (rec 0x01 2 dates) refl refl refl refl (refl, refl),
    (
      by_form (rec 0x02 6 (0x4C ∷ 0x42 ∷ [])) refl refl
          refl refl (refl, refl),
      (
        by_form (rec 0x03 5 ones) refl refl refl refl (refl, refl),
        (
          by_form (rec 0x05 2 dates) refl refl refl refl (refl, refl),
          (by_form (rec 0x06 6 (0x54 ∷ 0x4F ∷ 0x50 ∷ 0 ∷ [])) refl refl refl refl (refl, refl), short_element),
        ),
      ),
    ),
  ),
)

spelled : SpellsAll (gds strict) [] file square
spelled = all_spelled [] square short_heads

word : IsWord a_library (kinds square)
word = elim (accepted (a_library ∷ []) (kinds square) refl) [ inl x ↦ x | inr y ↦ absurd y ]

-- a record whose value no rule of an element tests, and which neither begins nor names a structure
plain : (profile : Profile) (n : ℕ) (before : List Rec) (r : Rec) → is_value r.kind ≡ false → r.kind == strname ≡ false
    → r.kind == bgnstr ≡ false → IsWord a_library (kinds (before ++ r ∷ []) ++ kinds (drop n square))
    → MayFollow profile before r
plain profile n before r v s b w =
    may_follow profile before r v (kinds (drop n square), w) (λ e. absurd (is_not r.kind strname s e))
    (λ e. absurd (is_not r.kind bgnstr b e))

-- a record of the boundary
inside : (profile : Profile) (n : ℕ) (before piece : List Rec) (r : Rec) → last_piece is_opener before ≡ piece
    → opener piece ≡ Some boundary
    → r.kind == strname ≡ false → r.kind == bgnstr ≡ false
    → Begins an_element (kinds (piece ++ r ∷ [])) → ((k : ElementRule) → ValueBreaches profile piece r k → ⊥)
    → IsWord a_library (kinds (before ++ r ∷ []) ++ kinds (drop n square)) → MayFollow profile before r
inside profile n before piece r e o s b g v w =
    may_follow_inside profile before piece r e (allowed profile piece r g v) g (kinds (drop n square), w) s b

-- if nothing is ignored, what may follow is what may follow among the essential records
follows : (before : List Rec) (r : Rec) → MayFollow strict (essential strict before) r → (AwaitsValue before → ⊥)
    → MayFollowBy strict before r
follows before r f w = follows_essential strict before r refl w f

element : IsWord an_element (0x08 ∷ 0x0D ∷ 0x0E ∷ 0x10 ∷ 0x11 ∷ [])
element =
    elim (accepted (an_element ∷ []) (0x08 ∷ 0x0D ∷ 0x0E ∷ 0x10 ∷ 0x11 ∷ []) refl) [ inl x ↦ x | inr y ↦ absurd y ]

abbrev IsLetter : ℕ → Type 0
IsLetter b = (0x21 ≤ b) × (b ≤ 0x7E)

letter : (b : ℕ) → nat_le 0x21 b ≡ true → nat_le b 0x7E ≡ true → IsLetter b
letter b low high = (leb-true 0x21 b low, leb-true b 0x7E high)

top_name : IsName (0x54 ∷ 0x4F ∷ 0x50 ∷ [])
top_name = (
  ltb-true 0 3 refl,
  leb-true 3 255 refl,
  All-cons IsLetter 0x54 (0x4F ∷ 0x50 ∷ []) (letter 0x54 refl refl)
      (All-cons IsLetter 0x4F (0x50 ∷ []) (letter 0x4F refl refl)
      (All-cons IsLetter 0x50 [] (letter 0x50 refl refl) (All-nil IsLetter))),
)

abbrev at : ℕ → ℕ → Point
at x y = record { x = pos x; y = pos y }

straight : All IsStraight (steps (points corners))
straight =
    All-cons IsStraight (at 0 0, at 10 0) ((at 10 0, at 10 10) ∷ (at 10 10, at 0 10) ∷ (at 0 10, at 0 0) ∷ [])
    (inr refl)
    (All-cons IsStraight (at 10 0, at 10 10) ((at 10 10, at 0 10) ∷ (at 0 10, at 0 0) ∷ []) (inl refl)
    (All-cons IsStraight (at 10 10, at 0 10) ((at 0 10, at 0 0) ∷ []) (inr refl)
    (All-cons IsStraight (at 0 10, at 0 0) [] (inl refl) (All-nil IsStraight))))

layer_follows : MayFollow strict (take 7 square) (rec 0x0D 2 (0 ∷ 1 ∷ []))
layer_follows =
    let r = rec 0x0D 2 (0 ∷ 1 ∷ []) in
    inside strict 8 (take 7 square) (rec 0x08 0 [] ∷ []) r refl refl refl refl (0x0E ∷ 0x10 ∷ 0x11 ∷ [], element)
    (law_boundary strict (rec 0x08 0 [] ∷ []) r refl (λ _. omega (arith, ints)) (λ e. absurd
    (is_not 0x0D xy refl e))) word

datatype_follows : MayFollow strict (take 8 square) (rec 0x0E 2 (0 ∷ 0 ∷ []))
datatype_follows =
    let piece = rec 0x08 0 [] ∷ rec 0x0D 2 (0 ∷ 1 ∷ []) ∷ [] in
    let r = rec 0x0E 2 (0 ∷ 0 ∷ []) in
    inside strict 9 (take 8 square) piece r refl refl refl refl (0x10 ∷ 0x11 ∷ [], element)
    (law_boundary strict piece r refl (λ _. omega (arith, ints)) (λ e. absurd (is_not 0x0E xy refl e))) word

points_follow : MayFollow strict (take 9 square) (rec 0x10 3 corners)
points_follow =
    let piece = rec 0x08 0 [] ∷ rec 0x0D 2 (0 ∷ 1 ∷ []) ∷ rec 0x0E 2 (0 ∷ 0 ∷ []) ∷ [] in
    let r = rec 0x10 3 corners in
    inside strict 10 (take 9 square) piece r refl refl refl refl (0x11 ∷ [], element)
    (law_boundary strict piece r refl
    (λ h. absurd (elim h [ inl e ↦ is_not 0x10 layer refl e | inr e ↦ is_not 0x10 datatype refl e ]))
    (λ _. (leb-true 4 5 refl, refl, straight))) word

ends_follow : FollowAll (gds strict) (take 10 square) (drop 10 square)
ends_follow = (
  follows (take 10 square) (rec 0x11 0 []) (plain strict 11 (take 10 square) (rec 0x11 0 []) refl refl refl word)
      (λ w. cc),
  (
    follows (take 11 square) (rec 0x07 0 []) (plain strict 12 (take 11 square) (rec 0x07 0 []) refl refl refl word)
        (λ w. cc),
    (
      follows (take 12 square) (rec 0x04 0 []) (plain strict 13 (take 12 square) (rec 0x04 0 []) refl refl refl word)
          (λ w. cc),
      tt,
    ),
  ),
)

element_follows : FollowAll (gds strict) (take 6 square) (drop 6 square)
element_follows = (
  follows (take 6 square) (rec 0x08 0 []) (plain strict 7 (take 6 square) (rec 0x08 0 []) refl refl refl word)
      (λ w. cc),
  (
    follows (take 7 square) (rec 0x0D 2 (0 ∷ 1 ∷ [])) layer_follows (λ w. cc),
    (
      follows (take 8 square) (rec 0x0E 2 (0 ∷ 0 ∷ [])) datatype_follows (λ w. cc),
      (follows (take 9 square) (rec 0x10 3 corners) points_follow (λ w. cc), ends_follow),
    ),
  ),
)

structure_follows : MayFollow strict (take 4 square) (rec 0x05 2 dates)
structure_follows =
    may_follow strict (take 4 square) (rec 0x05 2 dates) refl (kinds (drop 5 square), word)
    (λ e. absurd (is_not 0x05 strname refl e)) (λ _. ltb-true 0 strict.limits.cells refl)

name_follows : MayFollow strict (take 5 square) (rec 0x06 6 (0x54 ∷ 0x4F ∷ 0x50 ∷ 0 ∷ []))
name_follows =
    may_follow strict (take 5 square) (rec 0x06 6 (0x54 ∷ 0x4F ∷ 0x50 ∷ 0 ∷ [])) refl (kinds (drop 6 square), word)
    (λ _. top_name) (λ e. absurd (is_not 0x06 bgnstr refl e))

followed : FollowAll (gds strict) [] square
followed = (
  follows (take 0 square) (rec 0x00 2 (2 ∷ 0x58 ∷ []))
      (plain strict 1 (take 0 square) (rec 0x00 2 (2 ∷ 0x58 ∷ [])) refl refl refl word) (λ w. cc),
  (
    follows (take 1 square) (rec 0x01 2 dates) (plain strict 2 (take 1 square) (rec 0x01 2 dates) refl refl refl word)
        (λ w. cc),
    (
      follows (take 2 square) (rec 0x02 6 (0x4C ∷ 0x42 ∷ []))
          (plain strict 3 (take 2 square) (rec 0x02 6 (0x4C ∷ 0x42 ∷ [])) refl refl refl word) (λ w. cc),
      (
        follows (take 3 square) (rec 0x03 5 ones) (plain strict 4 (take 3 square) (rec 0x03 5 ones) refl refl refl word)
            (λ w. cc),
        (
          follows (take 4 square) (rec 0x05 2 dates) structure_follows (λ w. cc),
          (
            follows (take 5 square) (rec 0x06 6 (0x54 ∷ 0x4F ∷ 0x50 ∷ 0 ∷ [])) name_follows (λ w. cc),
            element_follows,
          ),
        ),
      ),
    ),
  ),
)

-- the one cell, TOP: a ring on layer 1, datatype 0
abbrev top : Drawing
top = record {
  name = 0x54 ∷ 0x4F ∷ 0x50 ∷ [];
  shapes = record {
    layer = record { layer = 1; datatype = 0 };
    figure =
        rings ((at 0 0 ∷ at 10 0 ∷ at 10 10 ∷ at 0 10 ∷ []) ∷ []);
    shifts = at 0 0 ∷ [];
  } ∷ [];
  references = [];
}

abbrev heading : GdsHead
heading = record { version = pos 600; units = take 8 ones ∷ drop 8 ones ∷ [] }

square_spells : SpellsLibrary strict file (top ∷ []) heading
square_spells = record {
  records = square;
  whole = record {
    front = record { spelled = spelled; followed = followed; within = leb-true 168 strict.limits.file refl };
    whole = word;
  };
  cells_are = refl;
  head_is = refl;
}

square_only : (cells : List Drawing) (h : GdsHead) → SpellsLibrary strict file cells h
    → (cells ≡ top ∷ []) × (h ≡ heading)
square_only cells h p = law_only strict file (top ∷ []) cells heading h square_spells p
