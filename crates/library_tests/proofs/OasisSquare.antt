-- A whole file, computed by the definitions: the 303 bytes of a square of ten steps spell one library and no other.
use Rattle.std.proofs.Common.{◌≡◌, ◌∙◌, ℕ, ◌^◌, Bool, true, false, List, [], ◌∷◌, ◌++◌}
use Rattle.std.proofs.Common.{length, map, All, Option, Some, None, Result, Ok, pos, refl, sym, ap, subst, nat_lt, ◌==◌}
use Rattle.std.proofs.lemmas.Bool.{ltb-true, leb-true}
use Rattle.std.proofs.lemmas.List.{append-nil}
use Rattle.std.proofs.lemmas.List.Elements.{All-nil, All-cons}
use Rattle.lvl_grid.specs.declared.point.Point.{Point}
use Rattle.lvl_grid.specs.Turn.{FitsPoint}
use Rattle.lvl_path.specs.Figure.{Figure, rings}
use Rattle.lvl_grammar.specs.Front.{SpellsAll, FollowAll, SpellsWhole}
use Rattle.lvl_grammar.proofs.Laws.{one_whole}
use Rattle.lvl_cells.specs.Cells.{PlainCell}
use Rattle.lvl_profile.specs.Limits.{standard}
use Rattle.lvl_profile.specs.declared.ignore.Ignore.{Ignore}
use Rattle.lvl_profile.specs.declared.profile.Profile.{Profile}
use Rattle.oasis_values.specs.Known.{among, Known, Seen}
use Rattle.oasis_values.specs.Numbers.{IsByte, IsUnsigned}
use Rattle.oasis_values.specs.Reals.{with_sign, real_types, IsReal, IsRealOf, IsSigned}
use Rattle.oasis_values.specs.Repetitions.{IsRepetition}
use Rattle.oasis_values.specs.Spelling.{Spelling, Then, Chain}
use Rattle.oasis_values.specs.Texts.{IsString}
use Rattle.oasis_values.specs.declared.fault.ValueFault.TheVariants.{RealType as unknown_type}
use Rattle.oasis_values.specs.declared.number.Real.TheVariants.{Whole}
use Rattle.oasis_values.specs.declared.number.RealType.TheVariants.{Whole as OfWhole}
use Rattle.oasis_values.specs.declared.text.Text.TheVariants.{A, N}
use Rattle.oasis_values.specs.Ranges.{is_in_range}
use Rattle.oasis_values.proofs.Ranges.{range_fits}
use Rattle.oasis_records.specs.Cells.{IsCell, IsCellRef}
use Rattle.oasis_records.specs.Ends.{IsPaddingLength, ArePadding, IsScheme, IsSignature, IsEnding, IsEnd}
use Rattle.oasis_records.specs.Ends.{fits, is_whole, IsEndOf}
use Rattle.oasis_records.specs.Fields.{If, on_layer, IsOnLayer, position, IsPosition}
use Rattle.oasis_records.specs.Magic.{magic as magic_string, IsMagic}
use Rattle.oasis_records.specs.Records.{AreFields}
use Rattle.oasis_records.specs.Rectangles.{is_rectangle_info, IsRectangleInfo, IsRectangleOf, IsRectangle, rectangle}
use Rattle.oasis_records.specs.Rules.{AndThen, Must, UnlessRuled}
use Rattle.oasis_records.specs.Sizes.{Sized}
use Rattle.oasis_records.specs.Starts.{is_version, IsVersionText, IsVersion, is_unit, IsUnit, IsFlag, is_here}
use Rattle.oasis_records.specs.Starts.{AreTables}
use Rattle.oasis_records.specs.Starts.{start, IsStartOf, IsStart}
use Rattle.oasis_records.specs.declared.cell.CellRef.TheVariants.{Name}
use Rattle.oasis_records.specs.declared.end.Validation.{Validation}
use Rattle.oasis_records.specs.declared.end.Validation.TheVariants.{Absent}
use Rattle.oasis_records.specs.declared.fault.RecordRule.{RecordRule}
use Rattle.oasis_records.specs.declared.fault.RecordRule.TheVariants.{Version, Unit as NoUnit, Info, EndLength, Scheme}
use Rattle.oasis_records.specs.declared.figure.OnLayer.{OnLayer}
use Rattle.oasis_records.specs.declared.record.Record.{Record}
use Rattle.oasis_records.specs.declared.record.Record.TheVariants.{Start, Cell, Rectangle, End}
use Rattle.oasis_records.specs.declared.record_type.RecordType.{RecordType}
use Rattle.oasis_records.specs.declared.record_type.RecordType.TheVariants.{Start as OfStart, End as OfEnd}
use Rattle.oasis_records.specs.declared.record_type.RecordType.TheVariants.{NamedCell as OfCell}
use Rattle.oasis_records.specs.declared.record_type.RecordType.TheVariants.{Rectangle as OfRectangle}
use Rattle.oasis_figures.specs.Rules.{BreachesNone}
use Rattle.oasis_figures.specs.declared.rule.FigureRule.TheVariants.{Undefined, Layer as WideLayer, OutOfRange}
use Rattle.oasis_figures.specs.declared.rule.FigureRule.TheVariants.{Magnification, Angle, Extension, Oblique, Path}
use Rattle.oasis_stream.specs.Items.{Item, magic, item, records, IsEnded}
use Rattle.oasis_stream.specs.Next.{of_magic, of_record, IsTyped, IsTypedAfter, IsNext}
use Rattle.oasis_stream.specs.Front.{is_block, MayFollow, oasis}
use Rattle.oasis_stream.specs.Order.{at_end, type_after, names_in, last_or}
use Rattle.oasis_stream.specs.Rules.{since_cell, NamingBreaches}
use Rattle.oasis_stream.specs.declared.fault.NameRule.{NameRule}
use Rattle.oasis_stream.proofs.Instance.{is_grammar}
use Rattle.oasis_library.specs.Cells.{drawings}
use Rattle.oasis_library.specs.Head.{head_of}
use Rattle.oasis_library.specs.Library.{SpellsLibrary}
use Rattle.oasis_library.specs.Names.{AreCells}
use Rattle.oasis_library.specs.declared.head.OasisHead.{OasisHead}
use Rattle.oasis_library.proofs.Resolving.{same_cells}
use Rattle.library_tests.proofs.OasisSpelled.{zeros, after, alone, seen, small, wide, zero_integers, zero_bytes, magic_said}
use Rattle.library_tests.proofs.OasisSpelled.{three}

abbrev one : List ℕ
one = 0x31 ∷ 0x2E ∷ 0x30 ∷ []

abbrev name : List ℕ
name = 0x54 ∷ 0x4F ∷ 0x50 ∷ []

-- the fields of the records, after their ids
abbrev of_start : List ℕ
of_start = (3 ∷ one) ++ ((0 ∷ 0xE8 ∷ 7 ∷ []) ++ (0 ∷ []) ++ zeros 12)

abbrev of_cell : List ℕ
of_cell = 3 ∷ name

abbrev of_rectangle : List ℕ
of_rectangle = 0x7B ∷ 1 ∷ 0 ∷ 10 ∷ 10 ∷ 0 ∷ 0 ∷ []

abbrev of_end : List ℕ
of_end = (0xFC ∷ 1 ∷ []) ++ (zeros 252 ++ (0 ∷ []))

-- the file
abbrev file : List ℕ
file = magic_string ++ (1 ∷ of_start) ++ (14 ∷ of_cell) ++ (20 ∷ of_rectangle) ++ (2 ∷ of_end)

file_length : length file ≡ 303
file_length = refl

-- its records
abbrev starting : Record
starting = Start (record { unit = Whole 1000; has_offsets_at_end = false })

abbrev cell : Record
cell = Cell (Name name)

abbrev drawn : Record
drawn = Rectangle (record {
  is_square = false;
  on = record { layer = Some 1; datatype = Some 0 };
  width = Some 10;
  height = Some 10;
  position = record { x = Some (pos 0); y = Some (pos 0); repetition = None };
})

abbrev ending : Record
ending = End Absent

abbrev square : List Item
square = magic ∷ item starting ∷ item cell ∷ item drawn ∷ item ending ∷ []

-- START

version_said : (profile : Profile) → IsVersion profile (3 ∷ one) (Ok (Ok one))
version_said profile =
    alone profile IsVersionText (UnlessRuled (λ text. Must (is_version text) text Version)) (3 ∷ one) (Ok one)
    (Ok (Ok one))
    (seen profile Ok (IsString A 255) (3 ∷ one) one (three profile A one refl refl (refl, (refl, (refl, tt)))))
    (refl, refl)

unit_said : (profile : Profile) → IsUnit profile (0 ∷ 0xE8 ∷ 7 ∷ []) (Ok (Ok (Whole 1000)))
unit_said profile =
    alone profile IsReal (λ u. Must (is_unit u) u NoUnit) (0 ∷ 0xE8 ∷ 7 ∷ []) (Whole 1000) (Ok (Ok (Whole 1000)))
    (after profile IsUnsigned (λ n. Then (Known (among 0 real_types n) unknown_type) IsRealOf) (0 ∷ []) (0xE8 ∷ 7 ∷ []) 0
    (Ok (Whole 1000)) (small profile 0 refl refl refl)
    (after profile (Known (Some OfWhole) unknown_type) IsRealOf [] (0xE8 ∷ 7 ∷ []) OfWhole (Ok (Whole 1000)) (refl, refl)
    (seen profile Whole IsUnsigned (0xE8 ∷ 7 ∷ []) 1000 (wide profile 0xE8 7 1000 refl refl refl refl)))) (refl, refl)

flag_said : (profile : Profile) → IsFlag profile (0 ∷ []) (Ok (Ok 0))
flag_said profile =
    alone profile IsUnsigned (λ f. Must (nat_lt f 2) f Info) (0 ∷ []) 0 (Ok (Ok 0)) (small profile 0 refl refl refl)
    (refl, refl)

tables_said : (profile : Profile) → AreTables true profile (zeros 12) (Ok true)
tables_said profile = seen profile (λ _. true) (Chain (λ _. IsUnsigned) (λ n. n) 12 0) (zeros 12) (zeros 12)
    (zero_integers profile 12 0)

start_said : (profile : Profile) → IsStart profile of_start (Ok (Ok starting))
start_said profile =
    after profile IsVersion (UnlessRuled (λ _. IsStartOf)) (3 ∷ one) ((0 ∷ 0xE8 ∷ 7 ∷ []) ++ (0 ∷ []) ++ zeros 12)
    (Ok one)
    (Ok (Ok starting)) (version_said profile)
    (after profile IsUnit (UnlessRuled (λ u. AndThen IsFlag (λ f. Seen (start u) (AreTables (is_here f)))))
    (0 ∷ 0xE8 ∷ 7 ∷ []) ((0 ∷ []) ++ zeros 12) (Ok (Whole 1000)) (Ok (Ok starting)) (unit_said profile)
    (after profile IsFlag (UnlessRuled (λ f. Seen (start (Whole 1000)) (AreTables (is_here f)))) (0 ∷ []) (zeros 12)
    (Ok 0) (Ok (Ok starting)) (flag_said profile)
    (seen profile (start (Whole 1000)) (AreTables true) (zeros 12) true (tables_said profile))))

-- CELL

cell_said : (profile : Profile) → AreFields false 1 OfCell profile of_cell (Ok (Ok cell))
cell_said profile =
    seen profile Ok (IsCell false) of_cell cell
    (seen profile Cell (IsCellRef false) of_cell (Name name)
    (seen profile Name (IsString N 255) of_cell name (three profile N name refl refl (refl, (refl, (refl, tt))))))

-- RECTANGLE

given : (profile : Profile) (n : ℕ) → IsUnsigned profile (n ∷ []) (Ok n) → If true IsUnsigned profile (n ∷ []) (Ok (Some n))
given profile n u = seen profile Some IsUnsigned (n ∷ []) n u

origin : (profile : Profile) → If true IsSigned profile (0 ∷ []) (Ok (Some (pos 0)))
origin profile =
    seen profile Some IsSigned (0 ∷ []) (pos 0) (seen profile with_sign IsUnsigned (0 ∷ []) 0
    (small profile 0 refl refl refl))

layer_said : (profile : Profile) → IsOnLayer 0x7B profile (1 ∷ 0 ∷ []) (Ok (record { layer = Some 1; datatype = Some 0 }))
layer_said profile =
    after profile (If true IsUnsigned) (λ l. Seen (on_layer l) (If true IsUnsigned)) (1 ∷ []) (0 ∷ []) (Some 1)
    (Ok (record { layer = Some 1; datatype = Some 0 }))
    (given profile 1 (small profile 1 refl refl refl))
    (seen profile (on_layer (Some 1)) (If true IsUnsigned) (0 ∷ []) (Some 0)
    (given profile 0 (small profile 0 refl refl refl)))

position_said : (profile : Profile) → IsPosition 0x7B profile (0 ∷ 0 ∷ [])
    (Ok (record { x = Some (pos 0); y = Some (pos 0); repetition = None }))
position_said profile =
    after profile (If true IsSigned)
    (λ x. Then (If true IsSigned) (λ y. Seen (position x y) (If false (IsRepetition true))))
    (0 ∷ []) (0 ∷ []) (Some (pos 0)) (Ok (position (Some (pos 0)) (Some (pos 0)) None)) (origin profile)
    (after profile (If true IsSigned) (λ y. Seen (position (Some (pos 0)) y) (If false (IsRepetition true)))
    (0 ∷ []) [] (Some (pos 0)) (Ok (position (Some (pos 0)) (Some (pos 0)) None)) (origin profile)
    (seen profile (position (Some (pos 0)) (Some (pos 0))) (If false (IsRepetition true)) [] None
    (refl, refl)))

abbrev on : OnLayer
on = record { layer = Some 1; datatype = Some 0 }

-- the fields after the layer and the datatype, after the width, and after the height
abbrev with_height : OnLayer → Option ℕ → Option ℕ → Spelling Record
with_height on w h = Seen (rectangle false on w h) (IsPosition 0x7B)

abbrev with_width : OnLayer → Option ℕ → Spelling Record
with_width on w = Then (If true IsUnsigned) (with_height on w)

abbrev with_layer : OnLayer → Spelling Record
with_layer on = Then (If true IsUnsigned) (with_width on)

rectangle_said : (profile : Profile) → IsRectangle profile of_rectangle (Ok (Ok drawn))
rectangle_said profile =
    after profile IsRectangleInfo (UnlessRuled (λ i. Seen Ok (IsRectangleOf i))) (0x7B ∷ [])
    (1 ∷ 0 ∷ 10 ∷ 10 ∷ 0 ∷ 0 ∷ [])
    (Ok 0x7B) (Ok (Ok drawn)) (alone profile IsByte (λ i. Must (is_rectangle_info i) i Info) (0x7B ∷ []) 0x7B
    (Ok (Ok 0x7B)) refl (refl, refl))
    (seen profile Ok (IsRectangleOf 0x7B) (1 ∷ 0 ∷ 10 ∷ 10 ∷ 0 ∷ 0 ∷ []) drawn
    (after profile (IsOnLayer 0x7B) with_layer (1 ∷ 0 ∷ []) (10 ∷ 10 ∷ 0 ∷ 0 ∷ []) on (Ok drawn) (layer_said profile)
    (after profile (If true IsUnsigned) (with_width on) (10 ∷ []) (10 ∷ 0 ∷ 0 ∷ []) (Some 10) (Ok drawn)
    (given profile 10 (small profile 10 refl refl refl))
    (after profile (If true IsUnsigned) (with_height on (Some 10)) (10 ∷ []) (0 ∷ 0 ∷ []) (Some 10) (Ok drawn)
    (given profile 10 (small profile 10 refl refl refl))
    (seen profile (rectangle false on (Some 10) (Some 10)) (IsPosition 0x7B)
    (0 ∷ 0 ∷ []) (position (Some (pos 0)) (Some (pos 0)) None) (position_said profile))))))

-- END

padding_said : (profile : Profile) → Sized (IsPaddingLength false) profile (0xFC ∷ 1 ∷ [])
    (Ok (record { value = 252; len = 2 }))
padding_said profile = (
  after profile (AreTables false) (λ _. IsUnsigned) [] (0xFC ∷ 1 ∷ []) false (Ok 252) (refl, refl)
      (wide profile 0xFC 1 252 refl refl refl refl),
  refl,
)

scheme_said : (profile : Profile) → IsScheme profile (0 ∷ []) (Ok (Ok 0))
scheme_said profile = alone profile IsByte (λ s. Must (nat_lt s 3) s Scheme) (0 ∷ []) 0 (Ok (Ok 0)) refl (refl, refl)

abbrev of_scheme : ℕ → Spelling (Result Validation RecordRule)
of_scheme s = Seen Ok (IsSignature (s == 0) s)

ending_said : (profile : Profile) → IsEnding 252 profile (zeros 252 ++ (0 ∷ [])) (Ok (Ok Absent))
ending_said profile =
    after profile (ArePadding 252) (λ _. AndThen IsScheme of_scheme) (zeros 252) (0 ∷ []) 252 (Ok (Ok Absent))
    (seen profile (λ _. 252) (Chain (λ _. IsByte) (λ x. x) 252 0) (zeros 252) (zeros 252) (zero_bytes profile 252 0))
    (after profile IsScheme (UnlessRuled of_scheme) (0 ∷ []) [] (Ok 0) (Ok (Ok Absent)) (scheme_said profile)
    (seen profile Ok (IsSignature true 0) [] Absent (refl, refl)))

end_said : (profile : Profile) → IsEnd false 1 profile of_end (Ok (Ok ending))
end_said profile =
    after profile (Sized (IsPaddingLength false)) (λ p. AndThen (Must (fits 1 p) p EndLength) (IsEndOf 1))
    (0xFC ∷ 1 ∷ []) (zeros 252 ++ (0 ∷ [])) (record { value = 252; len = 2 })
    (Ok (Ok ending)) (padding_said profile)
    (after profile (Must true (record { value = 252; len = 2 }) EndLength) (UnlessRuled (IsEndOf 1)) []
    (zeros 252 ++ (0 ∷ []))
    (Ok (record { value = 252; len = 2 })) (Ok (Ok ending)) (refl, refl)
    (alone profile (IsEnding 252)
    (UnlessRuled (λ v. Must (is_whole 1 (record { value = 252; len = 2 }) v) (End v) EndLength)) (zeros 252 ++ (0 ∷ []))
    (Ok Absent) (Ok (Ok ending)) (ending_said profile) (refl, refl)))

-- each record is spelled after those before it

next : (profile : Profile) (rs : List Record) (id : ℕ) (t : RecordType) (r : Record) (fields : List ℕ)
    → IsUnsigned profile (id ∷ []) (Ok id)
    → type_after false profile rs id ≡ Ok t → AreFields (at_end rs) 1 t profile fields (Ok (Ok r))
    → IsNext false rs profile (id ∷ fields) (Ok (Ok (item r)))
next profile rs id t r fields u e f =
    after profile (Sized IsUnsigned) (IsTypedAfter false rs) (id ∷ []) fields
    (record { value = id; len = 1 }) (Ok (Ok (item r))) (u, refl)
    (subst (λ x. IsTyped (at_end rs) 1 x profile fields (Ok (Ok (item r)))) (sym e)
    (seen profile of_record (AreFields (at_end rs) 1 t) fields (Ok r) f))

-- some things ignored, within the standard limits
abbrev ignoring : Ignore → Profile
ignoring ignore = record { ignore = ignore; limits = standard; unpack = false }

spelled : (ignore : Ignore) → SpellsAll (oasis (ignoring ignore)) [] file square
spelled ignore = let profile = ignoring ignore in (
  magic_string,
  (1 ∷ of_start) ++ (14 ∷ of_cell) ++ (20 ∷ of_rectangle) ++ (2 ∷ of_end),
  seen profile of_magic IsMagic magic_string (Ok tt) (magic_said profile),
  (
    1 ∷ of_start,
    (14 ∷ of_cell) ++ (20 ∷ of_rectangle) ++ (2 ∷ of_end),
    next profile [] 1 OfStart starting of_start (small profile 1 refl refl refl) refl (start_said profile),
    (
      14 ∷ of_cell,
      (20 ∷ of_rectangle) ++ (2 ∷ of_end),
      next profile (starting ∷ []) 14 OfCell cell of_cell (small profile 14 refl refl refl) refl (cell_said profile),
      (
        20 ∷ of_rectangle,
        2 ∷ of_end,
        next profile (starting ∷ cell ∷ []) 20 OfRectangle drawn of_rectangle (small profile 20 refl refl refl) refl
            (rectangle_said profile),
        (
          2 ∷ of_end,
          [],
          next profile (starting ∷ cell ∷ drawn ∷ []) 2 OfEnd ending of_end (small profile 2 refl refl refl) refl
              (end_said profile),
          refl,
          sym (append-nil (2 ∷ of_end)),
        ),
        refl,
      ),
      refl,
    ),
    refl,
  ),
  refl,
)

-- each record may follow those before it

abbrev is_end : Item → Bool
is_end (item (End v)) = true
is_end i = false

end_last : (d : Bool) (b : List Item) (v : Validation) → last_or d (map is_end (b ++ item (End v) ∷ [])) ≡ true
end_last d [] v = refl
end_last d (i ∷ b) v = end_last (is_end i) b v

unended : (is : List Item) → last_or false (map is_end is) ≡ false → ¬ IsEnded is
unended is e h =
    let z : false ≡ true = sym e ∙ ap (λ l. last_or false (map is_end l)) h.2 ∙ end_last false h.0 h.1 in cc

none_some : {A : Type 0} {x : A} → None ≡ Some x → ⊥
none_some h = cc

follows : (profile : Profile) (before : List Item) (r : Record) → last_or false (map is_end before) ≡ false
    → ((k : NameRule) → NamingBreaches (names_in (records before)) r k → ⊥)
    → BreachesNone profile.ignore (since_cell (records before)) r
    → is_block r ≡ false → MayFollow profile before (item r)
follows profile before r e n f b = (unended before e, ((n, f), b))

none_of_start : (ignore : Ignore) (earlier : List Record) → BreachesNone ignore earlier starting
none_of_start ignore earlier (Undefined v) b = none_some b
none_of_start ignore earlier WideLayer b = b
none_of_start ignore earlier OutOfRange b = b
none_of_start ignore earlier Magnification b = b
none_of_start ignore earlier Angle b = b
none_of_start ignore earlier Extension b = b
none_of_start ignore earlier Oblique b = b
none_of_start ignore earlier (Path f) b = b

none_of_cell : (ignore : Ignore) (earlier : List Record) → BreachesNone ignore earlier cell
none_of_cell ignore earlier (Undefined v) b = none_some b
none_of_cell ignore earlier WideLayer b = b
none_of_cell ignore earlier OutOfRange b = b
none_of_cell ignore earlier Magnification b = b
none_of_cell ignore earlier Angle b = b
none_of_cell ignore earlier Extension b = b
none_of_cell ignore earlier Oblique b = b
none_of_cell ignore earlier (Path f) b = b

none_of_end : (ignore : Ignore) (earlier : List Record) → BreachesNone ignore earlier ending
none_of_end ignore earlier (Undefined v) b = none_some b
none_of_end ignore earlier WideLayer b = b
none_of_end ignore earlier OutOfRange b = b
none_of_end ignore earlier Magnification b = b
none_of_end ignore earlier Angle b = b
none_of_end ignore earlier Extension b = b
none_of_end ignore earlier Oblique b = b
none_of_end ignore earlier (Path f) b = b

abbrev at : ℕ → ℕ → Point
at x y = record { x = pos x; y = pos y }

abbrev corners : List Point
corners = at 0 0 ∷ at 10 0 ∷ at 10 10 ∷ at 0 10 ∷ []

near : (x y : ℕ) → is_in_range (pos x) ≡ true → is_in_range (pos y) ≡ true → FitsPoint (at x y)
near x y a b = record { x_fits = range_fits (pos x) a; y_fits = range_fits (pos y) b }

all_near : All FitsPoint corners
all_near =
    All-cons FitsPoint (at 0 0) (at 10 0 ∷ at 10 10 ∷ at 0 10 ∷ []) (near 0 0 refl refl)
    (All-cons FitsPoint (at 10 0) (at 10 10 ∷ at 0 10 ∷ []) (near 10 0 refl refl)
    (All-cons FitsPoint (at 10 10) (at 0 10 ∷ []) (near 10 10 refl refl)
    (All-cons FitsPoint (at 0 10) [] (near 0 10 refl refl) (All-nil FitsPoint))))

none_of_rectangle : (ignore : Ignore) → BreachesNone ignore [] drawn
none_of_rectangle ignore (Undefined v) b = none_some b
none_of_rectangle ignore WideLayer b = b (ltb-true 1 (2 ^ 32) refl, ltb-true 0 (2 ^ 32) refl)
none_of_rectangle ignore OutOfRange b = b all_near
none_of_rectangle ignore Magnification b = b
none_of_rectangle ignore Angle b = b
none_of_rectangle ignore Extension b = b
none_of_rectangle ignore Oblique b = b
none_of_rectangle ignore (Path f) b = b

followed : (ignore : Ignore) → FollowAll (oasis (ignoring ignore)) [] square
followed ignore = (
  (unended [] refl, tt),
  (
    follows (ignoring ignore) (magic ∷ []) starting refl (λ k b. b) (none_of_start ignore []) refl,
    (
      follows (ignoring ignore) (magic ∷ item starting ∷ []) cell refl (λ k b. b) (none_of_cell ignore
          (starting ∷ [])) refl,
      (
        follows (ignoring ignore) (magic ∷ item starting ∷ item cell ∷ []) drawn refl (λ k b. b)
            (none_of_rectangle ignore) refl,
        (
          follows (ignoring ignore) (magic ∷ item starting ∷ item cell ∷ item drawn ∷ []) ending refl (λ k b. b)
              (none_of_end ignore (drawn ∷ [])) refl,
          tt,
        ),
      ),
    ),
  ),
)

whole : (ignore : Ignore) → SpellsWhole (oasis (ignoring ignore)) file square
whole ignore = record {
  front = record {
    spelled = spelled ignore;
    followed = followed ignore;
    within = leb-true 303 standard.file refl;
  };
  whole = (magic ∷ item starting ∷ item cell ∷ item drawn ∷ [], Absent, refl);
}

-- the one cell, TOP: a ring on layer 1, datatype 0
abbrev top : PlainCell Figure
top = record {
  name = name;
  shapes = record {
    layer = record { layer = 1; datatype = 0 };
    figure = rings (corners ∷ []);
    shifts = at 0 0 ∷ [];
  } ∷ [];
  references = [];
}

abbrev heading : OasisHead
heading = record { unit = Whole 1000; scheme = 0; signature = 0 ∷ 0 ∷ 0 ∷ 0 ∷ [] }

cells_are : AreCells (names_in (records square)) (drawings (records square)) (top ∷ [])
cells_are = (record { name = refl; shapes = refl; references = tt }, tt)

square_spells : (ignore : Ignore) → SpellsLibrary (ignoring ignore) file (top ∷ []) heading
square_spells ignore = record { items = square; whole = whole ignore; cells_are = cells_are; head_is = refl }

square_only : (ignore : Ignore) (cells : List (PlainCell Figure)) (h : OasisHead)
    → SpellsLibrary (ignoring ignore) file cells h → (cells ≡ top ∷ []) × (h ≡ heading)
square_only ignore cells h p =
    let G = oasis (ignoring ignore) in
    let e : p.items ≡ square = one_whole G (is_grammar (ignoring ignore)) file p.items square p.whole (whole ignore) in
    let are : AreCells (names_in (records square)) (drawings (records square)) cells =
    subst (λ is. AreCells (names_in (records is)) (drawings (records is)) cells) e p.cells_are in (
      same_cells (names_in (records square)) (drawings (records square)) (top ∷ []) cells cells_are are,
      p.head_is ∙ ap (λ is. head_of (records is)) e,
    )
