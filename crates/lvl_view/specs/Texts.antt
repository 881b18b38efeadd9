-- The texts of a map of layers and of a window, as the command line gives them (own rule).
use Rattle.std.specs.Prelude.{◌≡◌, ℕ, ◌<◌, ◌≤◌, ◌^◌, ◌==◌, ◌↔◌, ◌⊎◌, ℤ, pos, neg_ℤ, List, ◌∷◌, ◌++◌, length, All}
use Rattle.std.specs.Prelude.{Option, Some, FitsSigned}
use Rattle.std.specs.Int.{w64}
use Rattle.std.specs.List.{slice_split, AllZip}
use Rattle.std.specs.Str.Parse.{digits_value}
use Rattle.lvl_names.specs.declared.layer.Layer.{Layer}
use Rattle.lvl_grid.specs.declared.point.Window.{Window}
use Rattle.lvl_view.specs.declared.map.LayerPair.{LayerPair}

abbrev pub comma : ℕ
comma = 44

abbrev pub minus : ℕ
minus = 45

abbrev pub dot : ℕ
dot = 46

abbrev pub slash : ℕ
slash = 47

abbrev pub equals : ℕ
equals = 61

-- the answer is the only value for which P holds, or None if P holds of no value
abbrev pub IsOnly : {A : Type 0} → (A → Type 0) → Option A → Type 0
IsOnly {A} P answer = (v : A) → P v ↔ (answer ≡ Some v)

-- the text is one that P relates to a, then the character, then one that Q relates to b
pub record IsJoined {A B : Type 0} (character : ℕ) (P : List ℕ → A → Type 0) (Q : List ℕ → B → Type 0) (text : List ℕ)
    (a : A) (b : B) : Type 0 where
  pub before : List ℕ
  pub after : List ℕ
  pub joined : text ≡ before ++ character ∷ after
  pub before_is : P before a
  pub after_is : Q after b

-- the text is the character, then a text that P relates to a
pub record IsHeaded {A : Type 0} (character : ℕ) (P : List ℕ → A → Type 0) (text : List ℕ) (a : A) : Type 0 where
  pub rest : List ℕ
  pub headed : text ≡ character ∷ rest
  pub rest_is : P rest a

-- the text is 1 to `most` decimal digits
pub record IsDigits (most : ℕ) (text : List ℕ) : Type 0 where
  pub some : 1 ≤ length text
  pub few : length text ≤ most
  pub digits : All (λ b. (48 ≤ b) × (b ≤ 57)) text

-- the number of a layer or a datatype: 1 to 10 decimal digits, with a value below 2^32
pub record IsNumber (text : List ℕ) (n : ℕ) : Type 0 where
  pub digits : IsDigits 10 text
  pub value : digits_value 10 text ≡ n
  pub fits : n < 2 ^ 32

-- L/D
abbrev pub IsLayerText : List ℕ → Layer → Type 0
IsLayerText text layer = IsJoined slash IsNumber IsNumber text layer.layer layer.datatype

-- L/D=L/D
abbrev pub IsPairText : List ℕ → LayerPair → Type 0
IsPairText text pair = IsJoined equals IsLayerText IsLayerText text pair.source pair.target

-- one or more pairs joined by commas: the parts between commas are the texts of the pairs, in order
abbrev pub IsMapText : List ℕ → List LayerPair → Type 0
IsMapText text pairs = AllZip IsPairText (slice_split (λ b. b == comma) text) pairs

-- a coordinate: an optional minus and 1 to 19 decimal digits, with a value that fits in 64 signed bits
pub record IsCoordinate (text : List ℕ) (value : ℤ) : Type 0 where
  pub digits : List ℕ
  pub are : IsDigits 19 digits
  pub spelled : ((text ≡ digits) × (value ≡ pos (digits_value 10 digits)))
      ⊎ ((text ≡ minus ∷ digits) × (value ≡ neg_ℤ (pos (digits_value 10 digits))))
  pub fits : FitsSigned w64 value

-- a span along one axis: where it begins and where it ends, in grid steps
abbrev pub Span : Type 0
Span = ℤ × ℤ

-- A..B
abbrev pub IsSpanText : List ℕ → Span → Type 0
IsSpanText text span = IsJoined dot IsCoordinate (IsHeaded dot IsCoordinate) text span.0 span.1

-- the character of the axis, an equals sign and a span, as x=A..B
abbrev pub IsAxisText : ℕ → List ℕ → Span → Type 0
IsAxisText axis = IsHeaded axis (IsHeaded equals IsSpanText)

-- x=A..B,y=C..D (120 is x, 121 is y)
abbrev pub IsWindowText : List ℕ → Window → Type 0
IsWindowText text w = IsJoined comma (IsAxisText 120) (IsAxisText 121) text (w.x0, w.x1) (w.y0, w.y1)
