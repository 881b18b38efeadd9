-- What a reader may ignore, and the text that names it (own rule).
use Rattle.std.specs.Prelude.{◌≡◌, ◌==◌, ◌||◌, ℕ, Bool, true, false, List, [], ◌∷◌, Option, Some, None, codes}
use Rattle.std.specs.Prelude.{option_and_then}
use Rattle.std.specs.Prelude.{if◌then◌else◌}
use Rattle.std.specs.List.{slice_split}
use Rattle.std.specs.Str.{bytes_eq}
use Rattle.lvl_profile.specs.declared.ignore.Ignore.{Ignore}

-- the empty set
abbrev pub nothing : Ignore
nothing = record { properties = false; texts = false; names = false; padding = false; points = false }

-- the set of everything that can be ignored
abbrev pub everything : Ignore
everything = record { properties = true; texts = true; names = true; padding = true; points = true }

-- what is in either set
abbrev pub union : Ignore → Ignore → Ignore
union a b = record {
  properties = a.properties || b.properties;
  texts = a.texts || b.texts;
  names = a.names || b.names;
  padding = a.padding || b.padding;
  points = a.points || b.points;
}

-- each kind of things in the first set is in the second
pub record IsSubsetOf (less more : Ignore) : Type 0 where
  pub properties : less.properties ≡ true → more.properties ≡ true
  pub texts : less.texts ≡ true → more.texts ≡ true
  pub names : less.names ≡ true → more.names ≡ true
  pub padding : less.padding ≡ true → more.padding ≡ true
  pub points : less.points ≡ true → more.points ≡ true

-- the set that a word names; None if it is no such word
abbrev pub word_set : List ℕ → Option Ignore
word_set word =
    if bytes_eq word (codes "properties") then Some (record nothing { properties = true }) else
    (if bytes_eq word (codes "texts") then Some (record nothing { texts = true }) else
    (if bytes_eq word (codes "names") then Some (record nothing { names = true }) else
    (if bytes_eq word (codes "padding") then Some (record nothing { padding = true }) else
    (if bytes_eq word (codes "points") then Some (record nothing { points = true }) else
    (if bytes_eq word (codes "all") then Some everything else None)))))

-- the byte `,`
abbrev pub comma : ℕ
comma = 44

-- the union of `before` and what the words name; None if one of them names nothing
abbrev pub union_of : Ignore → List (List ℕ) → Option Ignore
union_of before [] = Some before
union_of before (word ∷ words) = option_and_then (λ set. union_of (union before set) words) (word_set word)

-- the text is one or more words joined by commas, and together they name `ignore`
abbrev pub IsText : List ℕ → Ignore → Type 0
IsText text ignore = union_of nothing (slice_split (λ b. b == comma) text) ≡ Some ignore
