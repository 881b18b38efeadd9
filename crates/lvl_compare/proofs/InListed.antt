-- Listed Layers in their order, and what two layouts draw on them.
use Rattle.std.proofs.Common.{◌≡◌, ◌<◌, ◌≤◌, ◌-◌, ◌⊎◌, ℕ, List, Option, Some, None, inl, inr, true, refl, sym, ap, ◌∙◌}
use Rattle.std.proofs.Common.{AllPairs, Contains, length, get_or, take, subst, arith, is_some, false}
use Rattle.std.specs.Prelude.{All, IfNone, IfSome}
use Rattle.std.proofs.lemmas.List.Elements.{All-contains}
use Rattle.std.proofs.lemmas.Bool.{and_from, and_parts, cases_lt}
use Rattle.std.proofs.lemmas.List.{get_or_default, get_or-take, length-take-le}
use Rattle.lvl_grid.specs.declared.point.Square.{Square}
use Rattle.lvl_names.specs.declared.layer.Layer.{Layer}
use Rattle.lvl_names.specs.Layers.{ComesBefore}
use Rattle.lvl_names.proofs.Layers.{before_itself, before_trans}
use Rattle.lvl_compare.specs.Tops.{Draws, DrawSameOn, IsFirstDifferenceOn}
use Rattle.lvl_compare.specs.declared.groups.Span.{Span}
use Rattle.lvl_compare.specs.inside.Groups.{is_after, is_of_span, is_until, on}
use Rattle.lvl_compare.specs.inside.Listed.{IsFoundOn, IsUpTo}
use Rattle.lvl_compare.specs.inside.Strips.{Difference, IsFoundIn}
use Rattle.lvl_compare.proofs.Finding.{layers_order}
use Rattle.lvl_compare.proofs.InGroups.{not_after, true_before, until_not}

-- a Layer of a list in order doesn't come after a later one
not_later : (xs : List Layer) (i j : ℕ) (a b : Layer) → AllPairs ComesBefore xs → i ≤ j → j < length xs
    → get_or xs i a ≡ a → get_or xs j b ≡ b → ComesBefore b a → ⊥
not_later xs i j a b rising le low here there before =
    elim (cases_lt i j) [
      | inl lt ↦
          let other : get_or xs j a ≡ b = get_or_default xs j a b low ∙ there in
          let both : ComesBefore a b =
          subst (λ (x : Layer). ComesBefore a x) other
          (subst (λ (x : Layer). ComesBefore x (get_or xs j a)) here (rising i j a lt low)) in
          before_itself a (before_trans a b a both before)
      | inr ge ↦
          let one : i ≡ j = omega arith in
          let same : a ≡ b =
          sym here ∙ (ap (λ k. get_or xs k a) one ∙ (get_or_default xs j a b low ∙ there)) in
          before_itself a (subst (λ (x : Layer). ComesBefore x a) (sym same) before)
    ]

after_first : (after : Option Layer) (first l : Layer) → IfSome after (λ other. ComesBefore other first)
    → (ComesBefore l first → ⊥) → is_after after l ≡ true
after_first None first l before never = refl
after_first (Some other) first l before never =
    true_before other l (elim (layers_order l first) [
      | inl less ↦ absurd (never less)
      | inr e ↦
          elim e [
            | inl same ↦ subst (λ (x : Layer). ComesBefore other x) (sym same) before
            | inr more ↦ before_trans other first l before more
          ]
    ])

-- the span has the listed Layers from an index on up to another one
pub span_has : (xs : List Layer) (from end : ℕ) (span : Span) (first last : Layer) → AllPairs ComesBefore xs
    → from < end → end ≤ length xs → get_or xs from first ≡ first → get_or xs (end - 1) last ≡ last
    → IfSome span.after (λ other. ComesBefore other first) → span.last ≡ Some last → (l : Layer)
    → Contains (take end xs) l → Contains (take from xs) l ⊎ (is_of_span span l ≡ true)
span_has xs from end span first last rising some within here there after is l has =
    let k : ℕ = has.0 in
    let below : k < end = omega (arith, has.1, length-take-le end xs within) in
    let at : get_or xs k l ≡ l = sym (get_or-take end xs k l below) ∙ has.2 in
    elim (cases_lt k from) [
      | inl early ↦
          inl (
            k,
            omega (arith, early, length-take-le from xs (omega arith)),
            get_or-take from xs k l early ∙ at,
          )
      | inr late ↦
          let is_late : is_after span.after l ≡ true =
          after_first span.after first l after (λ less. not_later xs from k first l rising late (omega arith) here at less) in
          let is_early : is_until span.last l ≡ true =
          subst (λ o. is_until o l ≡ true) (sym is)
          (not_after last l (λ less. not_later xs k (end - 1) l last rising (omega arith) (omega arith) at there less)) in
          inr (and_from (is_after span.after l) (is_until span.last l) is_late is_early)
    ]

-- the listed Layers before a Layer of the span are those up to its end
pub before_end : (xs : List Layer) (end : ℕ) (span : Span) (l k : Layer) → AllPairs ComesBefore xs → 0 < end
    → end ≤ length xs → IsUpTo span xs end → is_of_span span k ≡ true → ComesBefore l k → Contains xs l
    → Contains (take end xs) l
before_end xs end span l k rising some within up_to is before has =
    elim (cases_lt has.0 end) [
      | inl early ↦ (
        has.0,
        omega (arith, early, length-take-le end xs within),
        get_or-take end xs has.0 l early ∙ has.2,
      )
      | inr late ↦
          let last : Layer = get_or xs (end - 1) l in
          let until : is_until (Some last) k ≡ true =
          subst (λ o. is_until o k ≡ true) (up_to (end - 1) l (omega arith))
          (and_parts (is_after span.after k) (is_until span.last k) is).1 in
          let there : get_or xs (end - 1) last ≡ last = get_or_default xs (end - 1) last l (omega arith) in
          let not : ComesBefore l last → ⊥ =
          λ less. not_later xs (end - 1) has.0 last l rising (omega arith) has.1 there has.2 less in
          absurd (elim (layers_order last l) [
            | inl less ↦ until_not last k until (before_trans last l k less before)
            | inr e ↦
                elim e [
                  | inl same ↦ until_not last k until (subst (λ (x : Layer). ComesBefore x k) (sym same) before)
                  | inr more ↦ not more
                ]
          ])
    ]

-- what is found in a span after Layers on which both draw the same
pub span_passed : (a b : Draws) (Seen : Square → Type 0) (xs : List Layer) (from end : ℕ) (span : Span)
    (found : Option Difference) → is_some found ≡ false
    → ((l : Layer) → Contains (take end xs) l → Contains (take from xs) l ⊎ (is_of_span span l ≡ true))
    → DrawSameOn (take from xs) Seen a b → IsFoundIn a b (on span Seen) found → DrawSameOn (take end xs) Seen a b
span_passed a b Seen xs from end span None none has before h = λ l q there seen.
    elim (has l there) [ inl early ↦ before l q early seen | inr is ↦ h l q (is, seen) ]
span_passed a b Seen xs from end span (Some at) none has before h = absurd cc

pub span_found : (a b : Draws) (Seen : Square → Type 0) (xs : List Layer) (from end : ℕ) (span : Span)
    (found : Option Difference) → AllPairs ComesBefore xs → from < end → end ≤ length xs → is_some found ≡ true
    → ((l : Layer) → Contains (take end xs) l → Contains (take from xs) l ⊎ (is_of_span span l ≡ true))
    → IsUpTo span xs end → DrawSameOn (take from xs) Seen a b → IsFoundIn a b (on span Seen) found
    → IsFoundOn xs Seen a b found
span_found a b Seen xs from end span None rising some within is has up_to before h = absurd cc
span_found a b Seen xs from end span (Some at) rising some within is has up_to before h = record {
  seen = h.shown.1;
  alone = h.alone;
  least_layer = λ l there less q seen.
      elim (has l (before_end xs end span l at.0 rising (omega arith) within up_to h.shown.0 less there)) [
        | inl early ↦ before l q early seen
        | inr in_span ↦ h.least l q (in_span, seen) (inl less)
      ];
  least_square = λ q seen less. h.least at.0 q (h.shown.0, seen) (inr (refl, less));
}

-- nothing is found on Layers that another list has, if nothing is found on those of that list
pub listed_same : (a b : Draws) (Seen : Square → Type 0) (xs ys : List Layer) (found : Option Difference)
    → All (Contains ys) xs → IsFoundOn ys Seen a b found → IfNone found (DrawSameOn xs Seen a b)
listed_same a b Seen xs ys None has h = λ l q there seen. h l q (All-contains (Contains ys) xs l has there) seen
listed_same a b Seen xs ys (Some at) has h = tt

pub listed_apart : (a b : Draws) (Seen : Square → Type 0) (xs ys : List Layer) (found : Option Difference)
    → All (Contains ys) xs → IsFoundOn ys Seen a b found
    → IfSome found (λ at. IsFirstDifferenceOn xs Seen a b at.0 at.1 at.2)
listed_apart a b Seen xs ys None has h = tt
listed_apart a b Seen xs ys (Some at) has h = record {
  seen = h.seen;
  alone = h.alone;
  least_layer = λ l there less q seen. h.least_layer l (All-contains (Contains ys) xs l has there) less q seen;
  least_square = h.least_square;
}

-- the Layers of a list are in the list of them in order
pub all_of : (copy xs ordered ys : List Layer) → copy ≡ xs → ys ≡ ordered → All (Contains ordered) copy
    → All (Contains ys) xs
all_of copy xs ordered ys is at all =
    subst (λ (us : List Layer). All (Contains us) xs) (sym at) (subst (λ us. All (Contains ordered) us) is all)
