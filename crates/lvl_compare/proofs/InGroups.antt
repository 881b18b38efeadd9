-- Layers in groups, and what two layouts draw on the Layers of one.
use Rattle.std.proofs.Common.{◌≡◌, ◌↔◌, ◌⊎◌, inl, inr, List, [], Option, Some, None, Bool, true, false, not, filter}
use Rattle.std.proofs.Common.{Contains, refl, sym, subst, ap, ◌∙◌, arith, zero, suc, ◌∷◌, cond, ◌&&◌, ◌||◌, ◌==◌}
use Rattle.std.proofs.Common.{IsSomeAnd, is_some, ℤ, ◌<◌, ltb}
use Rattle.std.proofs.lemmas.Bool.{and_from, and_parts, both_ways, cases_Bool, eq-eqb, eqb-true, lt-ltb, ltb-true}
use Rattle.std.proofs.lemmas.Bool.{not-false, not-true, or_cases}
use Rattle.std.proofs.lemmas.List.Elements.{All-contains, filter_passes}
use Rattle.std.proofs.lemmas.List.Kept.{AllPairs-filter}
use Rattle.lvl_grid.specs.declared.point.Square.{Square}
use Rattle.lvl_grid.specs.declared.point.Window.{Window}
use Rattle.lvl_grid.specs.Clip.{IsInWindow}
use Rattle.lvl_grid.specs.Winding.{SomeCovers}
use Rattle.lvl_names.specs.declared.layer.Layer.{Layer}
use Rattle.lvl_names.specs.Layers.{ComesBefore}
use Rattle.lvl_names.proofs.Layers.{before_itself, before_trans}
use Rattle.lvl_cells.specs.Cells.{PlainCell, Rings}
use Rattle.lvl_cells.specs.Checks.{Settled}
use Rattle.lvl_cells.specs.Coverage.{CellCovers}
use Rattle.lvl_view.specs.Moved.{IsMoved}
use Rattle.lvl_view.specs.Views.{target_of}
use Rattle.lvl_view.specs.declared.map.LayerPair.{LayerPair}
use Rattle.lvl_flat.specs.Flattened.{IsFlattenedWithin, IsOfPart, TopCovers}
use Rattle.lvl_flat.specs.Mapped.{IsMapped}
use Rattle.lvl_flat.specs.Sheet.{PlainSheet}
use Rattle.lvl_compare.specs.Flats.{IsLesser}
use Rattle.lvl_compare.specs.Tops.{Draws}
use Rattle.lvl_compare.specs.declared.groups.Span.{Span}
use Rattle.lvl_compare.specs.declared.groups.Group.{Group}
use Rattle.lvl_compare.specs.declared.pair.Pair.{Pair}
use Rattle.lvl_compare.specs.inside.Groups.{AreAbove, AreListed, AreRowsBefore, IsListed, NoneBefore, is_after}
use Rattle.lvl_compare.specs.inside.Groups.{is_before, is_of_span, is_until, on}
use Rattle.lvl_compare.specs.Pairs.{ours, theirs}
use Rattle.lvl_compare.specs.inside.Strips.{Difference, IsFoundIn, IsImproved, IsLeast, Part, Precedes}
use Rattle.lvl_compare.specs.inside.Strips.{ShowsOf}
use Rattle.lvl_compare.specs.inside.Strips.{everywhere, rows_to}
use Rattle.lvl_compare.proofs.Finding.{IsSpared, layers_order, least_improves}
use Rattle.lvl_compare.proofs.InStrips.{in_rows, rows_or_above}

pub before_true : (a b : Layer) → is_before a b ≡ true → ComesBefore a b
before_true a b h =
    elim (or_cases (ltb a.layer b.layer) ((a.layer == b.layer) && ltb a.datatype b.datatype) h) [
      | inl lt ↦ inl (ltb-true a.layer b.layer lt)
      | inr both ↦
          let p = and_parts (a.layer == b.layer) (ltb a.datatype b.datatype) both in
          inr (eqb-true a.layer b.layer p.0, ltb-true a.datatype b.datatype p.1)
    ]

pub true_before : (a b : Layer) → ComesBefore a b → is_before a b ≡ true
true_before a b (inl h) =
    ap (λ t. t || ((a.layer == b.layer) && ltb a.datatype b.datatype)) (lt-ltb a.layer b.layer h)
true_before a b (inr h) =
    let both = and_from (a.layer == b.layer) (ltb a.datatype b.datatype) (eq-eqb a.layer b.layer h.0)
    (lt-ltb a.datatype b.datatype h.1) in
    elim (ltb a.layer b.layer) as (λ t. (t || ((a.layer == b.layer) && ltb a.datatype b.datatype)) ≡ true)
    [ true ↦ refl | false ↦ both ]

-- a Layer isn't after another exactly if the other doesn't come before it
pub not_after : (k l : Layer) → (ComesBefore k l → ⊥) → is_until (Some k) l ≡ true
not_after k l never =
    elim (cases_Bool (is_before k l)) [
      | inl before ↦ absurd (never (before_true k l before))
      | inr after ↦ ap not after
    ]

pub until_not : (k l : Layer) → is_until (Some k) l ≡ true → ComesBefore k l → ⊥
until_not k l h before = both_ways (is_before k l) (not-true (is_before k l) h) (true_before k l before)

past_last : (k l : Layer) → is_until (Some k) l ≡ false → ComesBefore k l
past_last k l h = before_true k l (not-false (is_before k l) h)

-- the lesser of the last Layer of a span and another one
until_lesser : (x : Option Layer) (k : Layer) (r : Option Layer) (l : Layer) → IsLesser x (Some k) r
    → (is_until r l ≡ true) ↔ ((is_until x l ≡ true) × (is_until (Some k) l ≡ true))
until_lesser None k r l is =
    subst (λ o. (is_until o l ≡ true) ↔ ((true ≡ true) × (is_until (Some k) l ≡ true))) (sym is)
    (λ h. (refl, h), λ h. h.1)
until_lesser (Some a) k r l (inl is) =
    subst (λ o. (is_until o l ≡ true) ↔ ((is_until (Some a) l ≡ true) × (is_until (Some k) l ≡ true))) (sym is.0) (
      λ h. (
        h,
        not_after k l (λ before.
            elim (layers_order a l) [
              | inl less ↦ until_not a l h less
              | inr other ↦
                  is.1 (elim other [
                    | inl same ↦ subst (λ (x : Layer). ComesBefore k x) (sym same) before
                    | inr more ↦ before_trans k l a before more
                  ])
            ]),
      ),
      λ h. h.0,
    )
until_lesser (Some a) k r l (inr is) =
    subst (λ o. (is_until o l ≡ true) ↔ ((is_until (Some a) l ≡ true) × (is_until (Some k) l ≡ true))) (sym is.0) (
      λ h. (not_after a l (λ before. until_not k l h (before_trans k a l is.1 before)), h),
      λ h. h.1,
    )

-- the span up to a Layer
pub span_up_to : (big small : Span) (k l : Layer) → small.after ≡ big.after → IsLesser big.last (Some k) small.last
    → (is_of_span small l ≡ true) ↔ ((is_of_span big l ≡ true) × (is_until (Some k) l ≡ true))
span_up_to big small k l after last =
    let until = until_lesser big.last k small.last l last in
    let same : is_after small.after l ≡ is_after big.after l = ap (λ o. is_after o l) after in (
      λ h.
          let p = and_parts (is_after small.after l) (is_until small.last l) h in
          let u = until.0 p.1 in
          (and_from (is_after big.after l) (is_until big.last l) (sym same ∙ p.0) u.0, u.1),
      λ h.
          let p = and_parts (is_after big.after l) (is_until big.last l) h.0 in
          and_from (is_after small.after l) (is_until small.last l) (same ∙ p.0) (until.1 (p.1, h.1)),
    )

-- a filter keeps what passes its test
kept_there : {X : Type 0} (p : X → Bool) (xs : List X) (x : X) → Contains xs x → p x ≡ true → Contains (filter p xs) x
kept_there p [] x has passes = absurd (let below : has.0 < 0 = has.1 in omega arith)
kept_there p (y ∷ xs) x (zero, below, is) passes =
    let here : p y ≡ true = subst (λ z. p z ≡ true) (sym is) passes in
    subst (λ ys. Contains ys x) (sym (ap (λ b. cond b (y ∷ filter p xs) (filter p xs)) here))
    (zero, omega arith, is)
kept_there p (y ∷ xs) x (suc k, below, is) passes =
    let rest = kept_there p xs x (k, omega (arith, below), is) passes in
    elim (p y) as (λ b. Contains (cond b (y ∷ filter p xs) (filter p xs)) x)
    [ true ↦ (suc rest.0, omega (arith, rest.1), rest.2) | false ↦ rest ]

-- the Layers of a part of the span
pub part_listed : (t : Draws) (pairs : List LayerPair) (big small : Span) (layers kept : List Layer)
    → ((l : Layer) → is_of_span small l ≡ true → is_of_span big l ≡ true)
    → kept ≡ filter (λ l. is_of_span small (target_of pairs l)) layers → IsListed t pairs big layers
    → IsListed t pairs small kept
part_listed t pairs big small layers kept wider is listed =
    let p : Layer → Bool = λ l. is_of_span small (target_of pairs l) in
    subst (IsListed t pairs small) (sym is)
    (record {
      rising = AllPairs-filter ComesBefore p layers listed.rising;
      only = λ l has. All-contains (λ x. p x ≡ true) (filter p layers) l (filter_passes p layers) has;
      all = λ l q drawn passes.
          kept_there p layers l (listed.all l q drawn (wider (target_of pairs l) passes)) passes;
    })

-- a layout that is flattened on some Layers within a window
shows_top : (s : Settled) (layers : List Layer) (w : Window) (f : List PlainSheet) → IsFlattenedWithin s layers w f
    → ShowsOf (TopCovers s) (IsOfPart layers w) f
shows_top s layers w f flat l q =
    let P : PlainCell Rings → Type 0 = λ top. CellCovers SomeCovers s.cells l top q in
    let both = flat.covers l q in (
      λ a. let c = both.0 a in (c.0, subst (λ o. IsSomeAnd o P) (sym flat.is_top) c.1),
      λ b. both.1 (b.0, subst (λ o. IsSomeAnd o P) flat.is_top b.1),
    )

-- what the first layout draws, flattened on the listed Layers
pub shows_ours : (s : Settled) (span : Span) (layers : List Layer) (w : Window) (f : List PlainSheet)
    → IsListed (TopCovers s) [] span layers → IsFlattenedWithin s layers w f
    → ShowsOf (TopCovers s) (on span (IsInWindow w)) f
shows_ours s span layers w f listed flat l q =
    let both = shows_top s layers w f flat l q in (
      λ a. let c = both.0 a in ((listed.only l c.0.0, c.0.1), c.1),
      λ b. both.1 ((listed.all l q b.1 b.0.0, b.0.1), b.1),
    )

-- and what the second draws under the map
pub shows_theirs : (s : Settled) (pairs : List LayerPair) (span : Span) (layers : List Layer) (w : Window)
    (f m : List PlainSheet) → IsListed (TopCovers s) pairs span layers → IsFlattenedWithin s layers w f
    → IsMapped pairs f m → ShowsOf (IsMoved pairs (TopCovers s)) (on span (IsInWindow w)) m
shows_theirs s pairs span layers w f m listed flat is l q = (
  λ a.
      let from = (is l q).0 a in
      let c = (shows_top s layers w f flat from.source q).0 from.covers in (
        (subst (λ (x : Layer). is_of_span span x ≡ true) from.is_target (listed.only from.source c.0.0), c.0.1),
        record { source = from.source; is_target = from.is_target; covers = c.1 },
      ),
  λ b.
      let from = b.1 in
      let asked = subst (λ (x : Layer). is_of_span span x ≡ true) (sym from.is_target) b.0.0 in
      (is l q).1 (record {
        source = from.source;
        is_target = from.is_target;
        covers =
            (shows_top s layers w f flat from.source q).1
            ((listed.all from.source q from.covers asked, b.0.1), from.covers);
      }),
)

-- what doesn't precede the known difference is left out: later Layers
later_spared : (a b : Draws) (k : Difference) (l : Layer) (q : Square) → ComesBefore k.0 l → IsSpared a b (Some k) l q
later_spared a b k l q later =
    inl (λ early. elim early [
      | inl before ↦ before_itself l (before_trans l k.0 l before later)
      | inr here ↦ before_itself k.0 (subst (λ (x : Layer). ComesBefore k.0 x) here.0 later)
    ])

lesser_layers : (a b : Draws) (big small : Span) (w : Window) (k : Difference) → small.after ≡ big.after
    → IsLesser big.last (Some k.0) small.last → (l : Layer) (q : Square) → on big (IsInWindow w) l q
    → on small (IsInWindow w) l q ⊎ IsSpared a b (Some k) l q
lesser_layers a b big small w k after last l q h =
    elim (cases_Bool (is_until (Some k.0) l)) [
      | inl until ↦ inl ((span_up_to big small k.0 l after last).1 (h.0, until), h.1)
      | inr past ↦ inr (later_spared a b k l q (past_last k.0 l past))
    ]

-- and where no side draws on a Layer before that one, rows above the square
lesser_rows : (pair : Pair) (big : Span) (small : Group) (w : Window) (k : Difference)
    → small.span.after ≡ big.after → IsLesser big.last (Some k.0) small.span.last → AreListed pair small
    → NoneBefore pair.view.now.pairs small k.0 → (y : ℤ) → AreAbove w y k.1 → (l : Layer) (q : Square)
    → on big (IsInWindow w) l q
    → on small.span (IsInWindow (rows_to y w)) l q ⊎ IsSpared (ours pair) (theirs pair) (Some k) l q
lesser_rows pair big small w k after last listed none y later l q h =
    let a : Draws = ours pair in
    let b : Draws = theirs pair in
    elim (lesser_layers a b big small.span w k after last l q h) [
      | inr spared ↦ inr spared
      | inl part ↦
          elim (rows_or_above w y q part.1) [
            | inl row ↦ inl (part.0, row)
            | inr above ↦
                elim (layers_order l k.0) [
                  | inl before ↦
                      inr (inr (
                        λ drawn. absurd (All-contains (λ (m : Layer). ¬ ComesBefore m k.0) small.ours.items l none.ours
                            (listed.ours.all l q drawn part.0) before),
                        λ drawn. absurd (All-contains
                            (λ (m : Layer). ¬ ComesBefore (target_of pair.view.now.pairs m) k.0)
                            small.theirs.items drawn.source none.theirs
                            (listed.theirs.all drawn.source q drawn.covers
                            (subst (λ (m : Layer). is_of_span small.span m ≡ true) (sym drawn.is_target) part.0))
                            (subst (λ (m : Layer). ComesBefore m k.0) (sym drawn.is_target) before)),
                      ))
                  | inr other ↦
                      elim other [
                        | inl same ↦
                            inr (inl (λ early. elim early [
                              | inl before ↦
                                  before_itself k.0 (subst (λ (m : Layer). ComesBefore m k.0) same before)
                              | inr here ↦ later q part.1 above here.1
                            ]))
                        | inr gt ↦ inr (later_spared a b k l q gt)
                      ]
                ]
          ]
    ]

-- one more part, of which what can't precede the known difference is left out
pub next_improves : (pair : Pair) (big : Span) (small : Group) (w rows : Window) (k : Difference)
    (next found : Option Difference) → small.span.after ≡ big.after → IsLesser big.last (Some k.0) small.span.last
    → AreListed pair small → AreRowsBefore pair.view.now.pairs small k w rows
    → IsFoundIn (ours pair) (theirs pair) (on small.span (IsInWindow rows)) next → IsLeast (Some k) next found
    → IsImproved (ours pair) (theirs pair) (on big (IsInWindow w)) (Some k) found
next_improves pair big small w rows k next found after last listed (inl is) h =
    let a : Draws = ours pair in
    let b : Draws = theirs pair in
    least_improves a b (on small.span (IsInWindow w)) (on big (IsInWindow w)) (Some k) next found
    (λ l q s. (((span_up_to big small.span k.0 l after last).0 s.0).0, s.1))
    (lesser_layers a b big small.span w k after last)
    (subst (λ (v : Window). IsFoundIn a b (on small.span (IsInWindow v)) next) is h)
next_improves pair big small w rows k next found after last listed (inr is) h =
    let a : Draws = ours pair in
    let b : Draws = theirs pair in
    least_improves a b (on small.span (IsInWindow (rows_to is.0.y w))) (on big (IsInWindow w)) (Some k) next found
    (λ l q s. (((span_up_to big small.span k.0 l after last).0 s.0).0, in_rows w is.0.y q s.1))
    (lesser_rows pair big small w k after last listed is.1 is.0.y is.0.above)
    (subst (λ (v : Window). IsFoundIn a b (on small.span (IsInWindow v)) next) is.0.is h)

-- with nothing known, the first difference of a part is an improvement
pub first_improves : (a b : Draws) (part : Part) (next : Option Difference) → IsFoundIn a b part next
    → IsImproved a b part None next
first_improves a b part next h =
    least_improves a b part part None next next (λ l q s. s) (λ l q s. inl s) h refl

-- on the Layers up to this one, if it is given, both draw the same
abbrev pub AlikeUpTo : Draws → Draws → (Square → Type 0) → Option Layer → Type 0
AlikeUpTo a b W after = (l : Layer) (q : Square) → W q → (is_after after l ≡ true → ⊥) → a l q ↔ b l q

-- a group without a difference
pub group_passed : (a b : Draws) (W : Square → Type 0) (after : Option Layer) (last : Layer) (span : Span)
    (found : Option Difference) → span ≡ record { after = after; last = Some last } → is_some found ≡ false
    → AlikeUpTo a b W after → IsFoundIn a b (on span W) found → AlikeUpTo a b W (Some last)
group_passed a b W after last span None is none before h = λ l q seen never.
    elim (cases_Bool (is_after after l)) [
      | inl here ↦
          let until : is_until (Some last) l ≡ true =
          elim (cases_Bool (is_before last l)) [ inl past ↦ absurd (never past) | inr not_past ↦ ap not not_past ] in
          h l q (
            ap (λ (s : Span). is_of_span s l) is ∙ and_from (is_after after l) (is_until (Some last) l) here
                until,
            seen,
          )
      | inr earlier ↦ before l q seen (λ t. both_ways (is_after after l) earlier t)
    ]
group_passed a b W after last span (Some at) is none before h = absurd cc

past_group : (last : Option Layer) (l : Layer) (q : Square) (at : Difference) → is_until last l ≡ false
    → is_until last at.0 ≡ true → Precedes l q at.0 at.1 → ⊥
past_group None l q at past until precedes = cc
past_group (Some e) l q at past until precedes =
    until_not e at.0 until (elim precedes [
      | inl before ↦ before_trans e l at.0 (past_last e l past) before
      | inr here ↦ subst (λ (x : Layer). ComesBefore e x) here.0 (past_last e l past)
    ])

-- the first group with a difference
group_first : (a b : Draws) (W : Square → Type 0) (span : Span) (at : Difference) → AlikeUpTo a b W span.after
    → IsFoundIn a b (on span W) (Some at) → (l : Layer) (q : Square) → W q → Precedes l q at.0 at.1 → a l q ↔ b l q
group_first a b W span at before h l q seen precedes =
    elim (cases_Bool (is_after span.after l)) [
      | inr earlier ↦ before l q seen (λ t. both_ways (is_after span.after l) earlier t)
      | inl here ↦
          elim (cases_Bool (is_until span.last l)) [
            | inl until ↦
                h.least l q (and_from (is_after span.after l) (is_until span.last l) here until, seen) precedes
            | inr past ↦
                absurd (past_group span.last l q at past
                (and_parts (is_after span.after at.0) (is_until span.last at.0) h.shown.0).1 precedes)
          ]
    ]

pub group_found : (a b : Draws) (W : Square → Type 0) (span : Span) (found : Option Difference) → is_some found ≡ true
    → AlikeUpTo a b W span.after → IsFoundIn a b (on span W) found → IsFoundIn a b (everywhere W) found
group_found a b W span None some before h = absurd cc
group_found a b W span (Some at) some before h =
    record { shown = h.shown.1; alone = h.alone; least = group_first a b W span at before h }

-- the last group
pub group_last : (a b : Draws) (W : Square → Type 0) (after : Option Layer) (span : Span) (found : Option Difference)
    → span ≡ record { after = after; last = None } → AlikeUpTo a b W after → IsFoundIn a b (on span W) found
    → IsFoundIn a b (everywhere W) found
group_last a b W after span None is before h = λ l q seen.
    elim (cases_Bool (is_after after l)) [
      | inl here ↦
          h l q (ap (λ (s : Span). is_of_span s l) is ∙ and_from (is_after after l) true here refl, seen)
      | inr earlier ↦ before l q seen (λ t. both_ways (is_after after l) earlier t)
    ]
group_last a b W after span (Some at) is before h =
    group_found a b W span (Some at) refl
    (subst (λ o. AlikeUpTo a b W o) (sym (ap (λ (s : Span). s.after) is)) before) h
