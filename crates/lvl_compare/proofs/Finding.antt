-- The first difference of two layouts, part by part.
use Rattle.std.proofs.Common.{◌≡◌, ◌↔◌, ◌⊎◌, inl, inr, List, Option, Some, None, ℤ, ◌<ℤ◌, ◌≤ℤ◌}
use Rattle.std.proofs.Common.{true, false, int_lt, refl, sym, subst, ◌∙◌, arith}
use Rattle.std.specs.Prelude.{IfNone, IfSome}
use Rattle.std.proofs.lemmas.Int.{ints}
use Rattle.std.proofs.lemmas.Bool.{cases_order, cases_Bool}
use Rattle.lvl_grid.specs.declared.point.Square.{Square}
use Rattle.lvl_grid.specs.Squares.{IsBefore}
use Rattle.lvl_grid.proofs.Squares.{same_square}
use Rattle.lvl_grid.specs.Winding.{SomeCovers}
use Rattle.lvl_names.specs.declared.layer.Layer.{Layer}
use Rattle.lvl_names.specs.Layers.{ComesBefore}
use Rattle.lvl_names.proofs.Layers.{before_trans, layers_equal}
use Rattle.lvl_region.specs.Region.{IsAlone}
use Rattle.lvl_region.specs.declared.region.Side.{Side}
use Rattle.lvl_region.specs.declared.region.Side.TheVariants.{First, Second}
use Rattle.lvl_flat.specs.Sheet.{PlainSheet}
use Rattle.lvl_flat.specs.Sheets.{rings_on}
use Rattle.lvl_compare.specs.Flats.{AlikeOn, IsFirstApart}
use Rattle.lvl_compare.specs.Tops.{Draws}
use Rattle.lvl_compare.specs.inside.Strips.{Difference, Part, Precedes, IsFoundIn, IsImproved, IsLeast, IsNew, IsOpen}
use Rattle.lvl_compare.specs.inside.Strips.{ShowsOf}

alike_there : (a b : Draws) (part : Part) (f g : List PlainSheet) → ShowsOf a part f → ShowsOf b part g → (l : Layer)
    (q : Square) → part l q → SomeCovers (rings_on l f) q ↔ SomeCovers (rings_on l g) q → a l q ↔ b l q
alike_there a b part f g ours theirs l q shown same = (
  λ x. ((theirs l q).0 (same.0 ((ours l q).1 (shown, x)))).1,
  λ y. ((ours l q).0 (same.1 ((theirs l q).1 (shown, y)))).1,
)

-- only one side draws a square of a part, in the flat layouts of the part and in all
alone_there : (a b : Draws) (part : Part) (f g : List PlainSheet) → ShowsOf a part f → ShowsOf b part g → (l : Layer)
    (q : Square) (side : Side) → IsAlone (SomeCovers (rings_on l f)) (SomeCovers (rings_on l g)) q side
    → part l q × IsAlone (a l) (b l) q side
alone_there a b part f g ours theirs l q First h =
    let c = (ours l q).0 h.0 in
    (c.0, (c.1, λ y. h.1 ((theirs l q).1 (c.0, y))))
alone_there a b part f g ours theirs l q Second h =
    let c = (theirs l q).0 h.0 in
    (c.0, (c.1, λ x. h.1 ((ours l q).1 (c.0, x))))

-- the first difference of two flat layouts of a part
pub flats_found : (a b : Draws) (part : Part) (f g : List PlainSheet) (found : Option Difference) → ShowsOf a part f
    → ShowsOf b part g → IfNone found ((l : Layer) → AlikeOn f g l)
    → IfSome found (λ at. IsFirstApart f g at.0 at.1 at.2)
    → IsFoundIn a b part found
flats_found a b part f g None ours theirs same differ =
    λ l q shown. alike_there a b part f g ours theirs l q shown (same l q)
flats_found a b part f g (Some at) ours theirs same differ =
    let alone = alone_there a b part f g ours theirs at.0 at.1 at.2 differ.alone in
    record {
      shown = alone.0;
      alone = alone.1;
      least = λ l q shown before.
          alike_there a b part f g ours theirs l q shown
          (elim before [
            | inl b ↦ differ.least_layer l b q
            | inr b ↦
                subst (λ (x : Layer). SomeCovers (rings_on x f) q ↔ SomeCovers (rings_on x g) q) (sym b.0)
                (differ.least_square q b.1)
          ]);
    }

pub below : (a b : ℤ) → int_lt a b ≡ true → a <ℤ b
below a b h = grind (arith, ints, h)

pub not_below : (a b : ℤ) → int_lt a b ≡ false → b ≤ℤ a
not_below a b h = grind (arith, ints, h)

-- of two Layers, or two squares, one comes before the other, or they are equal
pub layers_order : (a b : Layer) → ComesBefore a b ⊎ ((a ≡ b) ⊎ ComesBefore b a)
layers_order a b =
    elim (cases_order a.layer b.layer) [
      | inl same ↦
          elim (cases_order a.datatype b.datatype) [
            | inl too ↦ inr (inl (layers_equal a b same too))
            | inr other ↦
                elim other [ inl lt ↦ inl (inr (same, lt)) | inr gt ↦ inr (inr (inr (sym same, gt))) ]
          ]
      | inr other ↦ elim other [ inl lt ↦ inl (inl lt) | inr gt ↦ inr (inr (inl gt)) ]
    ]

equal : (a b : ℤ) → int_lt a b ≡ false → int_lt b a ≡ false → a ≡ b
equal a b h g = grind (arith, ints, h, g)

ints_order : (a b : ℤ) → (a <ℤ b) ⊎ ((a ≡ b) ⊎ (b <ℤ a))
ints_order a b =
    elim (cases_Bool (int_lt a b)) [
      | inl lt ↦ inl (below a b lt)
      | inr not ↦
          elim (cases_Bool (int_lt b a))
          [ inl gt ↦ inr (inr (below b a gt)) | inr nor ↦ inr (inl (equal a b not nor)) ]
    ]

squares_order : (s t : Square) → IsBefore s t ⊎ ((s ≡ t) ⊎ IsBefore t s)
squares_order s t =
    elim (ints_order s.y t.y) [
      | inl lt ↦ inl (inl lt)
      | inr other ↦
          elim other [
            | inl same ↦
                elim (ints_order s.x t.x) [
                  | inl lt ↦ inl (inr (same, lt))
                  | inr more ↦
                      elim more [
                        | inl too ↦ inr (inl (same_square s t too same))
                        | inr gt ↦ inr (inr (inr (sym same, gt)))
                      ]
                ]
            | inr gt ↦ inr (inr (inl gt))
          ]
    ]

before_before : (r s t : Square) → IsBefore r s → IsBefore s t → IsBefore r t
before_before r s t (inl h) (inl k) = inl (omega (arith, ints, h, k))
before_before r s t (inl h) (inr k) = inl (omega (arith, ints, h, k.0))
before_before r s t (inr h) (inl k) = inl (omega (arith, ints, h.0, k))
before_before r s t (inr h) (inr k) = inr (h.0 ∙ k.0, omega (arith, ints, h.1, k.1))

-- what comes before the first of two comes before the second, if the second doesn't come before the first
precedes_second : (l : Layer) (s : Square) (x y : Difference) → Precedes l s x.0 x.1 → (Precedes y.0 y.1 x.0 x.1 → ⊥)
    → Precedes l s y.0 y.1
precedes_second l s x y before late =
    elim (layers_order l y.0) [
      | inl lt ↦ inl lt
      | inr other ↦
          elim other [
            | inl same ↦
                elim (squares_order s y.1) [
                  | inl lt ↦ inr (same, lt)
                  | inr more ↦
                      elim more [
                        | inl one ↦
                            absurd (late (subst (λ (q : Square). Precedes y.0 q x.0 x.1) one
                            (subst (λ (m : Layer). Precedes m s x.0 x.1) same before)))
                        | inr gt ↦
                            absurd (late (elim before [
                              | inl b ↦ inl (subst (λ (m : Layer). ComesBefore m x.0) same b)
                              | inr b ↦ inr (sym same ∙ b.0, before_before y.1 s x.1 gt b.1)
                            ]))
                      ]
                ]
            | inr gt ↦
                absurd (late (elim before [
                  | inl b ↦ inl (before_trans y.0 l x.0 gt b)
                  | inr b ↦ inl (subst (λ (m : Layer). ComesBefore y.0 m) b.0 gt)
                ]))
          ]
    ]

-- the order is transitive
precedes_further : (l : Layer) (s : Square) (x y : Difference) → Precedes l s x.0 x.1 → Precedes x.0 x.1 y.0 y.1
    → Precedes l s y.0 y.1
precedes_further l s x y (inl b) (inl c) = inl (before_trans l x.0 y.0 b c)
precedes_further l s x y (inl b) (inr c) = inl (subst (λ (m : Layer). ComesBefore l m) c.0 b)
precedes_further l s x y (inr b) (inl c) = inl (subst (λ (m : Layer). ComesBefore m y.0) (sym b.0) c)
precedes_further l s x y (inr b) (inr c) = inr (b.0 ∙ c.0, before_before s x.1 y.1 b.1 c.1)

-- a square of the part W that is left out: it doesn't come before what is known, or both draw it or neither
abbrev pub IsSpared : Draws → Draws → Option Difference → Layer → Square → Type 0
IsSpared a b known l q = (IsOpen known l q → ⊥) ⊎ (a l q ↔ b l q)

-- the lesser of what is known and the first difference of a part, where the rest of a greater part may be left out
pub least_improves : (a b : Draws) (V W : Part) (known next found : Option Difference)
    → ((l : Layer) (q : Square) → V l q → W l q)
    → ((l : Layer) (q : Square) → W l q → V l q ⊎ IsSpared a b known l q) → IsFoundIn a b V next
    → IsLeast known next found → IsImproved a b W known found
least_improves a b V W None None found to split h is =
    subst (IsImproved a b W None) (sym is)
    (record {
      alike = λ l q shown early.
          elim (split l q shown) [
            | inl v ↦ h l q v
            | inr spared ↦ elim spared [ inl never ↦ absurd (never tt) | inr same ↦ same ]
          ];
      new = tt;
      kept = λ e. refl;
    })
least_improves a b V W None (Some y) found to split h is =
    subst (IsImproved a b W None) (sym is)
    (record {
      alike = λ l q shown early.
          elim (split l q shown) [
            | inl v ↦ h.least l q v early
            | inr spared ↦ elim spared [ inl never ↦ absurd (never tt) | inr same ↦ same ]
          ];
      new = inr (record { shown = to y.0 y.1 h.shown; alone = h.alone; early = tt });
      kept = λ e. cc;
    })
least_improves a b V W (Some x) None found to split h is =
    subst (IsImproved a b W (Some x)) (sym is)
    (record {
      alike = λ l q shown early.
          elim (split l q shown) [
            | inl v ↦ h l q v
            | inr spared ↦ elim spared [ inl never ↦ absurd (never early) | inr same ↦ same ]
          ];
      new = inl refl;
      kept = λ e. cc;
    })
least_improves a b V W (Some x) (Some y) found to split h (inl is) =
    subst (IsImproved a b W (Some x)) (sym is.0)
    (record {
      alike = λ l q shown early.
          elim (split l q shown) [
            | inl v ↦ h.least l q v (precedes_second l q x y early is.1)
            | inr spared ↦ elim spared [ inl never ↦ absurd (never early) | inr same ↦ same ]
          ];
      new = inl refl;
      kept = λ e. cc;
    })
least_improves a b V W (Some x) (Some y) found to split h (inr is) =
    subst (IsImproved a b W (Some x)) (sym is.0)
    (record {
      alike = λ l q shown early.
          elim (split l q shown) [
            | inl v ↦ h.least l q v early
            | inr spared ↦
                elim spared [ inl never ↦ absurd (never (precedes_further l q y x early is.1)) | inr same ↦ same ]
          ];
      new = inr (record { shown = to y.0 y.1 h.shown; alone = h.alone; early = is.1 });
      kept = λ e. cc;
    })

-- what comes before what is found comes before what was known
still_open : (a b : Draws) (V : Part) (known found : Option Difference) → IsImproved a b V known found → (l : Layer)
    (q : Square) → IsOpen found l q → IsOpen known l q
still_open a b V None found h l q early = tt
still_open a b V (Some x) None h l q early = absurd (let none : Some x ≡ None = h.kept refl in cc)
still_open a b V (Some x) (Some y) h l q early =
    elim h.new [
      | inl same ↦ (let one : x ≡ y = cc in subst (λ (z : Difference). Precedes l q z.0 z.1) (sym one) early)
      | inr new ↦ precedes_further l q y x early new.early
    ]

new_later : (a b : Draws) (V W P : Part) (known found : Option Difference) (at : Difference)
    → ((l : Layer) (q : Square) → V l q → P l q) → ((l : Layer) (q : Square) → W l q → P l q)
    → IsImproved a b V known found → (found ≡ Some at) ⊎ IsNew a b W found at
    → (known ≡ Some at) ⊎ IsNew a b P known at
new_later a b V W P known found at from to h (inl same) =
    elim (subst (λ o. IfSome o (λ x. (known ≡ Some x) ⊎ IsNew a b V known x)) same h.new) [
      | inl old ↦ inl old
      | inr new ↦ inr (record { shown = from at.0 at.1 new.shown; alone = new.alone; early = new.early })
    ]
new_later a b V W P known found at from to h (inr new) =
    inr (record {
      shown = to at.0 at.1 new.shown;
      alone = new.alone;
      early = still_open a b V known found h at.0 at.1 new.early;
    })

newest : (a b : Draws) (V W P : Part) (known found last : Option Difference)
    → ((l : Layer) (q : Square) → V l q → P l q) → ((l : Layer) (q : Square) → W l q → P l q)
    → IsImproved a b V known found → IsImproved a b W found last
    → IfSome last (λ at. (known ≡ Some at) ⊎ IsNew a b P known at)
newest a b V W P known found None from to h g = tt
newest a b V W P known found (Some at) from to h g = new_later a b V W P known found at from to h g.new

-- one part after another
pub improved_more : (a b : Draws) (V W P : Part) (known found last : Option Difference)
    → ((l : Layer) (q : Square) → V l q → P l q) → ((l : Layer) (q : Square) → W l q → P l q)
    → ((l : Layer) (q : Square) → P l q → V l q ⊎ W l q) → IsImproved a b V known found
    → IsImproved a b W found last → IsImproved a b P known last
improved_more a b V W P known found last from to split h g = record {
  alike = λ l q shown early.
      elim (split l q shown) [
        | inl v ↦ h.alike l q v (still_open a b W found last g l q early)
        | inr w ↦ g.alike l q w early
      ];
  new = newest a b V W P known found last from to h g;
  kept = λ e. h.kept (g.kept e);
}

-- no square of no part
pub improved_none : (a b : Draws) (P : Part) (known : Option Difference) → ((l : Layer) (q : Square) → P l q → ⊥)
    → IsImproved a b P known known
improved_none a b P None none = record {
  alike = λ l q shown early. absurd (none l q shown);
  new = tt;
  kept = λ e. refl;
}
improved_none a b P (Some x) none = record {
  alike = λ l q shown early. absurd (none l q shown);
  new = inl refl;
  kept = λ e. e;
}

-- what is found where nothing was known
pub improved_found : (a b : Draws) (P : Part) (found : Option Difference) → IsImproved a b P None found
    → IsFoundIn a b P found
improved_found a b P None h = λ l q shown. h.alike l q shown tt
improved_found a b P (Some at) h =
    elim h.new [
      | inl none ↦ absurd cc
      | inr new ↦ record { shown = new.shown; alone = new.alone; least = h.alike }
    ]

-- what is known precedes all differences of a part, and so of a smaller one
pub past_within : (a b : Draws) (P Q : Part) (known : Option Difference) → ((l : Layer) (q : Square) → Q l q → P l q)
    → IsImproved a b P known known → IsImproved a b Q known known
past_within a b P Q None within h = record {
  alike = λ l s part early. h.alike l s (within l s part) early;
  new = tt;
  kept = λ e. e;
}
past_within a b P Q (Some at) within h = record {
  alike = λ l s part early. h.alike l s (within l s part) early;
  new = inl refl;
  kept = λ e. e;
}
