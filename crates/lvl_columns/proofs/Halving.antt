-- The least difference of two lists is that of their halves, one after the other.
use Rattle.std.proofs.Common.{◌≡◌, ℤ, ◌<ℤ◌, ◌≤ℤ◌, List, Some, None, ◌⊎◌, inl, inr, ◌↔◌, refl, subst, sym, ◌∙◌, IfNone, IfSome}
use Rattle.std.proofs.Common.{arith}
use Rattle.std.proofs.lemmas.Int.{by_lt_z, ints}
use Rattle.lvl_grid.specs.declared.point.Point.{Point}
use Rattle.lvl_grid.specs.declared.point.Square.{Square}
use Rattle.lvl_grid.specs.Winding.{SomeCovers}
use Rattle.lvl_grid.specs.Squares.{IsBefore}
use Rattle.lvl_region.specs.declared.region.Side.{Side}
use Rattle.lvl_region.specs.declared.region.Side.TheVariants.{First, Second}
use Rattle.lvl_sweep.specs.Ahead.{IsUpTo}
use Rattle.lvl_columns.specs.Columns.{Lists, Outcome, Agree, Differ, NotBefore, IsFoundIn, IsFirst, IsLeastWith, IsPartOf}
use Rattle.lvl_columns.specs.Columns.{last_row}

-- where a part differs, the whole does
pub part_differs : (P : Square → Type 0) (l part : Lists) (s : Square) (side : Side) → IsPartOf P l part
    → Differ part s side → P s × Differ l s side
part_differs P l part s First h a = let p = (h s).0.0 a.0 in (p.0, (p.1, λ q. a.1 ((h s).1.1 (p.0, q))))
part_differs P l part s Second h a = let p = (h s).1.0 a.0 in (p.0, (p.1, λ q. a.1 ((h s).0.1 (p.0, q))))

-- where a part agrees, the whole does
pub part_agrees : (P : Square → Type 0) (l part : Lists) (s : Square) → IsPartOf P l part → P s → Agree part s
    → Agree l s
part_agrees P l part s h p same = (
  λ a. ((h s).1.0 (same.0 ((h s).0.1 (p, a)))).1,
  λ b. ((h s).0.0 (same.1 ((h s).1.1 (p, b)))).1,
)

part_found : (P : Square → Type 0) (l part : Lists) (found : Outcome) → IsPartOf P l part → IsFoundIn part found
    → IsFoundIn l found
part_found P l part None h a = tt
part_found P l part (Some at) h a = (part_differs P l part at.0 at.1 h a).1

-- the least difference of both halves, one after the other, is that of the whole
pub least_of_halves : (l left right : Lists) (at : ℤ) (known half found : Outcome) → IsPartOf (λ s. s.x <ℤ at) l left
    → IsPartOf (λ s. at ≤ℤ s.x) l right → IsLeastWith left known half → IsLeastWith right half found
    → IsLeastWith l known found
least_of_halves l left right at known half found hl hr h k = record {
  one = elim k.one [
    | inl same ↦ elim h.one [
      | inl is ↦ inl (same ∙ is)
      | inr a ↦ inr (subst (IsFoundIn l) (sym same) (part_found (λ s. s.x <ℤ at) l left half hl a))
    ]
    | inr a ↦ inr (part_found (λ s. at ≤ℤ s.x) l right found hr a)
  ];
  bound = λ s n. k.bound s (h.bound s n);
  least = λ s. by_lt_z s.x at
      (λ lt. elim (h.least s) [
        | inl a ↦ inl (part_agrees (λ s. s.x <ℤ at) l left s hl lt a)
        | inr n ↦ inr (k.bound s n)
      ])
      (λ ge. elim (k.least s) [
        | inl a ↦ inl (part_agrees (λ s. at ≤ℤ s.x) l right s hr ge a)
        | inr n ↦ inr n
      ]);
}

-- lists that cover the same squares have no difference beside what is known
pub least_of_same : (l : Lists) (known : Outcome) → ((s : Square) → Agree l s) → IsLeastWith l known known
least_of_same l known same = record { one = inl refl; bound = λ s n. n; least = λ s. inl (same s) }

-- a square is before another, or not
before_or_not : (s t : Square) → IsBefore s t ⊎ (¬ IsBefore s t)
before_or_not s t =
    by_lt_z s.y t.y (λ a. inl (inl a))
    (λ a.
    by_lt_z t.y s.y
    (λ b. inr (λ k. elim k [
      | inl d ↦ absurd (omega (arith, ints, d, b))
      | inr d ↦ absurd (let e = d.0 in omega (arith, ints, e, b))
    ]))
    (λ b. by_lt_z s.x t.x (λ d. inl (inr (omega (arith, ints, a, b), d)))
    (λ d.
    inr (λ k. elim k [
      | inl m ↦ absurd (omega (arith, ints, m, a))
      | inr m ↦ absurd (let n = m.1 in omega (arith, ints, n, d))
    ]))))

above_or_up_to : (s : Square) (known : Outcome) → NotBefore s known ⊎ IsUpTo (last_row known) s.y
above_or_up_to s None = inr tt
above_or_up_to s (Some at) =
    by_lt_z at.0.y s.y
    (λ h.
    inl (λ k. elim k [
      | inl d ↦ absurd (omega (arith, ints, d, h))
      | inr d ↦ absurd (let e = d.0 in omega (arith, ints, e, h))
    ])) (λ h. inr h)

-- what a sweep finds up to the row of what is known
swept_least : (f g : List (List Point)) (known found : Outcome) (s : Square)
    → IfNone found ((s : Square) → IsUpTo (last_row known) s.y → SomeCovers f s ↔ SomeCovers g s)
    → IfSome found (λ at. (s : Square) → IsBefore s at.0 → SomeCovers f s ↔ SomeCovers g s)
    → Agree (f, g) s ⊎ (NotBefore s known ⊎ NotBefore s found)
swept_least f g known None s same least =
    elim (above_or_up_to s known) [ inl n ↦ inr (inl n) | inr up ↦ inl (same s up) ]
swept_least f g known (Some at) s same least =
    elim (before_or_not s at.0) [ inl b ↦ inl (least s b) | inr n ↦ inr (inr n) ]

found_of_sweep : (f g : List (List Point)) (found : Outcome) → IfSome found (λ at. Differ (f, g) at.0 at.1)
    → IsFoundIn (f, g) found
found_of_sweep f g None differ = tt
found_of_sweep f g (Some at) differ = differ

-- the lesser of what is known and of what a sweep finds
pub least_of_sweep : (f g : List (List Point)) (known found lesser : Outcome)
    → IfNone found ((s : Square) → IsUpTo (last_row known) s.y → SomeCovers f s ↔ SomeCovers g s)
    → IfSome found (λ at. Differ (f, g) at.0 at.1)
    → IfSome found (λ at. (s : Square) → IsBefore s at.0 → SomeCovers f s ↔ SomeCovers g s)
    → ((lesser ≡ known) ⊎ (lesser ≡ found))
    → ((s : Square) → (NotBefore s known ⊎ NotBefore s found) → NotBefore s lesser)
    → IsLeastWith (f, g) known lesser
least_of_sweep f g known found lesser same differ least one bound = record {
  one = elim one [
    | inl is ↦ inl is
    | inr is ↦ inr (subst (IsFoundIn (f, g)) (sym is) (found_of_sweep f g found differ))
  ];
  bound = λ s n. bound s (inl n);
  least = λ s. elim (swept_least f g known found s same least) [ inl a ↦ inl a | inr n ↦ inr (bound s n) ];
}

-- lists that cover what others do have the same least difference
pub first_as : (l other : Lists) (found : Outcome)
    → ((s : Square) → (SomeCovers other.0 s ↔ SomeCovers l.0 s) × (SomeCovers other.1 s ↔ SomeCovers l.1 s))
    → IsFirst other found → IsFirst l found
first_as l other found same h =
    let part : IsPartOf (λ s. Unit {0}) l other =
    λ s. ((λ a. (tt, (same s).0.0 a), λ a. (same s).0.1 a.1), (λ a. (tt, (same s).1.0 a), λ a. (same s).1.1 a.1)) in
    record {
      one = elim h.one [ inl is ↦ inl is | inr a ↦ inr (part_found (λ s. Unit {0}) l other found part a) ];
      bound = h.bound;
      least = λ s. elim (h.least s) [
        | inl a ↦ inl (part_agrees (λ s. Unit {0}) l other s part tt a)
        | inr n ↦ inr n
      ];
    }

-- the least difference, as the contract of a comparison says it
pub first_same : (l : Lists) (found : Outcome) → IsFirst l found → IfNone found ((s : Square) → Agree l s)
first_same l None h = λ s. elim (h.least s) [ inl a ↦ a | inr n ↦ absurd n ]
first_same l (Some at) h = tt

pub first_differ : (l : Lists) (found : Outcome) → IsFirst l found → IfSome found (λ at. Differ l at.0 at.1)
first_differ l None h = tt
first_differ l (Some at) h = elim h.one [ inl is ↦ absurd (let no : Some at ≡ None = is in cc) | inr a ↦ a ]

pub first_least : (l : Lists) (found : Outcome) → IsFirst l found
    → IfSome found (λ at. (s : Square) → IsBefore s at.0 → Agree l s)
first_least l None h = tt
first_least l (Some at) h = λ s b. elim (h.least s) [ inl a ↦ a | inr n ↦ absurd (n b) ]
