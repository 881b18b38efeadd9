-- Records that are ignored, among others.
use Rattle.std.proofs.Common.{◌≡◌, ◌<◌, inl, inr, ℕ, Bool, true, false, if◌then◌else◌, List, [], ◌∷◌}
use Rattle.std.proofs.Common.{◌++◌}
use Rattle.std.proofs.Common.{Some, refl, sym, ap, ◌∙◌, subst, arith}
use Rattle.lvl_profile.specs.declared.profile.Profile.{Profile}
use Rattle.lvl_refusal.specs.declared.Cause.{Cause}
use Rattle.lvl_refusal.specs.declared.Cause.TheVariants.{Breach, OutOfMemory}
use Rattle.lvl_refusal.specs.Refused.{Says}
use Rattle.std.specs.Prelude.{is_some}
use Rattle.gds_records.specs.Table.{form_among, property_rows, name_rows}
use Rattle.gds_elements.specs.Rec.{Rec}
use Rattle.gds_elements.specs.Rules.{IsKnown}
use Rattle.gds_elements.specs.inside.Misplaced.{IsMisplacement}
use Rattle.gds_elements.specs.declared.fault.Misplaced.{Misplaced as Misplacement}
use Rattle.gds_elements.specs.declared.fault.Misplaced.TheVariants.{Unexpected, Unsupported}
use Rattle.gds_library.specs.Types.{propattr}
use Rattle.gds_library.specs.Rules.{Breaches, BreachesOnly, MayFollow}
use Rattle.gds_library.specs.Ignoring.{is_passed, essential, last_type, AwaitsValue, MayPass, MayCome, InOrderBy}
use Rattle.gds_library.specs.Ignoring.{IsKnownBy, IsMisplacedBy, BreachesBy, BreachesOnlyBy, MayFollowBy}
use Rattle.gds_library.specs.declared.fault.GdsKind.{GdsKind}
use Rattle.gds_library.specs.declared.fault.GdsKind.TheVariants.{Record, Misplaced, Element, Name, AfterEnd}
use Rattle.gds_library.specs.declared.fault.GdsKind.TheVariants.{TooManyCells}
use Rattle.gds_library.proofs.Spellings.{a_fill}
use Rattle.gds_library.proofs.Known.{ordered_known}

-- one more ignored record doesn't change the others
pub essential_passed : (profile : Profile) (rs : List Rec) (r : Rec) → is_passed profile r ≡ true
    → essential profile (rs ++ r ∷ []) ≡ essential profile rs
essential_passed profile [] r e = rw e refl
essential_passed profile (x ∷ xs) r e =
    ap (λ l. if is_passed profile x then l else x ∷ l) (essential_passed profile xs r e)

pushed : (b : Bool) (x r : Rec) (l : List Rec)
    → (if b then l ++ r ∷ [] else x ∷ (l ++ r ∷ [])) ≡ (if b then l else x ∷ l) ++ r ∷ []
pushed true x r l = refl
pushed false x r l = refl

-- one more record of another kind is added to them
pub essential_kept : (profile : Profile) (rs : List Rec) (r : Rec) → is_passed profile r ≡ false
    → essential profile (rs ++ r ∷ []) ≡ essential profile rs ++ r ∷ []
essential_kept profile [] r e = rw e refl
essential_kept profile (x ∷ xs) r e =
    ap (λ l. if is_passed profile x then l else x ∷ l) (essential_kept profile xs r e)
    ∙ pushed (is_passed profile x) x r (essential profile xs)

-- the type of the last record
pub last_type-snoc : (rs : List Rec) (r : Rec) → last_type (rs ++ r ∷ []) ≡ Some r.kind
last_type-snoc [] r = refl
last_type-snoc (x ∷ []) r = refl
last_type-snoc (x ∷ y ∷ ys) r = last_type-snoc (y ∷ ys) r

unpassed_by : (p n : Bool)
    → is_some (form_among ((if p then property_rows else []) ++ (if n then name_rows else [])) 256) ≡ false
unpassed_by true true = refl
unpassed_by true false = refl
unpassed_by false true = refl
unpassed_by false false = refl

-- a zero byte after the end isn't ignored
pub fill_unpassed : (profile : Profile) → is_passed profile a_fill ≡ false
fill_unpassed profile = rw (unpassed_by profile.ignore.properties profile.ignore.names) refl

-- nor does a PROPVALUE have to come after it
pub fill_waits : (rs : List Rec) → AwaitsValue (rs ++ a_fill ∷ []) → ⊥
fill_waits rs w =
    let e : Some a_fill.kind ≡ Some propattr = sym (last_type-snoc rs a_fill) ∙ w in
    let k : a_fill.kind ≡ propattr = cc in
    omega (arith, k)

-- an ignored record can only breach the rule of order
passed_only : (profile : Profile) (before : List Rec) (r : Rec) (k : GdsKind) → is_passed profile r ≡ true
    → BreachesBy profile before r k → (m : Misplacement) × (k ≡ Misplaced m) × IsMisplacedBy profile before r m
passed_only profile before r (Misplaced m) e b = (m, refl, b)
passed_only profile before r other e b = absurd (let z : true ≡ false = sym e ∙ b.0 in cc)

-- it may follow if it is in order
pub follows_passed : (profile : Profile) (before : List Rec) (r : Rec) → is_passed profile r ≡ true
    → MayPass profile before r → MayFollowBy profile before r
follows_passed profile before r e p = (inl (e, p), λ n. (let z : true ≡ false = sym e ∙ n in cc))

unexpected : (profile : Profile) (before : List Rec) (r : Rec) (m : Misplacement) → IsKnownBy profile r
    → IsMisplacedBy profile before r m → m ≡ Unexpected r.kind
unexpected profile before r (Unexpected j) k x = ap (λ (i : ℕ). Unexpected i) (sym x.0)
unexpected profile before r (Unsupported j) k x = absurd (x.2 k)

-- if not, it is refused by that rule alone
pub refuses_passed : (profile : Profile) (before : List Rec) (r : Rec) → is_passed profile r ≡ true
    → (MayPass profile before r → ⊥)
    → BreachesBy profile before r (Misplaced (Unexpected r.kind))
    × BreachesOnlyBy profile before r (Misplaced (Unexpected r.kind))
refuses_passed profile before r e n =
    let o : InOrderBy profile before r → ⊥ = λ g. elim g [
      | inl p ↦ n p.1
      | inr q ↦ (let z : true ≡ false = sym e ∙ q.unpassed in cc)
    ] in (
      (refl, inl e, o),
      λ k b.
          let x = passed_only profile before r k e b in
          x.1 ∙ ap (λ (i : Misplacement). Misplaced i) (unexpected profile before r x.0 (inl e) x.2),
    )

unpassed_known : (profile : Profile) (r : Rec) → is_passed profile r ≡ false → IsKnownBy profile r → IsKnown r.kind
unpassed_known profile r e k = elim k [ inl p ↦ (let z : true ≡ false = sym p ∙ e in cc) | inr q ↦ q ]

unpassed_ordered : (profile : Profile) (before : List Rec) (r : Rec) → is_passed profile r ≡ false
    → InOrderBy profile before r → MayCome profile before r
unpassed_ordered profile before r e g = elim g [ inl p ↦ (let z : true ≡ false = sym p.0 ∙ e in cc) | inr q ↦ q ]

-- a rule that a record breaches after the records that aren't ignored
pub breach_by : (profile : Profile) (before : List Rec) (r : Rec) (k : GdsKind) → is_passed profile r ≡ false
    → (AwaitsValue before → ⊥) → Breaches profile (essential profile before) r k → BreachesBy profile before r k
breach_by profile before r (Misplaced (Unexpected j)) e c b = (
  b.0,
  inr (subst IsKnown (sym b.0) b.1),
  λ g. b.2 (unpassed_ordered profile before r e g).ordered,
)
breach_by profile before r (Misplaced (Unsupported j)) e c b = (
  b.0,
  b.1,
  λ k. b.2 (subst IsKnown b.0 (unpassed_known profile r e k)),
)
breach_by profile before r other e c b = (e, c, b)

breach_back : (profile : Profile) (before : List Rec) (r : Rec) (k : GdsKind) → is_passed profile r ≡ false
    → (AwaitsValue before → ⊥) → BreachesBy profile before r k → Breaches profile (essential profile before) r k
breach_back profile before r (Misplaced (Unexpected j)) e c b = (
  b.0,
  subst IsKnown b.0 (unpassed_known profile r e b.1),
  λ g. b.2 (inr (record { unpassed = e; complete = c; ordered = g })),
)
breach_back profile before r (Misplaced (Unsupported j)) e c b = (
  b.0,
  b.1,
  λ k. b.2 (inr (subst IsKnown (sym b.0) k)),
)
breach_back profile before r other e c b = b.2

-- a record that isn't ignored may follow if it may do so after the others that aren't ignored
pub follows_essential : (profile : Profile) (before : List Rec) (r : Rec) → is_passed profile r ≡ false
    → (AwaitsValue before → ⊥) → MayFollow profile (essential profile before) r → MayFollowBy profile before r
follows_essential profile before r e c f = (
  inr (record { unpassed = e; complete = c; ordered = f.0 }),
  λ _. f.1,
)

-- and is refused by the same rule
refuses_essential : (profile : Profile) (before : List Rec) (r : Rec) (k : GdsKind) → is_passed profile r ≡ false
    → (AwaitsValue before → ⊥)
    → Breaches profile (essential profile before) r k × BreachesOnly profile (essential profile before) r k
    → BreachesBy profile before r k × BreachesOnlyBy profile before r k
refuses_essential profile before r k e c b = (
  breach_by profile before r k e c b.0,
  λ j y. b.1 j (breach_back profile before r j e c y),
)

pub says_essential : (profile : Profile) (before : List Rec) (r : Rec) (x : Cause GdsKind) → is_passed profile r ≡ false
    → (AwaitsValue before → ⊥)
    → Says x (λ k. Breaches profile (essential profile before) r k
    × BreachesOnly profile (essential profile before) r k)
    → Says x (λ k. BreachesBy profile before r k × BreachesOnlyBy profile before r k)
says_essential profile before r (Breach k) e c b = refuses_essential profile before r k e c b
says_essential profile before r OutOfMemory e c b = tt

waiting_breach : (profile : Profile) (before : List Rec) (r : Rec) (m : Misplacement) → is_passed profile r ≡ false
    → AwaitsValue before → IsMisplacement r.kind m → r.kind < 60 → BreachesBy profile before r (Misplaced m)
waiting_breach profile before r (Unexpected j) e w m l = (
  sym m.0,
  inr m.1,
  λ g. (unpassed_ordered profile before r e g).complete w,
)
waiting_breach profile before r (Unsupported j) e w m l = (
  sym m.0,
  omega (arith, l, m.0),
  λ k. m.1 (unpassed_known profile r e k),
)

one_misplaced : (profile : Profile) (before : List Rec) (r : Rec) (m n : Misplacement) → is_passed profile r ≡ false
    → IsMisplacement r.kind m → IsMisplacedBy profile before r n → n ≡ m
one_misplaced profile before r (Unexpected i) (Unexpected j) e m n =
    ap (λ (h : ℕ). Unexpected h) (sym n.0 ∙ sym m.0)
one_misplaced profile before r (Unexpected i) (Unsupported j) e m n = absurd (n.2 (inr m.1))
one_misplaced profile before r (Unsupported i) (Unexpected j) e m n = absurd (m.1 (unpassed_known profile r e n.1))
one_misplaced profile before r (Unsupported i) (Unsupported j) e m n =
    ap (λ (h : ℕ). Unsupported h) (sym n.0 ∙ sym m.0)

waiting_only : (profile : Profile) (before : List Rec) (r : Rec) (m : Misplacement) (k : GdsKind)
    → is_passed profile r ≡ false → AwaitsValue before → IsMisplacement r.kind m → BreachesBy profile before r k
    → k ≡ Misplaced m
waiting_only profile before r m (Misplaced n) e w x b =
    ap (λ (i : Misplacement). Misplaced i) (one_misplaced profile before r m n e x b)
waiting_only profile before r m other e w x b = absurd (b.1 w)

-- if a PROPVALUE is missing, any other record is refused by the rule of order alone
pub refuses_waiting : (profile : Profile) (before : List Rec) (r : Rec) (m : Misplacement) → is_passed profile r ≡ false
    → AwaitsValue before → IsMisplacement r.kind m → r.kind < 60
    → BreachesBy profile before r (Misplaced m) × BreachesOnlyBy profile before r (Misplaced m)
refuses_waiting profile before r m e w x l = (
  waiting_breach profile before r m e w x l,
  λ k b. waiting_only profile before r m k e w x b,
)

-- a PROPATTR that isn't ignored is never in order
pub never_waits : (profile : Profile) (es : List Rec) (r : Rec) → MayFollow profile es r → r.kind ≡ propattr → ⊥
never_waits profile es r f e =
    (let z : false ≡ true = subst IsKnown e (ordered_known es r f.0 (omega (arith, e))) in cc)

-- a record that may come next is one that is read or ignored
ordered_by : (profile : Profile) (before : List Rec) (r : Rec) → InOrderBy profile before r → r.kind < 60
    → IsKnownBy profile r
ordered_by profile before r o l = elim o [
  | inl p ↦ inl p.0
  | inr e ↦ inr (ordered_known (essential profile before) r e.ordered l)
]

-- a record that may follow breaches no rule
pub follows_kept : (profile : Profile) (before : List Rec) (r : Rec) (k : GdsKind) → MayFollowBy profile before r
    → BreachesBy profile before r k → ⊥
follows_kept profile before r (Record f) g b = b.2
follows_kept profile before r (Misplaced (Unexpected j)) g b = b.2 g.0
follows_kept profile before r (Misplaced (Unsupported j)) g b =
    b.2 (ordered_by profile before r g.0 (omega (arith, b.0, b.1)))
follows_kept profile before r (Element k) g b = (g.1 b.0).element k b.2.1
follows_kept profile before r Name g b = b.2.2 ((g.1 b.0).name b.2.1)
follows_kept profile before r AfterEnd g b = b.2
follows_kept profile before r TooManyCells g b = omega (arith, b.2.2, (g.1 b.0).cells b.2.1)
