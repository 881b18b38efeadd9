-- A record breaches at most one rule.
use Rattle.std.proofs.Common.{Bool, true, ◌||◌, ◌≡◌, ◌≢◌, ◌==◌, ℕ, inl, inr, List, length, Some, refl, sym, ap, ◌∙◌}
use Rattle.std.proofs.Common.{subst, arith}
use Rattle.std.proofs.lemmas.Int.{ints}
use Rattle.lvl_path.specs.declared.fault.PathFault.{PathFault}
use Rattle.gds_elements.specs.Types.{boundary, path, aref, layer, datatype, width, xy, sname, colrow, strans, mag}
use Rattle.gds_elements.specs.Types.{angle, pathtype}
use Rattle.lvl_grammar.specs.Order.{Begins}
use Rattle.gds_elements.specs.Order.{an_element}
use Rattle.gds_elements.specs.Rec.{Rec, kinds, opener}
use Rattle.gds_elements.specs.Values.{points}
use Rattle.gds_elements.specs.Rules.{IsKnown, InOrder, ValueBreaches, IsMisplacedAs, ElementBreaches}
use Rattle.gds_elements.specs.declared.fault.Misplaced.{Misplaced}
use Rattle.gds_elements.specs.declared.fault.Misplaced.TheVariants.{Unexpected, Unsupported}
use Rattle.gds_elements.specs.declared.fault.ElementFault.{ElementFault}
use Rattle.gds_elements.specs.declared.fault.ElementFault.TheVariants.{Misplaced as MisplacedRecord, Rule}
use Rattle.gds_elements.specs.declared.fault.ElementRule.{ElementRule}
use Rattle.gds_elements.specs.declared.fault.ElementRule.TheVariants.{Layer, Points, NotClosed, Strans, Magnification}
use Rattle.gds_elements.specs.declared.fault.ElementRule.TheVariants.{Angle, ColRow, ArrayStep, Name, Path, Width}
use Rattle.gds_elements.specs.declared.fault.ElementRule.TheVariants.{PathType, Oblique, Repetition}
use Rattle.gds_elements.proofs.Fields.{kinds-snoc}
use Rattle.gds_elements.proofs.Words.{begun_known}
use Rattle.gds_elements.proofs.Allowed.{one_opener, boundary_counted, path_counted, aref_counted}
use Rattle.lvl_path.specs.Repeats.{asked}
use Rattle.lvl_path.proofs.Lowest.{one_lowest}
use Rattle.lvl_profile.specs.declared.profile.Profile.{Profile}

two_openers : (piece : List Rec) (k j : ℕ) → opener piece ≡ Some k → opener piece ≡ Some j → k ≢ j → ⊥
two_openers piece k j o p n = n (one_opener piece k j o p)

-- the values of a record breach at most one rule
pub one_value : (profile : Profile) (piece : List Rec) (r : Rec) (j k : ElementRule) → ValueBreaches profile piece r j
    → ValueBreaches profile piece r k
    → j ≡ k
one_value profile piece r Layer Layer x y = refl
one_value profile piece r Points Points x y = refl
one_value profile piece r NotClosed NotClosed x y = refl
one_value profile piece r Strans Strans x y = refl
one_value profile piece r Magnification Magnification x y = refl
one_value profile piece r Angle Angle x y = refl
one_value profile piece r ColRow ColRow x y = refl
one_value profile piece r ArrayStep ArrayStep x y = refl
one_value profile piece r Name Name x y = refl
one_value profile piece r Width Width x y = refl
one_value profile piece r PathType PathType x y = refl
one_value profile piece r Oblique Oblique x y = refl
one_value profile piece r Repetition Repetition x y = refl
one_value profile piece r (Path f) (Path g) x y =
    ap (λ (i : PathFault). Path i) (one_lowest (asked profile.ignore.points (points r.payload)) _ f g x.4 y.4)
one_value profile piece r Points NotClosed x y = absurd (boundary_counted piece (length (points r.payload)) y.1 y.2 x.1)
one_value profile piece r NotClosed Points x y = absurd (boundary_counted piece (length (points r.payload)) x.1 x.2 y.1)
one_value profile piece r Points Oblique x y = absurd (boundary_counted piece (length (points r.payload)) y.1 y.2 x.1)
one_value profile piece r Oblique Points x y = absurd (boundary_counted piece (length (points r.payload)) x.1 x.2 y.1)
one_value profile piece r Points ArrayStep x y = absurd (aref_counted piece (length (points r.payload)) y.1 y.2 x.1)
one_value profile piece r ArrayStep Points x y = absurd (aref_counted piece (length (points r.payload)) x.1 x.2 y.1)
one_value profile piece r Points (Path f) x y = absurd (path_counted piece (length (points r.payload)) y.1 y.2 x.1)
one_value profile piece r (Path f) Points x y = absurd (path_counted piece (length (points r.payload)) x.1 x.2 y.1)
one_value profile piece r Points Width x y =
    absurd (elim y.1 [
      | inl z ↦ omega (arith, x.0, z.0)
      | inr z ↦ path_counted piece (length (points r.payload)) y.0 z.1 x.1
    ])
one_value profile piece r Width Points x y =
    absurd (elim x.1 [
      | inl z ↦ omega (arith, y.0, z.0)
      | inr z ↦ path_counted piece (length (points r.payload)) x.0 z.1 y.1
    ])
one_value profile piece r NotClosed Oblique x y = absurd (x.3 y.3)
one_value profile piece r Oblique NotClosed x y = absurd (y.3 x.3)
one_value profile piece r NotClosed ArrayStep x y = absurd (two_openers piece boundary aref x.1 y.1 (λ e. omega arith))
one_value profile piece r ArrayStep NotClosed x y = absurd (two_openers piece boundary aref y.1 x.1 (λ e. omega arith))
one_value profile piece r NotClosed (Path f) x y = absurd (two_openers piece boundary path x.1 y.1 (λ e. omega arith))
one_value profile piece r (Path f) NotClosed x y = absurd (two_openers piece boundary path y.1 x.1 (λ e. omega arith))
one_value profile piece r NotClosed Width x y = absurd (two_openers piece boundary path x.1 y.0 (λ e. omega arith))
one_value profile piece r Width NotClosed x y = absurd (two_openers piece boundary path y.1 x.0 (λ e. omega arith))
one_value profile piece r Oblique ArrayStep x y = absurd (two_openers piece boundary aref x.1 y.1 (λ e. omega arith))
one_value profile piece r ArrayStep Oblique x y = absurd (two_openers piece boundary aref y.1 x.1 (λ e. omega arith))
one_value profile piece r Oblique (Path f) x y = absurd (two_openers piece boundary path x.1 y.1 (λ e. omega arith))
one_value profile piece r (Path f) Oblique x y = absurd (two_openers piece boundary path y.1 x.1 (λ e. omega arith))
one_value profile piece r Oblique Width x y = absurd (two_openers piece boundary path x.1 y.0 (λ e. omega arith))
one_value profile piece r Width Oblique x y = absurd (two_openers piece boundary path y.1 x.0 (λ e. omega arith))
one_value profile piece r ArrayStep (Path f) x y = absurd (two_openers piece aref path x.1 y.1 (λ e. omega arith))
one_value profile piece r (Path f) ArrayStep x y = absurd (two_openers piece aref path y.1 x.1 (λ e. omega arith))
one_value profile piece r ArrayStep Width x y = absurd (two_openers piece aref path x.1 y.0 (λ e. omega arith))
one_value profile piece r Width ArrayStep x y = absurd (two_openers piece aref path y.1 x.0 (λ e. omega arith))
one_value profile piece r (Path f) Width x y = absurd (elim y.1 [ inl z ↦ omega (arith, x.0, z.0) | inr z ↦ x.3 z.2 ])
one_value profile piece r Width (Path f) x y = absurd (elim x.1 [ inl z ↦ omega (arith, y.0, z.0) | inr z ↦ y.3 z.2 ])
one_value profile piece r ColRow Repetition x y =
    absurd (elim x.2 [ inl z ↦ omega (arith, ints, z, y.2) | inr z ↦ omega (arith, ints, z, y.3) ])
one_value profile piece r Repetition ColRow x y =
    absurd (elim y.2 [ inl z ↦ omega (arith, ints, z, x.2) | inr z ↦ omega (arith, ints, z, x.3) ])
one_value profile piece r Layer Width x y =
    absurd (elim y.1 [
      | inl z ↦ elim x.0 [ inl e ↦ omega (arith, e, z.0) | inr e ↦ omega (arith, e, z.0) ]
      | inr z ↦ elim x.0 [ inl e ↦ omega (arith, e, z.0) | inr e ↦ omega (arith, e, z.0) ]
    ])
one_value profile piece r Width Layer x y =
    absurd (elim x.1 [
      | inl z ↦ elim y.0 [ inl e ↦ omega (arith, e, z.0) | inr e ↦ omega (arith, e, z.0) ]
      | inr z ↦ elim y.0 [ inl e ↦ omega (arith, e, z.0) | inr e ↦ omega (arith, e, z.0) ]
    ])
one_value profile piece r Layer k x y = absurd (elim x.0 [
  | inl e ↦ omega (arith, e, y.0)
  | inr e ↦ omega (arith, e, y.0)
])
one_value profile piece r j Layer x y = absurd (elim y.0 [
  | inl e ↦ omega (arith, e, x.0)
  | inr e ↦ omega (arith, e, x.0)
])
one_value profile piece r Width k x y = absurd (elim x.1 [
  | inl z ↦ omega (arith, z.0, y.0)
  | inr z ↦ omega (arith, z.0, y.0)
])
one_value profile piece r j Width x y = absurd (elim y.1 [
  | inl z ↦ omega (arith, z.0, x.0)
  | inr z ↦ omega (arith, z.0, x.0)
])
one_value profile piece r j k x y = absurd (omega (arith, x.0, y.0))

known_there : (piece : List Rec) (r : Rec) → InOrder piece r → IsKnown r.kind
known_there piece r g = begun_known (kinds piece) r.kind (subst (Begins an_element) (kinds-snoc piece r) g)

pub one_misplaced : (ordered : Type 0) (r : Rec) (m n : Misplaced) → IsMisplacedAs ordered r m
    → IsMisplacedAs ordered r n → m ≡ n
one_misplaced ordered r (Unexpected i) (Unexpected j) x y = ap (λ (n : ℕ). Unexpected n) (sym x.0 ∙ y.0)
one_misplaced ordered r (Unsupported i) (Unsupported j) x y = ap (λ (n : ℕ). Unsupported n) (sym x.0 ∙ y.0)
one_misplaced ordered r (Unexpected i) (Unsupported j) x y = absurd (y.2 (subst IsKnown (sym x.0 ∙ y.0) x.1))
one_misplaced ordered r (Unsupported i) (Unexpected j) x y = absurd (x.2 (subst IsKnown (sym y.0 ∙ x.0) y.1))

-- a record of a known type in order isn't misplaced
pub not_misplaced : (ordered : Type 0) (r : Rec) (m : Misplaced) → ordered → IsKnown r.kind → IsMisplacedAs ordered r m
    → ⊥
not_misplaced ordered r (Unexpected j) g i x = x.2 g
not_misplaced ordered r (Unsupported j) g i x = x.2 (subst IsKnown x.0 i)

-- a record breaches at most one rule
pub one_rule : (profile : Profile) (piece : List Rec) (r : Rec) (f g : ElementFault) → ElementBreaches profile piece r f
    → ElementBreaches profile piece r g
    → f ≡ g
one_rule profile piece r (MisplacedRecord m) (MisplacedRecord n) x y =
    ap (λ (i : Misplaced). MisplacedRecord i) (one_misplaced (InOrder piece r) r m n x y)
one_rule profile piece r (MisplacedRecord m) (Rule k) x y =
    absurd (not_misplaced (InOrder piece r) r m y.0 (known_there piece r y.0) x)
one_rule profile piece r (Rule j) (MisplacedRecord n) x y =
    absurd (not_misplaced (InOrder piece r) r n x.0 (known_there piece r x.0) y)
one_rule profile piece r (Rule j) (Rule k) x y = ap (λ (i : ElementRule). Rule i)
    (one_value profile piece r j k x.1 y.1)

-- a type whose value may breach a rule
abbrev pub is_value : ℕ → Bool
is_value k =
    (k == layer) || (k == datatype) || (k == width) || (k == xy) || (k == sname) || (k == colrow) || (k == strans)
    || (k == mag) || (k == angle) || (k == pathtype)

at_value : (k j : ℕ) → is_value j ≡ true → k ≡ j → is_value k ≡ true
at_value k j h e = subst (λ i. is_value i ≡ true) (sym e) h

-- only such a type breaches a rule
pub value_breaches : (profile : Profile) (piece : List Rec) (r : Rec) (k : ElementRule)
    → ValueBreaches profile piece r k → is_value r.kind ≡ true
value_breaches profile piece r Layer x =
    elim x.0 [ inl e ↦ at_value r.kind layer refl e | inr e ↦ at_value r.kind datatype refl e ]
value_breaches profile piece r Points x = at_value r.kind xy refl x.0
value_breaches profile piece r NotClosed x = at_value r.kind xy refl x.0
value_breaches profile piece r Strans x = at_value r.kind strans refl x.0
value_breaches profile piece r Magnification x = at_value r.kind mag refl x.0
value_breaches profile piece r Angle x = at_value r.kind angle refl x.0
value_breaches profile piece r ColRow x = at_value r.kind colrow refl x.0
value_breaches profile piece r ArrayStep x = at_value r.kind xy refl x.0
value_breaches profile piece r Name x = at_value r.kind sname refl x.0
value_breaches profile piece r (Path f) x = at_value r.kind xy refl x.0
value_breaches profile piece r Width x =
    elim x.1 [ inl e ↦ at_value r.kind width refl e.0 | inr e ↦ at_value r.kind xy refl e.0 ]
value_breaches profile piece r PathType x = at_value r.kind pathtype refl x.0
value_breaches profile piece r Oblique x = at_value r.kind xy refl x.0
value_breaches profile piece r Repetition x = at_value r.kind colrow refl x.0
