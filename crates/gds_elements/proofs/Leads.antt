-- What may still come in an element, after one more record.
use Rattle.std.proofs.Common.{◌≡◌, ◌==◌, ℕ, ◌<◌, Bool, true, false, List, [], ◌∷◌, ◌++◌, refl, sym, subst, arith}
use Rattle.gds_elements.specs.Types.{endel}
use Rattle.lvl_grammar.specs.Order.{Order, one, Begins}
use Rattle.gds_elements.specs.Order.{an_element}
use Rattle.gds_elements.specs.Rec.{Rec, kinds}
use Rattle.gds_elements.specs.Rules.{IsKnown, InOrder, IsMisplacedAs, ElementBreaches}
use Rattle.lvl_grammar.specs.inside.After.{LeadsTo}
use Rattle.lvl_refusal.specs.Refused.{Says}
use Rattle.gds_elements.specs.inside.Misplaced.{IsMisplacement, IsMisplaced}
use Rattle.lvl_refusal.specs.declared.Cause.{Cause}
use Rattle.gds_elements.specs.declared.fault.ElementFault.{ElementFault}
use Rattle.gds_elements.specs.declared.fault.ElementFault.TheVariants.{Misplaced as MisplacedRecord, Rule}
use Rattle.gds_elements.specs.declared.fault.Misplaced.{Misplaced}
use Rattle.gds_elements.specs.declared.fault.Misplaced.TheVariants.{Unexpected, Unsupported}
use Rattle.lvl_refusal.specs.declared.Cause.TheVariants.{Breach, OutOfMemory}
use Rattle.lvl_grammar.specs.inside.After.{after_first}
use Rattle.lvl_grammar.proofs.Orders.{type_same}
use Rattle.lvl_grammar.proofs.Leads.{leads_begin, leads_on, leads_nowhere, leads_begins as begins_by}
use Rattle.gds_elements.proofs.Fields.{kinds-snoc}
use Rattle.lvl_profile.specs.declared.profile.Profile.{Profile}

-- the types before what is left begin an element
pub leads_begins : (w : List ℕ) (a : Order) → LeadsTo an_element w a → Begins an_element w
leads_begins = begins_by an_element

-- a piece with one more record
pub leads_more : (piece : List Rec) (r : Rec) (a b : Order) → LeadsTo an_element (kinds piece) a
    → after_first a r.kind ≡ b ∷ [] → LeadsTo an_element (kinds (piece ++ r ∷ [])) b
leads_more piece r a b h t =
    subst (λ w. LeadsTo an_element w b) (sym (kinds-snoc piece r)) (leads_on an_element (kinds piece) a b r.kind h t)

-- the record is in order
pub in_order : (piece : List Rec) (r : Rec) (a b : Order) → LeadsTo an_element (kinds piece) a
    → after_first a r.kind ≡ b ∷ [] → InOrder piece r
in_order piece r a b h t = begins_by an_element (kinds (piece ++ r ∷ [])) b (leads_more piece r a b h t)

-- the first record alone
pub leads_first : (k : ℕ) (a : Order) → after_first an_element k ≡ a ∷ [] → LeadsTo an_element (k ∷ []) a
leads_first k a t = leads_on an_element [] an_element a k (leads_begin an_element) t

-- a record that may not come is misplaced
pub misplaced_as : (ordered : Type 0) (r : Rec) (m : Misplaced) → (ordered → ⊥) → r.kind < 60 → IsMisplacement r.kind m
    → IsMisplacedAs ordered r m
misplaced_as ordered r (Unexpected j) n l m = (sym m.0, subst IsKnown (sym m.0) m.1, n)
misplaced_as ordered r (Unsupported j) n l m = (sym m.0, omega (arith, m.0), λ g. m.1 (subst IsKnown m.0 g))

-- and also if fewer records are in order
pub misplaced_carried : (a b : Type 0) (r : Rec) (m : Misplaced) → (b → a) → IsMisplacedAs a r m → IsMisplacedAs b r m
misplaced_carried a b r (Unexpected j) f x = (x.0, x.1, λ g. x.2 (f g))
misplaced_carried a b r (Unsupported j) f x = x

pub law_misplaced : (profile : Profile) (piece : List Rec) (r : Rec) (a : Order) (e : Cause ElementFault)
    → LeadsTo an_element (kinds piece) a → after_first a r.kind ≡ [] → r.kind < 60 → IsMisplaced r.kind e
    → Says e (ElementBreaches profile piece r)
law_misplaced profile piece r a (Breach (MisplacedRecord m)) h t l x =
    misplaced_as (InOrder piece r) r m (λ g. leads_nowhere an_element (kinds piece) a r.kind h t
    (subst (Begins an_element) (kinds-snoc piece r) g)) l x
law_misplaced profile piece r a (Breach (Rule k)) h t l x = absurd x
law_misplaced profile piece r a OutOfMemory h t l x = absurd x

-- the meaning of a refusal, weakened
pub says_carried : {F : Type 0} (e : Cause F) (P : F → Type 0) (Q : F → Type 0) → ((k : F) → P k → Q k) → Says e P
    → Says e Q
says_carried (Breach k) P Q f h = f k h
says_carried OutOfMemory P Q f h = tt

other_type : (b : Bool) (k : ℕ) → k == endel ≡ b → (k ≡ endel → ⊥) → after_first (one endel) k ≡ []
other_type true k e n = absurd (n (type_same k endel e))
other_type false k e n = rw e refl

-- if only ENDEL is left, no other type may come
pub none_there : (k : ℕ) → (k ≡ endel → ⊥) → after_first (one endel) k ≡ []
none_there k n = other_type (k == endel) k refl n
