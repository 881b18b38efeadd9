-- What the result of a record says.
use Rattle.std.proofs.Common.{◌≡◌, ◌==◌, ℕ, false, List, [], ◌∷◌, ◌++◌, map, Some, refl, sym, ap, ◌∙◌, subst, Result}
use Rattle.std.proofs.Common.{Ok, Err, IfOk, IfErr, Option, None}
use Rattle.std.specs.Prelude.{OnOk}
use Rattle.std.specs.Result.{IsErr, IsErrAnd}
use Rattle.std.proofs.lemmas.List.{append-nil}
use Rattle.gds_elements.specs.Types.{layer, datatype, width, xy, endel, sname, colrow, strans, angle, pathtype}
use Rattle.lvl_grammar.specs.Order.{IsWord, Begins}
use Rattle.gds_elements.specs.Order.{an_element}
use Rattle.gds_elements.specs.Rec.{Rec, kinds, opener, last_of}
use Rattle.gds_elements.specs.Meaning.{shapes_by, references_by, in_rings}
use Rattle.gds_elements.specs.Rules.{InOrder, ValueBreaches, ElementBreaches, BreachesNone, BreachesOnly}
use Rattle.lvl_refusal.specs.Refused.{Says}
use Rattle.gds_elements.specs.inside.Misplaced.{Broken, breach}
use Rattle.gds_elements.specs.declared.fault.ElementFault.TheVariants.{Misplaced as MisplacedRecord, Rule}
use Rattle.gds_elements.specs.inside.Reading.{Takes, Steps, IsStep, IsAfter, Draws, IsAtEnd, record_of}
use Rattle.lvl_refusal.specs.declared.Cause.{Cause}
use Rattle.gds_elements.specs.declared.fault.ElementFault.{ElementFault}
use Rattle.gds_elements.specs.declared.fault.ElementRule.{ElementRule}
use Rattle.gds_elements.specs.declared.element.Drawn.{Drawn}
use Rattle.gds_elements.specs.declared.element.Element.{Element}
use Rattle.gds_elements.specs.declared.element.Step.{Step}
use Rattle.gds_elements.proofs.Fields.{last_there, opener-snoc, kinds-snoc}
use Rattle.gds_elements.proofs.Leads.{says_carried}
use Rattle.gds_elements.proofs.OneRule.{one_rule}
use Rattle.gds_elements.proofs.Allowed.{law_endel, allowed}
use Rattle.lvl_profile.specs.declared.profile.Profile.{Profile}

-- nothing is drawn yet
pub none_drawn : {S : Type 0} (IsRead : S → List Rec → Type 0) (s : S) (o : Option Drawn) (piece : List Rec) → o ≡ None
    → IsRead s piece → IsAfter IsRead s o piece
none_drawn IsRead s o piece n h = subst (λ i. IsAfter IsRead s i piece) (sym n) h

-- a refusal that is passed on
pub takes_refused : {S T : Type 0} (IsRead : S → List Rec → Type 0) (s : S) (o : Option Drawn) (profile : Profile)
    (piece : List Rec) (r : Rec) (res : Result T (Cause ElementFault)) (e : Cause ElementFault)
    → IsErr res × IsErrAnd res (λ x. x ≡ e) → Says e (ElementBreaches profile piece r)
    → Takes IsRead s o profile piece r res
takes_refused IsRead s o profile piece r (Ok t) e h b = absurd h.1
takes_refused IsRead s o profile piece r (Err x) e h b = subst (λ (i : Cause ElementFault). Says i
    (ElementBreaches profile piece r)) (sym h.1) b

broken_breaches : (profile : Profile) (piece : List Rec) (r : Rec) (P : ElementRule → Type 0) → InOrder piece r
    → ((k : ElementRule) → P k → ValueBreaches profile piece r k) → (f : ElementFault) → Broken P f
    → ElementBreaches profile piece r f
broken_breaches profile piece r P g h (MisplacedRecord m) x = absurd x
broken_breaches profile piece r P g h (Rule k) x = (g, h k x)

-- a refusal by a value that breaches a rule
pub takes_broken : {S T : Type 0} (IsRead : S → List Rec → Type 0) (s : S) (o : Option Drawn) (profile : Profile)
    (piece : List Rec) (r : Rec) (res : Result T (Cause ElementFault)) (e : Cause ElementFault)
    (P : ElementRule → Type 0)
    → IsErr res × IsErrAnd res (λ x. x ≡ e) → InOrder piece r
    → ((k : ElementRule) → P k → ValueBreaches profile piece r k) → Says e (Broken P)
    → Takes IsRead s o profile piece r res
takes_broken IsRead s o profile piece r res e P h g f b =
    takes_refused IsRead s o profile piece r res e h (says_carried e (Broken P) (ElementBreaches profile piece r)
    (broken_breaches profile piece r P g f)
    b)

pub takes_one : {S T : Type 0} (IsRead : S → List Rec → Type 0) (s : S) (o : Option Drawn) (profile : Profile)
    (piece : List Rec) (r : Rec) (res : Result T (Cause ElementFault)) (e : Cause ElementFault) (k : ElementRule)
    → IsErr res × IsErrAnd res (λ x. x ≡ e) → InOrder piece r
    → e ≡ breach k → ValueBreaches profile piece r k → Takes IsRead s o profile piece r res
takes_one IsRead s o profile piece r res e k h g f b =
    takes_refused IsRead s o profile piece r res e h (subst (λ (i : Cause ElementFault). Says i
    (ElementBreaches profile piece r)) (sym f) (g, b))

-- ENDEL changes nothing of what was drawn
same_kinds : (piece : List Rec) (r : Rec) (j : ℕ) → r.kind ≡ endel → endel == j ≡ false
    → last_of j (piece ++ r ∷ []) ≡ last_of j piece
same_kinds piece r j e n = last_there j piece r (subst (λ k. k == j ≡ false) (sym e) n)

endel_shapes : (k : ℕ) (piece : List Rec) (r : Rec) → r.kind ≡ endel
    → shapes_by (Some k) (piece ++ r ∷ []) ≡ shapes_by (Some k) piece
endel_shapes k piece r e =
    rw (
      same_kinds piece r layer e refl,
      same_kinds piece r datatype e refl,
      same_kinds piece r xy e refl,
      same_kinds piece r width e refl,
      same_kinds piece r pathtype e refl,
    ) refl

endel_references : (k : ℕ) (piece : List Rec) (r : Rec) → r.kind ≡ endel
    → references_by (Some k) (piece ++ r ∷ []) ≡ references_by (Some k) piece
endel_references k piece r e =
    rw (
      same_kinds piece r sname e refl,
      same_kinds piece r strans e refl,
      same_kinds piece r angle e refl,
      same_kinds piece r xy e refl,
      same_kinds piece r colrow e refl,
    ) refl

pub law_end : (profile : Profile) (piece : List Rec) (r : Rec) (d : Drawn) → IsAtEnd d piece → r.kind ≡ endel
    → Draws (Some d) (piece ++ r ∷ []) × BreachesNone profile piece r
law_end profile piece r d h e =
    let new = piece ++ r ∷ [] in
    let k = h.opened.0 in
    let o : opener new ≡ Some k = opener-snoc piece r k h.opened.1 in
    let whole : IsWord an_element (kinds new) =
    subst (IsWord an_element) (sym (kinds-snoc piece r ∙ ap (λ i. kinds piece ++ i ∷ []) e))
    ((h.leads (endel ∷ [])).1 refl) in
    let begun : Begins an_element (kinds new) =
    ([], subst (IsWord an_element) (sym (append-nil (kinds new))) whole) in (
      (
        whole,
        record {
          shapes = h.drawn.shapes ∙ ap (λ q. map in_rings (shapes_by q piece)) h.opened.1 ∙ ap (map in_rings)
              (sym (endel_shapes k piece r e)) ∙ sym (ap (λ q. map in_rings (shapes_by q new)) o);
          references = h.drawn.references ∙ ap (λ q. references_by q piece) h.opened.1
              ∙ sym (endel_references k piece r e) ∙ sym (ap (λ q. references_by q new) o);
        },
      ),
      allowed profile piece r begun (law_endel profile piece r e),
    )

-- a refusal that is passed on by a step
pub steps_stop : (x : Element) (profile : Profile) (piece : List Rec) (r : Rec) (res : Result Step
    (Cause ElementFault)) (e : Cause ElementFault)
    → IsErr res × IsErrAnd res (λ i. i ≡ e) → Says e (ElementBreaches profile piece r) → Steps x profile piece r res
steps_stop x profile piece r (Ok s) e h b = absurd h.1
steps_stop x profile piece r (Err f) e h b =
    subst (λ (i : Cause ElementFault). Says i (ElementBreaches profile piece r)) (sym h.1) b

-- a step by a record of this type and payload is one by the record
pub steps_record : (x : Element) (profile : Profile) (piece : List Rec) (r : Rec) (k : ℕ) (p : List ℕ)
    (res : Result Step (Cause ElementFault))
    → r.kind ≡ k → r.payload ≡ p → ((d : ℕ) → Steps x profile piece (record_of k d p) res)
    → Steps x profile piece r res
steps_record x profile piece r k p res e f h =
    let g : record_of k r.data_type p ≡ r = ap (λ i. record_of i r.data_type p) (sym e)
    ∙ ap (λ q. record_of r.kind r.data_type q) (sym f) in
    subst (λ (i : Rec). Steps x profile piece i res) g (h r.data_type)

pub steps_going : (x : Element) (profile : Profile) (piece : List Rec) (r : Rec) (res : Result Step
    (Cause ElementFault))
    → Steps x profile piece r res → IfOk res (λ s. IsStep x s (piece ++ r ∷ []))
steps_going x profile piece r (Ok s) h = h.0
steps_going x profile piece r (Err e) h = tt

pub steps_allowed : (x : Element) (profile : Profile) (piece : List Rec) (r : Rec) (res : Result Step
    (Cause ElementFault))
    → Steps x profile piece r res → OnOk res (BreachesNone profile piece r)
steps_allowed x profile piece r (Ok s) h = h.1
steps_allowed x profile piece r (Err e) h = tt

pub steps_refused : (x : Element) (profile : Profile) (piece : List Rec) (r : Rec) (res : Result Step
    (Cause ElementFault))
    → Steps x profile piece r res → IfErr res (λ e. Says e (ElementBreaches profile piece r))
steps_refused x profile piece r (Ok s) h = tt
steps_refused x profile piece r (Err e) h = h

pub steps_alone : (x : Element) (profile : Profile) (piece : List Rec) (r : Rec) (res : Result Step
    (Cause ElementFault))
    → Steps x profile piece r res → IfErr res (λ e. Says e (BreachesOnly profile piece r))
steps_alone x profile piece r (Ok s) h = tt
steps_alone x profile piece r (Err e) h =
    says_carried e (ElementBreaches profile piece r) (BreachesOnly profile piece r)
    (λ k x j y. one_rule profile piece r j k y x) h
