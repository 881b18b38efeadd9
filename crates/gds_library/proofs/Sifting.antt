-- One more record of a stream in which some are ignored.
use Rattle.std.proofs.Common.{◌≡◌, ◌≢◌, inl, inr, ℕ, Bool, true, false, List, [], ◌∷◌, ◌++◌, Some, sym, ap}
use Rattle.std.proofs.Common.{◌∙◌, subst}
use Rattle.std.specs.Prelude.{◌↔◌, IsTrue, Result, Ok, Err, IsErr, IsErrAnd}
use Rattle.lvl_profile.specs.declared.profile.Profile.{Profile}
use Rattle.lvl_refusal.specs.declared.Cause.{Cause}
use Rattle.lvl_refusal.specs.Refused.{Says}
use Rattle.gds_elements.specs.Rec.{Rec, an_end}
use Rattle.gds_library.specs.Types.{propattr}
use Rattle.gds_library.specs.Rules.{Breaches, BreachesOnly, MayFollow, InOrder}
use Rattle.gds_library.specs.Ignoring.{is_passed, essential, comes_after, AwaitsValue, MayPass}
use Rattle.gds_library.specs.Ignoring.{BreachesBy, BreachesOnlyBy, MayFollowBy}
use Rattle.gds_library.specs.inside.Holds.{HasRead, HasReadBy, TakesBy}
use Rattle.gds_library.specs.declared.fault.GdsKind.{GdsKind}
use Rattle.gds_library.specs.declared.stage.LibraryStage.TheVariants.{Fill}
use Rattle.gds_library.specs.declared.reading.Reading.{Reading}
use Rattle.gds_library.specs.declared.ignoring.WithIgnored.{WithIgnored}
use Rattle.gds_library.proofs.Passing.{essential_passed, essential_kept, last_type-snoc, follows_passed, never_waits}
use Rattle.gds_library.proofs.Passing.{follows_essential, says_essential}
use Rattle.gds_library.proofs.Streams.{has_unwhole}

-- an ignored PROPATTR may come exactly where ENDEL may, if no PROPVALUE is missing
pub passes_end : (profile : Profile) (x : WithIgnored) (rs : List Rec) (r : Rec) (t : Bool) → HasReadBy profile x rs
    → x.reading.builder.stage ≢ Fill → r.kind ≡ propattr → (AwaitsValue rs → ⊥)
    → (IsTrue t ↔ InOrder (essential profile rs) an_end) → IsTrue t ↔ MayPass profile rs r
passes_end profile x rs r t h p e w o = (
  λ y. record { unended = has_unwhole profile x rs h p; there = inl (e, w, o.0 y) },
  λ m. elim m.there [
    | inl z ↦ o.1 z.2
    | inr z ↦ (let y : false ≡ true = subst (λ k. comes_after k z.0 ≡ true) e z.2 in cc)
  ],
)

-- an ignored record of another type may come exactly after those that the syntax allows before it
pub passes_after : (profile : Profile) (x : WithIgnored) (rs : List Rec) (r : Rec) (t : Bool) (j : ℕ)
    → HasReadBy profile x rs → x.reading.builder.stage ≢ Fill → (r.kind ≡ propattr → ⊥) → x.last ≡ Some j
    → t ≡ comes_after r.kind j → IsTrue t ↔ MayPass profile rs r
passes_after profile x rs r t j h p n l e = (
  λ y. record { unended = has_unwhole profile x rs h p; there = inr (j, sym h.last ∙ l, sym e ∙ y) },
  λ m. elim m.there [
    | inl z ↦ absurd (n z.0)
    | inr z ↦
        let i : Some z.0 ≡ Some j = sym z.1 ∙ sym h.last ∙ l in
        let same : z.0 ≡ j = cc in
        e ∙ ap (λ k. comes_after r.kind k) (sym same) ∙ z.2
  ],
)

-- an ignored record was read
pub takes_passed : (profile : Profile) (x y : WithIgnored) (rs : List Rec) (r : Rec) → HasReadBy profile x rs
    → is_passed profile r ≡ true → x.reading.builder.stage ≢ Fill → MayPass profile rs r → y.reading ≡ x.reading
    → y.last ≡ Some r.kind → HasReadBy profile y (rs ++ r ∷ []) × MayFollowBy profile rs r
takes_passed profile x y rs r h e p m same l = (
  record {
    essential = subst (HasRead y.reading) (sym (essential_passed profile rs r e))
        (subst (λ (q : Reading). HasRead q (essential profile rs)) (sym same) h.essential);
    last = l ∙ sym (last_type-snoc rs r);
    waits = λ w. subst (λ (q : Reading). q.builder.stage ≢ Fill) (sym same) p;
  },
  follows_passed profile rs r e m,
)

-- another record was read
pub takes_essential : (profile : Profile) (y : WithIgnored) (rs : List Rec) (r : Rec) → is_passed profile r ≡ false
    → (AwaitsValue rs → ⊥)
    → HasRead y.reading (essential profile rs ++ r ∷ []) × MayFollow profile (essential profile rs) r
    → y.last ≡ Some r.kind → HasReadBy profile y (rs ++ r ∷ []) × MayFollowBy profile rs r
takes_essential profile y rs r e c t l = (
  record {
    essential = subst (HasRead y.reading) (sym (essential_kept profile rs r e)) t.0;
    last = l ∙ sym (last_type-snoc rs r);
    waits = λ w.
        let i : Some r.kind ≡ Some propattr = sym (last_type-snoc rs r) ∙ w in
        let k : r.kind ≡ propattr = cc in
        absurd (never_waits profile (essential profile rs) r t.1 k);
  },
  follows_essential profile rs r e c t.1,
)

-- or refused
pub takes_none : {A : Type 0} (profile : Profile) (rs : List Rec) (r : Rec) (x : WithIgnored)
    (res : Result A (Cause GdsKind))
    (e : Cause GdsKind) → IsErr res × IsErrAnd res (λ f. f ≡ e) → is_passed profile r ≡ false
    → (AwaitsValue rs → ⊥)
    → Says e (λ k. Breaches profile (essential profile rs) r k × BreachesOnly profile (essential profile rs) r k)
    → TakesBy profile rs r x res
takes_none profile rs r x (Ok v) e h n c b = absurd h.1
takes_none profile rs r x (Err f) e h n c b =
    subst (λ (i : Cause GdsKind). Says i (λ k. BreachesBy profile rs r k × BreachesOnlyBy profile rs r k)) (sym h.1)
    (says_essential profile rs r e n c b)
