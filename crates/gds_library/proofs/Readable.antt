-- What a library that was read, and a refusal, say about every reading of the bytes.
use Rattle.lvl_profile.specs.declared.profile.Profile.{Profile}
use Rattle.std.proofs.Common.{◌≡◌, ℕ, List, [], Some, None, sym, ap, ◌∙◌, subst, Result, Ok, Err, IfErr}
use Rattle.std.specs.Prelude.{Option}
use Rattle.std.specs.Io.KnownBytes.{prepend_known}
use Rattle.lvl_refusal.specs.Refused.{Says}
use Rattle.lvl_refusal.specs.declared.Cause.{Cause}
use Rattle.lvl_refusal.specs.declared.Cause.TheVariants.{Breach, OutOfMemory}
use Rattle.lvl_grammar.specs.Front.{SpellsNothing}
use Rattle.lvl_grammar.specs.Refused.{IsHopeless, IsUnread}
use Rattle.lvl_grammar.proofs.Laws.{one_whole}
use Rattle.lvl_grammar.proofs.Reading.{unread_front}
use Rattle.lvl_grammar.proofs.Stuck.{seen_stuck, seen_hopeless, stuck_none, truncated_none}
use Rattle.gds_records.specs.declared.fault.RecordFault.TheVariants.{Truncated, Read}
use Rattle.gds_library.specs.Drawn.{Drawing}
use Rattle.gds_library.specs.Front.{gds, SpellsLibrary, SpellsNone}
use Rattle.gds_library.specs.Faults.{gds_faults}
use Rattle.gds_library.specs.Ends.{Reports, ReportsAt, ReportsUnread, IsExcused, IsExcusedKind, IsEarly, IsEarlyKind}
use Rattle.gds_library.specs.inside.Refuses.{Refuses, RefusesAt}
use Rattle.gds_library.specs.Ignoring.{essential}
use Rattle.gds_library.specs.Values.{drawings, head}
use Rattle.gds_library.specs.declared.head.GdsHead.{GdsHead}
use Rattle.gds_library.specs.declared.fault.GdsFault.{GdsFault}
use Rattle.gds_library.specs.declared.fault.GdsKind.{GdsKind}
use Rattle.gds_library.specs.declared.fault.GdsKind.TheVariants.{Record}
use Rattle.gds_library.proofs.Instance.{is_grammar, are_faults}

-- if no bytes are in hand, the reader has all that are left
pub none_in_hand : (hand : List ℕ) (remaining left : Option (List ℕ)) → left ≡ prepend_known hand remaining → hand ≡ []
    → left ≡ remaining
none_in_hand hand None left e h = e
none_in_hand hand (Some ys) left e h = rw h at e

-- bytes spell at most one library
pub law_only : (profile : Profile) (xs : List ℕ) (cells ds : List Drawing) (h g : GdsHead)
    → SpellsLibrary profile xs cells h
    → SpellsLibrary profile xs ds g → (ds ≡ cells) × (g ≡ h)
law_only profile xs cells ds h g p q =
    let e = one_whole (gds profile) (is_grammar profile) xs q.records p.records q.whole p.whole in (
      q.cells_are ∙ ap (λ l. drawings (essential profile l)) e ∙ sym p.cells_are,
      q.head_is ∙ ap (λ l. head (essential profile l)) e ∙ sym p.head_is,
    )

-- if the bytes aren't a whole file, they spell no library
none_spelled : (profile : Profile) (xs : List ℕ) → SpellsNothing (gds profile) xs → SpellsNone profile xs
none_spelled profile xs n cells h p = n p.records p.whole

-- what a refusal says
reports_at : (profile : Profile) (xs : List ℕ) (left : Option (List ℕ)) (at : ℕ) (k : GdsKind)
    → RefusesAt profile xs left at k → ReportsAt profile xs at k
reports_at profile xs left at (Record Truncated) x = x
reports_at profile xs left at (Record Read) x = unread_front (gds_faults profile) xs left at x
reports_at profile xs left at other x = seen_stuck (gds_faults profile) (are_faults profile) xs at left other x

none_at : (profile : Profile) (xs : List ℕ) (left : Option (List ℕ)) (at : ℕ) (k : GdsKind)
    → RefusesAt profile xs left at k → (IsExcusedKind k → ⊥)
    → SpellsNone profile xs
none_at profile xs left at (Record Truncated) x n = none_spelled profile xs
    (truncated_none (gds_faults profile) (are_faults profile) xs at x)
none_at profile xs left at (Record Read) x n = absurd (n tt)
none_at profile xs left at other x n = none_spelled profile xs
    (stuck_none (gds profile) xs at (seen_stuck (gds_faults profile) (are_faults profile) xs at left other x).0)

early_at : (profile : Profile) (xs : List ℕ) (left : Option (List ℕ)) (at : ℕ) (k : GdsKind)
    → RefusesAt profile xs left at k → IsEarlyKind k
    → IsHopeless (gds profile) xs left
early_at profile xs left at (Record Truncated) x i = absurd i
early_at profile xs left at (Record Read) x i = absurd i
early_at profile xs left at other x i = seen_hopeless (gds_faults profile) (are_faults profile) xs at left other x

unread_at : (profile : Profile) (xs : List ℕ) (left : Option (List ℕ)) (at : ℕ) (k : GdsKind)
    → RefusesAt profile xs left at k → IsExcusedKind k
    → IsUnread (gds_faults profile) xs left at
unread_at profile xs left at (Record Read) x e = x
unread_at profile xs left at other x e = absurd e

-- the same for a result
refused : (profile : Profile) {A : Type 0} (xs : List ℕ) (left : Option (List ℕ)) (P : GdsFault → Type 0)
    → ((f : GdsFault) → Refuses profile xs left f → P f) → (r : Result A (Cause GdsFault))
    → IfErr r (λ e. Says e (Refuses profile xs left)) → IfErr r (λ e. Says e P)
refused profile xs left P h (Ok x) s = tt
refused profile xs left P h (Err (Breach f)) s = h f s
refused profile xs left P h (Err OutOfMemory) s = tt

pub refused_reports : (profile : Profile) {A : Type 0} (xs : List ℕ) (left : Option (List ℕ))
    (r : Result A (Cause GdsFault))
    → IfErr r (λ e. Says e (Refuses profile xs left)) → IfErr r (λ e. Says e (Reports profile xs))
refused_reports profile xs left = refused profile xs left (Reports profile xs)
    (λ f x. reports_at profile xs left f.offset f.kind x)

pub refused_none : (profile : Profile) {A : Type 0} (xs : List ℕ) (left : Option (List ℕ))
    (r : Result A (Cause GdsFault))
    → IfErr r (λ e. Says e (Refuses profile xs left))
    → IfErr r (λ e. Says e (λ f. (IsExcused f → ⊥) → SpellsNone profile xs))
refused_none profile xs left =
    refused profile xs left (λ f. (IsExcused f → ⊥) → SpellsNone profile xs)
    (λ f x. none_at profile xs left f.offset f.kind x)

pub refused_early : (profile : Profile) {A : Type 0} (xs : List ℕ) (left : Option (List ℕ))
    (r : Result A (Cause GdsFault))
    → IfErr r (λ e. Says e (Refuses profile xs left))
    → IfErr r (λ e. Says e (λ f. IsEarly f → IsHopeless (gds profile) xs left))
refused_early profile xs left =
    refused profile xs left (λ f. IsEarly f → IsHopeless (gds profile) xs left)
    (λ f x. early_at profile xs left f.offset f.kind x)

refused_unread : (profile : Profile) {A : Type 0} (xs : List ℕ) (left : Option (List ℕ)) (r : Result A (Cause GdsFault))
    → IfErr r (λ e. Says e (Refuses profile xs left)) → IfErr r (λ e. Says e (ReportsUnread profile xs left))
refused_unread profile xs left = refused profile xs left (ReportsUnread profile xs left)
    (λ f x. unread_at profile xs left f.offset f.kind x)

-- the same for the bytes that are left in the end
pub unread_left : (profile : Profile) {A : Type 0} (xs : List ℕ) (left left' : Option (List ℕ))
    (r : Result A (Cause GdsFault))
    → IfErr r (λ e. Says e (Refuses profile xs left)) → left ≡ left'
    → IfErr r (λ e. Says e (ReportsUnread profile xs left'))
unread_left profile xs left left' r h e =
    subst (λ l. IfErr r (λ e. Says e (ReportsUnread profile xs l))) e (refused_unread profile xs left r h)

pub early_left : (profile : Profile) {A : Type 0} (xs : List ℕ) (left left' : Option (List ℕ))
    (r : Result A (Cause GdsFault))
    → IfErr r (λ e. Says e (Refuses profile xs left)) → left ≡ left'
    → IfErr r (λ e. Says e (λ f. IsEarly f → IsHopeless (gds profile) xs left'))
early_left profile xs left left' r h e =
    subst (λ l. IfErr r (λ e. Says e (λ f. IsEarly f → IsHopeless (gds profile) xs l))) e
    (refused_early profile xs left r h)
