-- What a library that was read, and a refusal, say about every reading of the bytes.
use Rattle.std.proofs.Common.{◌≡◌, ℕ, List, sym, ap, ◌∙◌, subst, Result, Ok, Err, IfErr, map}
use Rattle.std.specs.Prelude.{Option}
use Rattle.lvl_refusal.specs.Refused.{Says}
use Rattle.lvl_refusal.specs.declared.Cause.{Cause}
use Rattle.lvl_refusal.specs.declared.Cause.TheVariants.{Breach, OutOfMemory}
use Rattle.lvl_grammar.specs.Front.{SpellsNothing, SpellsWhole}
use Rattle.lvl_grammar.specs.Refused.{IsHopeless}
use Rattle.lvl_grammar.proofs.Laws.{one_whole}
use Rattle.lvl_grammar.proofs.Reading.{unread_front}
use Rattle.lvl_grammar.proofs.Stuck.{seen_stuck, seen_hopeless, stuck_none, truncated_none}
use Rattle.lvl_path.specs.Figure.{Figure}
use Rattle.lvl_cells.specs.Cells.{PlainCell, Rings}
use Rattle.lvl_profile.specs.declared.profile.Profile.{Profile}
use Rattle.oasis_values.specs.declared.fault.ValueFault.TheVariants.{Truncated, Read}
use Rattle.oasis_stream.specs.Ends.{ReportsAt}
use Rattle.oasis_stream.specs.Blocks.{cause}
use Rattle.oasis_stream.specs.Front.{oasis}
use Rattle.oasis_stream.specs.Faults.{oasis_faults}
use Rattle.oasis_stream.specs.Items.{Item, records}
use Rattle.oasis_stream.specs.Order.{names_in}
use Rattle.oasis_stream.specs.inside.Refuses.{RefusesAt}
use Rattle.oasis_stream.specs.declared.fault.OasisKind.{OasisKind}
use Rattle.oasis_stream.specs.declared.fault.OasisKind.TheVariants.{Value}
use Rattle.oasis_stream.proofs.Instance.{is_grammar, are_faults}
use Rattle.oasis_library.specs.Cells.{drawings, with_rings}
use Rattle.oasis_library.specs.Ends.{Reports, ReportsUnread, ReportsUnresolved, IsExcused, IsEarly}
use Rattle.oasis_library.specs.Head.{head_of}
use Rattle.oasis_library.specs.Library.{SpellsLibrary, SpellsNone, IsRead}
use Rattle.oasis_library.specs.Names.{AreCells, numbers_used, IsUnnamed}
use Rattle.oasis_library.specs.inside.Refuses.{Refuses}
use Rattle.oasis_library.specs.declared.fault.OasisFault.{OasisFault}
use Rattle.oasis_library.specs.declared.fault.OasisFault.TheVariants.{At, Unresolved}
use Rattle.oasis_library.specs.declared.head.OasisHead.{OasisHead}
use Rattle.oasis_library.proofs.Resolving.{cells_named, unnamed_none, same_cells, kept_cells, numbers_kept}

same_items : (profile : Profile) (xs : List ℕ) (is js : List Item) → SpellsWhole (oasis profile) xs is
    → SpellsWhole (oasis profile) xs js → is ≡ js
same_items profile xs is js p q = one_whole (oasis profile) (is_grammar profile) xs is js p q

-- bytes spell at most one library
pub law_only : (profile : Profile) (xs : List ℕ) (cells ds : List (PlainCell Figure)) (h g : OasisHead)
    → SpellsLibrary profile xs cells h
    → SpellsLibrary profile xs ds g → (ds ≡ cells) × (g ≡ h)
law_only profile xs cells ds h g p q =
    let e = same_items profile xs q.items p.items q.whole p.whole in
    let are : AreCells (names_in (records p.items)) (drawings (records p.items)) ds =
    subst (λ is. AreCells (names_in (records is)) (drawings (records is)) ds) e q.cells_are in (
      same_cells (names_in (records p.items)) (drawings (records p.items)) cells ds p.cells_are are,
      q.head_is
          ∙ ap (λ is. head_of (records is)) e ∙ sym p.head_is,
    )

-- what was read of a whole file is the library that it spells
pub law_read : (profile : Profile) (xs : List ℕ) (is : List Item) (found : List (PlainCell Rings)) (h : OasisHead)
    → SpellsWhole (oasis profile) xs is
    → AreCells (names_in (records is)) (map with_rings (drawings (records is))) found → h ≡ head_of (records is)
    → IsRead profile xs found h
law_read profile xs is found h whole are head =
    let k = kept_cells (names_in (records is)) (drawings (records is)) found are in
    let spelled : SpellsLibrary profile xs k.cells h = record {
      items = is;
      whole = whole;
      cells_are = k.are;
      head_is = head;
    } in
    record {
      cells = k.cells;
      spelled = spelled;
      only = λ others g q. law_only profile xs k.cells others h g spelled q;
      kept_as = k.kept_as;
    }

-- a number that no name has, in the cells as they are kept
pub law_unresolved : (profile : Profile) (xs : List ℕ) (is : List Item) (n : ℕ) → SpellsWhole (oasis profile) xs is
    → IsUnnamed (names_in (records is)) (numbers_used (map with_rings (drawings (records is)))) n
    → ReportsUnresolved profile xs n
law_unresolved profile xs is n whole u =
    (is, whole, subst (λ l. IsUnnamed (names_in (records is)) l n) (numbers_kept (drawings (records is))) u)

-- if the bytes aren't a whole file, they spell no library
none_spelled : (profile : Profile) (xs : List ℕ) → SpellsNothing (oasis profile) xs → SpellsNone profile xs
none_spelled profile xs n cells h p = n p.items p.whole

none_resolved : (profile : Profile) (xs : List ℕ) (n : ℕ) → ReportsUnresolved profile xs n → SpellsNone profile xs
none_resolved profile xs n t cells h p =
    let e = same_items profile xs p.items t.0 p.whole t.1 in
    let are : AreCells (names_in (records t.0)) (drawings (records t.0)) cells =
    subst (λ is. AreCells (names_in (records is)) (drawings (records is)) cells) e p.cells_are in
    unnamed_none (names_in (records t.0)) (numbers_used (drawings (records t.0))) n
    (cells_named (names_in (records t.0)) (drawings (records t.0)) cells are) t.2

-- what a refusal says
reports_at : (profile : Profile) (xs : List ℕ) (left : Option (List ℕ)) (at : ℕ) (k : OasisKind)
    → RefusesAt profile xs left at k → ReportsAt profile xs at k
reports_at profile xs left at (Value Truncated) x = x
reports_at profile xs left at (Value Read) x = unread_front (oasis_faults profile) xs left at x
reports_at profile xs left at other x = seen_stuck (oasis_faults profile) (are_faults profile) xs at left (cause other) x

reports : (profile : Profile) (xs : List ℕ) (left : Option (List ℕ)) (f : OasisFault) → Refuses profile xs left f
    → Reports profile xs f
reports profile xs left (At at k) x = reports_at profile xs left at k x
reports profile xs left (Unresolved n) x = x

none_at : (profile : Profile) (xs : List ℕ) (left : Option (List ℕ)) (at : ℕ) (k : OasisKind)
    → RefusesAt profile xs left at k
    → (IsExcused (At at k) → ⊥)
    → SpellsNone profile xs
none_at profile xs left at (Value Truncated) x n = none_spelled profile xs
    (truncated_none (oasis_faults profile) (are_faults profile) xs at x)
none_at profile xs left at (Value Read) x n = absurd (n tt)
none_at profile xs left at other x n =
    none_spelled profile xs (stuck_none (oasis profile) xs at
    (seen_stuck (oasis_faults profile) (are_faults profile) xs at left (cause other) x).0)

none_of : (profile : Profile) (xs : List ℕ) (left : Option (List ℕ)) (f : OasisFault) → Refuses profile xs left f
    → (IsExcused f → ⊥)
    → SpellsNone profile xs
none_of profile xs left (At at k) x n = none_at profile xs left at k x n
none_of profile xs left (Unresolved m) x n = none_resolved profile xs m x

early_at : (profile : Profile) (xs : List ℕ) (left : Option (List ℕ)) (at : ℕ) (k : OasisKind)
    → RefusesAt profile xs left at k → IsEarly (At at k)
    → IsHopeless (oasis profile) xs left
early_at profile xs left at (Value Truncated) x i = absurd i
early_at profile xs left at (Value Read) x i = absurd i
early_at profile xs left at other x i = seen_hopeless (oasis_faults profile) (are_faults profile) xs at left (cause other) x

early_of : (profile : Profile) (xs : List ℕ) (left : Option (List ℕ)) (f : OasisFault) → Refuses profile xs left f
    → IsEarly f
    → IsHopeless (oasis profile) xs left
early_of profile xs left (At at k) x i = early_at profile xs left at k x i
early_of profile xs left (Unresolved n) x i = absurd i

unread_at : (profile : Profile) (xs : List ℕ) (left : Option (List ℕ)) (at : ℕ) (k : OasisKind)
    → RefusesAt profile xs left at k
    → ReportsUnread profile xs left (At at k)
unread_at profile xs left at (Value Read) x = x
unread_at profile xs left at other x = tt

unread_of : (profile : Profile) (xs : List ℕ) (left : Option (List ℕ)) (f : OasisFault) → Refuses profile xs left f
    → ReportsUnread profile xs left f
unread_of profile xs left (At at k) x = unread_at profile xs left at k x
unread_of profile xs left (Unresolved n) x = tt

-- what a refused result says
refused : {A : Type 0} (profile : Profile) (xs : List ℕ) (left : Option (List ℕ)) (P : OasisFault → Type 0)
    → ((f : OasisFault) → Refuses profile xs left f → P f) → (r : Result A (Cause OasisFault))
    → IfErr r (λ e. Says e (Refuses profile xs left)) → IfErr r (λ e. Says e P)
refused profile xs left P h (Ok x) s = tt
refused profile xs left P h (Err (Breach f)) s = h f s
refused profile xs left P h (Err OutOfMemory) s = tt

pub refused_reports : {A : Type 0} (profile : Profile) (xs : List ℕ) (left : Option (List ℕ))
    (r : Result A (Cause OasisFault))
    → IfErr r (λ e. Says e (Refuses profile xs left)) → IfErr r (λ e. Says e (Reports profile xs))
refused_reports profile xs left = refused profile xs left (Reports profile xs) (reports profile xs left)

pub refused_none : {A : Type 0} (profile : Profile) (xs : List ℕ) (left : Option (List ℕ))
    (r : Result A (Cause OasisFault))
    → IfErr r (λ e. Says e (Refuses profile xs left))
    → IfErr r (λ e. Says e (λ f. (IsExcused f → ⊥) → SpellsNone profile xs))
refused_none profile xs left = refused profile xs left (λ f. (IsExcused f → ⊥) → SpellsNone profile xs)
    (none_of profile xs left)

pub refused_early : {A : Type 0} (profile : Profile) (xs : List ℕ) (left : Option (List ℕ))
    (r : Result A (Cause OasisFault))
    → IfErr r (λ e. Says e (Refuses profile xs left))
    → IfErr r (λ e. Says e (λ f. IsEarly f → IsHopeless (oasis profile) xs left))
refused_early profile xs left = refused profile xs left (λ f. IsEarly f → IsHopeless (oasis profile) xs left)
    (early_of profile xs left)

refused_unread : {A : Type 0} (profile : Profile) (xs : List ℕ) (left : Option (List ℕ))
    (r : Result A (Cause OasisFault))
    → IfErr r (λ e. Says e (Refuses profile xs left)) → IfErr r (λ e. Says e (ReportsUnread profile xs left))
refused_unread profile xs left = refused profile xs left (ReportsUnread profile xs left) (unread_of profile xs left)

-- what a refusal says of the bytes that are left in the end
pub unread_left : {A : Type 0} (profile : Profile) (xs : List ℕ) (left left' : Option (List ℕ))
    (r : Result A (Cause OasisFault))
    → IfErr r (λ e. Says e (Refuses profile xs left)) → left ≡ left'
    → IfErr r (λ e. Says e (ReportsUnread profile xs left'))
unread_left profile xs left left' r h e =
    subst (λ l. IfErr r (λ e. Says e (ReportsUnread profile xs l))) e (refused_unread profile xs left r h)

pub early_left : {A : Type 0} (profile : Profile) (xs : List ℕ) (left left' : Option (List ℕ))
    (r : Result A (Cause OasisFault))
    → IfErr r (λ e. Says e (Refuses profile xs left)) → left ≡ left'
    → IfErr r (λ e. Says e (λ f. IsEarly f → IsHopeless (oasis profile) xs left'))
early_left profile xs left left' r h e =
    subst (λ l. IfErr r (λ e. Says e (λ f. IsEarly f → IsHopeless (oasis profile) xs l))) e
    (refused_early profile xs left r h)
