-- Marks of the cells to which some cell refers, and the names of the others.
use Rattle.std.proofs.Common.{◌≡◌, ◌+◌, ◌++◌, ◌||◌, ◌↔◌, inl, inr, ℕ, Bool, true, false, not, cond, List, [], ◌∷◌}
use Rattle.std.proofs.Common.{map, take, Some, slice_get, refl, sym, ap, ◌∙◌}
use Rattle.std.specs.List.{filter, list_any}
use Rattle.std.specs.Str.{bytes_eq}
use Rattle.std.specs.Option.{option_map}
use Rattle.std.proofs.lemmas.List.{append-nil, map-append}
use Rattle.std.proofs.lemmas.List.Elements.{filter_more}
use Rattle.std.proofs.lemmas.List.Folds.{list_any-append}
use Rattle.std.proofs.lemmas.Map.Views.{list_any-from_Contains, Contains-from_any}
use Rattle.std.proofs.lemmas.Option.{get_or_from_slice_get, slice_get-map, slice_get_within}
use Rattle.std.proofs.lemmas.Slice.Eq.{bytes_eq-Decides}
use Rattle.lvl_cells.specs.Cells.{PlainCell, PlainReference, Rings, names}
use Rattle.lvl_cells.specs.Soundness.{links, AreReferred, IsReferred}
use Rattle.lvl_cells.proofs.Indexes.{bytes_eq_laws}
use Rattle.lvl_cells.proofs.Sequences.{one_answer}
use Rattle.lvl_count.specs.Listed.{is_referred, is_top, refers_to}
use Rattle.lvl_count.proofs.Referring.{by_bool}

-- the name to which a reference is
abbrev to : (List ℕ × List ℕ) → List ℕ
to link = link.1

any_reference : (name from : List ℕ) (rs : List PlainReference)
    → list_any (bytes_eq name) (map to (map (λ r. (from, r.cell)) rs)) ≡ list_any (λ r. bytes_eq name r.cell) rs
any_reference name from [] = refl
any_reference name from (r ∷ rs) = ap (λ b. bytes_eq name r.cell || b) (any_reference name from rs)

any_link : (name : List ℕ) (cells : List (PlainCell Rings))
    → list_any (bytes_eq name) (map to (links cells)) ≡ is_referred cells name
any_link name [] = refl
any_link name (c ∷ cells) =
    let own : List (List ℕ × List ℕ) = map (λ r. (c.name, r.cell)) c.references in
    ap (list_any (bytes_eq name)) (map-append to own (links cells))
    ∙ (list_any-append (bytes_eq name) (map to own) (map to (links cells))
    ∙ (ap (λ b. b || list_any (bytes_eq name) (map to (links cells))) (any_reference name c.name c.references)
    ∙ ap (λ b. refers_to name c || b) (any_link name cells)))

-- the two ways to say that some cell refers to a name are the same
referred_same : (cells : List (PlainCell Rings)) (name : List ℕ)
    → IsReferred cells name ↔ (is_referred cells name ≡ true)
referred_same cells name = (
  λ h. sym (any_link name cells) ∙ list_any-from_Contains bytes_eq_laws name (map to (links cells)) h,
  λ h.
      Contains-from_any (λ a b. (bytes_eq-Decides a b).0) name (map to (links cells)) (any_link name cells ∙ h),
)

-- a cell is no top if its mark is set, and else it is
pub top_by_mark : (cells : List (PlainCell Rings)) (marks : List Bool) (k : ℕ) (c : PlainCell Rings) (mark : Bool)
    → AreReferred cells marks → slice_get cells k ≡ Some c → slice_get marks k ≡ Some mark
    → is_top cells c ≡ not mark
top_by_mark cells marks k c true h at is =
    let name_of : PlainCell Rings → List ℕ = λ d. d.name in
    let named : slice_get (names cells) k ≡ Some c.name = slice_get-map name_of cells k ∙ ap (option_map name_of) at in
    ap not ((referred_same cells c.name).0 ((h.marked k c.name named).0 is))
top_by_mark cells marks k c false h at is =
    let name_of : PlainCell Rings → List ℕ = λ d. d.name in
    let named : slice_get (names cells) k ≡ Some c.name = slice_get-map name_of cells k ∙ ap (option_map name_of) at in
    elim (by_bool (is_referred cells c.name)) [
      | inl there ↦
          let set : slice_get marks k ≡ Some true =
          (h.marked k c.name named).1 ((referred_same cells c.name).1 there) in
          let no : false ≡ true = one_answer is set in
          cc
      | inr none ↦ ap not none
    ]

tops_next : (cells : List (PlainCell Rings)) (k : ℕ) (c : PlainCell Rings) (b : Bool) → slice_get cells k ≡ Some c
    → is_top cells c ≡ b
    → filter (is_top cells) (take (k + 1) cells) ≡ filter (is_top cells) (take k cells) ++ cond b (c ∷ []) []
tops_next cells k c b at is =
    let before : List (PlainCell Rings) = filter (is_top cells) (take k cells) in
    filter_more (is_top cells) cells k c (slice_get_within cells k c at)
    ∙ (ap (λ d. before ++ cond (is_top cells d) (d ∷ []) []) (get_or_from_slice_get cells k c c at)
    ∙ ap (λ t. before ++ cond t (c ∷ []) []) is)

-- a cell whose mark is set is passed
pub top_passed : (cells : List (PlainCell Rings)) (marks : List Bool) (k : ℕ) (c : PlainCell Rings)
    (so_far : List (List ℕ)) → AreReferred cells marks → slice_get cells k ≡ Some c → slice_get marks k ≡ Some true
    → so_far ≡ map (λ d. d.name) (filter (is_top cells) (take k cells))
    → so_far ≡ map (λ d. d.name) (filter (is_top cells) (take (k + 1) cells))
top_passed cells marks k c so_far h at is before =
    let name_of : PlainCell Rings → List ℕ = λ d. d.name in
    before
    ∙ ap (map name_of)
    (sym (tops_next cells k c false at (top_by_mark cells marks k c true h at is) ∙ append-nil _))

-- the name of a cell whose mark is unset is one more
pub top_added : (cells : List (PlainCell Rings)) (marks : List Bool) (k : ℕ) (c : PlainCell Rings)
    (so_far : List (List ℕ)) → AreReferred cells marks → slice_get cells k ≡ Some c → slice_get marks k ≡ Some false
    → so_far ≡ map (λ d. d.name) (filter (is_top cells) (take k cells))
    → so_far ++ c.name ∷ [] ≡ map (λ d. d.name) (filter (is_top cells) (take (k + 1) cells))
top_added cells marks k c so_far h at is before =
    let name_of : PlainCell Rings → List ℕ = λ d. d.name in
    ap (λ names. names ++ c.name ∷ []) before
    ∙ (sym (map-append name_of (filter (is_top cells) (take k cells)) (c ∷ []))
    ∙ ap (map name_of) (sym (tops_next cells k c true at (top_by_mark cells marks k c false h at is))))
