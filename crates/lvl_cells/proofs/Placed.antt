-- Placements as they are stored, and references to names: they stay the same after more is kept, and one more.
use Rattle.std.proofs.Common.{◌≡◌, ◌<◌, ℕ, Bool, true, false, get_or, List, [], ◌∷◌, ◌++◌, map, length, All, refl, sym, ap}
use Rattle.std.proofs.Common.{subst, arith, ◌∙◌}
use Rattle.std.proofs.lemmas.List.{get_or-take, length-append, map-append}
use Rattle.std.proofs.lemmas.List.Elements.{All-head, All-tail, All-weaker}
use Rattle.lvl_cells.specs.Cells.{PlainPlacement, PlainReference, reference_to}
use Rattle.lvl_cells.specs.inside.Placings.{once, placement_in, repeated_in, target_in, HasIndex, IsAt, IsPlacing}
use Rattle.lvl_cells.specs.inside.Placings.{IsRepeated, KeyAtShifts}
use Rattle.lvl_names.specs.Shifts.{one_place}
use Rattle.lvl_cells.specs.inside.Spans.{IsPrefixOf}
use Rattle.std.proofs.lemmas.Option.{get_or_from_slice_get}
use Rattle.lvl_cells.proofs.Indexes.{push_last}
use Rattle.lvl_cells.proofs.Keepings.{IsLasting}
use Rattle.lvl_cells.proofs.Spanned.{no_fewer, number_same}

item_same : {X : Type 0} (old new : List (List X)) (n : ℕ) → IsPrefixOf old new → n < length old
    → get_or new n [] ≡ get_or old n []
item_same old new n g h = sym (get_or-take (length old) new n [] h) ∙ ap (λ ks. get_or ks n []) g

-- the item that is appended is at the last index
pub at_last : {X : Type 0} (old new : List (List X)) (item : List X) (i : ℕ) → new ≡ old ++ item ∷ [] → i ≡ length old
    → IsAt new i item
at_last old new item i is e =
    subst (λ xs. IsAt xs i item) (sym is)
    (record {
      within = omega (arith, e, length-append old (item ∷ []));
      is =
          ap (λ k. get_or (old ++ item ∷ []) k []) e
          ∙ get_or_from_slice_get (old ++ item ∷ []) (length old) item [] (push_last old item);
    })

index_still : (kept kept' : List KeyAtShifts) (is_repeated : Bool) (index : ℕ) → IsPrefixOf kept kept'
    → HasIndex kept is_repeated index → HasIndex kept' is_repeated index
index_still kept kept' true index on h = omega (arith, h, no_fewer kept kept' on)
index_still kept kept' false index on h = tt

target_same : (kept kept' : List KeyAtShifts) (is_repeated : Bool) (index : ℕ) → IsPrefixOf kept kept'
    → HasIndex kept is_repeated index → target_in kept' is_repeated index ≡ target_in kept is_repeated index
target_same kept kept' true index on h =
    sym (get_or-take (length kept) kept' index (once index) h) ∙ ap (λ ks. get_or ks index (once index)) on
target_same kept kept' false index on h = refl

-- a placement stays the same after more keys are kept
pub placements_last : IsLasting IsPlacing placement_in
placements_last = record {
  still =
      λ kept kept' s on h.
      record {
        index = index_still kept kept' s.is_repeated s.index on h.index;
        fits = rw (target_same kept kept' s.is_repeated s.index on h.index) h.fits;
      };
  same = λ kept kept' s on h. rw (target_same kept kept' s.is_repeated s.index on h.index) refl;
}

-- a key stays the same, with its shifts, after more lists are kept
pub repeated_last : IsLasting IsRepeated repeated_in
repeated_last = record {
  still = λ lists lists' r on h. omega (arith, h, no_fewer lists lists' on);
  same = λ lists lists' r on h. rw (number_same one_place lists lists' r.shifts [] on h) refl;
}

-- the keys of the placements are indexes of names
abbrev pub HaveNames : List (List ℕ) → List PlainPlacement → Type 0
HaveNames names placements = All (λ p. p.key < length names) placements

-- keys stay indexes of names after more names are kept
pub names_still : (names names' : List (List ℕ)) (placements : List PlainPlacement)
    → IsPrefixOf names names' → HaveNames names placements → HaveNames names' placements
names_still names names' placements on h =
    All-weaker {X = PlainPlacement} (λ p. p.key < length names) (λ p. p.key < length names')
    (λ p low. omega (arith, low, no_fewer names names' on)) placements h

-- references stay the same after more names are kept
pub references_same : (names names' : List (List ℕ)) (placements : List PlainPlacement)
    → IsPrefixOf names names' → HaveNames names placements
    → map (reference_to names') placements ≡ map (reference_to names) placements
references_same names names' [] on h = refl
references_same names names' (p ∷ ps) on h =
    let low : p.key < length names = All-head (λ (q : PlainPlacement). q.key < length names) p ps h in
    let same : get_or names' p.key [] ≡ get_or names p.key [] = item_same names names' p.key on low in
    let rest : map (reference_to names') ps ≡ map (reference_to names) ps =
    references_same names names' ps on (All-tail (λ (q : PlainPlacement). q.key < length names) p ps h) in
    rw (same, rest) refl

-- one more reference, appended
pub one_more_reference : (names names' : List (List ℕ)) (placements : List PlainPlacement) (p : PlainPlacement)
    (cell : List ℕ) (references : List PlainReference)
    → IsPrefixOf names names' → HaveNames names placements → map (reference_to names) placements ≡ references
    → IsAt names' p.key cell
    → map (reference_to names') (placements ++ p ∷ [])
    ≡ references ++ record { cell = cell; flip = p.flip; turn = p.turn; at = p.at; shifts = p.shifts } ∷ []
one_more_reference names names' placements p cell references on h e name =
    map-append (reference_to names') placements (p ∷ [])
    ∙ (ap (λ rs. rs ++ reference_to names' p ∷ []) (references_same names names' placements on h ∙ e)
    ∙ rw name.is refl)
