-- A library of figures and the same library with rings for its figures have the same names, references, counts, chains
-- and coverage.
use Rattle.std.proofs.Common.{◌≡◌, ◌↔◌, ◌+◌, ◌*◌, ◌<◌, ◌≤◌, ℕ, zero, suc, Bool, true, false, if◌then◌else◌, List, []}
use Rattle.std.proofs.Common.{◌∷◌, ◌++◌, Option, Some, None, Any, All, map, length, slice_get, refl, sym, ap, ◌∙◌}
use Rattle.std.proofs.Common.{subst, inl, inr}
use Rattle.std.specs.Prelude.{◌⊎◌, sum_by, IsSomeAnd, Contains, option_map}
use Rattle.std.specs.Option.{option_map_or}
use Rattle.std.specs.Str.{bytes_eq}
use Rattle.std.proofs.lemmas.List.{length-map}
use Rattle.std.proofs.lemmas.List.Elements.{All-map}
use Rattle.std.proofs.lemmas.List.Sums.{sum_by-cons}
use Rattle.std.proofs.lemmas.Option.{slice_get-map}
use Rattle.lvl_grid.specs.declared.point.Square.{Square}
use Rattle.lvl_grid.specs.declared.map.Map.{Map}
use Rattle.lvl_grid.specs.Turn.{image, shifted, FitsPoint}
use Rattle.lvl_grid.proofs.Anyone.{Any-same, Any-map}
use Rattle.lvl_grid.specs.Winding.{SomeCovers}
use Rattle.lvl_names.specs.declared.layer.Layer.{Layer}
use Rattle.lvl_cells.specs.Cells.{PlainCell, PlainShape, PlainReference, Rings, each_ring, names, map_at, cell_named}
use Rattle.lvl_cells.specs.Cells.{drawn, kept}
use Rattle.lvl_cells.specs.Coverage.{ShapeCovers, PullsBack, CoversWithin, CellCovers, moved_back}
use Rattle.lvl_cells.specs.Soundness.{links, AreLinked, IsRanked, IsTop, IsSound}
use Rattle.lvl_cells.specs.Chains.{Chain, IsComposed, IsInRange, over_chains, chains, own_rings, placed_rings}
use Rattle.lvl_profile.specs.declared.limits.Limits.{Limits}
use Rattle.lvl_cells.specs.Chains.{FitsLimits}
use Rattle.oasis_figures.proofs.Moved.{All-unmap}

-- names and references

names_kept : {F : Type 0} (rings : F → Rings) (cells : List (PlainCell F)) → names (kept rings cells) ≡ names cells
names_kept rings [] = refl
names_kept rings (c ∷ cells) = ap (λ l. c.name ∷ l) (names_kept rings cells)

links_kept : {F : Type 0} (rings : F → Rings) (cells : List (PlainCell F)) → links (kept rings cells) ≡ links cells
links_kept rings [] = refl
links_kept rings (c ∷ cells) = ap (λ l. map (λ r. (c.name, r.cell)) c.references ++ l) (links_kept rings cells)

pub length_kept : {F : Type 0} (rings : F → Rings) (cells : List (PlainCell F))
    → length (kept rings cells) ≡ length cells
length_kept rings cells = length-map cells (drawn rings)

named_by : {F : Type 0} (rings : F → Rings) (b : Bool) (c : PlainCell F) (x : Option (PlainCell Rings))
    (y : Option (PlainCell F)) → x ≡ option_map (drawn rings) y
    → (if b then Some (drawn rings c) else x) ≡ option_map (drawn rings) (if b then Some c else y)
named_by rings true c x y e = refl
named_by rings false c x y e = e

pub named_kept : {F : Type 0} (rings : F → Rings) (cells : List (PlainCell F)) (name : List ℕ)
    → cell_named (kept rings cells) name ≡ option_map (drawn rings) (cell_named cells name)
named_kept rings [] name = refl
named_kept rings (c ∷ cells) name = named_by rings (bytes_eq c.name name) c _ _ (named_kept rings cells name)

-- a property of names, references and the number of cells
alike : {F : Type 0} (rings : F → Rings) (cells : List (PlainCell F))
    (P : List (List ℕ) → List (List ℕ × List ℕ) → ℕ → Type 0)
    → P (names cells) (links cells) (length cells)
    ↔ P (names (kept rings cells)) (links (kept rings cells)) (length (kept rings cells))
alike rings cells P = (
  λ h. subst (λ n. P n (links (kept rings cells)) (length (kept rings cells))) (sym (names_kept rings cells))
      (subst (λ l. P (names cells) l (length (kept rings cells))) (sym (links_kept rings cells))
      (subst (P (names cells) (links cells)) (sym (length_kept rings cells)) h)),
  λ h. subst (P (names cells) (links cells)) (length_kept rings cells)
      (subst (λ l. P (names cells) l (length (kept rings cells))) (links_kept rings cells)
      (subst (λ n. P n (links (kept rings cells)) (length (kept rings cells))) (names_kept rings cells) h)),
)

top_kept : {F : Type 0} (rings : F → Rings) (cells : List (PlainCell F)) (given : Option (List ℕ)) (k : ℕ)
    → IsTop cells given k ↔ IsTop (kept rings cells) given k
top_kept rings cells (Some name) k = alike rings cells (λ n l m. slice_get n k ≡ Some name)
top_kept rings cells None k =
    alike rings cells (λ n l m. (k < m)
    × ((j : ℕ) (name : List ℕ) → slice_get n j ≡ Some name → (¬ Contains (map (λ link. link.1) l) name) ↔ (j ≡ k)))

linked_kept : {F : Type 0} (rings : F → Rings) (cells : List (PlainCell F))
    → AreLinked cells ↔ AreLinked (kept rings cells)
linked_kept rings cells = (
  λ h. record {
    distinct = rw (names_kept rings cells) h.distinct;
    named = rw (names_kept rings cells, links_kept rings cells) h.named;
  },
  λ h. record {
    distinct = rw (names_kept rings cells) at h.distinct;
    named = rw (names_kept rings cells, links_kept rings cells) at h.named;
  },
)

ranked_kept : {F : Type 0} (rings : F → Rings) (cells : List (PlainCell F))
    → IsRanked cells ↔ IsRanked (kept rings cells)
ranked_kept rings cells = alike rings cells (λ n l m. (rank : List ℕ → ℕ) × All (λ link. rank link.1 < rank link.0) l)

pub sound_kept : {F : Type 0} (rings : F → Rings) (cells : List (PlainCell F)) (given : Option (List ℕ)) (k : ℕ)
    → IsSound cells given k ↔ IsSound (kept rings cells) given k
sound_kept rings cells given k = (
  λ h. record {
    linked = (linked_kept rings cells).0 h.linked;
    ranked = (ranked_kept rings cells).0 h.ranked;
    is_top = (top_kept rings cells given k).0 h.is_top;
  },
  λ h. record {
    linked = (linked_kept rings cells).1 h.linked;
    ranked = (ranked_kept rings cells).1 h.ranked;
    is_top = (top_kept rings cells given k).1 h.is_top;
  },
)

-- coverage

either_same : (A A' B B' : Type 0) → A ↔ A' → B ↔ B' → (A ⊎ B) ↔ (A' ⊎ B')
either_same A A' B B' p q = (
  λ h. elim h [ inl a ↦ inl (p.0 a) | inr b ↦ inr (q.0 b) ],
  λ h. elim h [ inl a ↦ inl (p.1 a) | inr b ↦ inr (q.1 b) ],
)

both_ways : (A B C : Type 0) → A ↔ B → B ↔ C → A ↔ C
both_ways A B C p q = (λ a. q.0 (p.0 a), λ c. p.1 (q.1 c))

some_drawn : {F : Type 0} (rings : F → Rings) (o : Option (PlainCell F)) (P : PlainCell F → Type 0)
    (Q : PlainCell Rings → Type 0) → ((d : PlainCell F) → P d ↔ Q (drawn rings d))
    → IsSomeAnd o P ↔ IsSomeAnd (option_map (drawn rings) o) Q
some_drawn rings None P Q h = (λ x. x, λ x. x)
some_drawn rings (Some d) P Q h = h d

shapes_kept : {F : Type 0} (rings : F → Rings) (holds : F → Square → Type 0)
    → ((f : F) (s : Square) → SomeCovers (rings f) s ↔ holds f s) → (layer : Layer) (s : Square) (c : PlainCell F)
    → Any (ShapeCovers holds layer s) c.shapes ↔ Any (ShapeCovers SomeCovers layer s) (drawn rings c).shapes
shapes_kept {F = F} rings holds law layer s c =
    let f : PlainShape F → PlainShape Rings =
    λ h. record { layer = h.layer; figure = rings h.figure; shifts = h.shifts } in
    both_ways _ _ _
    (Any-same (ShapeCovers holds layer s) (λ h. ShapeCovers SomeCovers layer s (f h)) c.shapes (λ h.
    let same =
    Any-same (λ e. holds h.figure (moved_back e s)) (λ e. SomeCovers (rings h.figure) (moved_back e s)) h.shifts
    (λ e. let l = law h.figure (moved_back e s) in (l.1, l.0)) in
    (λ x. (x.0, same.0 x.1), λ x. (x.0, same.1 x.1))))
    (let m = Any-map (ShapeCovers SomeCovers layer s) f c.shapes in (m.1, m.0))

pub covers_kept : {F : Type 0} (rings : F → Rings) (holds : F → Square → Type 0)
    → ((f : F) (s : Square) → SomeCovers (rings f) s ↔ holds f s)
    → (cells : List (PlainCell F)) (layer : Layer) (n : ℕ) (c : PlainCell F) (s : Square)
    → CoversWithin holds cells layer n c s ↔ CoversWithin SomeCovers (kept rings cells) layer n (drawn rings c) s
covers_kept rings holds law cells layer zero c s = shapes_kept rings holds law layer s c
covers_kept rings holds law cells layer (suc n) c s =
    either_same _ _ _ _ (shapes_kept rings holds law layer s c)
    (Any-same
    (λ r. IsSomeAnd (cell_named cells r.cell)
    (λ d. Any (PullsBack (CoversWithin holds cells layer n d) r s) r.shifts))
    (λ r. IsSomeAnd (cell_named (kept rings cells) r.cell)
    (λ d. Any (PullsBack (CoversWithin SomeCovers (kept rings cells) layer n d) r s) r.shifts)) c.references
    (λ r. rw (named_kept rings cells r.cell) (some_drawn rings (cell_named cells r.cell) _ _ (λ d.
    Any-same (PullsBack (CoversWithin holds cells layer n d) r s)
    (PullsBack (CoversWithin SomeCovers (kept rings cells) layer n (drawn rings d)) r s) r.shifts (λ e. (
      λ x. (x.0, x.1, (covers_kept rings holds law cells layer n d x.0).0 x.2),
      λ x. (x.0, x.1, (covers_kept rings holds law cells layer n d x.0).1 x.2),
    ))))))

pub cell_covers_kept : {F : Type 0} (rings : F → Rings) (holds : F → Square → Type 0)
    → ((f : F) (s : Square) → SomeCovers (rings f) s ↔ holds f s)
    → (cells : List (PlainCell F)) (layer : Layer) (c : PlainCell F) (s : Square)
    → CellCovers holds cells layer c s ↔ CellCovers SomeCovers (kept rings cells) layer (drawn rings c) s
cell_covers_kept rings holds law cells layer c s = (
  λ h. (h.0, (covers_kept rings holds law cells layer h.0 c s).0 h.1),
  λ h. (h.0, (covers_kept rings holds law cells layer h.0 c s).1 h.1),
)

-- counts

own_kept : {F : Type 0} (rings : F → Rings) (shapes : List (PlainShape F))
    → sum_by (λ h. length (rings h.figure) * length h.shifts) shapes
    ≡ sum_by (λ (h : PlainShape Rings). length h.figure * length h.shifts)
    (map (λ h. record { layer = h.layer; figure = rings h.figure; shifts = h.shifts }) shapes)
own_kept rings [] = refl
own_kept {F = F} rings (h ∷ shapes) =
    let f : PlainShape F → PlainShape Rings =
    λ h. record { layer = h.layer; figure = rings h.figure; shifts = h.shifts } in
    sum_by-cons (λ h. length (rings h.figure) * length h.shifts) h shapes
    ∙ ap (λ n. length (rings h.figure) * length h.shifts + n) (own_kept rings shapes)
    ∙ sym (sum_by-cons (λ (h : PlainShape Rings). length h.figure * length h.shifts) (f h) (map f shapes))

sum_same : {X : Type 0} (f g : X → ℕ) (xs : List X) → ((x : X) → f x ≡ g x) → sum_by f xs ≡ sum_by g xs
sum_same f g [] h = refl
sum_same f g (x ∷ xs) h =
    sum_by-cons f x xs ∙ ap (λ n. n + sum_by f xs) (h x) ∙ ap (λ n. g x + n) (sum_same f g xs h)
    ∙ sym (sum_by-cons g x xs)

counted_drawn : {F : Type 0} (rings : F → Rings) (o : Option (PlainCell F)) (f : PlainCell F → ℕ)
    (g : PlainCell Rings → ℕ) → ((d : PlainCell F) → f d ≡ g (drawn rings d))
    → option_map_or f o 0 ≡ option_map_or g (option_map (drawn rings) o) 0
counted_drawn rings None f g h = refl
counted_drawn rings (Some d) f g h = h d

pub over_kept : {F : Type 0} (rings : F → Rings) (weight : PlainCell F → ℕ) (other : PlainCell Rings → ℕ)
    → ((c : PlainCell F) → weight c ≡ other (drawn rings c)) → (cells : List (PlainCell F)) (n : ℕ) (c : PlainCell F)
    → over_chains weight cells n c ≡ over_chains other (kept rings cells) n (drawn rings c)
over_kept rings weight other h cells zero c = h c
over_kept rings weight other h cells (suc n) c =
    ap
    (λ k. k
    + sum_by (λ r. length r.shifts * option_map_or (over_chains weight cells n) (cell_named cells r.cell) 0)
    c.references) (h c)
    ∙ ap (λ k. other (drawn rings c) + k) (sum_same _ _ c.references (λ r. ap (λ k. length r.shifts * k)
    (counted_drawn rings (cell_named cells r.cell) _ _ (over_kept rings weight other h cells n)
    ∙ ap (λ o. option_map_or (over_chains other (kept rings cells) n) o 0) (sym (named_kept rings cells r.cell)))))

pub chains_kept : {F : Type 0} (rings : F → Rings) (cells : List (PlainCell F)) (c : PlainCell F)
    → chains cells c ≡ chains (kept rings cells) (drawn rings c)
chains_kept rings cells c =
    over_kept rings (λ _. 1) (λ _. 1) (λ c. refl) cells (length cells) c
    ∙ ap (λ n. over_chains (λ _. 1) (kept rings cells) n (drawn rings c)) (sym (length_kept rings cells))

pub placed_kept : {F : Type 0} (rings : F → Rings) (cells : List (PlainCell F)) (c : PlainCell F)
    → placed_rings rings cells c ≡ placed_rings each_ring (kept rings cells) (drawn rings c)
placed_kept rings cells c =
    over_kept rings (own_rings rings) (own_rings each_ring) (λ c. own_kept rings c.shapes) cells (length cells) c
    ∙ ap (λ n. over_chains (own_rings each_ring) (kept rings cells) n (drawn rings c))
    (sym (length_kept rings cells))

-- chains

pub chain_kept : {F : Type 0} (rings : F → Rings) (cells : List (PlainCell F)) (top : PlainCell F) (n : ℕ) (m : Map)
    (d : PlainCell F) → Chain cells top n m d → Chain (kept rings cells) (drawn rings top) n m (drawn rings d)
chain_kept rings cells top zero m d h = (h.0, ap (drawn rings) h.1)
chain_kept rings cells top (suc n) m d h = (
  h.0,
  drawn rings h.1,
  chain_kept rings cells top n h.0 h.1 h.2,
  (
    h.3.0,
    h.3.1,
    h.3.2,
    h.3.3,
    (named_kept rings cells h.3.1.cell ∙ ap (option_map (drawn rings)) h.3.4.0, h.3.4.1),
  ),
)

named_back : {F : Type 0} (rings : F → Rings) (o : Option (PlainCell F)) (d : PlainCell Rings)
    → option_map (drawn rings) o ≡ Some d → (b : PlainCell F) × (o ≡ Some b) × (drawn rings b ≡ d)
named_back rings None d e = cc
named_back rings (Some b) d e = (b, refl, cc)

pub chain_back : {F : Type 0} (rings : F → Rings) (cells : List (PlainCell F)) (top : PlainCell F) (n : ℕ) (m : Map)
    (d : PlainCell Rings) → Chain (kept rings cells) (drawn rings top) n m d
    → (b : PlainCell F) × Chain cells top n m b × (drawn rings b ≡ d)
chain_back rings cells top zero m d h = (top, (h.0, refl), sym h.1)
chain_back rings cells top (suc n) m d h =
    let before = chain_back rings cells top n h.0 h.1 h.2 in
    let r : PlainReference = h.3.1 in
    let found = named_back rings (cell_named cells r.cell) d (sym (named_kept rings cells r.cell) ∙ h.3.4.0) in
    let there : h.1.references ≡ before.0.references = ap (λ (c : PlainCell Rings). c.references) (sym before.2) in
    let reference =
    subst (Any (λ q. (cell_named cells q.cell ≡ Some found.0) × Any (λ e. IsComposed h.0 (map_at q e) m) q.shifts))
    there (h.3.0, r, h.3.2, h.3.3, (found.1, h.3.4.1)) in
    (found.0, (h.0, before.0, before.1, reference), found.2)

pub range_kept : {F : Type 0} (rings : F → Rings) (m : Map) (d : PlainCell F)
    → IsInRange rings m d ↔ IsInRange each_ring m (drawn rings d)
range_kept rings m d = (
  λ h. record {
    shift = h.shift;
    vertices =
        All-map
        (λ (h : PlainShape Rings).
        All (λ e. All (λ ring. All (λ v. FitsPoint (image m (shifted e v))) ring) h.figure) h.shifts)
        (λ h. record { layer = h.layer; figure = rings h.figure; shifts = h.shifts }) d.shapes h.vertices;
  },
  λ h. record {
    shift = h.shift;
    vertices =
        All-unmap
        (λ (h : PlainShape Rings).
        All (λ e. All (λ ring. All (λ v. FitsPoint (image m (shifted e v))) ring) h.figure) h.shifts)
        (λ h. record { layer = h.layer; figure = rings h.figure; shifts = h.shifts }) d.shapes h.vertices;
  },
)

pub fits_kept : {F : Type 0} (limits : Limits) (rings : F → Rings) (cells : List (PlainCell F)) (top : PlainCell F)
    → FitsLimits limits rings cells top ↔ FitsLimits limits each_ring (kept rings cells) (drawn rings top)
fits_kept limits rings cells top = (
  λ h. record {
    few_chains = subst (λ n. n ≤ limits.placed) (chains_kept rings cells top) h.few_chains;
    few_rings = subst (λ n. n ≤ limits.placed) (placed_kept rings cells top) h.few_rings;
    in_range =
        λ n m d chain. (let b = chain_back rings cells top n m d chain in
        subst (IsInRange each_ring m) b.2 ((range_kept rings m b.0).0 (h.in_range n m b.0 b.1)));
  },
  λ h. record {
    few_chains = subst (λ n. n ≤ limits.placed) (sym (chains_kept rings cells top)) h.few_chains;
    few_rings = subst (λ n. n ≤ limits.placed) (sym (placed_kept rings cells top)) h.few_rings;
    in_range =
        λ n m d chain.
        (range_kept rings m d).1 (h.in_range n m (drawn rings d) (chain_kept rings cells top n m d chain));
  },
)

-- the cell at an index
pub cell_back : {F : Type 0} (rings : F → Rings) (cells : List (PlainCell F)) (k : ℕ) (d : PlainCell Rings)
    → slice_get (kept rings cells) k ≡ Some d → (b : PlainCell F) × (slice_get cells k ≡ Some b) × (drawn rings b ≡ d)
cell_back rings cells k d e = named_back rings (slice_get cells k) d (sym (slice_get-map (drawn rings) cells k) ∙ e)

pub cell_kept : {F : Type 0} (rings : F → Rings) (cells : List (PlainCell F)) (k : ℕ) (b : PlainCell F)
    → slice_get cells k ≡ Some b → slice_get (kept rings cells) k ≡ Some (drawn rings b)
cell_kept rings cells k b e = slice_get-map (drawn rings) cells k ∙ ap (option_map (drawn rings)) e
