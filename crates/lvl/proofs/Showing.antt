-- From what is shown of a library of rings to what the bytes of the file spell.
use Rattle.std.proofs.Common.{◌≡◌, ◌<◌, ◌+◌, ◌*◌, ℕ, List, [], ◌∷◌, None, Result, Ok, Err, IfErr, IfOk, length, map}
use Rattle.std.proofs.Common.{slice_get, Some, if◌then◌else◌, ◌==◌, ◌&&◌, refl, sym, ap, ◌∙◌, subst}
use Rattle.std.specs.Prelude.{sum_by}
use Rattle.std.proofs.lemmas.List.Sums.{sum_by-cons}
use Rattle.lvl_path.specs.Figure.{figure_rings}
use Rattle.lvl_names.specs.declared.layer.Layer.{Layer}
use Rattle.lvl_cells.specs.Cells.{PlainCell, PlainShape, Rings, each_ring, drawn, kept}
use Rattle.lvl_cells.specs.Chains.{own_rings_on, over_chains, placed_rings_on}
use Rattle.lvl_cells.specs.Soundness.{IsSound}
use Rattle.lvl.specs.Drawing.{Drawing}
use Rattle.lvl_region.specs.declared.region.Side.TheVariants.{First, Second}
use Rattle.lvl.specs.declared.layout.Head.{Head}
use Rattle.lvl.specs.declared.shown.Shown.{Shown}
use Rattle.lvl.specs.declared.verdict.Refusal.{Refusal}
use Rattle.lvl.specs.declared.verdict.Refusal.TheVariants.{File as FileRefusal, Cells as CellsRefusal}
use Rattle.lvl.specs.declared.verdict.Refusal.TheVariants.{Flat as FlatRefusal, OutOfMemory}
use Rattle.lvl.specs.Layouts.{File, Spells, IsLayoutOf}
use Rattle.lvl.specs.Kept.{IsKeptRefusal, Kept}
use Rattle.lvl.specs.Readers.{Input, IsFoundBy, IsReadBy, file_of}
use Rattle.lvl.specs.Sides.{IsOfFile, kept_named}
use Rattle.lvl_count.specs.Counted.{AreCounted}
use Rattle.lvl_count.specs.declared.counts.LayerRings.{LayerRings}
use Rattle.lvl.specs.Shown.{IsOfFirst, IsShownOf, IsShownFile, IsShownKept, IsShowRefusal}
use Rattle.lvl.proofs.Keeping.{over_kept, length_kept, sound_kept, cell_kept}
use Rattle.lvl.proofs.Lifting.{top_lifted, one_top, one_cell}
use Rattle.lvl.proofs.Refused.{IsElsewhere, first_refused, first_second, read_before}

sum_by-map : {X Y : Type 0} (f : X → Y) (g : Y → ℕ) (xs : List X) → sum_by g (map f xs) ≡ sum_by (λ x. g (f x)) xs
sum_by-map f g [] = refl
sum_by-map f g (x ∷ xs) =
    sum_by-cons g (f x) (map f xs) ∙ ap (λ n. g (f x) + n) (sum_by-map f g xs) ∙ sym (sum_by-cons (λ x. g (f x)) x xs)

own_on_kept : {F : Type 0} (rings : F → Rings) (layer : Layer) (c : PlainCell F)
    → own_rings_on rings layer c ≡ own_rings_on each_ring layer (drawn rings c)
own_on_kept {F = F} rings layer c =
    let f : PlainShape F → PlainShape Rings =
    λ h. record { layer = h.layer; figure = rings h.figure; shifts = h.shifts } in
    sym (sum_by-map f
    (λ (h : PlainShape Rings). if (h.layer.layer == layer.layer) && (h.layer.datatype == layer.datatype)
    then length h.figure * length h.shifts else 0) c.shapes)

-- a library of figures places as many rings on a Layer as the library of rings
placed_on_kept : {F : Type 0} (rings : F → Rings) (layer : Layer) (cells : List (PlainCell F)) (c : PlainCell F)
    → placed_rings_on rings layer cells c ≡ placed_rings_on each_ring layer (kept rings cells) (drawn rings c)
placed_on_kept rings layer cells c =
    over_kept rings (own_rings_on rings layer) (own_rings_on each_ring layer) (own_on_kept rings layer) cells
    (length cells) c
    ∙ ap (λ n. over_chains (own_rings_on each_ring layer) (kept rings cells) n (drawn rings c))
    (sym (length_kept rings cells))

layers_back : {F : Type 0} (rings : F → Rings) (cells : List (PlainCell F)) (top : PlainCell F)
    (layers : List LayerRings) → AreCounted each_ring (kept rings cells) (drawn rings top) layers
    → AreCounted rings cells top layers
layers_back rings cells top layers h = record {
  sorted = h.sorted;
  filled = h.filled;
  counted = λ k d within. h.counted k d within ∙ sym (placed_on_kept rings _ cells top);
  whole = λ layer some. h.whole layer (subst (λ n. 0 < n) (placed_on_kept rings layer cells top) some);
}

shown_back : {F : Type 0} (rings : F → Rings) (cells : List (PlainCell F)) (top : PlainCell F) (shown : Shown)
    → IsShownOf each_ring (kept rings cells) (drawn rings top) shown → IsShownOf rings cells top shown
shown_back rings cells top shown h = record {
  top_is = h.top_is;
  cells_are = h.cells_are ∙ length_kept rings cells;
  layers_are = layers_back rings cells top shown.layers.items h.layers_are;
}

shown_lifted : (file : File) (found : List (PlainCell Rings)) (head : Head)
    → IsLayoutOf file.profile file.bytes found head
    → (shown : Shown) → shown.head ≡ head → IsShownKept (kept_named file.profile.limits found file.top) shown → IsShownFile file shown
shown_lifted file found head read shown head_is k =
    let others : List Drawing = read.cells in
    let s = k.settled in
    let top : PlainCell Rings = k.in_range.top in
    let e : s.cells ≡ kept figure_rings others = k.in_range.checked.cells ∙ read.kept_as in
    let l = top_lifted file found head read s k.in_range in
    let same : l.accepted.index ≡ s.top =
    one_top (kept figure_rings others) file.top l.accepted.index s.top
    ((sound_kept figure_rings others file.top l.accepted.index).0 l.accepted.sound)
    (subst (λ (c : List (PlainCell Rings)). IsSound c file.top s.top) e k.in_range.checked.sound.sound) in
    let at : slice_get (kept figure_rings others) s.top ≡ Some top =
    subst (λ (c : List (PlainCell Rings)). slice_get c s.top ≡ Some top) e k.in_range.is_top in
    let cell : drawn figure_rings l.top ≡ top =
    one_cell (kept figure_rings others) l.accepted.index s.top (drawn figure_rings l.top) top
    (cell_kept figure_rings others l.accepted.index l.top l.accepted.top_is) at same in
    let here : IsShownOf each_ring (kept figure_rings others) (drawn figure_rings l.top) shown =
    subst (λ (c : List (PlainCell Rings)). IsShownOf each_ring c (drawn figure_rings l.top) shown) e
    (subst (λ (t : PlainCell Rings). IsShownOf each_ring s.cells t shown) (sym cell) k.shown_is) in
    record {
      cells = others;
      top = l.top;
      accepted = l.accepted;
      head = subst (Spells file.profile file.bytes others) (sym head_is) read.spelled;
      shown_is = shown_back figure_rings others l.top shown here;
    }

pub file_shown : (file : File) (found : List (PlainCell Rings)) (head : Head)
    → IsLayoutOf file.profile file.bytes found head
    → (r : Result Shown Refusal) → IfOk r (λ shown. shown.head ≡ head)
    → IfOk r (IsShownKept (kept_named file.profile.limits found file.top)) → IfOk r (IsShownFile file)
file_shown file found head read (Ok shown) head_is k = shown_lifted file found head read shown head_is k
file_shown file found head read (Err r) head_is k = tt

-- a refusal of one library is one of two that are this one
of_two : (k : Kept) (r : Refusal) → IsShowRefusal k r → IsKeptRefusal k k r
of_two k (FileRefusal side f) h = absurd h
of_two k (CellsRefusal First f) h = h.1
of_two k (CellsRefusal Second f) h = absurd (first_second (sym h.0))
of_two k (FlatRefusal First f) h = (h.1, (h.1.settled, h.1.checked))
of_two k (FlatRefusal Second f) h = absurd (first_second (sym h.0))
of_two k OutOfMemory h = tt

-- a refusal of a library that was read isn't that the file wasn't read
later : (k : Kept) (r : Refusal) → IsShowRefusal k r → IsElsewhere First r × IsOfFirst r
later k (FileRefusal side f) h = absurd h
later k (CellsRefusal side f) h = (tt, h.0)
later k (FlatRefusal side f) h = (tt, h.0)
later k OutOfMemory h = (tt, tt)

-- a refusal of the first side's file is one of the first side
pub of_first : (r : Refusal) → IsOfFile First r → IsOfFirst r
of_first (FileRefusal side f) h = h
of_first (CellsRefusal side f) h = absurd h
of_first (FlatRefusal side f) h = absurd h
of_first OutOfMemory h = tt

module _ {X : Type 0} (Says : File → X → Type 0) (a : Input) where
  -- the file wasn't read
  pub none_found : (r : Refusal) → IsReadBy First a (Some r) → IsOfFile First r → IsFoundBy Says a (Err r)
  none_found r read own = record { found = λ xs known. tt; read = read; side = of_first r own }

  -- the file was read
  pub found_in : (found : List (PlainCell Rings)) (head : Head) → IsReadBy First a None
      → ((xs : List ℕ) → a.bytes ≡ Some xs → IsLayoutOf a.profile xs found head) → (r : Result X Refusal)
      → ((xs : List ℕ) → a.bytes ≡ Some xs → IfOk r (Says (file_of a xs)))
      → IfErr r (IsShowRefusal (kept_named a.profile.limits found a.top)) → IsFoundBy Says a r
  found_in found head read is (Ok x) says refused = record { found = says; read = read; side = tt }
  found_in found head read is (Err e) says refused =
      let k : Kept = kept_named a.profile.limits found a.top in
      let after = later k e refused in
      record {
        found = says;
        read = read_before First a e after.0 read.reads
            (λ xs known. first_refused (file_of a xs) k found head (is xs known) e (of_two k e refused));
        side = after.1;
      }
