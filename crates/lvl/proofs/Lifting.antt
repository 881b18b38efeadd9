-- From what was found for the libraries of rings to what the bytes of the files spell.
use Rattle.std.proofs.Common.{◌≡◌, ◌↔◌, ◌<◌, ◌≤◌, ℕ, List, [], get_or, Option, Some, None, length, slice_get, refl, sym}
use Rattle.std.proofs.Common.{ap, ◌∙◌, subst}
use Rattle.lvl_grid.specs.declared.point.Square.{Square}
use Rattle.lvl_grid.specs.Winding.{SomeCovers}
use Rattle.lvl_path.specs.Figure.{figure_rings, FigureCovers}
use Rattle.lvl_path.proofs.Figures.{figure_drawn}
use Rattle.lvl_names.specs.declared.layer.Layer.{Layer}
use Rattle.lvl_cells.specs.Cells.{PlainCell, Rings, each_ring, names, drawn, kept}
use Rattle.lvl_cells.specs.Coverage.{CellCovers}
use Rattle.lvl_cells.specs.Soundness.{IsSound}
use Rattle.lvl_cells.specs.Chains.{Chain, FitsLimits, chains, placed_rings}
use Rattle.lvl_cells.proofs.Arcs.{once_named}
use Rattle.std.proofs.lemmas.List.{length-map}
use Rattle.std.proofs.lemmas.Option.{slice_get-get_or}
use Rattle.lvl_cells.specs.Checks.{Settled, IsSettled}
use Rattle.lvl.specs.declared.verdict.CellRefusal.{CellRefusal}
use Rattle.lvl_flat.specs.Flattened.{IsFlatFault, IsOutOfRange}
use Rattle.lvl_flat.specs.declared.fault.FlatFault.{FlatFault}
use Rattle.lvl_flat.specs.declared.fault.FlatFault.TheVariants.{OutOfRange}
use Rattle.lvl_region.specs.Region.{IsAlone}
use Rattle.lvl_region.specs.declared.region.Side.{Side}
use Rattle.lvl_region.specs.declared.region.Side.TheVariants.{First, Second}
use Rattle.lvl.specs.Drawing.{Drawing}
use Rattle.lvl.specs.declared.layout.Head.{Head}
use Rattle.lvl.specs.Layouts.{File, Spells, IsLayoutOf}
use Rattle.lvl.specs.Accepted.{IsAccepted, IsUnaccepted, Draws}
use Rattle.lvl.specs.Kept.{Kept, IsCheckedAs, IsInRangeAs, IsCellFault, IsRangeFault}
use Rattle.lvl.specs.Answers.{kept_of}
use Rattle.lvl.proofs.Keeping.{sound_kept, cell_covers_kept, fits_kept, cell_back, cell_kept}

-- a cell of figures draws what its rings cover
pub draws_kept : (cells : List Drawing) (layer : Layer) (top : Drawing) (s : Square)
    → Draws cells top layer s ↔ CellCovers SomeCovers (kept figure_rings cells) layer (drawn figure_rings top) s
draws_kept cells layer top s = cell_covers_kept figure_rings FigureCovers figure_drawn cells layer top s

-- the library that was found is any that the bytes spell, with rings for its figures
found_as : (file : File) (found : List (PlainCell Rings)) (head : Head) → IsLayoutOf file.profile file.bytes found head
    → (cells : List Drawing) (h : Head) → Spells file.profile file.bytes cells h → found ≡ kept figure_rings cells
found_as file found head read cells h s = (read.alone cells h s).0

by_found : (P : List (PlainCell Rings) → Type 0) (file : File) (cells : List (PlainCell Rings)) (head : Head)
    → IsLayoutOf file.profile file.bytes cells head → P cells → (others : List Drawing) (h : Head)
    → Spells file.profile file.bytes others h
    → P (kept figure_rings others)
by_found P file cells head read p others h s = subst P (found_as file cells head read others h s) p

-- the check of cells

pub cell_reported : (file : File) (cells : List (PlainCell Rings)) (head : Head)
    → IsLayoutOf file.profile file.bytes cells head
    → (fault : CellRefusal) → IsCellFault (record { limits = file.profile.limits; cells = cells; top = file.top }) fault
    → (others : List Drawing) (h : Head) → Spells file.profile file.bytes others h
    → IsCellFault (kept_of file others) fault
cell_reported file cells head read fault reported =
    by_found (λ c. IsCellFault (record { limits = file.profile.limits; cells = c; top = file.top }) fault) file cells head read reported

pub cell_unaccepted : (file : File) (cells : List (PlainCell Rings)) (head : Head)
    → IsLayoutOf file.profile file.bytes cells head
    → (fault : CellRefusal) → IsCellFault (record { limits = file.profile.limits; cells = cells; top = file.top }) fault → IsUnaccepted file
cell_unaccepted file cells head read fault reported others top accepted =
    let here = cell_reported file cells head read fault reported others accepted.head accepted.spelled in
    let fits = (fits_kept file.profile.limits figure_rings others top).0 accepted.fits in
    here.unsound (record {
      index = accepted.index;
      cell = drawn figure_rings top;
      sound = (sound_kept figure_rings others file.top accepted.index).0 accepted.sound;
      is = cell_kept figure_rings others accepted.index top accepted.top_is;
      counts = record { few_chains = fits.few_chains; few_rings = fits.few_rings };
    })

-- a library has one top

pub one_top : (cells : List (PlainCell Rings)) (given : Option (List ℕ)) (i j : ℕ) → IsSound cells given i
    → IsSound cells given j → i ≡ j
one_top cells (Some name) i j a b = once_named (names cells) i j name a.linked.distinct a.is_top b.is_top
one_top cells None i j a b =
    let some : i < length (names cells) = rw (length-map cells (λ (c : PlainCell Rings). c.name)) a.is_top.0 in
    let at : slice_get (names cells) i ≡ Some (get_or (names cells) i []) = slice_get-get_or (names cells) i [] some in
    (b.is_top.1 i (get_or (names cells) i []) at).0 ((a.is_top.1 i (get_or (names cells) i []) at).1 refl)

-- flattening

pub one_cell : (cells : List (PlainCell Rings)) (i j : ℕ) (c d : PlainCell Rings) → slice_get cells i ≡ Some c
    → slice_get cells j ≡ Some d → i ≡ j → c ≡ d
one_cell cells i j c d p q e = let f : Some c ≡ Some d = sym p ∙ (ap (slice_get cells) e ∙ q) in cc

fits_settled : (file : File) (k : Kept) (s : Settled) → IsSettled file.profile.limits file.top s
    → (r : IsInRangeAs k s)
    → FitsLimits file.profile.limits each_ring s.cells r.top
fits_settled file k s settled r =
    let same : settled.cell ≡ r.top = one_cell s.cells s.top s.top settled.cell r.top settled.is r.is_top refl in
    record {
      few_chains = subst (λ (c : PlainCell Rings). chains s.cells c ≤ file.profile.limits.placed) same settled.few_chains;
      few_rings =
          subst (λ (c : PlainCell Rings). placed_rings each_ring s.cells c ≤ file.profile.limits.placed) same settled.few_rings;
      in_range = r.in_range;
    }

-- a library in range is accepted, and draws what its top covers
pub record IsTopLifted (file : File) (others : List Drawing) (cells : List (PlainCell Rings))
    (c : PlainCell Rings) : Type 0 where
  pub top : Drawing
  pub accepted : IsAccepted file others top
  pub kept_as : drawn figure_rings top ≡ c
  pub draws : (layer : Layer) (s : Square) → CellCovers SomeCovers cells layer c s ↔ Draws others top layer s

pub top_lifted : (file : File) (cells : List (PlainCell Rings)) (head : Head)
    (read : IsLayoutOf file.profile file.bytes cells head)
    (s : Settled) → (r : IsInRangeAs (record { limits = file.profile.limits; cells = cells; top = file.top }) s)
    → IsTopLifted file read.cells s.cells r.top
top_lifted file cells head read s r =
    let others : List Drawing = read.cells in
    let e : s.cells ≡ kept figure_rings others = r.checked.cells ∙ read.kept_as in
    let b =
    cell_back figure_rings others s.top r.top
    (subst (λ (c : List (PlainCell Rings)). slice_get c s.top ≡ Some r.top) e r.is_top) in
    let fits = subst (λ (c : PlainCell Rings). FitsLimits file.profile.limits each_ring (kept figure_rings others) c) (sym b.2)
    (subst (λ (c : List (PlainCell Rings)). FitsLimits file.profile.limits each_ring c r.top) e
    (fits_settled file (record { limits = file.profile.limits; cells = cells; top = file.top }) s r.checked.sound r)) in
    record {
      top = b.0;
      accepted = record {
        head = head;
        spelled = read.spelled;
        index = s.top;
        sound =
            (sound_kept figure_rings others file.top s.top).1
            (subst (λ (c : List (PlainCell Rings)). IsSound c file.top s.top) e r.checked.sound.sound);
        top_is = b.1;
        fits = (fits_kept file.profile.limits figure_rings others b.0).1 fits;
      };
      kept_as = b.2;
      draws = λ layer t.
          let q = draws_kept others layer b.0 t in
          let p =
          subst
          (λ (c : PlainCell Rings).
          Draws others b.0 layer t ↔ CellCovers SomeCovers (kept figure_rings others) layer c t) b.2 q in
          let u =
          subst (λ (c : List (PlainCell Rings)). Draws others b.0 layer t ↔ CellCovers SomeCovers c layer r.top t)
          (sym e) p in
          (u.1, u.0);
    }

pub range_reported : (file : File) (cells : List (PlainCell Rings)) (head : Head)
    → IsLayoutOf file.profile file.bytes cells head
    → (fault : FlatFault) → IsRangeFault (record { limits = file.profile.limits; cells = cells; top = file.top }) fault
    → (others : List Drawing) (h : Head) → Spells file.profile file.bytes others h
    → IsRangeFault (kept_of file others) fault
range_reported file cells head read fault reported =
    by_found (λ c. IsRangeFault (record { limits = file.profile.limits; cells = c; top = file.top }) fault) file cells head read reported

out_of_range : (file : File) (others : List Drawing) (top : Drawing) (s : Settled) (name : List ℕ)
    → IsAccepted file others top → IsCheckedAs (kept_of file others) s → IsOutOfRange s name → ⊥
out_of_range file others top s name accepted checked reported =
    let e : s.cells ≡ kept figure_rings others = checked.cells in
    let same : accepted.index ≡ s.top =
    one_top (kept figure_rings others) file.top accepted.index s.top
    ((sound_kept figure_rings others file.top accepted.index).0 accepted.sound)
    (subst (λ (c : List (PlainCell Rings)). IsSound c file.top s.top) e checked.sound.sound) in
    let at : slice_get (kept figure_rings others) s.top ≡ Some reported.top =
    subst (λ (c : List (PlainCell Rings)). slice_get c s.top ≡ Some reported.top) e reported.is_top in
    let cell : drawn figure_rings top ≡ reported.top =
    one_cell (kept figure_rings others) accepted.index s.top (drawn figure_rings top) reported.top
    (cell_kept figure_rings others accepted.index top accepted.top_is) at same in
    let fits = (fits_kept file.profile.limits figure_rings others top).0 accepted.fits in
    let chain : Chain (kept figure_rings others) (drawn figure_rings top) reported.steps reported.map reported.cell =
    subst
    (λ (c : PlainCell Rings). Chain (kept figure_rings others) c reported.steps reported.map reported.cell) (sym cell)
    (subst (λ (c : List (PlainCell Rings)). Chain c reported.top reported.steps reported.map reported.cell) e
    reported.chain) in
    reported.out (fits.in_range reported.steps reported.map reported.cell chain)

fault_in_range : (file : File) (others : List Drawing) (top : Drawing) (s : Settled) (fault : FlatFault)
    → IsAccepted file others top → IsCheckedAs (kept_of file others) s → IsFlatFault s fault → ⊥
fault_in_range file others top s (OutOfRange name) accepted checked reported =
    out_of_range file others top s name.items accepted checked reported

pub range_unaccepted : (file : File) (cells : List (PlainCell Rings)) (head : Head)
    → IsLayoutOf file.profile file.bytes cells head
    → (fault : FlatFault) → IsRangeFault (record { limits = file.profile.limits; cells = cells; top = file.top }) fault → IsUnaccepted file
range_unaccepted file cells head read fault reported others top accepted =
    let here = range_reported file cells head read fault reported others accepted.head accepted.spelled in
    fault_in_range file others top here.settled fault accepted here.checked here.reported

-- the verdict

pub both_lifted : (A A' B B' : Type 0) → A ↔ A' → B ↔ B' → A ↔ B → A' ↔ B'
both_lifted A A' B B' p q h = (λ a. q.0 (h.0 (p.1 a)), λ b. p.0 (h.1 (q.1 b)))

pub alone_lifted : (P P' Q Q' : Square → Type 0) (s : Square) (side : Side) → P s ↔ P' s → Q s ↔ Q' s
    → IsAlone P Q s side → IsAlone P' Q' s side
alone_lifted P P' Q Q' s First p q h = (p.0 h.0, λ x. h.1 (q.1 x))
alone_lifted P P' Q Q' s Second p q h = (q.0 h.0, λ x. h.1 (p.1 x))
