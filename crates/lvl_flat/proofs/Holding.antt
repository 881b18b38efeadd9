-- What boxes have, while they are widened.
use Rattle.std.proofs.Common.{◌≡◌, ℕ, zero, suc, List, Option, Some, All, Contains, ◌≢◌, ℤ, ◌≤ℤ◌, ◌+ℤ◌, FitsSigned}
use Rattle.std.proofs.Common.{Bool, set, get_or, slice_get, inl, inr, refl, sym, ap, ◌∙◌, subst, arith}
use Rattle.std.specs.Int.{w64}
use Rattle.std.proofs.lemmas.Int.{ints}
use Rattle.std.proofs.lemmas.Bool.{cases_lt}
use Rattle.std.proofs.lemmas.List.Elements.{All-weaker, All-contains}
use Rattle.lvl_grid.specs.declared.point.Point.{Point}
use Rattle.lvl_grid.specs.declared.map.Map.{Map}
use Rattle.lvl_grid.specs.declared.map.Turn.{Turn}
use Rattle.lvl_grid.specs.Turn.{image, shifted, turned, reflected, FitsPoint}
use Rattle.lvl_grid.proofs.Composing.{same_point}
use Rattle.lvl_grid.proofs.Paths.{origin}
use Rattle.lvl_flat.proofs.Picks.{picks_any}
use Rattle.lvl_cells.specs.Cells.{PlainCell, PlainShape, PlainReference, Rings, map_at, cell_named}
use Rattle.lvl_cells.specs.Chains.{Chain, unmoved}
use Rattle.lvl_cells.proofs.Walks.{set_elsewhere, set_there}
use Rattle.lvl_flat.specs.declared.bounds.Bounds.{Bounds}
use Rattle.lvl_flat.specs.Flattened.{AllInRange}
use Rattle.lvl_flat.specs.inside.Visits.{Pick, picks}
use Rattle.lvl_flat.specs.Boxes.{HoldsPoint, HoldsShape, HoldsCell}
use Rattle.lvl_flat.specs.inside.Bounds.{Widens, HoldsRing, HoldsOwn, HoldsPick}
use Rattle.lvl_flat.specs.Boxes.{HoldsChains, AreBoxes, FitsBounds}
use Rattle.lvl_flat.specs.inside.Bounds.{HoldsPicks}
use Rattle.lvl_flat.proofs.Ranging.{image-unmoved, composed_at, first_choice}

pub widens_itself : (a : Bounds) → Widens a a
widens_itself a = record { holds = λ p w. w }

pub widens_further : (a b c : Bounds) → Widens a b → Widens b c → Widens a c
widens_further a b c h k = record { holds = λ p w. k.holds p (h.holds p w) }

-- a wider box has all that the box has
pub ring_wider : (a b s : Bounds) (ring : List Point) → Widens a b → HoldsRing a s ring → HoldsRing b s ring
ring_wider a b s ring h all =
    All-weaker (λ v. (e : Point) → HoldsPoint s e → HoldsPoint a (shifted e v))
    (λ v. (e : Point) → HoldsPoint s e → HoldsPoint b (shifted e v)) (λ v k e w. h.holds _ (k e w)) ring all

pub own_wider : (a b : Bounds) (h : PlainShape Rings) → Widens a b → HoldsOwn a h → HoldsOwn b h
own_wider a b h w all = λ i e li j ring lj k v lk. w.holds _ (all i e li j ring lj k v lk)

pub cell_wider : (a b : Bounds) (m : Map) (d : PlainCell Rings) → Widens a b → HoldsCell a m d → HoldsCell b m d
cell_wider a b m d w h = record {
  shift = w.holds _ h.shift;
  vertices = λ i g li j e lj k ring lk l v ll. w.holds _ (h.vertices i g li j e lj k ring lk l v ll);
}

pub picks_wider : (cells : List (PlainCell Rings)) (a b : Bounds) (rs : List PlainReference) → Widens a b
    → HoldsPicks cells a rs → HoldsPicks cells b rs
picks_wider cells a b rs w h i r li e has d f n v m named chain whole =
    cell_wider a b m f w (h i r li e has d f n v m named chain whole)

-- a figure at all displacements of a box is there at the shifts in it
pub figure_own : (b s : Bounds) (h : PlainShape Rings) → All (HoldsPoint s) h.shifts → All (HoldsRing b s) h.figure
    → HoldsOwn b h
figure_own b s h shifts rings = λ i e li j ring lj k v lk. rings j ring lj k v lk (get_or h.shifts i e) (shifts i e li)

-- the shapes of a cell, unmapped, are placed by the map that moves no point
shape_unmoved : (b : Bounds) (h : PlainShape Rings) → HoldsOwn b h → HoldsShape b unmoved h
shape_unmoved b h all =
    λ i e li j ring lj k v lk. subst (HoldsPoint b) (sym (image-unmoved _)) (all i e li j ring lj k v lk)

-- what a reference places, if all that its cell places is in the inner box
pub reference_holds : (cells : List (PlainCell Rings)) (b t : Bounds) (r : PlainReference) (d : PlainCell Rings)
    → cell_named cells r.cell ≡ Some d → HoldsChains cells t d
    → ((p : Point) → HoldsPoint t p → All (λ e. HoldsPoint b (image (map_at r e) p)) r.shifts) → (e : Point)
    → Contains r.shifts e → HoldsPick cells b r e
reference_holds cells b t r d named chains placed e has c f n w m named_too chain whole =
    let both : Some c ≡ Some d = sym named_too ∙ named in
    let one : c ≡ d = cc in
    let held : HoldsCell t w f = chains.chains n w f (subst (λ (x : PlainCell Rings). Chain cells x n w f) one chain) in
    let there : (p : Point) → HoldsPoint t p → HoldsPoint b (image (map_at r e) p) =
    λ p within. All-contains (λ x. HoldsPoint b (image (map_at r x) p)) r.shifts e (placed p within) has in
    record {
      shift = subst (HoldsPoint b) (sym (composed_at (map_at r e) w m whole)) (there w.at held.shift);
      vertices =
          λ i h li k s lk j ring lj l v ll.
          subst (HoldsPoint b) (sym (whole _)) (there _ (held.vertices i h li k s lk j ring lj l v ll));
    }

all_picks : (cells : List (PlainCell Rings)) (b : Bounds) (rs : List PlainReference) → HoldsPicks cells b rs
    → (p : Pick) → Contains (picks rs) p → HoldsPick cells b p.0 p.1
all_picks cells b rs all p has =
    let a = (picks_any (λ r e. let q : Pick = (r, e) in q ≡ p) rs).1 (has.0, p, has.1, has.2, refl) in
    let held : HoldsPick cells b a.1 a.4.1 =
    All-contains (λ (r : PlainReference). (e : Point) → Contains r.shifts e → HoldsPick cells b r e) rs a.1 all
    (a.0, a.2, a.3) a.4.1 (a.4.0, a.4.2, a.4.3) in
    subst (λ (q : Pick). HoldsPick cells b q.0 q.1) a.4.4 held

chains_of : (cells : List (PlainCell Rings)) (b : Bounds) (c : PlainCell Rings) → HoldsPoint b origin
    → All (HoldsOwn b) c.shapes → HoldsPicks cells b c.references
    → (n : ℕ) (m : Map) (d : PlainCell Rings) → Chain cells c n m d → HoldsCell b m d
chains_of cells b c at own below zero m d chain =
    let here : HoldsCell b unmoved c = record {
      shift = at;
      vertices = λ i h li. shape_unmoved b (get_or c.shapes i h) (own i h li);
    } in
    subst (λ (u : Map). HoldsCell b u d) (sym chain.0) (subst (HoldsCell b unmoved) (sym chain.1) here)
chains_of cells b c at own below (suc n) m d chain =
    let first = first_choice cells c n m d chain in
    all_picks cells b c.references below first.pick first.chosen first.next d n first.rest m first.named first.chain
    first.whole

-- a cell whose shapes are in the box, and all that its references lead to
pub chains_from : (cells : List (PlainCell Rings)) (b : Bounds) (c : PlainCell Rings) → HoldsPoint b origin
    → All (HoldsOwn b) c.shapes → HoldsPicks cells b c.references → HoldsChains cells b c
chains_from cells b c at own below = record { chains = chains_of cells b c at own below }

between : (l z h : ℤ) → FitsSigned w64 l → FitsSigned w64 h → l ≤ℤ z → z ≤ℤ h → FitsSigned w64 z
between l z h f g p q = omega (arith, ints, p, q)

pub fits_within : (b : Bounds) (p : Point) → FitsBounds b → HoldsPoint b p → FitsPoint p
fits_within b p f w = record {
  x_fits = between b.low.x p.x b.high.x f.low.x_fits f.high.x_fits w.left w.right;
  y_fits = between b.low.y p.y b.high.y f.low.y_fits f.high.y_fits w.below w.above;
}

-- what is in a box within 64 bits is in range
pub box_in_range : (cells : List (PlainCell Rings)) (b : Bounds) (c : PlainCell Rings) → FitsBounds b
    → HoldsChains cells b c
    → AllInRange cells c
box_in_range cells b c f h n m d chain =
    let held = h.chains n m d chain in
    record {
      shift = fits_within b m.at f held.shift;
      vertices = λ i g li k e lk j ring lj l v ll. fits_within b _ f (held.vertices i g li k e lk j ring lj l v ll);
    }

-- one more box is known
pub known_box : (cells : List (PlainCell Rings)) (known : List (Option Bounds)) (k : ℕ) (old new : Option Bounds)
    → AreBoxes cells known → slice_get known k ≡ Some old
    → ((b : Bounds) (c : PlainCell Rings) → new ≡ Some b → slice_get cells k ≡ Some c
    → FitsBounds b × HoldsChains cells b c)
    → AreBoxes cells (set known k new)
known_box cells known k old new before there here i b c h at =
    let other : i ≢ k → FitsBounds b × HoldsChains cells b c =
    λ apart. before i b c (sym (set_elsewhere known k i new apart) ∙ h) at in
    elim (cases_lt i k) [
      | inl lt ↦ other (omega arith)
      | inr ge ↦
          elim (cases_lt k i) [
            | inl gt ↦ other (omega arith)
            | inr le ↦
                let one : i ≡ k = omega arith in
                let both : Some new ≡ Some (Some b) =
                sym (set_there known k old new there) ∙ (ap (slice_get (set known k new)) (sym one) ∙ h) in
                let same : new ≡ Some b = cc in
                here b c same (ap (slice_get cells) (sym one) ∙ at)
          ]
    ]

swapped : (q a e : ℤ) → (q +ℤ a) +ℤ e ≡ q +ℤ (e +ℤ a)
swapped q a e = omega (arith, ints)

-- an image before the shifts, moved by a shift, is the image under the reference's map at that shift
pub moved_place : (r : PlainReference) (m : Map) (e p : Point) → m.flip ≡ r.flip → m.turn ≡ r.turn → m.at ≡ r.at
    → shifted e (image m p) ≡ image (map_at r e) p
moved_place r m e p f t a =
    let of : Bool → Turn → Point → Map = λ x y z. record { flip = x; turn = y; at = z } in
    let same : m ≡ of r.flip r.turn r.at =
    ap (λ x. of x m.turn m.at) f ∙ (ap (λ y. of r.flip y m.at) t ∙ ap (of r.flip r.turn) a) in
    let q : Point = turned r.turn (reflected r.flip p) in
    ap (λ (n : Map). shifted e (image n p)) same ∙ same_point _ _ (swapped q.x r.at.x e.x) (swapped q.y r.at.y e.y)
