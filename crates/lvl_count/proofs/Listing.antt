-- The counts of Layers: in the order of the Layers, each of them once.
use Rattle.std.proofs.Common.{◌≡◌, ◌<◌, ℕ, List, []}
use Rattle.std.proofs.Common.{◌∷◌, length, get_or, map, All, AllPairs, Contains, refl, sym, ap, ◌∙◌, subst, arith}
use Rattle.std.proofs.lemmas.List.{get_or-map}
use Rattle.std.proofs.lemmas.List.Elements.{All-weaker}
use Rattle.std.proofs.Math.ListN.{length-map}
use Rattle.lvl_names.specs.declared.layer.Layer.{Layer}
use Rattle.lvl_names.specs.Layers.{ComesBefore}
use Rattle.lvl_cells.specs.Cells.{PlainCell, Rings}
use Rattle.lvl_cells.proofs.Listing.{among}
use Rattle.lvl_count.specs.declared.counts.LayerRings.{LayerRings}
use Rattle.lvl_count.specs.inside.Counts.{AreListed, AreSorted}

-- a count of zero
abbrev pub no_rings : Layer → LayerRings
no_rings l = record { layer = l; rings = 0 }

pub pairs-map : {X Y : Type 0} (R : Y → Y → Type 0) (f : X → Y) (xs : List X) → AllPairs (λ a b. R (f a) (f b)) xs
    → AllPairs R (map f xs)
pairs-map R f [] pairs i j d lt within = absurd (omega arith)
pairs-map R f (x ∷ xs) pairs i j d lt within =
    let low : j < length (x ∷ xs) = subst (λ n. j < n) (length-map (x ∷ xs) f) within in
    subst (λ y. R y (get_or (map f (x ∷ xs)) j d)) (sym (get_or-map f (x ∷ xs) i x d (omega (arith, lt, low))))
    (subst (λ y. R (f (get_or (x ∷ xs) i x)) y) (sym (get_or-map f (x ∷ xs) j x d low)) (pairs i j x lt low))

-- the counts of Layers in order are sorted
pub counts_rise : (layers : List Layer) (counts : List LayerRings) → AllPairs ComesBefore layers
    → counts ≡ map no_rings layers → AreSorted counts
counts_rise layers counts h e =
    subst AreSorted (sym e) (pairs-map (λ (a b : LayerRings). ComesBefore a.layer b.layer) no_rings layers h)

layers_again : (xs : List Layer) → map (λ c. c.layer) (map no_rings xs) ≡ xs
layers_again [] = refl
layers_again (x ∷ xs) = ap (λ l. x ∷ l) (layers_again xs)

-- each of the Layers has its count
pub counts_there : (layers ordered : List Layer) (counts : List LayerRings) → All (Contains ordered) layers
    → counts ≡ map no_rings ordered → All (Contains (map (λ c. c.layer) counts)) layers
counts_there layers ordered counts all e =
    subst (λ (ls : List Layer). All (Contains ls) layers)
    (sym (ap (λ cs. map (λ (c : LayerRings). c.layer) cs) e ∙ layers_again ordered)) all

pub still_listed : (cells : List (PlainCell Rings)) (times : List ℕ) (fewer more : List Layer) (places : List ℕ)
    → All (Contains more) fewer → All (AreListed cells times fewer) places → All (AreListed cells times more) places
still_listed cells times fewer more places wider h =
    All-weaker {X = ℕ} (AreListed cells times fewer) (AreListed cells times more)
    (λ k listed placed c there. among fewer more c.shapes wider (listed placed c there)) places h
