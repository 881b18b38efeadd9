-- On which Layers cells and arrays draw.
use Rattle.std.proofs.Common.{◌≡◌, ◌⊎◌, ◌<◌, ◌+◌, ℕ, List, Option, Some, None, take, length}
use Rattle.std.proofs.Common.{map, slice_get, set, ◌≢◌, inl, inr, refl, sym, ap, ◌∙◌, subst, arith}
use Rattle.std.specs.List.{range_with_len}
use Rattle.std.specs.Prelude.{option_map}
use Rattle.std.proofs.lemmas.Bool.{cases_lt}
use Rattle.std.proofs.lemmas.Option.{slice_get-map}
use Rattle.lvl_cells.specs.Checks.{IsTargetOf}
use Rattle.lvl_changed.specs.inside.Placements.{ReferencesCover}
use Rattle.lvl_changed.proofs.Placing.{array_of_reference, references_more}
use Rattle.lvl_cells.proofs.Walks.{set_elsewhere, set_there}
use Rattle.lvl_grid.specs.declared.point.Point.{Point}
use Rattle.lvl_grid.specs.declared.point.Square.{Square}
use Rattle.lvl_grid.proofs.Anyone.{Any-map}
use Rattle.lvl_names.specs.declared.layer.Layer.{Layer}
use Rattle.lvl_cells.specs.Cells.{PlainCell, PlainReference, Rings, map_at}
use Rattle.lvl_flat.specs.Flattened.{CoversAt}
use Rattle.lvl_view.specs.declared.map.LayerPair.{LayerPair}
use Rattle.lvl_view.specs.Views.{target_of}
use Rattle.lvl_changed.specs.declared.arrays.Array.{Array}
use Rattle.lvl_changed.specs.declared.layers.Layers.{Layers}
use Rattle.lvl_changed.specs.declared.placements.Placement.{Placement}
use Rattle.lvl_changed.specs.inside.Arrays.{as_reference, each_place}
use Rattle.lvl_changed.specs.inside.Drawing.{AreDrawnOn, IsDrawnOn}
use Rattle.lvl_changed.specs.inside.Layers.{IsOn}
use Rattle.lvl_changed.specs.inside.Placements.{PlacedCover, PlacementCovers}

-- what an array covers is on the Layers of its cell
pub array_covers : (cells : List (PlainCell Rings)) (a : Array) (l : Layer) (s : Square)
    → PlacedCover cells (each_place a) l s → (t : Square) × CoversAt cells a.cell l t
array_covers cells a l s covers =
    let f : Point → Placement = λ e. record { cell = a.cell; map = map_at (as_reference a) e } in
    let at = (Any-map (PlacementCovers cells l s) f a.shifts).0 covers in
    let u = at.4 in
    (u.0, u.2)

pub array_drawn : (pairs : List LayerPair) (cells : List (PlainCell Rings)) (a : Array) (layers : Layers)
    → ((l : Layer) (s : Square) → CoversAt cells a.cell l s → IsOn layers (target_of pairs l)) → (l : Layer)
    (s : Square) → PlacedCover cells (each_place a) l s → IsOn layers (target_of pairs l)
array_drawn pairs cells a layers on l s covers =
    let one = array_covers cells a l s covers in
    on l one.0 one.1

-- at first nothing is known
abbrev pub undrawn : ℕ → Option Layers
undrawn k = None

nothing : (o : Option ℕ) (f : Layers) → option_map undrawn o ≡ Some (Some f) → ⊥
nothing None f h = cc
nothing (Some k) f h = cc

pub none_drawn : (cells : List (PlainCell Rings)) (n : ℕ) → AreDrawnOn cells (map undrawn (range_with_len 0 n))
none_drawn cells n i f h =
    absurd (nothing (slice_get (range_with_len 0 n) i) f (sym (slice_get-map undrawn (range_with_len 0 n) i) ∙ h))

-- one more cell
pub drawn_more : (cells : List (PlainCell Rings)) (known : List (Option Layers)) (k : ℕ) (f : Layers)
    (old : Option Layers) → AreDrawnOn cells known → slice_get known k ≡ Some old → IsDrawnOn cells k f
    → AreDrawnOn cells (set known k (Some f))
drawn_more cells known k f old before there here i g h =
    let other : i ≢ k → IsDrawnOn cells i g = λ apart. before i g (sym (set_elsewhere known k i (Some f) apart) ∙ h) in
    elim (cases_lt i k) [
      | inl lt ↦ other (omega arith)
      | inr ge ↦
          elim (cases_lt k i) [
            | inl gt ↦ other (omega arith)
            | inr le ↦
                let one : i ≡ k = omega arith in
                let both : Some (Some f) ≡ Some (Some g) =
                sym (set_there known k old (Some f) there)
                ∙ (ap (slice_get (set known k (Some f))) (sym one) ∙ h) in
                let same : f ≡ g = cc in
                subst (λ j. IsDrawnOn cells j g) (sym one) (subst (IsDrawnOn cells k) same here)
          ]
    ]

-- what the references up to an index cover, the earlier ones do or the cell of the last
pub reference_drawn : (cells : List (PlainCell Rings)) (i j k : ℕ) (b : PlainCell Rings) (t : IsTargetOf cells i j k)
    (l : Layer) (s : Square) → slice_get cells i ≡ Some b → j < length b.references
    → ReferencesCover cells (take (j + 1) b.references) l s
    → ReferencesCover cells (take j b.references) l s ⊎ ((q : Square) × CoversAt cells k l q)
reference_drawn cells i j k b t l s at low covers =
    let r : PlainReference = t.reference in
    let a : Array = record {
      cell = k;
      by = record { flip = r.flip; turn = r.turn; at = r.at };
      shifts = r.shifts;
    } in
    elim ((references_more cells i j b a at low (array_of_reference cells i j k r a t t.reference_is refl) l s).0
    covers) [ inl early ↦ inl early | inr this ↦ inr (array_covers cells a l s this) ]
