-- Rings moved to the targets of their Layers.
use Rattle.std.proofs.Common.{◌≡◌, ◌↔◌, ◌++◌, Bool, true, false, cond, not, List, [], ◌∷◌, map, All, Contains, inl}
use Rattle.std.proofs.Common.{inr, refl, sym, ap, subst, ◌∙◌, arith}
use Rattle.std.proofs.lemmas.List.{append-nil, map-append}
use Rattle.std.proofs.lemmas.List.Concat.{flat_map-append}
use Rattle.std.proofs.lemmas.List.Elements.{All-contains, Contains-append_right}
use Rattle.lvl_grid.specs.declared.point.Point.{Point}
use Rattle.lvl_grid.specs.declared.point.Square.{Square}
use Rattle.lvl_grid.specs.Winding.{Covers, SomeCovers}
use Rattle.lvl_grid.proofs.Anyone.{Any-nil, Any-left, Any-right, Any-sides}
use Rattle.lvl_names.specs.declared.layer.Layer.{Layer}
use Rattle.lvl_cells.specs.Cells.{Rings}
use Rattle.lvl_names.specs.Layers.{same_layer}
use Rattle.lvl_names.proofs.Layers.{same_is, tested_layer}
use Rattle.lvl_view.specs.declared.map.LayerPair.{LayerPair}
use Rattle.lvl_view.specs.Views.{target_of}
use Rattle.lvl_flat.specs.Mapped.{mapped_on}
use Rattle.lvl_view.specs.Moved.{IsMoved}
use Rattle.lvl_flat.specs.Sheet.{PlainSheet}
use Rattle.lvl_flat.specs.Sheets.{AreSorted, rings_on}
use Rattle.lvl_flat.proofs.Orders.{others_after, sorted_tail, rings_nowhere}

-- the rings of the sheet if its Layer's target is this one, else none
abbrev pub moved_on : List LayerPair → Layer → PlainSheet → Rings
moved_on pairs layer t = cond (same_layer (target_of pairs t.layer) layer) t.rings []

-- one more sheet
pub mapped_more : (pairs : List LayerPair) (layer : Layer) (sheets : List PlainSheet) (t : PlainSheet)
    → mapped_on pairs layer (sheets ++ t ∷ []) ≡ mapped_on pairs layer sheets ++ moved_on pairs layer t
mapped_more pairs layer sheets t =
    flat_map-append (moved_on pairs layer) sheets (t ∷ [])
    ∙ ap (λ rings. mapped_on pairs layer sheets ++ rings) (append-nil (moved_on pairs layer t))

none_cover : (s : Square) → SomeCovers [] s → ⊥
none_cover s a = Any-nil (λ (ring : List Point). Covers ring s) a

-- rings on a Layer in the sheets after the first are also there with the first
covered_after : (t : PlainSheet) (ts : List PlainSheet) (layer : Layer) (s : Square) → AreSorted (t ∷ ts)
    → SomeCovers (rings_on layer ts) s → SomeCovers (rings_on layer (t ∷ ts)) s
covered_after t ts layer s sorted a =
    elim (same_layer t.layer layer)
    as (λ b. same_layer t.layer layer ≡ b → SomeCovers (cond b t.rings (rings_on layer ts)) s) [
      | true ↦ λ e.
          let here : t.layer ≡ layer = tested_layer t.layer layer (ap not e) in
          let none : rings_on layer ts ≡ [] = rings_nowhere ts layer (others_after t ts layer sorted here) in
          absurd (none_cover s (subst (λ (rings : Rings). SomeCovers rings s) none a))
      | false ↦ λ e. a
    ] refl

first_covered : (pairs : List LayerPair) (t : PlainSheet) (ts : List PlainSheet) (layer : Layer) (s : Square)
    → SomeCovers (moved_on pairs layer t) s → IsMoved pairs (λ l. SomeCovers (rings_on l (t ∷ ts))) layer s
first_covered pairs t ts layer s a =
    elim (same_layer (target_of pairs t.layer) layer)
    as (λ b. same_layer (target_of pairs t.layer) layer ≡ b → SomeCovers (cond b t.rings []) s
    → IsMoved pairs (λ l. SomeCovers (rings_on l (t ∷ ts))) layer s) [
      | true ↦ λ e h. record {
        source = t.layer;
        is_target = tested_layer (target_of pairs t.layer) layer (ap not e);
        covers =
            subst (λ (b : Bool). SomeCovers (cond b t.rings (rings_on t.layer ts)) s)
            (sym (same_is t.layer t.layer refl))
            h;
      }
      | false ↦ λ e h. absurd (none_cover s h)
    ] refl a

-- the rings that came to a Layer cover what was covered on the Layers whose target it is
pub mapped_covers : (pairs : List LayerPair) (sheets : List PlainSheet) (layer : Layer) (s : Square) → AreSorted sheets
    → SomeCovers (mapped_on pairs layer sheets) s ↔ IsMoved pairs (λ l. SomeCovers (rings_on l sheets)) layer s
mapped_covers pairs [] layer s sorted = (λ a. absurd (none_cover s a), λ h. absurd (none_cover s h.covers))
mapped_covers pairs (t ∷ ts) layer s sorted =
    let rest = mapped_covers pairs ts layer s (sorted_tail t ts sorted) in
    let P : List Point → Type 0 = λ ring. Covers ring s in
    let mine : Rings = moved_on pairs layer t in
    let theirs : Rings = mapped_on pairs layer ts in (
      λ a. elim (Any-sides P mine theirs a) [
        | inl b ↦ first_covered pairs t ts layer s b
        | inr b ↦
            let h = rest.0 b in
            record {
              source = h.source;
              is_target = h.is_target;
              covers = covered_after t ts h.source s sorted h.covers;
            }
      ],
      λ h. elim (same_layer t.layer h.source)
          as (λ b. same_layer t.layer h.source ≡ b → SomeCovers (cond b t.rings (rings_on h.source ts)) s
          → SomeCovers (mine ++ theirs) s) [
            | true ↦ λ e k.
                let here : target_of pairs t.layer ≡ layer =
                ap (target_of pairs) (tested_layer t.layer h.source (ap not e)) ∙ h.is_target in
                Any-left P mine theirs (subst (λ (b : Bool). SomeCovers (cond b t.rings []) s)
                (sym (same_is (target_of pairs t.layer) layer here)) k)
            | false ↦
                λ e k. Any-right P mine theirs
                (rest.1 (record { source = h.source; is_target = h.is_target; covers = k }))
          ] refl h.covers,
    )

-- the target of a sheet is among those of all
pub target_there : (pairs : List LayerPair) (layers : List Layer) (before after all : List PlainSheet) (t : PlainSheet)
    → before ++ t ∷ after ≡ all → All (Contains layers) (map (λ s. target_of pairs s.layer) all)
    → Contains layers (target_of pairs t.layer)
target_there pairs layers before after all t e there =
    let target : PlainSheet → Layer = λ s. target_of pairs s.layer in
    let has : Contains (map target (before ++ t ∷ after)) (target t) =
    rw map-append (Contains-append_right (map target before) (target t ∷ map target after) (target t)
    (0, omega arith, refl)) in
    All-contains (Contains layers) (map target all) (target t) there
    (subst (λ (ss : List PlainSheet). Contains (map target ss) (target t)) e has)
