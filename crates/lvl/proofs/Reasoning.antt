-- The reason for a verdict on two libraries is one for the files that spell them.
use Rattle.std.proofs.Common.{◌≡◌, List, [], ◌∷◌, Option, Some, None, All, Contains, Result, Ok, Err, IfOk, IfSome, IfNone}
use Rattle.std.proofs.Common.{◌<◌, ◌+◌, ℕ, slice_get, refl, subst}
use Rattle.lvl_witness.proofs.Before.{before_more}
use Rattle.std.proofs.lemmas.List.Elements.{All-cons, All-nil, All-head, All-contains}
use Rattle.lvl_path.specs.Figure.{figure_rings}
use Rattle.lvl_grid.specs.declared.point.Square.{Square}
use Rattle.lvl_names.specs.declared.layer.Layer.{Layer}
use Rattle.lvl_cells.specs.Cells.{PlainCell, Rings, kept}
use Rattle.lvl_cells.specs.Checks.{Settled}
use Rattle.lvl_flat.specs.Flattened.{TopCovers}
use Rattle.lvl_region.specs.declared.region.Side.TheVariants.{First, Second}
use Rattle.lvl_view.specs.Moved.{IsMoved}
use Rattle.lvl_view.specs.Views.{target_of}
use Rattle.lvl_view.specs.declared.map.LayerPair.{LayerPair}
use Rattle.lvl_why.specs.Whys.{IsWhy}
use Rattle.lvl_view.specs.Views.{PlainView}
use Rattle.lvl_why.specs.declared.why.Why.{Why}
use Rattle.lvl.specs.declared.layout.Head.{Head}
use Rattle.lvl.specs.declared.verdict.Verdict.{Verdict}
use Rattle.lvl.specs.declared.verdict.Verdict.TheVariants.{Differ}
use Rattle.lvl.specs.Kept.{Kept}
use Rattle.lvl.specs.Layouts.{File, IsLayoutOf}
use Rattle.lvl.specs.Reasons.{IsKeptReason, IsReasonIn, IsReasonOf}

-- the library of a file, as it is kept
abbrev pub kept_with : File → List (PlainCell Rings) → Kept
kept_with file cells = record { limits = file.profile.limits; cells = cells; top = file.top }

pub reason_in : (view : PlainView) (a b : File) (ours theirs : List (PlainCell Rings)) (g h : Head)
    → IsLayoutOf a.profile a.bytes ours g → IsLayoutOf b.profile b.bytes theirs h → (v : Verdict) (why : Option Why)
    → IsKeptReason view (kept_with a ours) (kept_with b theirs) v why → IsReasonIn view a b v why
reason_in view a b ours theirs g h p q v why k = record {
  ours = p.cells;
  our_head = g;
  theirs = q.cells;
  their_head = h;
  first = p.spelled;
  second = q.spelled;
  reason =
      subst (λ cells. IsKeptReason view (kept_with a cells) (kept_with b (kept figure_rings q.cells)) v why) p.kept_as
      (subst (λ cells. IsKeptReason view (kept_with a ours) (kept_with b cells) v why) q.kept_as k);
}

-- what is found for the square on the Layer that the first covers is its reason
pub first_reason : {E : Type 0} (pairs : List LayerPair) (a b : Settled) (layer : Layer) (square : Square)
    (r : Result (Option Why) E) → TopCovers a layer square
    → IfOk r (λ found. IfSome found (IsWhy a (layer ∷ []) square))
    → IfOk r (λ found. IfNone found (All (λ l. ¬ TopCovers a l square) (layer ∷ [])))
    → IfOk r (IsReasonOf pairs a b (Differ layer square First))
first_reason pairs a b layer square (Err e) covers some none = tt
first_reason pairs a b layer square (Ok (Some w)) covers some none = record {
  found = w;
  is = refl;
  layers = layer ∷ [];
  counted = All-cons (λ l. l ≡ layer) layer [] refl (All-nil (λ l. l ≡ layer));
  reason = some;
}
first_reason pairs a b layer square (Ok None) covers some none =
    absurd (All-head (λ l. ¬ TopCovers a l square) layer [] none covers)

-- what is found for the square on the sources of the Layer that the second covers is its reason
pub second_reason : {E : Type 0} (pairs : List LayerPair) (a b : Settled) (layer : Layer) (square : Square)
    (layers : List Layer) (r : Result (Option Why) E) → IsMoved pairs (TopCovers b) layer square
    → All (λ l. target_of pairs l ≡ layer) layers
    → ((l : Layer) (s : Square) → TopCovers b l s → target_of pairs l ≡ layer → Contains layers l)
    → IfOk r (λ found. IfSome found (IsWhy b layers square))
    → IfOk r (λ found. IfNone found (All (λ l. ¬ TopCovers b l square) layers))
    → IfOk r (IsReasonOf pairs a b (Differ layer square Second))
second_reason pairs a b layer square layers (Err e) covers counted all some none = tt
second_reason pairs a b layer square layers (Ok (Some w)) covers counted all some none = record {
  found = w;
  is = refl;
  layers = layers;
  counted = counted;
  reason = some;
}
second_reason pairs a b layer square layers (Ok None) covers counted all some none =
    absurd (All-contains (λ l. ¬ TopCovers b l square) layers covers.source none
    (all covers.source square covers.covers covers.is_target) covers.covers)

-- the Layers before one that count, and that one if it counts
abbrev pub AreCounted : List LayerPair → Layer → List Layer → ℕ → List Layer → Type 0
AreCounted pairs layer listed i layers =
    (k : ℕ) (s : Layer) → k < i → slice_get listed k ≡ Some s → target_of pairs s ≡ layer → Contains layers s

pub counted_more : (pairs : List LayerPair) (layer : Layer) (listed : List Layer) (i : ℕ) (layers more : List Layer)
    → AreCounted pairs layer listed i layers → ((s : Layer) → Contains layers s → Contains more s)
    → ((s : Layer) → slice_get listed i ≡ Some s → target_of pairs s ≡ layer → Contains more s)
    → AreCounted pairs layer listed (i + 1) more
counted_more pairs layer listed i layers more before keep last =
    before_more (λ s. target_of pairs s ≡ layer → Contains more s) listed i
    (λ k s low at counts. keep s (before k s low at counts)) last
