-- What is known for cells, while more is found.
use Rattle.std.proofs.Common.{◌≡◌, ◌≢◌, ℕ, List, Option, Some, None, map, set, slice_get, inl, inr, sym, ap, ◌∙◌}
use Rattle.std.proofs.Common.{subst, arith, Bool, true, false, refl, IsTrue, ◌↔◌}
use Rattle.lvl_grid.specs.declared.point.Square.{Square}
use Rattle.lvl_names.specs.declared.layer.Layer.{Layer}
use Rattle.lvl_flat.specs.Flattened.{CoversAt}
use Rattle.std.specs.List.{range_with_len}
use Rattle.std.specs.Prelude.{IfSome, option_map}
use Rattle.std.proofs.lemmas.Bool.{cases_lt}
use Rattle.std.proofs.lemmas.Option.{slice_get-map}
use Rattle.lvl_cells.specs.Cells.{PlainCell, Rings}
use Rattle.lvl_cells.proofs.Walks.{set_elsewhere, set_there}
use Rattle.lvl_view.specs.declared.map.LayerPair.{LayerPair}
use Rattle.lvl_changed.specs.declared.found.Found.{Found}
use Rattle.lvl_changed.specs.inside.Finding.{AreFound, IsFound, PartnerCovers}

-- at first nothing is known
abbrev pub unknown : ℕ → Option Found
unknown k = None

nothing : (o : Option ℕ) (f : Found) → option_map unknown o ≡ Some (Some f) → ⊥
nothing None f h = cc
nothing (Some k) f h = cc

pub none_found : (pairs : List LayerPair) (ours theirs : List (PlainCell Rings)) (n : ℕ)
    → AreFound pairs ours theirs (map unknown (range_with_len 0 n))
none_found pairs ours theirs n i f h =
    absurd (nothing (slice_get (range_with_len 0 n) i) f (sym (slice_get-map unknown (range_with_len 0 n) i) ∙ h))

-- one more cell
pub found_more : (pairs : List LayerPair) (ours theirs : List (PlainCell Rings)) (known : List (Option Found)) (k : ℕ)
    (f : Found) (old : Option Found) → AreFound pairs ours theirs known → slice_get known k ≡ Some old
    → IsFound pairs ours theirs k f → AreFound pairs ours theirs (set known k (Some f))
found_more pairs ours theirs known k f old before there here i g h =
    let other : i ≢ k → IsFound pairs ours theirs i g =
    λ apart. before i g (sym (set_elsewhere known k i (Some f) apart) ∙ h) in
    elim (cases_lt i k) [
      | inl lt ↦ other (omega arith)
      | inr ge ↦
          elim (cases_lt k i) [
            | inl gt ↦ other (omega arith)
            | inr le ↦
                let one : i ≡ k = omega arith in
                let both : Some (Some f) ≡ Some (Some g) =
                sym (set_there known k old (Some f) there)
                ∙ (ap (slice_get (set known k (Some f))) (sym one) ∙ h) in
                let same : f ≡ g = cc in
                subst (λ j. IsFound pairs ours theirs j g) (sym one) (subst (IsFound pairs ours theirs k) same here)
          ]
    ]

pub some_weaker : {X : Type 0} (o : Option X) (P Q : X → Type 0) → ((x : X) → P x → Q x) → IfSome o P → IfSome o Q
some_weaker None P Q f h = tt
some_weaker (Some x) P Q f h = f x h

-- what was found for a cell, after it was compared with its partner as a whole
pub settled_found : (pairs : List LayerPair) (ours theirs : List (PlainCell Rings)) (k : ℕ) (f g : Found) (same : Bool)
    → IsFound pairs ours theirs k f
    → (IsTrue same → IsFound pairs ours theirs k f → (l : Layer) (s : Square)
    → CoversAt ours k l s ↔ PartnerCovers pairs theirs f.partner l s)
    → g.partner ≡ f.partner → (same ≡ false → g ≡ f) → IsFound pairs ours theirs k g
settled_found pairs ours theirs k f g true found equal partner kept = λ l s out.
    subst (λ o. CoversAt ours k l s ↔ PartnerCovers pairs theirs o l s) (sym partner) (equal refl found l s)
settled_found pairs ours theirs k f g false found equal partner kept =
    subst (λ (h : Found). IsFound pairs ours theirs k h) (sym (kept refl)) found
