use Rattle.std.proofs.Common.{ℕ, List, arith, refl}
use Rattle.lvl_names.specs.declared.layer.Layer.{Layer}
use Rattle.lvl_view.specs.declared.map.LayerPair.{LayerPair}
use Rattle.lvl_view.specs.Texts.{IsNumber, IsLayerText}
use Rattle.lvl_view.proofs.Cutting.{Lacks, none_uncut, none_first, none_second, made, number_lacks, joined_lacks}
use Rattle.lvl_view.proofs.map.pair_of.Goals as goal

abbrev source : LayerPair → Layer
source p = p.source

abbrev target : LayerPair → Layer
target p = p.target

abbrev pair : Layer → Layer → LayerPair
pair s t = record { source = s; target = t }

lacks : (t : List ℕ) (l : Layer) → IsLayerText t l → Lacks 61 t
lacks t l =
    joined_lacks 47 IsNumber IsNumber 61 (number_lacks 61 (λ a b. omega arith)) (number_lacks 61 (λ a b. omega arith))
    (λ e. omega arith) t l.layer l.datatype

pub returns-in_err-source : goal.returns-in_err-source
returns-in_err-source c =
    none_uncut 61 IsLayerText IsLayerText source target pair (λ v. refl) (λ a b. refl) (λ a b. refl) lacks (omega arith)
    c.args.text.now c.from_residual.result c.from_residual.ensures c.in_err-source.ensures.cases

pub returns-in_err-layer_of : goal.returns-in_err-layer_of
returns-in_err-layer_of c =
    none_first 61 IsLayerText IsLayerText source target pair (λ v. refl) (λ a b. refl) (λ a b. refl) lacks (omega arith)
    c.args.text.now c.in_ok-source.source c.in_ok-source.target c.in_ok-source.ensures.cases
    c.from_residual-in_err-layer_of.result c.from_residual-in_err-layer_of.ensures c.in_err-layer_of.ensures

pub returns-in_err-layer_of-2 : goal.returns-in_err-layer_of-2
returns-in_err-layer_of-2 c =
    none_second 61 IsLayerText IsLayerText source target pair (λ v. refl) (λ a b. refl) (λ a b. refl) lacks
    (omega arith) c.args.text.now c.in_ok-source.source c.in_ok-source.target c.in_ok-source.ensures.cases
    c.from_residual-in_err-layer_of-2.result c.from_residual-in_err-layer_of-2.ensures c.in_err-layer_of-2.ensures

pub returns : goal.returns
returns c =
    made 61 IsLayerText IsLayerText source target pair (λ v. refl) (λ a b. refl) (λ a b. refl) lacks (omega arith)
    c.args.text.now c.in_ok-source.source c.in_ok-source.target c.in_ok-source.ensures.cases
    c.in_ok-layer_of.field-0 c.in_ok-layer_of-2.field-0 c.in_ok-layer_of.ensures c.in_ok-layer_of-2.ensures
