use Rattle.std.proofs.Common.{ℕ, arith, refl}
use Rattle.lvl_names.specs.declared.layer.Layer.{Layer}
use Rattle.lvl_view.specs.Texts.{IsNumber}
use Rattle.lvl_view.proofs.Cutting.{none_uncut, none_first, none_second, made, number_lacks}
use Rattle.lvl_view.proofs.map.layer_of.Goals as goal

abbrev number : Layer → ℕ
number l = l.layer

abbrev datatype : Layer → ℕ
datatype l = l.datatype

abbrev layer : ℕ → ℕ → Layer
layer n d = record { layer = n; datatype = d }

pub returns-in_err-layer : goal.returns-in_err-layer
returns-in_err-layer c =
    none_uncut 47 IsNumber IsNumber number datatype layer (λ v. refl) (λ a b. refl) (λ a b. refl)
    (number_lacks 47 (λ a b. omega arith)) (omega arith) c.args.text.now c.from_residual.result
    c.from_residual.ensures c.in_err-layer.ensures.cases

pub returns-in_err-number_of : goal.returns-in_err-number_of
returns-in_err-number_of c =
    none_first 47 IsNumber IsNumber number datatype layer (λ v. refl) (λ a b. refl) (λ a b. refl)
    (number_lacks 47 (λ a b. omega arith)) (omega arith) c.args.text.now c.in_ok-layer.layer c.in_ok-layer.datatype
    c.in_ok-layer.ensures.cases
    c.from_residual-in_err-number_of.result c.from_residual-in_err-number_of.ensures c.in_err-number_of.ensures

pub returns-in_err-number_of-2 : goal.returns-in_err-number_of-2
returns-in_err-number_of-2 c =
    none_second 47 IsNumber IsNumber number datatype layer (λ v. refl) (λ a b. refl) (λ a b. refl)
    (number_lacks 47 (λ a b. omega arith)) (omega arith) c.args.text.now c.in_ok-layer.layer c.in_ok-layer.datatype
    c.in_ok-layer.ensures.cases
    c.from_residual-in_err-number_of-2.result c.from_residual-in_err-number_of-2.ensures c.in_err-number_of-2.ensures

pub returns : goal.returns
returns c =
    made 47 IsNumber IsNumber number datatype layer (λ v. refl) (λ a b. refl) (λ a b. refl)
    (number_lacks 47 (λ a b. omega arith)) (omega arith) c.args.text.now c.in_ok-layer.layer c.in_ok-layer.datatype
    c.in_ok-layer.ensures.cases
    c.in_ok-number_of.field-0 c.in_ok-number_of-2.field-0 c.in_ok-number_of.ensures c.in_ok-number_of-2.ensures
