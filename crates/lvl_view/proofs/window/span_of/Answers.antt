use Rattle.std.proofs.Common.{ℕ, List, arith, refl, ℤ, w64, to_z, of_z, FitsSigned}
use Rattle.std.proofs.lemmas.Str.Pattern.{strip_prefix_char}
use Rattle.std.specs.Prelude.{None, Some}
use Rattle.lvl_view.specs.Texts.{IsCoordinate, IsHeaded, Span}
use Rattle.lvl_view.proofs.Cutting.{Lacks, none_uncut, none_first, none_second, made, coordinate_lacks, unheaded}
use Rattle.lvl_view.proofs.Cutting.{headed, carried_one}
use Rattle.lvl_view.proofs.window.span_of.Goals as goal

abbrev low : Span → ℤ
low s = s.0

abbrev high : Span → ℤ
high s = s.1

abbrev span : ℤ → ℤ → Span
span a b = (a, b)

lacks : (t : List ℕ) (z : ℤ) → IsCoordinate t z → Lacks 46 t
lacks = coordinate_lacks 46 (λ a b. omega arith) (λ e. omega arith)

pub returns-in_err-low : goal.returns-in_err-low
returns-in_err-low c =
    none_uncut 46 IsCoordinate (IsHeaded 46 IsCoordinate) low high span (λ v. refl) (λ a b. refl) (λ a b. refl) lacks
    (omega arith) c.args.text.now c.from_residual.result c.from_residual.ensures c.in_err-low.ensures.cases

pub returns-in_err-high : goal.returns-in_err-high
returns-in_err-high c =
    none_second 46 IsCoordinate (IsHeaded 46 IsCoordinate) low high span (λ v. refl) (λ a b. refl) (λ a b. refl) lacks
    (omega arith) c.args.text.now c.in_ok-low.low c.in_ok-low.rest c.in_ok-low.ensures.cases
    c.from_residual-in_err-high.result c.from_residual-in_err-high.ensures
    (unheaded 46 IsCoordinate c.in_ok-low.rest.now None refl
    (strip_prefix_char 46 c.in_ok-low.rest.now None c.in_err-high.ensures.cases (omega arith)))

pub returns-in_err-coordinate_of : goal.returns-in_err-coordinate_of
returns-in_err-coordinate_of c =
    none_first 46 IsCoordinate (IsHeaded 46 IsCoordinate) low high span (λ v. refl) (λ a b. refl) (λ a b. refl) lacks
    (omega arith) c.args.text.now c.in_ok-low.low c.in_ok-low.rest c.in_ok-low.ensures.cases
    c.from_residual-in_err-coordinate_of.result c.from_residual-in_err-coordinate_of.ensures
    c.in_err-coordinate_of.ensures

pub returns-in_err-coordinate_of-2 : goal.returns-in_err-coordinate_of-2
returns-in_err-coordinate_of-2 c =
    none_second 46 IsCoordinate (IsHeaded 46 IsCoordinate) low high span (λ v. refl) (λ a b. refl) (λ a b. refl) lacks
    (omega arith) c.args.text.now c.in_ok-low.low c.in_ok-low.rest c.in_ok-low.ensures.cases
    c.from_residual-in_err-coordinate_of-2.result c.from_residual-in_err-coordinate_of-2.ensures
    (headed 46 IsCoordinate c.in_ok-low.rest.now c.in_ok-high.high.now None
    (strip_prefix_char 46 c.in_ok-low.rest.now (Some c.in_ok-high.high) c.in_ok-high.ensures.cases (omega arith))
    c.in_err-coordinate_of-2.ensures)

pub returns : goal.returns
returns c =
    let a : ℤ = c.in_ok-coordinate_of.field-0 in
    let b : ℤ = c.in_ok-coordinate_of-2.field-0 in
    let a_fits : FitsSigned w64 a = ((c.in_ok-coordinate_of.ensures a).1 refl).fits in
    let b_fits : FitsSigned w64 b = ((c.in_ok-coordinate_of-2.ensures b).1 refl).fits in
    made 46 IsCoordinate (IsHeaded 46 IsCoordinate) low high span (λ v. refl) (λ a b. refl) (λ a b. refl) lacks
    (omega arith) c.args.text.now c.in_ok-low.low c.in_ok-low.rest c.in_ok-low.ensures.cases
    (to_z w64 (of_z w64 a)) (to_z w64 (of_z w64 b))
    (carried_one (IsCoordinate c.in_ok-low.low.now) a a_fits c.in_ok-coordinate_of.ensures)
    (headed 46 IsCoordinate c.in_ok-low.rest.now c.in_ok-high.high.now (Some (to_z w64 (of_z w64 b)))
    (strip_prefix_char 46 c.in_ok-low.rest.now (Some c.in_ok-high.high) c.in_ok-high.ensures.cases (omega arith))
    (carried_one (IsCoordinate c.in_ok-high.high.now) b b_fits c.in_ok-coordinate_of-2.ensures))
