use Rattle.std.proofs.Common.{ℕ, List, arith, refl, ℤ, w64, to_z, of_z}
use Rattle.lvl_grid.specs.declared.point.Window.{Window}
use Rattle.lvl_view.specs.Texts.{IsCoordinate, IsHeaded, IsSpanText, IsAxisText, Span}
use Rattle.lvl_view.proofs.Cutting.{Lacks, none_uncut, none_first, none_second, made, coordinate_lacks, joined_lacks}
use Rattle.lvl_view.proofs.Cutting.{headed_lacks, carried}
use Rattle.lvl_view.proofs.window.read_window.Goals as goal

abbrev across : Window → Span
across w = (w.x0, w.x1)

abbrev up : Window → Span
up w = (w.y0, w.y1)

abbrev window : Span → Span → Window
window x y = record { x0 = x.0; y0 = y.0; x1 = x.1; y1 = y.1 }

coordinate : (t : List ℕ) (z : ℤ) → IsCoordinate t z → Lacks 44 t
coordinate = coordinate_lacks 44 (λ a b. omega arith) (λ e. omega arith)

span : (t : List ℕ) (s : Span) → IsSpanText t s → Lacks 44 t
span t s =
    joined_lacks 46 IsCoordinate (IsHeaded 46 IsCoordinate) 44 coordinate
    (headed_lacks 46 IsCoordinate 44 coordinate (λ e. omega arith)) (λ e. omega arith) t s.0 s.1

lacks : (t : List ℕ) (s : Span) → IsAxisText 120 t s → Lacks 44 t
lacks =
    headed_lacks 120 (IsHeaded 61 IsSpanText) 44 (headed_lacks 61 IsSpanText 44 span (λ e. omega arith))
    (λ e. omega arith)

pub returns-in_err-x : goal.returns-in_err-x
returns-in_err-x c =
    none_uncut 44 (IsAxisText 120) (IsAxisText 121) across up window (λ v. refl) (λ a b. refl) (λ a b. refl) lacks
    (omega arith) c.args.text.now c.from_residual.result c.from_residual.ensures c.in_err-x.ensures.cases

pub returns-in_err-x0 : goal.returns-in_err-x0
returns-in_err-x0 c =
    none_first 44 (IsAxisText 120) (IsAxisText 121) across up window (λ v. refl) (λ a b. refl) (λ a b. refl) lacks
    (omega arith) c.args.text.now c.in_ok-x.x c.in_ok-x.y c.in_ok-x.ensures.cases
    c.from_residual-in_err-x0.result c.from_residual-in_err-x0.ensures c.in_err-x0.ensures

pub returns-in_err-y0 : goal.returns-in_err-y0
returns-in_err-y0 c =
    none_second 44 (IsAxisText 120) (IsAxisText 121) across up window (λ v. refl) (λ a b. refl) (λ a b. refl) lacks
    (omega arith) c.args.text.now c.in_ok-x.x c.in_ok-x.y c.in_ok-x.ensures.cases
    c.from_residual-in_err-y0.result c.from_residual-in_err-y0.ensures c.in_err-y0.ensures

pub returns : goal.returns
returns c =
    let x0 : ℤ = c.in_ok-x0.x0 in
    let x1 : ℤ = c.in_ok-x0.x1 in
    let y0 : ℤ = c.in_ok-y0.y0 in
    let y1 : ℤ = c.in_ok-y0.y1 in
    let x : IsSpanText ((c.in_ok-x0.ensures (x0, x1)).1 refl).rest_is.rest (x0, x1) =
    ((c.in_ok-x0.ensures (x0, x1)).1 refl).rest_is.rest_is in
    let y : IsSpanText ((c.in_ok-y0.ensures (y0, y1)).1 refl).rest_is.rest (y0, y1) =
    ((c.in_ok-y0.ensures (y0, y1)).1 refl).rest_is.rest_is in
    made 44 (IsAxisText 120) (IsAxisText 121) across up window (λ v. refl) (λ a b. refl) (λ a b. refl) lacks
    (omega arith) c.args.text.now c.in_ok-x.x c.in_ok-x.y c.in_ok-x.ensures.cases
    (to_z w64 (of_z w64 x0), to_z w64 (of_z w64 x1)) (to_z w64 (of_z w64 y0), to_z w64 (of_z w64 y1))
    (carried (IsAxisText 120 c.in_ok-x.x.now) x0 x1 x.before_is.fits x.after_is.rest_is.fits c.in_ok-x0.ensures)
    (carried (IsAxisText 121 c.in_ok-x.y.now) y0 y1 y.before_is.fits y.after_is.rest_is.fits c.in_ok-y0.ensures)
