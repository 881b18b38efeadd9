use Rattle.std.proofs.Common.{◌≡◌, ℕ, List, sym, subst}
use Rattle.lvl_grid.specs.declared.point.Point.{Point}
use Rattle.lvl_grid.specs.declared.map.Map.{Map}
use Rattle.lvl_names.specs.Shifts.{lattice}
use Rattle.lvl_changed.specs.declared.lattices.Lattice.{Lattice}
use Rattle.lvl_changed.specs.inside.Shifts.{AreSums, turned_by}
use Rattle.lvl_changed.proofs.Sums.{sums_inner, sums_lines, sums_swapped}
use Rattle.lvl_changed.proofs.Lists.{if_same}
use Rattle.lvl_changed.proofs.lattices.lattice_of_sums.Goals as goal

abbrev Sums : Map → List Point → List Point → Point → ℕ → Point → ℕ → Type 0
Sums m outer inner a p b q = AreSums m outer inner (lattice a p b q)

pub returns-then-is_single : goal.returns-then-is_single
returns-then-is_single c =
    let l : Lattice = c.in_ok-line.line in
    let is = c.in_ok-line.ensures in
    let one = c.is_single.ensures.0 c.if-is_single.true in
    let turned =
    sums_inner c.args.by.now c.args.outer.now c.args.inner.now l.across l.columns l.up l.rows is.columns one is.is in
    let sums : Sums c.args.by.now c.args.outer.now c.args.inner.now c.in_ok-across.across l.columns c.in_ok-up.up
    l.rows =
    subst (λ (p : Point). Sums c.args.by.now c.args.outer.now c.args.inner.now p l.columns c.in_ok-up.up l.rows)
    (sym c.in_ok-across.ensures)
    (subst
    (λ (q : Point). Sums c.args.by.now c.args.outer.now c.args.inner.now (turned_by c.args.by.now l.across) l.columns q
    l.rows) (sym c.in_ok-up.ensures) turned) in
    if_same (AreSums c.args.by.now c.args.outer.now c.args.inner.now) c.joined.result
    (lattice c.in_ok-across.across l.columns c.in_ok-up.up l.rows) sums c.joined.ensures

pub returns-then-comes_first : goal.returns-then-comes_first
returns-then-comes_first c =
    let l : Lattice = c.in_ok-line.line in
    let is = c.in_ok-line.ensures in
    let k : Lattice = c.in_ok-steps.steps in
    let first = c.in_ok-steps.ensures in
    let one : c.args.outer.now ≡ lattice k.across k.columns k.up 1 =
    subst (λ n. c.args.outer.now ≡ lattice k.across k.columns k.up n) c.if-steps-ne1.false first.is in
    let other : c.args.inner.now ≡ lattice l.across l.columns l.up 1 =
    subst (λ n. c.args.inner.now ≡ lattice l.across l.columns l.up n) c.if-line-ne1.false is.is in
    let turned =
    sums_lines c.args.by.now c.args.outer.now c.args.inner.now k.across k.columns k.up l.across l.columns l.up
    first.columns is.columns one other in
    let sums : Sums c.args.by.now c.args.outer.now c.args.inner.now k.across k.columns c.in_ok-across.across l.columns =
    subst (λ (q : Point). Sums c.args.by.now c.args.outer.now c.args.inner.now k.across k.columns q l.columns)
    (sym c.in_ok-across.ensures) turned in
    if_same (AreSums c.args.by.now c.args.outer.now c.args.inner.now) c.joined-then-comes_first.result
    (lattice c.in_ok-across.across l.columns k.across k.columns)
    (sums_swapped c.args.by.now c.args.outer.now c.args.inner.now k.across k.columns c.in_ok-across.across l.columns
    first.columns is.columns sums) c.joined-then-comes_first.ensures

pub returns : goal.returns
returns c =
    let l : Lattice = c.in_ok-line.line in
    let is = c.in_ok-line.ensures in
    let k : Lattice = c.in_ok-steps.steps in
    let first = c.in_ok-steps.ensures in
    let one : c.args.outer.now ≡ lattice k.across k.columns k.up 1 =
    subst (λ n. c.args.outer.now ≡ lattice k.across k.columns k.up n) c.if-steps-ne1.false first.is in
    let other : c.args.inner.now ≡ lattice l.across l.columns l.up 1 =
    subst (λ n. c.args.inner.now ≡ lattice l.across l.columns l.up n) c.if-line-ne1.false is.is in
    let turned =
    sums_lines c.args.by.now c.args.outer.now c.args.inner.now k.across k.columns k.up l.across l.columns l.up
    first.columns is.columns one other in
    let sums : Sums c.args.by.now c.args.outer.now c.args.inner.now k.across k.columns c.in_ok-across.across l.columns =
    subst (λ (q : Point). Sums c.args.by.now c.args.outer.now c.args.inner.now k.across k.columns q l.columns)
    (sym c.in_ok-across.ensures) turned in
    if_same (AreSums c.args.by.now c.args.outer.now c.args.inner.now) c.joined-2.result
    (lattice k.across k.columns c.in_ok-across.across l.columns) sums c.joined-2.ensures
