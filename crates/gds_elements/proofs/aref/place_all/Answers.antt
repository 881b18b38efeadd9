use Rattle.std.proofs.Common.{◌≡◌, ◌∙◌, List, All, IfSome, sym, ap, subst}
use Rattle.std.specs.Prelude.{Option}
use Rattle.lvl_grid.specs.declared.point.Point.{Point}
use Rattle.lvl_grid.specs.Turn.{FitsPoint, shifted}
use Rattle.lvl_names.specs.Shifts.{lattice, IsLattice}
use Rattle.gds_elements.specs.Meaning.{step}
use Rattle.gds_elements.proofs.Arrays.{array_lattice, array_places}
use Rattle.gds_elements.proofs.aref.place_all.Goals as goal

pub unwrap-shifts-requires : goal.unwrap-shifts-requires
unwrap-shifts-requires c =
    let o = c.point_at-origin.result in
    let p = c.point_at.result in
    let q = c.point_at-2.result in
    let m = c.args.counts.columns in
    let n = c.args.counts.rows in
    let a = c.in_ok-across.ensures.value in
    let b = c.in_ok-up.ensures.value in
    let l = array_lattice o p q m n c.point_at-origin.ensures.narrow c.point_at.ensures.narrow
    c.point_at-2.ensures.narrow a.1 b.1 c.args.counts.some_columns c.args.counts.some_rows c.args.counts.few_columns c.args.counts.few_rows in
    c.lattice.ensures.some.1 (subst (λ (i : Point). IsLattice i m c.in_ok-up.up n) (sym a.0)
    (subst (λ (i : Point). IsLattice (step o p m) m i n) (sym b.0) l))

pub unwrap-requires : goal.unwrap-requires
unwrap-requires c =
    let o = c.point_at-origin.result in
    let p = c.point_at.result in
    let q = c.point_at-2.result in
    let m = c.args.counts.columns in
    let n = c.args.counts.rows in
    let a = c.in_ok-across.ensures.value in
    let b = c.in_ok-up.ensures.value in
    let all = array_places o p q m n c.point_at-origin.ensures.narrow c.point_at.ensures.narrow
    c.point_at-2.ensures.narrow a.1 b.1 c.args.counts.some_columns c.args.counts.some_rows c.args.counts.few_columns c.args.counts.few_rows in
    let same : c.unwrap-shifts.result ≡ lattice c.in_ok-across.across m c.in_ok-up.up n =
    subst (λ (i : Option (List Point)). IfSome i (λ s. s ≡ lattice c.in_ok-across.across m c.in_ok-up.up n))
    c.unwrap-shifts.ensures c.lattice.ensures.same in
    let is : c.unwrap-shifts.result ≡ lattice (step o p m) m (step o q n) n =
    same ∙ ap (λ (i : Point). lattice i m c.in_ok-up.up n) a.0 ∙ ap (λ (i : Point). lattice (step o p m) m i n)
    b.0 in
    c.new-3.ensures.some.1 (subst (λ (s : List Point). All (λ e. FitsPoint (shifted o e)) s) (sym is) all)
