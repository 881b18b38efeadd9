use Rattle.std.proofs.Common.{◌≡◌, ◌-◌, All, pos, sym, ap, subst, ◌∙◌, arith}
use Rattle.lvl_grid.specs.declared.point.Point.{Point}
use Rattle.lvl_names.specs.Shifts.{steps, lattice, IsBetween}
use Rattle.lvl_names.proofs.Lattices.{stays_below, lattice_between, low_of, high_of}
use Rattle.lvl_names.proofs.offsets.lattice_reach.Goals as goal

pub point_at-up-requires-clause-xs : goal.point_at-up-requires-clause-xs
point_at-up-requires-clause-xs c =
    stays_below c.args.a.x 0 (c.args.m - 1) c.args.b.x (c.args.n - 1) (c.args.n - 1) (omega arith) (omega arith)
    c.requires.xs

pub point_at-up-requires-clause-ys : goal.point_at-up-requires-clause-ys
point_at-up-requires-clause-ys c =
    stays_below c.args.a.y 0 (c.args.m - 1) c.args.b.y (c.args.n - 1) (c.args.n - 1) (omega arith) (omega arith)
    c.requires.ys

pub returns : goal.returns
returns c =
    let a : Point = c.args.a in
    let b : Point = c.args.b in
    let zero : Point = record { x = pos 0; y = pos 0 } in
    let across : Point = steps a (c.args.m - 1) b 0 in
    let up : Point = steps a 0 b (c.args.n - 1) in
    let far : Point = steps a (c.args.m - 1) b (c.args.n - 1) in
    let low : c.lesser-low.result ≡ low_of (low_of zero across) (low_of up far) =
    c.lesser-low.ensures
    ∙ (ap (λ p. low_of p c.lesser-2.result) (c.lesser.ensures ∙ ap (low_of zero) c.point_at-across.ensures)
    ∙ ap (low_of (low_of zero across)) (c.lesser-2.ensures
    ∙ (ap (λ p. low_of p c.point_at-far.result) c.point_at-up.ensures ∙ ap (low_of up) c.point_at-far.ensures))) in
    let high : c.greater-high.result ≡ high_of (high_of zero across) (high_of up far) =
    c.greater-high.ensures
    ∙ (ap (λ p. high_of p c.greater-2.result) (c.greater.ensures ∙ ap (high_of zero) c.point_at-across.ensures)
    ∙ ap (high_of (high_of zero across)) (c.greater-2.ensures
    ∙ (ap (λ p. high_of p c.point_at-far.result) c.point_at-up.ensures ∙ ap (high_of up) c.point_at-far.ensures))) in
    subst (λ (l : Point). All (IsBetween l c.greater-high.result) (lattice a c.args.m b c.args.n)) (sym low)
    (subst (λ (h : Point). All (IsBetween (low_of (low_of zero across) (low_of up far)) h)
    (lattice a c.args.m b c.args.n))
    (sym high) (lattice_between a c.args.m b c.args.n c.requires))
