use Rattle.std.proofs.Common.{◌≡◌, ℕ, List, sym, ap, ◌∙◌}
use Rattle.lvl_grid.specs.declared.point.Point.{Point}
use Rattle.lvl_grid.specs.declared.map.Map.{Map}
use Rattle.lvl_changed.specs.declared.arrays.Array.{Array}
use Rattle.lvl_changed.proofs.Same.{maps}
use Rattle.lvl_changed.proofs.arrays.Array.is_same.Goals as goal

pub returns-then-eq : goal.returns-then-eq
returns-then-eq c = λ h.
    let a : Array = c.args.self.now in
    let b : Array = c.args.other.now in
    let of : ℕ → Map → List Point → Array = λ k m es. record { cell = k; by = m; shifts = es } in
    let map : a.by ≡ b.by = maps a.by b.by (sym c.eq.ensures ∙ c.if-eq.true) in
    ap (λ k. of k a.by a.shifts) c.if-self-other.false
    ∙ (ap (λ m. of b.cell m a.shifts) map ∙ ap (of b.cell b.by) (c.are_same.ensures h))
