use Rattle.std.proofs.Common.{◌≡◌, ℤ, ap, ◌∙◌, rules}
use Rattle.std.specs.Int.{w64, int_min, int_max}
use mir.Val.{to_z, of_z}
use Rattle.lvl_grid.specs.declared.point.Window.{Window}
use Rattle.lvl_grid.proofs.point.Window.joined.Goals as goal

-- the coordinates, as stored in 64 bits
abbrev kept : ℤ → ℤ
kept z = to_z w64 (of_z w64 z)

pub returns : goal.returns
returns c =
    let a = c.args.self in
    let b = c.args.other in
    let of : ℤ → ℤ → ℤ → ℤ → Window = λ l d r u. record { x0 = l; y0 = d; x1 = r; y1 = u } in
    let left : kept c.min.result ≡ int_min a.x0 b.x0 = search rules in
    let low : kept c.min-2.result ≡ int_min a.y0 b.y0 = search rules in
    let right : kept c.max.result ≡ int_max a.x1 b.x1 = search rules in
    let high : kept c.max-2.result ≡ int_max a.y1 b.y1 = search rules in
    ap (λ l. of l (kept c.min-2.result) (kept c.max.result) (kept c.max-2.result)) left
    ∙ (ap (λ d. of (int_min a.x0 b.x0) d (kept c.max.result) (kept c.max-2.result)) low
    ∙ (ap (λ r. of (int_min a.x0 b.x0) (int_min a.y0 b.y0) r (kept c.max-2.result)) right
    ∙ ap (of (int_min a.x0 b.x0) (int_min a.y0 b.y0) (int_max a.x1 b.x1)) high))
