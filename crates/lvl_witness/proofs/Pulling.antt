-- The square whose image under a map is a given one.
use Rattle.std.proofs.Common.{◌≡◌, ◌↔◌, Bool, true, false, ap, arith}
use Rattle.std.proofs.lemmas.Int.{ints, clamps}
use Rattle.lvl_grid.specs.declared.point.Point.{Point}
use Rattle.lvl_grid.specs.declared.point.Square.{Square}
use Rattle.lvl_grid.specs.declared.map.Map.{Map}
use Rattle.lvl_grid.specs.declared.map.Turn.{Turn}
use Rattle.lvl_grid.specs.declared.map.Turn.TheVariants.{R0, R90, R180, R270}
use Rattle.lvl_grid.specs.Turn.{image_square}
use Rattle.lvl_grid.proofs.Squares.{same_square}
use Rattle.lvl_cells.specs.Coverage.{moved_back}
use Rattle.lvl_witness.specs.inside.Wide.{turned_back, reflected_back}

same_x : {s t : Square} → s ≡ t → s.x ≡ t.x
same_x e = ap (λ (u : Square). u.x) e

same_y : {s t : Square} → s ≡ t → s.y ≡ t.y
same_y e = ap (λ (u : Square). u.y) e

-- the square that the map places at q
abbrev pub square_before : Map → Square → Square
square_before m q = reflected_back m.flip (turned_back m.turn (moved_back m.at q))

abbrev Pulls : Bool → Turn → Point → Square → Square → Type 0
Pulls f t at s q =
    let m : Map = record { flip = f; turn = t; at = at } in (image_square m s ≡ q) ↔ (s ≡ square_before m q)

pulls : (f : Bool) (t : Turn) (at : Point) (s q : Square) → Pulls f t at s q
pulls false R0 at s q = (
  λ e. same_square _ _ (omega (arith, ints, clamps, same_x e)) (omega (arith, ints, clamps, same_y e)),
  λ e. same_square _ _ (omega (arith, ints, clamps, same_x e)) (omega (arith, ints, clamps, same_y e)),
)
pulls false R90 at s q = (
  λ e. same_square _ _ (omega (arith, ints, clamps, same_y e)) (omega (arith, ints, clamps, same_x e)),
  λ e. same_square _ _ (omega (arith, ints, clamps, same_y e)) (omega (arith, ints, clamps, same_x e)),
)
pulls false R180 at s q = (
  λ e. same_square _ _ (omega (arith, ints, clamps, same_x e)) (omega (arith, ints, clamps, same_y e)),
  λ e. same_square _ _ (omega (arith, ints, clamps, same_x e)) (omega (arith, ints, clamps, same_y e)),
)
pulls false R270 at s q = (
  λ e. same_square _ _ (omega (arith, ints, clamps, same_y e)) (omega (arith, ints, clamps, same_x e)),
  λ e. same_square _ _ (omega (arith, ints, clamps, same_y e)) (omega (arith, ints, clamps, same_x e)),
)
pulls true R0 at s q = (
  λ e. same_square _ _ (omega (arith, ints, clamps, same_x e)) (omega (arith, ints, clamps, same_y e)),
  λ e. same_square _ _ (omega (arith, ints, clamps, same_x e)) (omega (arith, ints, clamps, same_y e)),
)
pulls true R90 at s q = (
  λ e. same_square _ _ (omega (arith, ints, clamps, same_y e)) (omega (arith, ints, clamps, same_x e)),
  λ e. same_square _ _ (omega (arith, ints, clamps, same_y e)) (omega (arith, ints, clamps, same_x e)),
)
pulls true R180 at s q = (
  λ e. same_square _ _ (omega (arith, ints, clamps, same_x e)) (omega (arith, ints, clamps, same_y e)),
  λ e. same_square _ _ (omega (arith, ints, clamps, same_x e)) (omega (arith, ints, clamps, same_y e)),
)
pulls true R270 at s q = (
  λ e. same_square _ _ (omega (arith, ints, clamps, same_y e)) (omega (arith, ints, clamps, same_x e)),
  λ e. same_square _ _ (omega (arith, ints, clamps, same_y e)) (omega (arith, ints, clamps, same_x e)),
)

pub pulls_back : (m : Map) (s q : Square) → (image_square m s ≡ q) ↔ (s ≡ square_before m q)
pulls_back m s q = pulls m.flip m.turn m.at s q
