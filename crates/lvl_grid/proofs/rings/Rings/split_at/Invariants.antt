use Rattle.std.proofs.Common.{◌↔◌, [], take}
use Rattle.lvl_grid.specs.declared.point.Square.{Square}
use Rattle.lvl_grid.specs.declared.part.Part.TheVariants.{Left, Right}
use Rattle.lvl_grid.specs.Winding.{SomeCovers}
use Rattle.lvl_grid.proofs.Clipped.{WithOthers}
use Rattle.lvl_grid.proofs.rings.Rings.split_at.Given as goal

-- the rings so far are clipped to both sides
abbrev pub invariant-loop-i : goal.invariant-loop-i
invariant-loop-i l = record {
  left : (s : Square) → SomeCovers l.left s ↔ WithOthers (Left l.at) [] (take l.i l.self) s;
  right : (s : Square) → SomeCovers l.right s ↔ WithOthers (Right l.at) [] (take l.i l.self) s;
}
