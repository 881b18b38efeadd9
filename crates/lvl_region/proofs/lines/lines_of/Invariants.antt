use Rattle.std.proofs.Common.{take, All}
use Rattle.lvl_region.specs.Grid.{HasPlaces, HasVertexAt}
use Rattle.lvl_region.proofs.lines.lines_of.Given as goal

-- the lines have the coordinates of the vertices of the rings so far, and no others
abbrev pub invariant-loop-ring : goal.invariant-loop-ring
invariant-loop-ring l = record {
  through : HasPlaces l.axis l.lines.items (take l.ring-index l.rings);
  only : All (HasVertexAt l.axis (take l.ring-index l.rings)) l.lines.items;
}
