use Rattle.lvl_flat.proofs.boxes.Boxes.miss.Goals as goal

pub returns : goal.returns
returns c = λ t. record {
  box = c.in-Some.bounds;
  there = c.in-Some.ensures;
  placed = c.in-Some-placed.placed;
  holds = c.in-Some-placed.ensures.held;
  fits = c.in-Some-placed.ensures.fits;
  outside = c.misses.ensures t;
}
