use Rattle.std.proofs.Common.{◌≡◌, map, All}
use Rattle.lvl_path.specs.Bands.{band_ring, FitsBand}
use Rattle.lvl_path.specs.Runs.{run_band}
use Rattle.lvl_path.proofs.Corners.{IsAtCorner, runs_to}
use Rattle.lvl_path.proofs.runs.run_bands.Given as goal

-- the rings so far are those of the runs so far, and the next run begins at the last corner so far
abbrev pub invariant-loop-to : goal.invariant-loop-to
invariant-loop-to l = record {
  at : IsAtCorner l.points l.to l.from;
  bands : l.rings.items ≡ map (λ run. band_ring (run_band l.points l.reach run)) (runs_to l.points l.to);
  fits : All (λ run. FitsBand (run_band l.points l.reach run)) (runs_to l.points l.to);
}
