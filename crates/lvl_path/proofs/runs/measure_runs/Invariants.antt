use Rattle.std.proofs.Common.{◌≡◌, ◌<◌, ◌↔◌, length, IsTrue, Any}
use Rattle.lvl_path.specs.Runs.{run_length}
use Rattle.lvl_path.proofs.Corners.{IsAtCorner, runs_to}
use Rattle.lvl_path.proofs.runs.measure_runs.Given as goal

-- the runs so far are counted, and the next begins at the last corner so far
abbrev pub invariant-loop-to : goal.invariant-loop-to
invariant-loop-to l = record {
  at : IsAtCorner l.points l.to l.from;
  few : l.measured.count < l.to;
  count : l.measured.count ≡ length (runs_to l.points l.to);
  short : IsTrue l.measured.some_short ↔ Any (λ run. run_length l.points run < l.half) (runs_to l.points l.to);
}
