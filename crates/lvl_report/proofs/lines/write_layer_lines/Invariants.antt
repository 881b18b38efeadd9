use Rattle.std.proofs.Common.{◌≡◌, take}
use Rattle.std.specs.Io.KnownBytes.{Appends}
use Rattle.lvl_corners.specs.Masks.{mask_lines}
use Rattle.lvl_report.proofs.lines.write_layer_lines.Given as goal

-- the lines so far were written, and no write failed
abbrev pub invariant-loop-digested : goal.invariant-loop-digested
invariant-loop-digested g l = record {
  whole :
      Appends (g.W.Write.contents l.fn.out) (g.W.Write.contents l.out) (mask_lines (take l.digested-index l.layers));
  errors : g.W.Write.write_errors l.out ≡ g.W.Write.write_errors l.fn.out;
  same : g.W.Write.lent l.out ≡ g.W.Write.lent l.fn.out;
}
