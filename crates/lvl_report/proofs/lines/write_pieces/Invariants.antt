use Rattle.std.proofs.Common.{◌≡◌, take, flat_map}
use Rattle.std.specs.Io.KnownBytes.{Appends}
use Rattle.lvl_report.proofs.lines.write_pieces.Given as goal

-- the pieces so far were written, and no write failed
abbrev pub invariant-loop-piece : goal.invariant-loop-piece
invariant-loop-piece g l = record {
  whole :
      Appends (g.W.Write.contents l.fn.out) (g.W.Write.contents l.out)
      (flat_map (λ p. p.now) (take l.piece-index l.pieces));
  errors : g.W.Write.write_errors l.out ≡ g.W.Write.write_errors l.fn.out;
  same : g.W.Write.lent l.out ≡ g.W.Write.lent l.fn.out;
}
