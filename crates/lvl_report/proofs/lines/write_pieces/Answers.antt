use Rattle.std.proofs.Common.{ℕ, List, Bor}
use Rattle.lvl_report.proofs.Writing.{begins_at, on_err}
use Rattle.lvl_report.proofs.lines.write_pieces.Goals as goal

pub returns-in_err-write_all-clause-begun : goal.returns-in_err-write_all-clause-begun
returns-in_err-write_all-clause-begun g c =
    on_err _ c.from_residual.result
    (begins_at (λ (p : Bor (List ℕ)). p.now) c.args.pieces.now c.loop-piece.piece-index _ _ _ _ c.loop-piece-test.true
    c.loop-piece.invariant.whole c.in_err-write_all.ensures.begun)
