use Rattle.std.proofs.Common.{subst}
use Rattle.std.proofs.lemmas.Result.{on_ok_weaker}
use Rattle.lvl_grid.specs.Winding.{SomeCovers}
use Rattle.lvl_corners.specs.Spans.{AreCornersIn}
use Rattle.lvl_corners.proofs.Spans.{corners_in_all}
use Rattle.lvl_corners.proofs.columns.send_corners.Goals as goal

pub returns-clause-sent : goal.returns-clause-sent
returns-clause-sent g c =
    on_ok_weaker c.send_corners_in.result
    (λ sent. (
      sent.0,
      sent.1,
      sent.2,
      corners_in_all (SomeCovers c.args.rings.now) sent.0
          (subst (λ span. AreCornersIn (SomeCovers c.args.rings.now) span sent.0) c.whole.ensures sent.3),
    )) c.send_corners_in.ensures.sent
