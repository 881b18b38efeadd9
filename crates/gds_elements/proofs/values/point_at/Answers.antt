use Rattle.std.proofs.Common.{◌∙◌, take, sym, ap}
use Rattle.gds_elements.specs.Values.{point}
use Rattle.gds_elements.proofs.Points.{nth-points}
use Rattle.gds_elements.proofs.values.point_at.Goals as goal

pub returns-clause-value : goal.returns-clause-value
returns-clause-value c =
    c.point.ensures.value ∙ ap point c.split_at-2.ensures.front ∙ ap (λ q. point (take 8 q)) c.split_at.ensures.back
    ∙ sym (nth-points c.args.k c.args.payload.now c.requires)
