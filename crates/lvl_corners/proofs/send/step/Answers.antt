use Rattle.std.proofs.Common.{[], inl, inr, refl}
use Rattle.std.proofs.lemmas.Bool.{iff_false}
use Rattle.std.proofs.lemmas.List.Elements.{All-nil}
use Rattle.lvl_corners.specs.Corners.{FitsCorner}
use Rattle.lvl_corners.specs.inside.Sums.{corners_of_sum}
use Rattle.lvl_corners.proofs.send.step.Goals as goal

pub returns-then-is_at : goal.returns-then-is_at
returns-then-is_at g c = (
  [],
  g.met.S.CornerSink.takes_none c.args.sink.now,
  All-nil FitsCorner,
  inl (c.if-is_at.ensures.0 refl, (refl, c.with.ensures)),
)

pub returns : goal.returns
returns g c = (
  corners_of_sum c.args.sum,
  c.in_ok-send.ensures.received,
  c.in_ok-send.ensures.fits,
  inr (λ at. iff_false c.if-is_at.ensures refl at, (refl, c.of.ensures)),
)
