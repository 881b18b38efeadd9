use Rattle.std.proofs.Common.{arith}
use Rattle.std.proofs.lemmas.Int.{ints}
use Rattle.lvl_path.specs.declared.way.Way.TheVariants.{East, North, West, South}
use Rattle.lvl_path.proofs.BandOf.{same_band, by_way}
use Rattle.lvl_path.proofs.band.Band.between.Goals as goal

pub returns-in-East : goal.returns-in-East
returns-in-East c =
    by_way c.between.result East c.args.from c.args.to c.args.half c.args.before c.args.after c.between.ensures
    c.in-East.is _ (same_band _ _ (omega (arith, ints)) (omega (arith, ints)) (omega (arith, ints))
    (omega (arith, ints)))

pub returns-in-North : goal.returns-in-North
returns-in-North c =
    by_way c.between.result North c.args.from c.args.to c.args.half c.args.before c.args.after c.between.ensures
    c.in-North.is _ (same_band _ _ (omega (arith, ints)) (omega (arith, ints)) (omega (arith, ints))
    (omega (arith, ints)))

pub returns-in-West : goal.returns-in-West
returns-in-West c =
    by_way c.between.result West c.args.from c.args.to c.args.half c.args.before c.args.after c.between.ensures
    c.in-West.is _ (same_band _ _ (omega (arith, ints)) (omega (arith, ints)) (omega (arith, ints))
    (omega (arith, ints)))

pub returns-in-South : goal.returns-in-South
returns-in-South c =
    by_way c.between.result South c.args.from c.args.to c.args.half c.args.before c.args.after c.between.ensures
    c.in-South.is _ (same_band _ _ (omega (arith, ints)) (omega (arith, ints)) (omega (arith, ints))
    (omega (arith, ints)))
