use Rattle.std.proofs.Common.{◌<◌, length, subst, arith}
use Rattle.std.proofs.Common.{All}
use Rattle.std.specs.Prelude.{flat_map}
use Rattle.std.proofs.lemmas.List.{take_all}
use Rattle.oasis_library.specs.Names.{IsNamed}
use Rattle.oasis_library.proofs.Referring.{named_more, number_from, unnamed_at}
use Rattle.oasis_library.proofs.resolve.first_unnamed.Goals as goal

pub returns-in-Some-clause-some : goal.returns-in-Some-clause-some
returns-in-Some-clause-some c = λ given h.
    let low : c.loop-j.j < length c.args.placements.now = omega (arith, c.loop-j-test.true, c.len-j-end.ensures) in
    unnamed_at given c.args.targets.now c.args.placements.now c.loop-j.j c.key.result c.index-targets-key.result
    c.in-Some.number c.requires low c.key.ensures c.index-targets-key.is (c.loop-j.invariant given h)
    (c.in-Some.ensures.some given h)

pub loop-j-preserved : goal.loop-j-preserved
loop-j-preserved c = λ given h.
    let low : c.loop-j.j < length c.args.placements.now = omega (arith, c.loop-j-test.true, c.len-j-end.ensures) in
    named_more given c.args.targets.now c.args.placements.now c.loop-j.j c.key.result c.index-targets-key.result
    c.requires low c.key.ensures c.index-targets-key.is (c.loop-j.invariant given h) (c.in_default.ensures.none given h)

pub returns-clause-none : goal.returns-clause-none
returns-clause-none c = λ given h.
    subst (λ ps. All (IsNamed given) (flat_map (number_from c.args.targets.now) ps))
    (take_all c.loop-j.j c.args.placements.now (omega (arith, c.loop-j-test.false, c.len-j-end.ensures)))
    (c.loop-j.invariant given h)
