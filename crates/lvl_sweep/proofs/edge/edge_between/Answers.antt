use Rattle.std.proofs.Common.{w64, FitsSigned, rules, ◌<ℤ◌, arith}
use Rattle.std.proofs.lemmas.Int.{to_z-of_z, ints}
use Rattle.lvl_sweep.proofs.Spans.{up_rises, up_falls, down_rises, down_falls}
use Rattle.lvl_sweep.proofs.edge.edge_between.Goals as goal

pub returns-then-from-to-clause-rising : goal.returns-then-from-to-clause-rising
returns-then-from-to-clause-rising c =
    let x : FitsSigned w64 c.args.from.x = search rules in
    let y : FitsSigned w64 c.args.from.y = search rules in
    let z : FitsSigned w64 c.args.to.y = search rules in
    λ r s. rw (to_z-of_z w64 _ x, to_z-of_z w64 _ y, to_z-of_z w64 _ z) (up_rises c.args.from c.args.to c.args.ring r s)

pub returns-then-from-to-clause-falling : goal.returns-then-from-to-clause-falling
returns-then-from-to-clause-falling c =
    let x : FitsSigned w64 c.args.from.x = search rules in
    let y : FitsSigned w64 c.args.from.y = search rules in
    let z : FitsSigned w64 c.args.to.y = search rules in
    let lt : c.args.from.y <ℤ c.args.to.y = grind (arith, ints) in
    λ r s. rw (to_z-of_z w64 _ x, to_z-of_z w64 _ y, to_z-of_z w64 _ z) (up_falls c.args.from c.args.to c.args.ring r s
    lt)

pub returns-then-to-from-clause-rising : goal.returns-then-to-from-clause-rising
returns-then-to-from-clause-rising c =
    let x : FitsSigned w64 c.args.from.x = search rules in
    let y : FitsSigned w64 c.args.from.y = search rules in
    let z : FitsSigned w64 c.args.to.y = search rules in
    let lt : c.args.to.y <ℤ c.args.from.y = grind (arith, ints) in
    λ r s. rw (to_z-of_z w64 _ x, to_z-of_z w64 _ y, to_z-of_z w64 _ z) (down_rises c.args.from c.args.to c.args.ring r
    s lt)

pub returns-then-to-from-clause-falling : goal.returns-then-to-from-clause-falling
returns-then-to-from-clause-falling c =
    let x : FitsSigned w64 c.args.from.x = search rules in
    let y : FitsSigned w64 c.args.from.y = search rules in
    let z : FitsSigned w64 c.args.to.y = search rules in
    λ r s. rw (to_z-of_z w64 _ x, to_z-of_z w64 _ y, to_z-of_z w64 _ z) (down_falls c.args.from c.args.to c.args.ring r
    s)
