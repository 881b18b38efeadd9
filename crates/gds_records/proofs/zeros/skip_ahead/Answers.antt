use Rattle.std.proofs.Common.{◌≡◌, ◌==◌, length, drop, ap, subst, arith}
use Rattle.std.specs.List.{prefix_len}
use Rattle.std.proofs.lemmas.List.Sums.{prefix_len-le-length}
use Rattle.gds_records.specs.Tail.{IsNoZeroFirst}
use Rattle.gds_records.proofs.Skipped.{zeros_front, zeros_stop}
use Rattle.gds_records.proofs.zeros.skip_ahead.Goals as goal

pub skip-requires : goal.skip-requires
skip-requires c = omega (arith, prefix_len-le-length (λ b. b == 0) c.ahead.result.now, ap length c.ahead.ensures.value)

pub returns-clause-zeros : goal.returns-clause-zeros
returns-clause-zeros c =
    let few = zeros_front c.min-n.result c.args.ahead.now
    (omega (arith, ap (prefix_len (λ b. b == 0)) c.ahead.ensures.value)) in
    cc

pub returns-clause-all : goal.returns-clause-all
returns-clause-all c = λ less.
    let all : c.min-n.result ≡ prefix_len (λ b. b == 0) c.args.ahead.now =
    omega (arith, ap (prefix_len (λ b. b == 0)) c.ahead.ensures.value) in
    let left : drop (prefix_len (λ b. b == 0) c.args.ahead.now) c.args.ahead.now ≡ c.skip.new.self = cc in
    subst IsNoZeroFirst left (zeros_stop c.args.ahead.now)
