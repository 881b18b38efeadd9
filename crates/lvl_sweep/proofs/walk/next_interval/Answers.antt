use Rattle.std.proofs.Common.{w64, FitsSigned, rules, ◌∙◌}
use Rattle.std.proofs.lemmas.Int.{to_z-of_z}
use Rattle.lvl_sweep.proofs.Walks.{first_interval, no_interval, turns_out, at_none, numbers_of}
use Rattle.lvl_sweep.proofs.walk.next_interval.Goals as goal

pub returns-in_err-start-clause-none : goal.returns-in_err-start-clause-none
returns-in_err-start-clause-none c =
    at_none _ _ (no_interval c.args.active.now _ c.args.position.now c.pass_until.new.position c.requires.row
    c.in_err-start.ensures.never)

pub returns-in_err-end-clause-none : goal.returns-in_err-end-clause-none
returns-in_err-end-clause-none c =
    absurd (turns_out c.args.active.now _ c.args.position.now c.pass_until.new.position c.pass_until-2.new.position
    c.pass_until.new.windings _ c.requires.row c.in_ok-start.ensures.turned c.in_err-end.ensures.never)

pub returns-clause-first : goal.returns-clause-first
returns-clause-first c =
    let s : FitsSigned w64 c.in_ok-start.start = search rules in
    let e : FitsSigned w64 c.in_ok-end.end = search rules in
    rw (to_z-of_z w64 _ s, to_z-of_z w64 _ e)
    (first_interval c.args.active.now _ c.args.position.now c.pass_until.new.position c.pass_until-2.new.position
    c.pass_until.new.windings c.pass_until-2.new.windings _ _ c.requires.row
    (numbers_of c.args.active.now _ _ (c.in_ok-end.ensures.rings ∙ c.in_ok-start.ensures.rings)
    c.requires.row.numbers) c.in_ok-start.ensures.turned c.in_ok-end.ensures.turned c.in_ok-end.ensures.passed
    c.in_ok-end.ensures.parted)
