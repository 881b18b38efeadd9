use Rattle.lvl_profile.specs.Profiles.{strict}
use Rattle.lvl.specs.Accepted.{IsVerdict}
use Rattle.lvl.specs.Sides.{file}
use Rattle.lvl.specs.Views.{IsViewVerdict}
use Rattle.lvl.proofs.Answering.{verdict_from}
use Rattle.lvl.proofs.compare.compare_view.Goals as goal

pub verdict_of-requires : goal.verdict_of-requires
verdict_of-requires g c = c.compare_files.ensures.answer.steps

pub returns-clause-verdict : goal.returns-clause-verdict
returns-clause-verdict g c xs ys known_first known_second =
    let answer = c.compare_files.ensures.answer in
    verdict_from (record { view = c.args.view.now; why = _; units = _ }) _ _
    (IsViewVerdict c.args.view.now (file strict xs c.args.tops.now.first) (file strict ys c.args.tops.now.second))
    (λ j judged. judged.verdict) c.compare_files.result c.verdict_of.result
    (answer.found xs ys known_first known_second) answer.steps c.verdict_of.ensures.verdict c.verdict_of.ensures.refusal

pub returns-clause-whole : goal.returns-clause-whole
returns-clause-whole g c whole xs ys known_first known_second =
    let answer = c.compare_files.ensures.answer in
    verdict_from (record { view = c.args.view.now; why = _; units = _ }) _ _
    (IsVerdict (file strict xs c.args.tops.now.first) (file strict ys c.args.tops.now.second))
    (λ j judged. judged.whole whole) c.compare_files.result c.verdict_of.result
    (answer.found xs ys known_first known_second) answer.steps c.verdict_of.ensures.verdict c.verdict_of.ensures.refusal

pub returns-clause-first : goal.returns-clause-first
returns-clause-first g c = rw c.verdict_of.ensures.refusal c.compare_files.ensures.answer.first

pub returns-clause-second : goal.returns-clause-second
returns-clause-second g c = rw c.verdict_of.ensures.refusal c.compare_files.ensures.answer.second
