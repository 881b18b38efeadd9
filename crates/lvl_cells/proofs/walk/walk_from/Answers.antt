use Rattle.std.proofs.Common.{◌≡◌, List, [], ◌∷◌, ◌++◌, Some, set, sym, ap, ◌∙◌, subst}
use Rattle.std.specs.List.{slice_get}
use Rattle.lvl_cells.specs.declared.walk.Visit.{Visit}
use Rattle.lvl_cells.specs.declared.walk.Mark.TheVariants.{New, Open}
use Rattle.lvl_cells.specs.inside.Walking.{IsWalk}
use Rattle.lvl_cells.proofs.Walks.{walk_begin, set_there}
use Rattle.lvl_cells.proofs.Nearing.{goes_on}
use Rattle.lvl_cells.proofs.walk.walk_from.Goals as goal

pub loop-marks-init : goal.loop-marks-init
loop-marks-init c =
    let all = c.args.targets.now in
    let marks = c.args.marks.now in
    let root = c.args.root in
    let done = c.args.finished.now.items in
    let first : Visit = record { cell = root; done = 0 } in
    let resting : IsWalk all marks [] done =
    subst (λ (p : List Visit). IsWalk all marks p done) c.requires.resting c.requires.walk in
    let path : c.push.new.self.items ≡ first ∷ [] =
    c.in_ok-push.ensures.items ∙ ap (λ (p : List Visit). p ++ first ∷ []) c.requires.resting in
    let now : slice_get (set marks root Open) root ≡ Some Open = set_there marks root New Open c.requires.new in
    record {
      walk =
          subst (λ (p : List Visit). IsWalk all (set marks root Open) p done) (sym path)
          (walk_begin all marks root done resting c.requires.new);
      on = goes_on marks root New Open c.requires.new (λ e. cc);
      seen = λ e. cc;
    }

pub advance-requires-clause-walk : goal.advance-requires-clause-walk
advance-requires-clause-walk c = c.loop-marks.invariant.walk

pub returns-in-Some-clause-on : goal.returns-in-Some-clause-on
returns-in-Some-clause-on c = λ k h. c.loop-marks.invariant.on k (c.in_ok-start.ensures.on k h)

pub returns-in-Some-clause-seen : goal.returns-in-Some-clause-seen
returns-in-Some-clause-seen c = λ h. c.loop-marks.invariant.seen (c.in_ok-start.ensures.on c.args.root h)

pub loop-marks-preserved : goal.loop-marks-preserved
loop-marks-preserved c = record {
  walk = c.in_ok-start.ensures.walk;
  on = λ k h. c.loop-marks.invariant.on k (c.in_ok-start.ensures.on k h);
  seen = λ h. c.loop-marks.invariant.seen (c.in_ok-start.ensures.on c.args.root h);
}

pub returns-clause-walk : goal.returns-clause-walk
returns-clause-walk c = c.loop-marks.invariant.walk

pub returns-clause-on : goal.returns-clause-on
returns-clause-on c = c.loop-marks.invariant.on

pub returns-clause-seen : goal.returns-clause-seen
returns-clause-seen c = c.loop-marks.invariant.seen

pub loop-marks-smaller : goal.loop-marks-smaller
loop-marks-smaller c = rw c.in_default.is at c.in_ok-start.ensures.nearer

pub returns-in-Some-clause-walk : goal.returns-in-Some-clause-walk
returns-in-Some-clause-walk c = c.in_ok-start.ensures.walk

pub returns-in-Some-clause-back : goal.returns-in-Some-clause-back
returns-in-Some-clause-back c = rw c.in-Some.is at c.in_ok-start.ensures.back
