use Rattle.std.proofs.Common.{IfOk, subst}
use Rattle.lvl_profile.specs.Profiles.{strict}
use Rattle.lvl.specs.Accepted.{IsVerdict}
use Rattle.lvl.specs.Sides.{file}
use Rattle.lvl.proofs.compare.compare_layouts.Goals as goal

pub returns-clause-same : goal.returns-clause-same
returns-clause-same g c xs ys known_first known_second e =
    subst (λ r. IfOk r (IsVerdict (file strict xs c.args.tops.now.first) (file strict ys c.args.tops.now.second))) e
    (c.compare_view-2.ensures.whole c.whole.ensures xs ys known_first known_second)

pub returns-clause-differ : goal.returns-clause-differ
returns-clause-differ g c xs ys known_first known_second layer square side e =
    subst (λ r. IfOk r (IsVerdict (file strict xs c.args.tops.now.first) (file strict ys c.args.tops.now.second))) e
    (c.compare_view-2.ensures.whole c.whole.ensures xs ys known_first known_second)
