use Rattle.std.proofs.Common.{◌≡◌, ◌∙◌, Bool, List, ap, sym, subst, IfOk}
use Rattle.std.specs.declared.alloc.Global.{Global}
use Rattle.std.specs.declared.vec.Vec.{Vec}
use Rattle.lvl_grid.specs.declared.point.Point.{Point}
use Rattle.lvl_path.specs.declared.band.Reach.{Reach}
use Rattle.lvl_path.specs.Repeats.{asked}
use Rattle.lvl_path.specs.Runs.{IsPath}
use Rattle.lvl_path.proofs.Repeating.{rings_asked}
use Rattle.lvl_path.proofs.repeats.bands_by.Goals as goal
use Rattle.lvl_path.proofs.repeats.bands_by.Goals.{then-ignore_repeats, else-ignore_repeats}

abbrev reach : goal.After-drop-points → Reach
reach c = record { half = c.args.half; start = c.args.start; end = c.args.end }

-- the points whose bands are returned
are_asked : (c : goal.After-drop-points) → c.deref.result.now ≡ asked c.args.ignore_repeats c.args.points.items
are_asked c =
    let items : Vec Point Global → List Point = λ v. v.items in
    let by : Bool → List Point = λ b. asked b c.args.points.items in
    elim c.if-ignore_repeats.branch [
      | then-ignore_repeats w ↦ c.deref.ensures.value ∙ ap items w.points-is ∙ w.without_repeats-points.ensures
          ∙ sym (ap by w.if-ignore_repeats.true)
      | else-ignore_repeats w ↦ c.deref.ensures.value ∙ ap items w.points-is ∙ sym (ap by w.if-ignore_repeats.false)
    ]

pub returns-clause-rings : goal.returns-clause-rings
returns-clause-rings c =
    rings_asked c.args.ignore_repeats c.args.points.items c.deref.result.now (reach c) c.bands.result (are_asked c)
    c.bands.ensures.rings c.bands.ensures.ok

pub returns-clause-ok : goal.returns-clause-ok
returns-clause-ok c =
    subst (λ (ps : List Point). IfOk c.bands.result (λ _. IsPath ps (reach c))) (are_asked c) c.bands.ensures.ok
