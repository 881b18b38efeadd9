use Rattle.std.proofs.Common.{◌≡◌, ◌++◌, ◌∷◌, [], List, All, map, sym, subst, ap, ◌∙◌}
use Rattle.lvl_grid.specs.declared.point.Point.{Point}
use Rattle.lvl_cells.specs.inside.Outlines.{outline_in, IsOutline}
use Rattle.lvl_cells.specs.inside.Spans.{IsPrefixOf}
use Rattle.lvl_cells.proofs.Outlined.{IsPushed, pushed, rings_same, still}
use Rattle.lvl_cells.proofs.Spanned.{goes_on_more, goes_on_same}
use Rattle.lvl_cells.proofs.outlines.Outlines.push_ring.Goals as goal
use Rattle.lvl_cells.proofs.outlines.Outlines.push_ring.Goals.{In_ok-push_lean}

abbrev ring : In_ok-push_lean → List Point
ring c = c.args.ring.now

done : (c : In_ok-push_lean)
    → IsPushed c.keep_points.new.points.items c.self.inside.spans.items c.in_ok-span.span c.args.self.now (ring c)
done c =
    pushed c.self.inside.points.items c.keep_points.new.points.items c.self.inside.spans.items c.in_ok-span.span
    c.args.self.now (ring c) c.keep_points.ensures.before c.self.invariant c.self.view_is c.in_ok-span.ensures.kept

pub invariant_of-self-2 : goal.invariant_of-self-2
invariant_of-self-2 c =
    subst (All (IsOutline c.keep_points.new.points.items)) (sym c.in_ok-push_lean.ensures.added) (done c).are

rings : (c : In_ok-push_lean)
    → map (outline_in c.keep_points.new.points.items) c.push_lean.new.list.items ≡ c.args.self.now ++ ring c ∷ []
rings c = ap (map (outline_in c.keep_points.new.points.items)) c.in_ok-push_lean.ensures.added ∙ (done c).is

pub returns-clause-ok : goal.returns-clause-ok
returns-clause-ok c = rings c

pub returns-clause-before : goal.returns-clause-before
returns-clause-before c =
    subst (IsPrefixOf c.args.self.now) (sym (rings c)) (goes_on_more c.args.self.now (ring c ∷ []))

pub invariant_of-self : goal.invariant_of-self
invariant_of-self c =
    still c.self.inside.points.items c.keep_points.new.points.items c.self.inside.spans.items
    c.keep_points.ensures.before
    c.self.invariant

pub returns-in_err-span-clause-before : goal.returns-in_err-span-clause-before
returns-in_err-span-clause-before c =
    subst (IsPrefixOf c.args.self.now)
    (sym (rings_same c.self.inside.points.items c.keep_points.new.points.items c.self.inside.spans.items
    c.keep_points.ensures.before c.self.invariant ∙ c.self.view_is)) (goes_on_same c.args.self.now)

pub invariant_of-self-in_err-push_lean : goal.invariant_of-self-in_err-push_lean
invariant_of-self-in_err-push_lean c =
    subst (All (IsOutline c.keep_points.new.points.items)) (sym c.in_err-push_lean.ensures.kept)
    (still c.self.inside.points.items c.keep_points.new.points.items c.self.inside.spans.items
    c.keep_points.ensures.before
    c.self.invariant)

pub returns-in_err-push_lean-clause-before : goal.returns-in_err-push_lean-clause-before
returns-in_err-push_lean-clause-before c =
    subst (IsPrefixOf c.args.self.now)
    (sym (ap (map (outline_in c.keep_points.new.points.items)) c.in_err-push_lean.ensures.kept
    ∙ (rings_same c.self.inside.points.items c.keep_points.new.points.items c.self.inside.spans.items
    c.keep_points.ensures.before c.self.invariant ∙ c.self.view_is))) (goes_on_same c.args.self.now)
