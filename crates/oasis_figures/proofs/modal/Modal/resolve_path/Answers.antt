use Rattle.std.proofs.Common.{◌∙◌, sym, subst}
use Rattle.lvl_grid.specs.Turn.{FitsPoint}
use Rattle.oasis_figures.specs.declared.path.Resolved.{Resolved}
use Rattle.oasis_figures.proofs.Paths.{list_unknown, repetition_unknown, all_defined, layer_wide, all_known}
use Rattle.oasis_figures.proofs.Paths.{position_out, resolved}
use Rattle.oasis_figures.proofs.modal.Modal.resolve_path.Goals as goal

pub returns-then-not-are_known-clause-err : goal.returns-then-not-are_known-clause-err
returns-then-not-are_known-clause-err c = λ ignore earlier s.
    let m = c.args.self.now in
    let p = c.args.path.now in
    let t = c.in_ok-stroke.stroke in
    let known = sym c.are_known.ensures ∙ c.if-not-are_known.true in
    list_unknown ignore m earlier p t s c.in_ok-stroke.ensures.ok known

pub returns-then-not-is_known-clause-err : goal.returns-then-not-is_known-clause-err
returns-then-not-is_known-clause-err c = λ ignore earlier s.
    let m = c.args.self.now in
    let p = c.args.path.now in
    let t = c.in_ok-stroke.stroke in
    let known = sym c.are_known.ensures ∙ c.if-not-are_known.false in
    repetition_unknown ignore m earlier p t s c.in_ok-stroke.ensures.ok known
    (sym c.is_known.ensures ∙ c.if-not-is_known.true)

pub returns-in_default-clause-err : goal.returns-in_default-clause-err
returns-in_default-clause-err c = λ ignore earlier s.
    let m = c.args.self.now in
    let p = c.args.path.now in
    let t = c.in_ok-stroke.stroke in
    let a = c.in_ok-stroke.ensures.ok in
    let known = sym c.are_known.ensures ∙ c.if-not-are_known.false in
    let d = all_defined m earlier p t s a known (sym c.is_known.ensures ∙ c.if-not-is_known.false) in
    layer_wide ignore m earlier p t s a d c.in_default.ensures

pub returns-in_default-moved-clause-err : goal.returns-in_default-moved-clause-err
returns-in_default-moved-clause-err c = λ ignore earlier s.
    let m = c.args.self.now in
    let p = c.args.path.now in
    let t = c.in_ok-stroke.stroke in
    let a = c.in_ok-stroke.ensures.ok in
    let known = sym c.are_known.ensures ∙ c.if-not-are_known.false in
    let d = all_defined m earlier p t s a known (sym c.is_known.ensures ∙ c.if-not-is_known.false) in
    position_out ignore m earlier p s (all_known m earlier p t s a d c.in-Some.ensures.0) c.in_default-moved.ensures

pub returns-clause-ok : goal.returns-clause-ok
returns-clause-ok c = λ earlier s.
    let m = c.args.self.now in
    let p = c.args.path.now in
    let t = c.in_ok-stroke.stroke in
    let a = c.in_ok-stroke.ensures.ok in
    let known = sym c.are_known.ensures ∙ c.if-not-are_known.false in
    let d = all_defined m earlier p t s a known (sym c.is_known.ensures ∙ c.if-not-is_known.false) in
    let v : Resolved = record { stroke = t; on = c.in-Some.on; at = c.in-Some-moved.at } in
    let at = c.in-Some-moved.ensures in
    resolved m earlier p v s a (all_known m earlier p t s a d c.in-Some.ensures.0) c.in-Some.ensures.1
    (subst FitsPoint (sym at.1) at.0) at.1
