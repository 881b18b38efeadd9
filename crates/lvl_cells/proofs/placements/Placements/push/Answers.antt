use Rattle.std.proofs.Common.{All, map, refl, sym, subst, ap, ◌∙◌}
use Rattle.lvl_cells.specs.Cells.{PlainPlacement}
use Rattle.lvl_cells.specs.declared.placements.StoredPlacement.{StoredPlacement}
use Rattle.lvl_cells.specs.inside.Placings.{placement_in, repeated_beside, IsPlacing}
use Rattle.lvl_cells.proofs.Keepings.{all_same, all_still, one_more_stored, AreMoreStored}
use Rattle.lvl_cells.proofs.Placed.{placements_last}
use Rattle.lvl_cells.proofs.Spanned.{always_err}
use Rattle.lvl_cells.proofs.placements.Placements.push.Goals.{In_ok-push_lean}
use Rattle.lvl_cells.proofs.placements.Placements.push.Goals as goal

pub invariant_of-self : goal.invariant_of-self
invariant_of-self c =
    all_still IsPlacing placement_in placements_last _ _ c.self.inside.stored.items c.target_of.ensures.before
    c.self.invariant

pub returns-in_err-target-clause-kept : goal.returns-in_err-target-clause-kept
returns-in_err-target-clause-kept c =
    always_err c.from_residual-in_err-target.result
    (all_same IsPlacing placement_in placements_last _ _ c.self.inside.stored.items c.target_of.ensures.before
    c.self.invariant ∙ c.self.view_is)

pub invariant_of-self-in_err-push_lean : goal.invariant_of-self-in_err-push_lean
invariant_of-self-in_err-push_lean c =
    subst (All (IsPlacing (repeated_beside c.target_of.new.repeated))) (sym c.in_err-push_lean.ensures.kept)
    (all_still IsPlacing placement_in placements_last _ _ c.self.inside.stored.items c.target_of.ensures.before
    c.self.invariant)

pub returns-in_err-push_lean-clause-kept : goal.returns-in_err-push_lean-clause-kept
returns-in_err-push_lean-clause-kept c =
    always_err c.from_residual-in_err-push_lean.result
    (ap (map (placement_in (repeated_beside c.target_of.new.repeated))) c.in_err-push_lean.ensures.kept
    ∙ (all_same IsPlacing placement_in placements_last _ _ c.self.inside.stored.items c.target_of.ensures.before
    c.self.invariant ∙ c.self.view_is))

abbrev stored : In_ok-push_lean → StoredPlacement
stored c = record {
  at = c.args.by.at;
  index = c.in_ok-target.target.index;
  is_repeated = c.in_ok-target.target.is_repeated;
  flip = c.args.by.flip;
  turn = c.args.by.turn;
}

abbrev placement : In_ok-push_lean → PlainPlacement
placement c = record {
  key = c.in_ok-key.key;
  flip = c.args.by.flip;
  turn = c.args.by.turn;
  at = c.args.by.at;
  shifts = c.args.shifts;
}

more : (c : In_ok-push_lean)
    → AreMoreStored IsPlacing placement_in (repeated_beside c.target_of.new.repeated) c.self.inside.stored.items
    (stored c) c.args.self.now (placement c)
more c =
    let target = c.in_ok-target.ensures.target in
    one_more_stored IsPlacing placement_in placements_last (repeated_beside c.self.inside.repeated)
    (repeated_beside c.target_of.new.repeated) c.self.inside.stored.items (stored c) c.args.self.now (placement c)
    c.target_of.ensures.before c.self.invariant c.self.view_is
    (record { index = target.index; fits = rw target.is c.requires }) (rw target.is refl)

pub invariant_of-self-2 : goal.invariant_of-self-2
invariant_of-self-2 c =
    subst (All (IsPlacing (repeated_beside c.target_of.new.repeated))) (sym c.in_ok-push_lean.ensures.added) (more c).are

pub returns-clause-added : goal.returns-clause-added
returns-clause-added c =
    ap (map (placement_in (repeated_beside c.target_of.new.repeated))) c.in_ok-push_lean.ensures.added
    ∙ ((more c).is ∙ rw c.in_ok-key.ensures.0 refl)
