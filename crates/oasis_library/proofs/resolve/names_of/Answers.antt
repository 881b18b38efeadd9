use Rattle.std.proofs.Common.{◌≡◌, ◌+◌, ◌++◌, ◌∷◌, ◌∙◌, [], List, ℕ, take, ap, sym, arith}
use Rattle.std.proofs.lemmas.List.{take_more}
use Rattle.oasis_records.specs.declared.cell.CellName.{CellName}
use Rattle.oasis_library.specs.Names.{IsUnnamed, number_in}
use Rattle.oasis_library.specs.declared.placement.Target.{Target}
use Rattle.oasis_library.specs.inside.Holds.{HoldsNames}
use Rattle.oasis_library.specs.inside.Kept.{target_ref}
use Rattle.oasis_library.specs.inside.Resolved.{IsNameOf}
use Rattle.oasis_library.proofs.Resolving.{meant_named, same_name, unnamed_none, zip-snoc}
use Rattle.oasis_library.proofs.resolve.names_of.Goals.{In_ok-push}
use Rattle.oasis_library.proofs.resolve.names_of.Goals as goal
use Rattle.oasis_library.proofs.resolve.names_of.Goals.{in-Ok, in-Err-Breach}

one : (c : In_ok-push) (given : List CellName) → HoldsNames c.args.names.now given
    → IsNameOf given c.target-item.result c.match-name_of_target.name
one c given h =
    elim c.match-name_of_target.branch [
      | in-Ok w ↦ λ s e. w.name-is ∙ same_name _ s w.in-Ok.name e (w.in-Ok.ensures.ok given h)
      | in-Err-Breach w ↦
          λ s e.
          let unnamed : IsUnnamed given (number_in (target_ref c.target-item.result)) w.in-Err-Breach.field-0-0 =
          (rw w.in-Err-Breach.field-0-is at w.in-Err-Breach.ensures.err) given h in
          absurd (unnamed_none given _ _ (meant_named given (target_ref c.target-item.result) s e) unnamed)
    ]

pub loop-target-preserved : goal.loop-target-preserved
loop-target-preserved c = record {
  many = omega (arith, c.in_ok-push.ensures.len, c.loop-target.invariant.many);
  are = λ given h.
      let i : ℕ = c.loop-target.target-index in
      let targets : List Target = c.args.targets.now in
      let t : Target = c.target-item.result in
      let more : take (i + 1) targets ≡ take i targets ++ t ∷ [] =
      take_more targets i t c.loop-target-test.true ∙ ap (λ x. take i targets ++ x ∷ []) (sym c.target-item.is) in
      rw (more, c.in_ok-push.ensures.items) (zip-snoc (IsNameOf given) (take i targets) c.loop-target.named.items t
      c.match-name_of_target.name (c.loop-target.invariant.are given h) (one c given h));
}
