use Rattle.std.proofs.Common.{◌≡◌, ◌↔◌, ℕ, Bool, true, List, Some, length, sym, ◌∙◌, subst}
use Rattle.std.specs.List.{slice_get}
use Rattle.lvl_cells.specs.inside.Topping.{IsTarget}
use Rattle.lvl_cells.proofs.Roots.{other_root}
use Rattle.lvl_cells.proofs.top.has_other_root.Goals as goal

pub returns : goal.returns
returns c =
    let targets = c.args.targets.now in
    let root = c.args.root in
    let marks : List Bool = c.deref.result.now in
    let long : length marks ≡ length targets = c.deref.ensures.len ∙ c.in_ok-referred.ensures.long in
    let marked : (k : ℕ) → (slice_get marks k ≡ Some true) ↔ IsTarget targets k =
    subst (λ (l : List Bool). (k : ℕ) → (slice_get l k ≡ Some true) ↔ IsTarget targets k)
    (sym c.deref.ensures.value) c.in_ok-referred.ensures.marked in
    let same = other_root marks targets root marked long in (
      λ h. same.0 (c.is_other_unset.ensures.0 h),
      λ h. c.is_other_unset.ensures.1 (same.1 h),
    )
