use Rattle.std.proofs.Common.{◌≡◌, true, false, inl, inr, sym, ◌∙◌}
use Rattle.lvl_changed.proofs.Widening.{sorted_some}
use Rattle.lvl_changed.proofs.windows.Windows.into_list.Goals as goal

pub returns : goal.returns
returns c = λ s h.
    elim (c.condense.ensures.has s (c.reduce.ensures.has s h)) [
      | inl any ↦ absurd (let no : true ≡ false = sym any ∙ c.if-reduced.false in cc)
      | inr a ↦
          sorted_some c.condense.new.self.list.items _ s c.sort_unstable_by_key.ensures.permutation a
    ]
