use Rattle.std.proofs.Common.{◌∙◌, rules}
use Rattle.std.proofs.lemmas.List.Sorted.{answers_always}
use Rattle.lvl_corners.proofs.Nets.{net_permutation}
use Rattle.lvl_corners.proofs.Orders.{in_order}
use Rattle.lvl_corners.proofs.bands.marks_of.Goals as goal

pub returns-clause-marks : goal.returns-clause-marks
returns-clause-marks g c =
    let all = c.in_ok-marks.ensures in
    record {
      covered = all.covered;
      is_covered = all.is_covered;
      bounded = all.bounded;
      changes = λ x y. net_permutation x y c.in_ok-marks.marks.items c.sort_unstable_by_key.new.self.items
          c.sort_unstable_by_key.ensures.permutation ∙ all.changes x y;
    }

pub returns-clause-order : goal.returns-clause-order
returns-clause-order g c =
    in_order _ (c.sort_unstable_by_key.ensures.sorted (λ m. (m.x, m.y))
    (answers_always _ _ _ (λ f a r g h. search rules)))
