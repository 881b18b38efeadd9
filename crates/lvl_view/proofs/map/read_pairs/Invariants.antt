use Rattle.std.proofs.Common.{map, take}
use Rattle.std.specs.List.{AllZip}
use Rattle.lvl_view.specs.Texts.{IsPairText}
use Rattle.lvl_view.specs.inside.Reading.{IsAlone}
use Rattle.lvl_view.proofs.map.read_pairs.Given as goal

-- the pairs so far are the only ones that the parts so far say
abbrev pub invariant-loop-part : goal.invariant-loop-part
invariant-loop-part l = IsAlone (AllZip IsPairText (map (λ p. p.now) (take l.part-index l.part-items))) l.pairs.items
