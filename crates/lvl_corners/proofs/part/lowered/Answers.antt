use Rattle.std.proofs.Common.{◌≡◌, ◌∙◌, ap, rules, true, FitsSigned, ℤ}
use Rattle.std.specs.Int.{w64}
use Rattle.std.proofs.lemmas.Fn.{filter_same}
use Rattle.std.proofs.lemmas.Int.{to_z-of_z}
use Rattle.lvl_corners.specs.declared.mark.Mark.{Mark}
use Rattle.lvl_corners.specs.Gathered.{near, IsLowered}
use Rattle.lvl_corners.specs.inside.Marks.{net}
use Rattle.lvl_corners.proofs.Gathered.{near_lower}
use Rattle.lvl_corners.proofs.Nets.{net_filter}
use Rattle.lvl_corners.proofs.part.lowered.Goals as goal

pub returns-clause-same : goal.returns-clause-same
returns-clause-same c =
    let x : ℤ = c.args.x in
    let end : ℤ = c.args.limit.end in
    let stop : ℤ = c.cut_of-end.result in
    let x_fits : FitsSigned w64 x = search rules in
    let end_fits : FitsSigned w64 end = search rules in
    let stop_fits : FitsSigned w64 stop = search rules in
    let lower : IsLowered x end stop = simp to_z-of_z at c.cut_of-end.ensures.lowered in
    let first = filter_same _ (λ (m : Mark). near x end m.x) _ (λ m b q h. search rules) _ _
    c.retain.ensures.filtered in
    let last = filter_same _ (λ (m : Mark). near x stop m.x) _ (λ m b q h. search rules) _ _
    c.retain-2.ensures.filtered in
    λ u v inside.
    let here : near x stop u ≡ true = simp to_z-of_z at inside in
    let there : near x end u ≡ true = near_lower x end stop u lower.0 here in
    (ap (net u v) last ∙ rw here at (net_filter u v (λ z w. near x stop z) c.cut_of-end.new.marks.items))
    ∙ (c.cut_of-end.ensures.same u v
    ∙ (ap (net u v) first ∙ rw there at (net_filter u v (λ z w. near x end z) c.args.marks.now.items)))
