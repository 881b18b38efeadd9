use Rattle.std.proofs.Common.{◌≡◌, ◌∙◌, ◌++◌, ◌∷◌, [], ℕ, ℤ, pos, List, get_or, false, FitsSigned}
use Rattle.std.proofs.Common.{sym, ap, rules, arith, take, subst, cond, ◌+ℤ◌}
use Rattle.std.specs.Int.{w64}
use Rattle.std.proofs.lemmas.Int.{to_z-of_z}
use Rattle.std.proofs.lemmas.List.{take_all}
use Rattle.lvl_corners.specs.declared.mark.Mark.{Mark}
use Rattle.lvl_corners.specs.Spans.{spanned}
use Rattle.lvl_corners.specs.inside.Marks.{net}
use Rattle.lvl_corners.specs.inside.Parts.{is_right}
use Rattle.lvl_corners.proofs.Gathered.{right_pushed, right_skipped}
use Rattle.lvl_corners.proofs.part.push_right.Goals.{then-is_right+in_ok-push, else-is_right}
use Rattle.lvl_corners.proofs.part.push_right.Goals as goal

pub loop-mark-preserved : goal.loop-mark-preserved
loop-mark-preserved c = λ u v low high.
    let marks : List Mark = c.args.marks.now in
    let base : List Mark = c.args.to.now.items in
    let old : List Mark = c.loop-mark.to.items in
    let i : ℕ = c.loop-mark.mark-index in
    let d : Mark = record { x = pos 0; y = pos 0; is_plus = false } in
    let mark : Mark = get_or marks i d in
    let x : ℤ = c.args.x in
    let end : ℤ = c.args.end in
    let x_fits : FitsSigned w64 x = search rules in
    let end_fits : FitsSigned w64 end = search rules in
    let is : c.is_right.result ≡ is_right x end c.args.rows mark = simp to_z-of_z at c.is_right.ensures in
    let before = c.loop-mark.invariant u v low high in
    elim c.if-is_right.branch [
      | then-is_right+in_ok-push w ↦
          let items : c.if-is_right.to.items ≡ old ++ mark ∷ [] =
          ap (λ v. v.items) w.to-is ∙ w.in_ok-push.ensures.items in
          rw items (right_pushed x end c.args.rows base old marks i d u v c.loop-mark-test.true
          (sym is ∙ w.if-is_right.true) before)
      | else-is_right w ↦
          let items : c.if-is_right.to.items ≡ old = ap (λ v. v.items) w.to-is in
          rw items (right_skipped x end c.args.rows base old marks i d u v c.loop-mark-test.true
          (simp to_z-of_z at low) (simp to_z-of_z at high) (sym is ∙ w.if-is_right.false) before)
    ]

pub returns : goal.returns
returns c = λ u v low high.
    let marks : List Mark = c.args.marks.now in
    let base : List Mark = c.args.to.now.items in
    let x_fits : FitsSigned w64 c.args.x = search rules in
    let end_fits : FitsSigned w64 c.args.end = search rules in
    let all : take c.loop-mark.mark-index marks ≡ marks =
    take_all c.loop-mark.mark-index marks (omega (arith, c.loop-mark-test.false)) in
    subst (λ (ms : List Mark). net u v c.loop-mark.to.items
    ≡ net u v base +ℤ cond (spanned c.args.rows v) (net u v ms) (pos 0)) all
    (c.loop-mark.invariant u v (rw (to_z-of_z w64 c.args.x x_fits) low) (rw (to_z-of_z w64 c.args.end end_fits) high))
