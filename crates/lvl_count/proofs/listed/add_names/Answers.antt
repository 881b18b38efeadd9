use Rattle.std.proofs.Common.{◌∙◌, ◌||◌, Bool, ap}
use Rattle.std.specs.Str.{bytes_eq}
use Rattle.lvl_cells.specs.Cells.{PlainReference}
use Rattle.lvl_count.specs.inside.Referring.{has_name}
use Rattle.lvl_count.proofs.Referring.{or_any_more, or_any_repeated}
use Rattle.lvl_count.proofs.listed.add_names.Goals.{then-not-is_repeated+in_ok-add_name, else-not-is_repeated}
use Rattle.lvl_count.proofs.listed.add_names.Goals as goal

pub loop-j-preserved : goal.loop-j-preserved
loop-j-preserved c = λ q.
    let refers : PlainReference → Bool = λ r. bytes_eq q r.cell in
    elim c.if-not-is_repeated.branch [
      | then-not-is_repeated+in_ok-add_name w ↦
          ap (λ s. has_name s q) w.referred-is
          ∙ or_any_more refers c.args.references.now c.loop-j.j w.reference.result (has_name c.args.referred.now q)
          (has_name c.loop-j.referred q) (has_name w.add_name.new.referred q) w.reference.ensures (c.loop-j.invariant q)
          (w.in_ok-add_name.ensures q ∙ ap (λ n. has_name c.loop-j.referred q || bytes_eq q n) w.cell.ensures)
      | else-not-is_repeated w ↦
          let r = c.is_repeated.ensures w.if-not-is_repeated.false in
          ap (λ s. has_name s q) w.referred-is
          ∙ or_any_repeated refers c.args.references.now c.loop-j.j r.earlier r.first r.second
          (has_name c.args.referred.now q) (has_name c.loop-j.referred q) r.next r.first_there r.second_there
          (ap (bytes_eq q) r.same) (c.loop-j.invariant q)
    ]
