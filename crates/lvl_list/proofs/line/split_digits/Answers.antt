use Rattle.std.proofs.Common.{◌≡◌, ◌∙◌, sym, ap, true, false}
use Rattle.lvl_list.specs.List.{is_digest}
use Rattle.lvl_list.proofs.Lines.{cut_digits, cut_rest}
use Rattle.lvl_list.proofs.line.split_digits.Goals as goal
use Rattle.lvl_list.proofs.line.split_digits.Goals.{in_default-via-in-Some+else-is_digest, in_default-via-in_default}

pub returns-in_default : goal.returns-in_default
returns-in_default c = λ digits rest is e.
    elim c.in_default.branch [
      | in_default-via-in-Some+else-is_digest w ↦
          let bad : true ≡ false =
          sym is ∙ ap is_digest (sym (c.split_at.ensures.front ∙ cut_digits c.args.text.now digits rest is e))
          ∙ sym w.is_digest.ensures ∙ w.if-is_digest.false in
          cc
      | in_default-via-in_default w ↦
          let found = c.after_spaces.ensures.exact rest
          (c.split_at.ensures.back ∙ cut_rest c.args.text.now digits rest is e) in
          let bad = rw w.in_default.is at found in
          cc
    ]
