use Rattle.std.proofs.Common.{◌≡◌, ◌∙◌, sym, ap, subst, Bool, true, false, not}
use Rattle.std.specs.Prelude.{IsUtf8}
use Rattle.std.specs.Bool.{beq}
use Rattle.std.specs.List.{list_any}
use Rattle.lvl_list.specs.List.{escaped, is_special}
use Rattle.lvl_list.proofs.Lines.{line_parts, same_rest}
use Rattle.lvl_list.proofs.line.read_line.Goals as goal

different : (a b : Bool) → a ≡ b → not (beq a b) ≡ true → ⊥
different true true e h = cc
different false false e h = cc
different true false e h = cc
different false true e h = cc

pub returns-in_default : goal.returns-in_default
returns-in_default c = λ digits name is utf8 e.
    c.in_default.ensures digits (escaped name) is
    (c.split_mark-is_marked.ensures.rest ∙ (line_parts _ digits name is e).1)

pub returns-in_default-2 : goal.returns-in_default-2
returns-in_default-2 c = λ digits name is utf8 e.
    let text = same_rest _ _ _ digits (escaped name) c.in-Some.ensures.1 is c.in-Some.ensures.0
    (c.split_mark-is_marked.ensures.rest ∙ (line_parts _ digits name is e).1) in
    let none = rw c.in_default-2.is at c.in_ok-name.ensures in
    none name text

pub returns-then-has_special-is_marked : goal.returns-then-has_special-is_marked
returns-then-has_special-is_marked c = λ digits name is utf8 e.
    let text = same_rest _ _ _ digits (escaped name) c.in-Some.ensures.1 is c.in-Some.ensures.0
    (c.split_mark-is_marked.ensures.rest ∙ (line_parts _ digits name is e).1) in
    let found = rw c.in-Some-2.is at c.in_ok-name.ensures in
    let same = found.1 name text in
    let marked = c.split_mark-is_marked.ensures.marked ∙ (line_parts _ digits name is e).0 in
    different _ _ (c.has_special.ensures ∙ ap (list_any is_special) (c.deref.ensures.value ∙ sym same) ∙ sym marked)
    c.if-has_special-is_marked.true

pub returns-in_default-from_utf8 : goal.returns-in_default-from_utf8
returns-in_default-from_utf8 c = λ digits name is utf8 e.
    let text = same_rest _ _ _ digits (escaped name) c.in-Some.ensures.1 is c.in-Some.ensures.0
    (c.split_mark-is_marked.ensures.rest ∙ (line_parts _ digits name is e).1) in
    let found = rw c.in-Some-2.is at c.in_ok-name.ensures in
    let same = found.1 name text in
    let bad = c.in_default-from_utf8.ensures.succeeds (subst IsUtf8 same utf8) in
    cc
