use Rattle.std.proofs.Common.{[], rules, sym, subst, ap, not, arith, ◌∙◌}
use Rattle.lvl.specs.Sides.{IsFileFault}
use Rattle.lvl.proofs.Spelling.{early_rest, unread_rest}
use Rattle.lvl.proofs.Unbegun.{no_bytes, none_given}
use Rattle.lvl.proofs.layout.read_layout_with.Goals as goal

pub returns-in_default-clause-refused : goal.returns-in_default-clause-refused
returns-in_default-clause-refused g c xs known = c.unread.ensures.reported c.args.profile xs

pub returns-then-is_none-clause-refused : goal.returns-then-is_none-clause-refused
returns-then-is_none-clause-refused g c xs known =
    subst (λ ys. IsFileFault c.args.profile ys c.empty.result)
    (sym (no_bytes c.in-Ok.first xs (c.in-Ok.ensures.first xs known) (c.is_none.ensures ∙ ap not c.if-is_none.true)))
    (c.empty.ensures.reported c.args.profile)

pub returns-clause-early : goal.returns-clause-early
returns-clause-early g c xs known =
    early_rest c.args.profile xs _ _ _ c.read_with-read.result
    (c.read_with-read.ensures.early xs (search rules) (c.in-Ok.ensures.first xs known)) (search rules)

pub returns-in_default-clause-unread : goal.returns-in_default-clause-unread
returns-in_default-clause-unread g c xs known =
    none_given c.args.profile xs _ c.unread.result (c.in_default.ensures.kept xs known)
    (c.unread.ensures.unread c.args.profile xs)

pub returns-then-is_none-clause-unread : goal.returns-then-is_none-clause-unread
returns-then-is_none-clause-unread g c xs known = record {
  first = [];
  few = omega arith;
  unread = c.empty.ensures.unread c.args.profile xs _;
}

pub returns-clause-unread : goal.returns-clause-unread
returns-clause-unread g c xs known =
    unread_rest c.args.profile xs _ _ _ c.read_with-read.result
    (c.read_with-read.ensures.unread xs (search rules)) (search rules)
