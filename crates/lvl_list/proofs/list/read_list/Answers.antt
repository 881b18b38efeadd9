use Rattle.std.proofs.Common.{◌∙◌, sym, inl, rules, ◌+◌}
use Rattle.std.proofs.lemmas.List.{take_rest}
use Rattle.lvl_list.proofs.Lines.{digests_grow, first_front, first_line, list_grows, not_empty}
use Rattle.lvl_list.proofs.list.read_list.Goals as goal

pub returns-in_default-clause-bad : goal.returns-in_default-clause-bad
returns-in_default-clause-bad c = record {
  before = c.loop-rest.entries.items;
  rest = c.loop-rest.rest.now;
  number = search rules;
  parts = c.loop-rest.invariant.parts;
  digests = c.loop-rest.invariant.digests;
  there = inl (not_empty c.loop-rest.rest.now (sym c.is_empty.ensures ∙ c.loop-rest-test.true));
  bad = λ digits name more is utf8 e.
      let found = c.in_default.ensures ∙ first_line c.loop-rest.rest.now digits name more is e in
      cc;
}

pub returns-in_default-2-clause-bad : goal.returns-in_default-2-clause-bad
returns-in_default-2-clause-bad c = record {
  before = c.loop-rest.entries.items;
  rest = c.loop-rest.rest.now;
  number = search rules;
  parts = c.loop-rest.invariant.parts;
  digests = c.loop-rest.invariant.digests;
  there = inl (not_empty c.loop-rest.rest.now (sym c.is_empty.ensures ∙ c.loop-rest-test.true));
  bad = λ digits name more is utf8 e.
      let none = rw c.in_default-2.is at c.in_ok-entry.ensures in
      none digits name is utf8 (first_front c.loop-rest.rest.now digits name more _ is e c.in-Some.ensures);
}

pub loop-rest-preserved : goal.loop-rest-preserved
loop-rest-preserved c =
    let read = rw c.in-Some-2.is at c.in_ok-entry.ensures in
    record {
      parts = list_grows _ c.loop-rest.rest.now _ c.loop-rest.entries.items _ c.in-Some-2.entry c.in-Some.end
          c.loop-rest.invariant.parts c.in-Some.ensures read.0 (take_rest c.loop-rest.rest.now (c.in-Some.end + 1))
          c.in_ok-push.ensures.items;
      digests = digests_grow c.loop-rest.entries.items _ c.in-Some-2.entry c.loop-rest.invariant.digests read.1
          c.in_ok-push.ensures.items;
    }
