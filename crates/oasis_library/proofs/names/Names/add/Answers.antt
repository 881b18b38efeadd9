use Rattle.std.proofs.Common.{◌≡◌, ◌∙◌, Bool, true, false, sym, ap}
use Rattle.std.specs.Prelude.{not, unwrap_or}
use Rattle.oasis_library.proofs.Naming.{fresh, name_twice, name_none, name_added}
use Rattle.oasis_library.proofs.names.Names.add.Goals as goal

not_false : (b n : Bool) → n ≡ not b → n ≡ false → b ≡ true
not_false true n e h = cc
not_false false n e h = cc

not_true : (b n : Bool) → n ≡ not b → n ≡ true → b ≡ false
not_true true n e h = cc
not_true false n e h = cc

pub returns-then-not-is_new-clause-refused : goal.returns-then-not-is_new-clause-refused
returns-then-not-is_new-clause-refused c = λ names h.
    let f = fresh c.args.self.now c.args.given.now c.unwrap_or-number.result c.in_ok-from_slice.field-0
    (c.unwrap_or-number.ensures ∙ ap (unwrap_or c.args.given.now.number) c.len.ensures.len)
    (sym c.contains_key.ensures ∙ c.if-contains_key.false) (c.in_ok-from_slice.ensures.items ∙ c.as_bytes-bytes.ensures)
    in
    name_twice c.args.self.now names c.args.given.now c.unwrap_or-number.result c.in_ok-from_slice.field-0 h f
    (not_false _ c.in_ok-is_new.is_new c.in_ok-is_new.ensures.added c.if-not-is_new.true)

pub returns-clause-kept : goal.returns-clause-kept
returns-clause-kept c = λ names h.
    let f = fresh c.args.self.now c.args.given.now c.unwrap_or-number.result c.in_ok-from_slice.field-0
    (c.unwrap_or-number.ensures ∙ ap (unwrap_or c.args.given.now.number) c.len.ensures.len)
    (sym c.contains_key.ensures ∙ c.if-contains_key.false) (c.in_ok-from_slice.ensures.items ∙ c.as_bytes-bytes.ensures)
    in
    name_added c.args.self.now (record { by_number = c.insert-2.new.self; seen = c.insert.new.self }) names
    c.args.given.now c.unwrap_or-number.result c.in_ok-from_slice.field-0 c.in_ok-name.name c.in_ok-insert.field-0 h
    f
    (c.in_ok-name.ensures ∙ c.as_bytes-bytes.ensures) c.in_ok-insert.ensures.old
    c.in_ok-insert.ensures.updates c.in_ok-insert.ensures.len c.in_ok-is_new.ensures.updates

pub returns-clause-none : goal.returns-clause-none
returns-clause-none c = λ names h.
    let f = fresh c.args.self.now c.args.given.now c.unwrap_or-number.result c.in_ok-from_slice.field-0
    (c.unwrap_or-number.ensures ∙ ap (unwrap_or c.args.given.now.number) c.len.ensures.len)
    (sym c.contains_key.ensures ∙ c.if-contains_key.false) (c.in_ok-from_slice.ensures.items ∙ c.as_bytes-bytes.ensures)
    in
    name_none c.args.self.now names c.args.given.now c.unwrap_or-number.result c.in_ok-from_slice.field-0 h f
    (not_true _ c.in_ok-is_new.is_new c.in_ok-is_new.ensures.added c.if-not-is_new.false)
