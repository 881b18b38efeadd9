use Rattle.std.proofs.Common.{◌≡◌, ◌∙◌, sym, ap, Some, None}
use Rattle.clap.specs.Words.{first_of, found_of, rows_of}
use Rattle.clap.proofs.WalkLemmas.{first_value-rows}
use Rattle.std.proofs.lemmas.Result.{IfOk-weaker}
use Rattle.lvl_line.proofs.parse.file_of.Goals as goal

pub unreachable-requires : goal.unreachable-requires
unreachable-requires c =
    let none = c.in_default.ensures in
    let is : None ≡ first_of c.args.id.now (rows_of (found_of c.args.matches.now)) =
    none ∙ first_value-rows (found_of c.args.matches.now) c.args.id.now in
    let bad = rw (← is) at c.requires in
    cc

pub returns : goal.returns
returns c =
    let is = sym (first_value-rows (found_of c.args.matches.now) c.args.id.now) ∙ sym c.in-Some.ensures in
    IfOk-weaker c.from_str.result _ _ (λ t h. is ∙ ap Some (sym h)) c.from_str.ensures.ok
