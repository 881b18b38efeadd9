use Rattle.std.proofs.Common.{◌∙◌, sym, ap, false, Bool, List, length, nat_lt}
use Rattle.std.specs.Prelude.{Option}
use Rattle.std.specs.Option.{option_map_or}
use Rattle.std.specs.Borrow.{Bor}
use Rattle.std.proofs.lemmas.List.{length-map}
use Rattle.clap.specs.Walk.{Text}
use Rattle.clap.specs.Words.{found_of}
use Rattle.clap.proofs.WalkLemmas.{raw_values-rows}
use Rattle.lvl_line.proofs.parse.is_several.Goals as goal

abbrev several : Option (List Text) → Bool
several o = option_map_or (λ (v : List Text). nat_lt 1 (length v)) o false

pub returns-in-Some : goal.returns-in-Some
returns-in-Some c =
    ap (nat_lt 1) (sym (length-map c.in-Some.texts.now (λ (s : Bor Text). s.now)))
    ∙ sym (ap several (sym (raw_values-rows (found_of c.args.matches.now) c.args.id.now) ∙ sym c.in-Some.ensures))

pub returns-in-None : goal.returns-in-None
returns-in-None c =
    sym (ap several (sym (raw_values-rows (found_of c.args.matches.now) c.args.id.now) ∙ sym c.in-None.ensures))
