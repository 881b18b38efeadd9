use Rattle.std.proofs.Common.{◌∙◌, sym, ap, false, Bool, List, nat_lt}
use Rattle.std.specs.Prelude.{Option, count_by}
use Rattle.std.specs.Option.{option_map_or}
use Rattle.clap.specs.Walk.{Text}
use Rattle.clap.specs.Words.{found_of}
use Rattle.clap.proofs.WalkLemmas.{raw_values-rows}
use Rattle.lvl_line.specs.Line.{is_input_name}
use Rattle.lvl_line.proofs.parse.is_listed_twice.Goals as goal

abbrev twice : Option (List Text) → Bool
twice o = option_map_or (λ (v : List Text). nat_lt 1 (count_by is_input_name v)) o false

pub returns-in-Some : goal.returns-in-Some
returns-in-Some c =
    ap (nat_lt 1) c.count_inputs.ensures
    ∙ sym (ap twice (sym (raw_values-rows (found_of c.args.matches.now) c.args.id.now) ∙ sym c.in-Some.ensures))

pub returns-in-None : goal.returns-in-None
returns-in-None c =
    sym (ap twice (sym (raw_values-rows (found_of c.args.matches.now) c.args.id.now) ∙ sym c.in-None.ensures))
