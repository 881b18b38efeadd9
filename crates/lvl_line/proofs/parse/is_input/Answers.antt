use Rattle.std.proofs.Common.{◌∙◌, sym, ap, codes, false, Bool, List, ℕ}
use Rattle.std.specs.Prelude.{Option}
use Rattle.std.specs.Option.{option_map_or}
use Rattle.std.specs.Str.{bytes_eq}
use Rattle.clap.specs.Words.{found_of}
use Rattle.clap.proofs.WalkLemmas.{first_value-rows}
use Rattle.lvl_line.proofs.parse.is_input.Goals as goal

abbrev is_dash : Option (List ℕ) → Bool
is_dash o = option_map_or (λ (text : List ℕ). bytes_eq text (codes "-")) o false

pub returns-in-Some : goal.returns-in-Some
returns-in-Some c =
    c.is_input_name.ensures
    ∙ sym (ap is_dash (sym (first_value-rows (found_of c.args.matches.now) c.args.id.now) ∙ sym c.in-Some.ensures))

pub returns-in-None : goal.returns-in-None
returns-in-None c =
    sym (ap is_dash (sym (first_value-rows (found_of c.args.matches.now) c.args.id.now) ∙ sym c.in-None.ensures))
