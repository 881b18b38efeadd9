use Rattle.std.proofs.Common.{◌≡◌, ◌∙◌, sym, ap, Some, None, Option, true, is_some, option_map}
use Rattle.std.specs.Prelude.{slice_get, option_and_then}
use Rattle.std.specs.List.{find}
use Rattle.std.specs.Str.{bytes_eq}
use Rattle.clap.specs.Walk.{Row}
use Rattle.clap.specs.Words.{all_of, found_of, rows_of}
use Rattle.clap.proofs.WalkLemmas.{raw_values-rows}
use Rattle.std.proofs.lemmas.Result.{IfOk-weaker}
use Rattle.lvl_line.proofs.parse.files_of.Goals as goal

-- an argument with a first value has values
has_values : (o : Option Row) → is_some (option_and_then (λ (r : Row). slice_get r.values 0) o) ≡ true
    → None ≡ option_map (λ (r : Row). r.values) o → ⊥
has_values None h e = cc
has_values (Some r) h e = cc

pub unreachable-requires : goal.unreachable-requires
unreachable-requires c =
    let is : None ≡ all_of c.args.id.now (rows_of (found_of c.args.matches.now)) =
    c.in_default.ensures ∙ raw_values-rows (found_of c.args.matches.now) c.args.id.now in
    has_values (find (λ (r : Row). bytes_eq r.id c.args.id.now) (rows_of (found_of c.args.matches.now))) c.requires is

pub returns : goal.returns
returns c =
    let is = sym (raw_values-rows (found_of c.args.matches.now) c.args.id.now) ∙ sym c.in-Some.ensures in
    IfOk-weaker c.copies.result _ _ (λ t h. is ∙ ap Some (sym h)) c.copies.ensures
