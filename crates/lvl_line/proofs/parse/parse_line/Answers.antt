use Rattle.std.proofs.Common.{◌≡◌, ◌∙◌, sym, ap, subst, inl, inr, Some, map, List, []}
use Rattle.std.proofs.lemmas.Result.{IfOk-weaker}
use Rattle.clap.specs.Words.{App, app_of, found_of, rows_of, takes, subcommand_of, subcommand_rows_of}
use Rattle.clap.specs.Walk.{Text}
use Rattle.clap.specs.Faults.{fault_of, is_simple_and_free}
use Rattle.clap.specs.Simple.{is_simple}
use Rattle.clap.specs.Kinds.{HasKind}
use Rattle.lvl_line.specs.Line.{line, IsNamed, IsRefusal}
use Rattle.lvl_line.proofs.Lines.{conflict_refused, conflict_taken, line_gives, pair_of}
use Rattle.lvl_line.proofs.parse.parse_line.Goals as goal

pub returns-in-Err-clause-refused : goal.returns-in-Err-clause-refused
returns-in-Err-clause-refused c =
    let words : List Text = map (λ s. s.now) c.args.words.now in
    let app_is : app_of c.in-Ok.command ≡ line = c.in-Ok.ensures in
    let kinds : HasKind (fault_of (app_of c.in-Ok.command) words) c.in-Err.error =
    c.in-Err.ensures.kinds (ap is_simple_and_free app_is) in
    let here : HasKind (fault_of line words) c.in-Err.error =
    subst (λ (a : App). HasKind (fault_of a words) c.in-Err.error) app_is kinds in
    elim c.refused.ensures [
      | inl memory ↦ subst (IsRefusal words) (sym memory) (tt {0})
      | inr other ↦ subst (IsRefusal words) (sym other.1)
          (inl (elim here [ inl m ↦ absurd (other.0 m) | inr among ↦ among ]))
    ]

pub returns-in-Err-clause-taken : goal.returns-in-Err-clause-taken
returns-in-Err-clause-taken c = λ taken.
    let words : List Text = map (λ s. s.now) c.args.words.now in
    let app_is : app_of c.in-Ok.command ≡ line = c.in-Ok.ensures in
    let memory = c.in-Err.ensures.passes (ap (λ (a : App). takes a words) app_is ∙ taken) in
    elim c.refused.ensures [ inl m ↦ inl m | inr other ↦ absurd (other.0 memory) ]

pub job_of-requires : goal.job_of-requires
job_of-requires c =
    let words : List Text = map (λ s. s.now) c.args.words.now in
    let app_is : app_of c.in-Ok.command ≡ line = c.in-Ok.ensures in
    let kinds : fault_of line words ≡ [] =
    ap (λ (a : App). fault_of a words) (sym app_is)
    ∙ c.in-Ok-try_get_matches_from.ensures.kinds (ap is_simple_and_free app_is) in
    let found : subcommand_rows_of c.in-Ok-try_get_matches_from.matches ≡ subcommand_of line words =
    (c.in-Ok-try_get_matches_from.ensures.matches (ap is_simple app_is)).1
    ∙ ap (λ (a : App). subcommand_of a words) app_is in
    let both : subcommand_rows_of c.in-Ok-try_get_matches_from.matches
    ≡ Some (c.in-Some.name.now, rows_of (found_of c.in-Some.matches.now)) =
    pair_of _ _ _ _ _ c.in-Some.ensures.name c.in-Some.ensures.rows in
    line_gives words c.in-Some.name.now (rows_of (found_of c.in-Some.matches.now)) kinds (sym found ∙ both)

pub returns-clause-job : goal.returns-clause-job
returns-clause-job c =
    let words : List Text = map (λ s. s.now) c.args.words.now in
    let app_is : app_of c.in-Ok.command ≡ line = c.in-Ok.ensures in
    let found : subcommand_rows_of c.in-Ok-try_get_matches_from.matches ≡ subcommand_of line words =
    (c.in-Ok-try_get_matches_from.ensures.matches (ap is_simple app_is)).1
    ∙ ap (λ (a : App). subcommand_of a words) app_is in
    let both : subcommand_rows_of c.in-Ok-try_get_matches_from.matches
    ≡ Some (c.in-Some.name.now, rows_of (found_of c.in-Some.matches.now)) =
    pair_of _ _ _ _ _ c.in-Some.ensures.name c.in-Some.ensures.rows in
    IfOk-weaker c.job_of.result _ _ (λ job h. subst (IsNamed job) (sym both ∙ found) h) c.job_of.ensures.job

pub returns-clause-refused : goal.returns-clause-refused
returns-clause-refused c =
    let words : List Text = map (λ s. s.now) c.args.words.now in
    let app_is : app_of c.in-Ok.command ≡ line = c.in-Ok.ensures in
    let kinds : fault_of line words ≡ [] =
    ap (λ (a : App). fault_of a words) (sym app_is)
    ∙ c.in-Ok-try_get_matches_from.ensures.kinds (ap is_simple_and_free app_is) in
    let found : subcommand_rows_of c.in-Ok-try_get_matches_from.matches ≡ subcommand_of line words =
    (c.in-Ok-try_get_matches_from.ensures.matches (ap is_simple app_is)).1
    ∙ ap (λ (a : App). subcommand_of a words) app_is in
    let both : subcommand_rows_of c.in-Ok-try_get_matches_from.matches
    ≡ Some (c.in-Some.name.now, rows_of (found_of c.in-Some.matches.now)) =
    pair_of _ _ _ _ _ c.in-Some.ensures.name c.in-Some.ensures.rows in
    conflict_refused words c.job_of.result (Some (c.in-Some.name.now, rows_of (found_of c.in-Some.matches.now)))
    kinds (sym found ∙ both) c.job_of.ensures.fault

pub returns-clause-taken : goal.returns-clause-taken
returns-clause-taken c = λ taken.
    let words : List Text = map (λ s. s.now) c.args.words.now in
    let app_is : app_of c.in-Ok.command ≡ line = c.in-Ok.ensures in
    let found : subcommand_rows_of c.in-Ok-try_get_matches_from.matches ≡ subcommand_of line words =
    (c.in-Ok-try_get_matches_from.ensures.matches (ap is_simple app_is)).1
    ∙ ap (λ (a : App). subcommand_of a words) app_is in
    let both : subcommand_rows_of c.in-Ok-try_get_matches_from.matches
    ≡ Some (c.in-Some.name.now, rows_of (found_of c.in-Some.matches.now)) =
    pair_of _ _ _ _ _ c.in-Some.ensures.name c.in-Some.ensures.rows in
    conflict_taken words c.job_of.result (Some (c.in-Some.name.now, rows_of (found_of c.in-Some.matches.now)))
    (sym found ∙ both) c.job_of.ensures.fault
