-- What a job did, by what its steps did.
use Rattle.std.proofs.Common.{Bool, ◌≡◌, ℕ, List, Option, Result, Ok, Err, IfOk, IfErr, refl, sym, subst, option_map}
use Rattle.std.specs.Global.{Global}
use Rattle.std.specs.Prelude.{String, string_bytes}
use Rattle.std.specs.Io.KnownBytes.{Keeps}
use Rattle.lvl.specs.Readers.{Input, input}
use Rattle.lvl.specs.declared.question.Question.{Question}
use Rattle.lvl_line.specs.declared.job.Job.{Job}
use Rattle.lvl_line.specs.declared.job.Job.TheVariants.{Compare}
use Rattle.lvl_profile.specs.declared.profile.Profile.{Profile}
use Rattle.lvl_report.specs.Runs.{IsFileRun, IsQuestionRun}
use Rattle.lvl_report.specs.declared.outcome.Outcome.{Outcome}
use Rattle.lvl_report.specs.declared.runs.Wanted.{Wanted}
use Rattle.lvl_report.specs.declared.status.RunFault.{RunFault}
use Rattle.lvl_report.specs.declared.status.RunFault.TheVariants.{Output as RunOutput, OutOfMemory as RunOutOfMemory}
use Rattle.lvl_report.proofs.Running.{keeps_same}
use Rattle.lvl_view.specs.Views.{IsViewOf, PlainView}
use Rattle.lvl_job.specs.declared.fault.JobFault.{JobFault}
use Rattle.lvl_job.specs.declared.fault.JobFault.TheVariants.{BadView, BadIgnore, NotOpened, OutOfMemory, Output}
use Rattle.lvl_job.specs.declared.fault.JobFault.TheVariants.{BadLine, LongList, UnreadList}
use Rattle.lvl_job.specs.Jobs.{IsFaultBy, IsFaultOfJob, IsFileFault, IsJobRun, IsMissing, IsProfileAsked, Named, OfOne}
use Rattle.lvl_job.specs.Jobs.{OfTwo, UnderProfile, UnderView, named}
use Rattle.lvl_job.specs.inside.Parts.{IsNoIgnore, IsPairRun, IsViewFault, fault_of_run}
use Rattle.lvl_job.specs.Opening.{Opened}
use Rattle.lvl_job.specs.declared.files.OpenFault.{OpenFault}

-- a run with this fault
abbrev pub failed_run : RunFault → Result Outcome RunFault
failed_run fault = Err fault

module _ {S : Type 0} (opens : S → List ℕ → Opened → S → Type 0) where
  pub of_one : (old new : S) (a : Named) (xs left : Option (List ℕ)) (e after : ℕ) (Holds : Input → Type 0)
      → opens old a.name (Ok xs) new → e ≡ 0 → Holds (input a.profile xs left e after a.top)
      → OfOne opens old new a Holds
  of_one old new a xs left e after Holds opened fresh holds = record {
    bytes = xs;
    left = record { bytes = left; errors = after };
    opened = opened;
    holds = (let P : ℕ → Type 0 = λ n. Holds (input a.profile xs left n after a.top) in subst P fresh holds);
  }

  pub of_two : (old between new : S) (a b : Named) (xs ys left rest : Option (List ℕ)) (e f after later : ℕ)
      (Holds : Input → Input → Type 0)
      → opens old a.name (Ok xs) between → opens between b.name (Ok ys) new → e ≡ 0 → f ≡ 0
      → Holds (input a.profile xs left e after a.top) (input b.profile ys rest f later b.top)
      → OfTwo opens old new a b Holds
  of_two old between new a b xs ys left rest e f after later Holds first second fresh new_too holds = record {
    first = xs;
    second = ys;
    between = between;
    first_left = record { bytes = left; errors = after };
    second_left = record { bytes = rest; errors = later };
    first_opened = first;
    second_opened = second;
    holds =
        (let P : ℕ → Type 0 = λ n. Holds (input a.profile xs left n after a.top)
        (input b.profile ys rest f later b.top) in
        let Q : ℕ → Type 0 = λ n. Holds (input a.profile xs left 0 after a.top) (input b.profile ys rest n later b.top) in
        subst Q new_too (subst P fresh holds));
  }

  module _ (wanted : Wanted) (file : String Global) (top ignored : Option (String Global)) (is_large unpack : Bool) where
    -- the text of what is ignored gives no set
    pub file_ignored : (s : S) (from : Option (List ℕ)) (fault : JobFault) → IsNoIgnore (option_map string_bytes ignored) fault
        → IsFileFault opens wanted file top ignored is_large unpack s s from from fault
    file_ignored s from (BadView fault) h = absurd h
    file_ignored s from (BadIgnore fault) h = (h, refl, keeps_same from)
    file_ignored s from (NotOpened name why) h = absurd h
    file_ignored s from (UnreadList name) h = absurd h
    file_ignored s from (LongList name) h = absurd h
    file_ignored s from (BadLine name n) h = absurd h
    file_ignored s from OutOfMemory h = keeps_same from
    file_ignored s from Output h = absurd h

    module _ (profile : Profile) (given : IsProfileAsked (option_map string_bytes ignored) is_large unpack profile)
        (old new : S) where
      -- the file wasn't opened
      pub file_missing : (from : Option (List ℕ)) (why : OpenFault) (fault : JobFault) → fault ≡ NotOpened file why
          → opens old (string_bytes file) (Err why) new
          → IsFileFault opens wanted file top ignored is_large unpack old new from from fault
      file_missing from why fault is opened =
          subst (IsFileFault opens wanted file top ignored is_large unpack old new from from) (sym is)
          (record { profile = profile; asked = given; holds = (refl, opened) }, keeps_same from)

      -- the run failed
      pub file_cut : (from to : Option (List ℕ)) (fault : RunFault) (reported : JobFault) → reported ≡ fault_of_run fault
          → OfOne opens old new (named profile file top) (λ a. IsFileRun wanted a from to (Err fault))
          → (failed_run fault ≡ Err RunOutOfMemory → Keeps from to)
          → IsFileFault opens wanted file top ignored is_large unpack old new from to reported
      file_cut from to fault reported is run nothing =
          subst (IsFileFault opens wanted file top ignored is_large unpack old new from to) (sym is) (go fault run nothing)
        where
          go : (fault : RunFault)
              → OfOne opens old new (named profile file top) (λ a. IsFileRun wanted a from to (Err fault))
              → (failed_run fault ≡ Err RunOutOfMemory → Keeps from to)
              → IsFileFault opens wanted file top ignored is_large unpack old new from to (fault_of_run fault)
          go RunOutput run none = record { profile = profile; asked = given; holds = run }
          go RunOutOfMemory run none = none refl

  module _ (q : Question) (first second : String Global) (old new : S) (from to : Option (List ℕ)) where
    abbrev Fault : JobFault → Type 0
    Fault = IsFaultBy (λ fault. ⊥) ⊥ (IsMissing opens old new (string_bytes first) (string_bytes second))
        (IsPairRun opens q first second old new from to (Err RunOutput)) old new from to

    -- a run on two files failed
    pub pair_cut : (fault : RunFault) (reported : JobFault) → reported ≡ fault_of_run fault
        → IsPairRun opens q first second old new from to (Err fault)
        → (failed_run fault ≡ Err RunOutOfMemory → Keeps from to) → Fault reported
    pair_cut fault reported is run nothing = subst Fault (sym is) (go fault run nothing)
      where
        go : (fault : RunFault) → IsPairRun opens q first second old new from to (Err fault)
            → (failed_run fault ≡ Err RunOutOfMemory → Keeps from to) → Fault (fault_of_run fault)
        go RunOutput run none = run
        go RunOutOfMemory run none = none refl

  module _ (first second : String Global) (top_a top_b map_text window_text ignored : Option (String Global))
      (is_large unpack why units : Bool) where
    abbrev job : Job
    job = Compare first second top_a top_b map_text window_text ignored is_large unpack why units

    -- the texts of a map and a window give no view
    pub view_fault : (s : S) (from : Option (List ℕ)) (fault : JobFault)
        → IsViewFault (option_map string_bytes map_text) (option_map string_bytes window_text) fault
        → IsFaultOfJob opens job s s from from fault
    view_fault s from (BadView fault) h = (h, refl, keeps_same from)
    view_fault s from (BadIgnore fault) h = absurd h
    view_fault s from (NotOpened name reason) h = absurd h
    view_fault s from (UnreadList name) h = absurd h
    view_fault s from (LongList name) h = absurd h
    view_fault s from (BadLine name n) h = absurd h
    view_fault s from OutOfMemory h = keeps_same from
    view_fault s from Output h = absurd h

    module _ (view : PlainView)
        (seen : IsViewOf (option_map string_bytes map_text) (option_map string_bytes window_text) view) where
      -- they give a view, but the text of what is ignored gives no set
      pub ignore_fault : (s : S) (from : Option (List ℕ)) (fault : JobFault)
          → IsNoIgnore (option_map string_bytes ignored) fault → IsFaultOfJob opens job s s from from fault
      ignore_fault s from (BadView fault) h = absurd h
      ignore_fault s from (BadIgnore fault) h =
          (record { view = view; asked = seen; holds = h }, refl, keeps_same from)
      ignore_fault s from (NotOpened name reason) h = absurd h
      ignore_fault s from (UnreadList name) h = absurd h
      ignore_fault s from (LongList name) h = absurd h
      ignore_fault s from (BadLine name n) h = absurd h
      ignore_fault s from OutOfMemory h = keeps_same from
      ignore_fault s from Output h = absurd h

      module _ (profile : Profile) (given : IsProfileAsked (option_map string_bytes ignored) is_large unpack profile)
          (old new : S) (from to : Option (List ℕ)) (r : Result Outcome JobFault) where
        abbrev Ran : Result Outcome RunFault → Type 0
        Ran ended = OfTwo opens old new (named profile first top_a) (named profile second top_b)
            (λ a b. IsQuestionRun (record { view = view; why = why; units = units }) a b from to ended)

        both : {Holds : Type 0} → Holds
            → UnderView map_text window_text (λ view. UnderProfile ignored is_large unpack (λ profile. Holds))
        both h = record { view = view; asked = seen; holds = record { profile = profile; asked = given; holds = h } }

        pub job_answered : IfOk r (λ outcome. Ran (Ok outcome))
            → IfOk r (λ outcome. IsJobRun opens job old new from to (Ok outcome))
        job_answered h = go r h
          where
            go : (r : Result Outcome JobFault) → IfOk r (λ outcome. Ran (Ok outcome))
                → IfOk r (λ outcome. IsJobRun opens job old new from to (Ok outcome))
            go (Ok outcome) h =
                record { view = view; asked = seen; holds = record { profile = profile; asked = given; holds = h } }
            go (Err fault) h = tt

        pub job_fault : IfErr r (IsFaultBy (λ fault. ⊥) ⊥
            (IsMissing opens old new (string_bytes first) (string_bytes second)) (Ran (Err RunOutput)) old new from to)
            → IfErr r (IsFaultOfJob opens job old new from to)
        job_fault h = go r h
          where
            go : (r : Result Outcome JobFault) → IfErr r (IsFaultBy (λ fault. ⊥) ⊥
                (IsMissing opens old new (string_bytes first) (string_bytes second)) (Ran (Err RunOutput)) old new from to)
                → IfErr r (IsFaultOfJob opens job old new from to)
            go (Ok outcome) h = tt
            go (Err (BadView fault)) h = absurd h.0
            go (Err (BadIgnore fault)) h = absurd h.0
            go (Err (NotOpened name reason)) h = (both h.0, h.1)
            go (Err (UnreadList name)) h = absurd h
            go (Err (LongList name)) h = absurd h
            go (Err (BadLine name n)) h = absurd h
            go (Err OutOfMemory) h = h
            go (Err Output) h =
                record { view = view; asked = seen; holds = record { profile = profile; asked = given; holds = h } }
