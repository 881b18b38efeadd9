-- What a job on several files did, by what its loop did.
use Rattle.std.proofs.Common.{◌≡◌, ◌∙◌, ℕ, Bool, List, [], length, Option, Result, Ok, Err, refl, sym, ap, subst, inl, inr}
use Rattle.std.proofs.Common.{option_map, true}
use Rattle.std.proofs.lemmas.List.{append-nil}
use Rattle.std.specs.Global.{Global}
use Rattle.std.specs.Prelude.{String, string_bytes}
use Rattle.lvl_line.specs.declared.job.Job.{Job}
use Rattle.lvl_line.specs.declared.job.Job.TheVariants.{Cells, Check, Compare, Digest, List as ListJob, Show}
use Rattle.lvl_list.specs.declared.entry.Entry.{Entry}
use Rattle.lvl_profile.specs.declared.profile.Profile.{Profile}
use Rattle.lvl_report.specs.declared.outcome.Outcome.{Outcome}
use Rattle.lvl_job.specs.declared.checking.Tally.{Tally}
use Rattle.lvl_job.specs.declared.fault.JobFault.{JobFault}
use Rattle.lvl_job.specs.declared.fault.JobFault.TheVariants.{BadView, BadIgnore, NotOpened, OutOfMemory, Output}
use Rattle.lvl_job.specs.declared.fault.JobFault.TheVariants.{BadLine, LongList, UnreadList}
use Rattle.lvl_job.specs.Done.{Change, IsCheckFault, IsDone, IsListFault, IsOneDone}
use Rattle.lvl_job.specs.Hashing.{IsPart, items_of}
use Rattle.lvl_job.specs.Jobs.{IsProfileAsked, has_one_answer}
use Rattle.lvl_job.specs.Listing.{checked_text, ended_with, file_of_entry, file_of_name, name_listed, name_unlisted}
use Rattle.lvl_job.specs.Listing.{no_note, summary_text}
use Rattle.lvl_job.specs.inside.Loops.{IsCheckedAll, IsEntries, IsListing, IsLoopFault, IsNoEntries}
use Rattle.lvl_job.specs.inside.Steps.{Says, Speaking}
use Rattle.lvl_job.specs.inside.Told.{IsCheckTold, IsEntriesTold, IsListTold, IsSummary}
use Rattle.lvl_job.proofs.Passing.{no_notes}
use Rattle.lvl_report.proofs.Running.{keeps_same}
use Rattle.lvl_job.proofs.Telling.{says_nothing}
use Rattle.lvl_job.specs.Opening.{Opened}
use Rattle.lvl_job.specs.declared.files.Look.{Look}

module _ {S : Type 0} (opens : S → List ℕ → Opened → S → Type 0) where
  -- a job with one answer
  pub one_done : (looks : S → List ℕ → Look → Type 0) (job : Job) (old new : S) (out err : Change) (r : Result Outcome JobFault) → has_one_answer job ≡ true
      → IsOneDone opens looks job old new out err r → IsDone opens looks job old new out err r
  one_done looks (Compare a b c d e f g h i j k) old new out err r one done = done
  one_done looks (Show a b c d e) old new out err r one done = done
  one_done looks (Digest a b c d e) old new out err r one done = done
  one_done looks (Cells a b c d) old new out err r one done = done
  one_done looks (ListJob a b c d e) old new out err r one done = cc
  one_done looks (Check a b c d e f) old new out err r one done = cc

  -- the check of the entries ends with its summary
  pub entries_told : (entries : List Entry) (quiet : Bool) (profile : Profile) (top : Option (List ℕ)) (old new : S)
      (from to : Option (List ℕ)) (tally : Tally) (a b : Speaking) (r : Result Outcome JobFault)
      → IsCheckedAll opens entries quiet profile top old new from to tally → IsSummary tally (length entries) a b r
      → IsEntriesTold opens entries quiet profile top old new from to a b r
  entries_told entries quiet profile top old new from to tally a b (Ok outcome) all s = record {
    said = summary_text tally.unlike (length entries);
    checked = record {
      done = all.done;
      order = all.order;
      pass = all.pass;
      said_is = ap (λ n. summary_text n (length entries)) all.unlike;
      ends = s.0 ∙ ap ended_with all.status;
    };
    fault = tt;
    told = s.1;
  }
  entries_told entries quiet profile top old new from to tally a b (Err fault) all s = record {
    said = [];
    checked = tt;
    fault =
        subst (IsLoopFault opens (file_of_entry profile top) (checked_text quiet) no_note entries old new from to [])
        (sym s.0) part;
    told = subst (Says [] a) (sym s.1) (says_nothing a);
  }
    where
      part : IsPart opens (file_of_entry profile top) (checked_text quiet) no_note entries old from to []
      part = record {
        done = all.done;
        rest = [];
        new = new;
        order = sym all.order ∙ sym (append-nil (items_of all.done));
        pass = all.pass;
        said_is = sym (no_notes all.done);
      }

  module _ (top : Option (List ℕ)) (ignored : Option (String Global)) (large unpack : Bool) (profile : Profile)
      (asked : IsProfileAsked (option_map string_bytes ignored) large unpack profile) where
    list_fault : (names : List (String Global)) (old new : S) (from to : Option (List ℕ)) (said : List ℕ) (f : JobFault)
        → IsLoopFault opens (file_of_name profile top) name_listed name_unlisted names old new from to said f
        → IsListFault opens names top ignored large unpack old new from to said f
    list_fault names old new from to said OutOfMemory h = inr (record { profile = profile; asked = asked; holds = h })
    list_fault names old new from to said Output h = record { profile = profile; asked = asked; holds = h }
    list_fault names old new from to said (BadView f) h = absurd h
    list_fault names old new from to said (BadIgnore f) h = absurd h
    list_fault names old new from to said (NotOpened name why) h = absurd h
    list_fault names old new from to said (UnreadList name) h = absurd h
    list_fault names old new from to said (LongList name) h = absurd h
    list_fault names old new from to said (BadLine name n) h = absurd h

    -- a list under its profile
    pub list_told : (names : List (String Global)) (old new : S) (from to : Option (List ℕ)) (a b : Speaking)
        (r : Result Outcome JobFault) → IsListing opens names profile top old new from to a b r
        → IsListTold opens names top ignored large unpack old new from to a b r
    list_told names old new from to a b (Ok outcome) h = record {
      said = h.said;
      listed = record { profile = profile; asked = asked; holds = h.listed };
      fault = tt;
      told = h.told;
    }
    list_told names old new from to a b (Err f) h = record {
      said = h.said;
      listed = tt;
      fault = list_fault names old new from to h.said f h.fault;
      told = h.told;
    }

    module _ (list : List ℕ) (quiet : Bool) where
      check_fault : (old mid new : S) (from to : Option (List ℕ)) (said : List ℕ) (entries : List Entry) (f : JobFault)
          → IsEntries opens list old mid entries
          → IsLoopFault opens (file_of_entry profile top) (checked_text quiet) no_note entries mid new from to said f
          → IsCheckFault opens list quiet top ignored large unpack old new from to said f
      check_fault old mid new from to said entries OutOfMemory read h = inr (record {
        profile = profile;
        asked = asked;
        holds = record {
          bytes = read.bytes;
          new = mid;
          entries = entries;
          errors = read.errors;
          opened = read.opened;
          reads = read.reads;
          listed = read.listed;
          holds = h;
        };
      })
      check_fault old mid new from to said entries Output read h = record {
        profile = profile;
        asked = asked;
        holds = record {
          bytes = read.bytes;
          new = mid;
          entries = entries;
          errors = read.errors;
          opened = read.opened;
          reads = read.reads;
          listed = read.listed;
          holds = h;
        };
      }
      check_fault old mid new from to said entries (BadView f) read h = absurd h
      check_fault old mid new from to said entries (BadIgnore f) read h = absurd h
      check_fault old mid new from to said entries (NotOpened name why) read h = absurd h
      check_fault old mid new from to said entries (UnreadList name) read h = absurd h
      check_fault old mid new from to said entries (LongList name) read h = absurd h
      check_fault old mid new from to said entries (BadLine name n) read h = absurd h

      -- the check of a list that was read
      pub check_told : (old mid new : S) (from to : Option (List ℕ)) (a b : Speaking) (entries : List Entry)
          (r : Result Outcome JobFault) → IsEntries opens list old mid entries
          → IsEntriesTold opens entries quiet profile top mid new from to a b r
          → IsCheckTold opens list quiet top ignored large unpack old new from to a b r
      check_told old mid new from to a b entries (Ok outcome) read h = record {
        said = h.said;
        checked = record {
          profile = profile;
          asked = asked;
          holds = record {
            bytes = read.bytes;
            new = mid;
            entries = entries;
            errors = read.errors;
            opened = read.opened;
            reads = read.reads;
            listed = read.listed;
            holds = h.checked;
          };
        };
        fault = tt;
        told = h.told;
      }
      check_told old mid new from to a b entries (Err f) read h = record {
        said = h.said;
        checked = tt;
        fault = check_fault old mid new from to h.said entries f read h.fault;
        told = h.told;
      }

      no_entries : (old new : S) (from : Option (List ℕ)) (f : JobFault)
          → IsNoEntries opens list profile.limits.file old new f
          → IsCheckFault opens list quiet top ignored large unpack old new from from [] f
      no_entries old new from (NotOpened name why) h = (h.0, h.1, keeps_same from, refl)
      no_entries old new from (UnreadList name) h = (h.0, h.1, keeps_same from, refl)
      no_entries old new from (LongList name) h =
          (h.0, record { profile = profile; asked = asked; holds = h.1 }, keeps_same from, refl)
      no_entries old new from (BadLine name n) h = (h.0, h.1, keeps_same from, refl)
      no_entries old new from OutOfMemory h = inl (keeps_same from, refl)
      no_entries old new from Output h = absurd h
      no_entries old new from (BadView f) h = absurd h
      no_entries old new from (BadIgnore f) h = absurd h

      -- a list that wasn't read
      pub unread_told : (old new : S) (from : Option (List ℕ)) (a : Speaking) (f : JobFault)
          → IsNoEntries opens list profile.limits.file old new f
          → IsCheckTold opens list quiet top ignored large unpack old new from from a a (Err f)
      unread_told old new from a f h = record {
        said = [];
        checked = tt;
        fault = no_entries old new from f h;
        told = says_nothing a;
      }
