use Rattle.std.proofs.Common.{◌≡◌, ◌≤◌, List, take}
use Rattle.std.specs.Prelude.{option_copied}
use Rattle.lvl_list.specs.declared.entry.Entry.{Entry}
use Rattle.lvl_job.specs.Hashing.{Hash, IsPass, items_of}
use Rattle.lvl_job.specs.Listing.{checked_text, count_unlike, file_of_entry, worst_checked}
use Rattle.lvl_job.proofs.checking.check.Given as goal

-- the files so far were hashed, and their lines written
abbrev pub invariant-loop-entry : goal.invariant-loop-entry
invariant-loop-entry g l = record {
  done : List (Entry × Hash);
  order : items_of done ≡ take l.entry-index l.entries;
  pass : IsPass g.F.Files.opens (file_of_entry l.profile (option_copied l.top)) (checked_text l.quiet) l.fn.files l.files
      (g.O.Write.contents l.fn.out) (g.O.Write.contents l.out) done;
  worst : l.status ≡ worst_checked done;
  unlike : l.unlike ≡ count_unlike done;
  few : l.unlike ≤ l.entry-index;
  errors : g.O.Write.write_errors l.out ≡ g.O.Write.write_errors l.fn.out;
}
