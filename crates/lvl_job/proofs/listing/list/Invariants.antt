use Rattle.std.proofs.Common.{◌≡◌, List, take}
use Rattle.std.specs.Global.{Global}
use Rattle.std.specs.Prelude.{String, option_copied}
use Rattle.lvl_job.specs.Hashing.{Hash, IsPass, items_of, texts_of}
use Rattle.lvl_job.specs.Listing.{file_of_name, name_listed, name_unlisted, worst_listed}
use Rattle.lvl_job.specs.inside.Steps.{Says}
use Rattle.lvl_job.proofs.listing.list.Given as goal

-- the files so far were hashed, their lines written, and why a file has none was said
abbrev pub invariant-loop-name : goal.invariant-loop-name
invariant-loop-name g l = record {
  done : List (String Global × Hash);
  order : items_of done ≡ take l.name-index l.names;
  pass : IsPass g.F.Files.opens (file_of_name l.profile (option_copied l.top)) name_listed l.fn.files l.files
      (g.O.Write.contents l.fn.out) (g.O.Write.contents l.out) done;
  told : Says (texts_of name_unlisted done)
      (record { so_far = l.fn.said; contents = g.E.Write.contents l.fn.err; errors = g.E.Write.write_errors l.fn.err })
      (record { so_far = l.said; contents = g.E.Write.contents l.err; errors = g.E.Write.write_errors l.err });
  worst : l.status ≡ worst_listed done;
  errors : g.O.Write.write_errors l.out ≡ g.O.Write.write_errors l.fn.out;
}
