use Rattle.std.proofs.Common.{◌∙◌, ◌++◌, [], ◌∷◌, drop, suc, refl, sym, ap, ap₂, subst}
use Rattle.std.specs.Prelude.{option_copied}
use Rattle.std.proofs.KnownBytes.{Appends-nil}
use Rattle.lvl_report.specs.declared.status.Status.TheVariants.{Shown}
use Rattle.lvl_job.specs.Hashing.{texts_of}
use Rattle.lvl_job.specs.Listing.{ended_with, file_of_name, listed_status, name_listed, name_unlisted, worse}
use Rattle.lvl_job.specs.inside.Steps.{Says}
use Rattle.lvl_job.proofs.Passing.{all_taken, items_at, items_more, loop_fault, pass_more, texts_more, worst_more}
use Rattle.lvl_job.proofs.Telling.{says_nothing, says_same, says_then}
use Rattle.lvl_job.proofs.listing.list.Goals as goal

pub loop-name-init : goal.loop-name-init
loop-name-init g c = record {
  done = [];
  order = refl;
  pass = record { hashed = refl; whole = Appends-nil _ };
  told = says_nothing _;
  worst = refl;
  errors = refl;
}

pub loop-name-preserved : goal.loop-name-preserved
loop-name-preserved g c =
    let one = rw c.as_str.ensures.value at c.in-Ok.ensures.listed in
    let so_far = c.loop-name.invariant in
    let name = c.name-item.result in
    record {
      done = so_far.done ++ (name, one.hash) ∷ [];
      order = items_more so_far.done c.args.names.now c.loop-name.name-index name one.hash c.loop-name-test.true
          c.name-item.is so_far.order;
      pass = pass_more g.F.Files.opens (file_of_name c.args.profile (option_copied c.args.top)) name_listed _ _ _ _ _ _
          so_far.done name one.hash so_far.pass one.hashed one.written;
      told = says_same _ _ _ _ (texts_more name_unlisted so_far.done name one.hash)
          (says_then _ _ _ _ _ so_far.told one.noted);
      worst = c.worse-status.ensures ∙ ap₂ worse so_far.worst one.status
          ∙ sym (worst_more (λ name hash. listed_status hash) Shown so_far.done name one.hash);
      errors = c.in-Ok.ensures.errors ∙ so_far.errors;
    }

pub returns-in-Err-clause-listing : goal.returns-in-Err-clause-listing
returns-in-Err-clause-listing g c =
    let one = rw c.as_str.ensures.value at c.in-Err.ensures.listed in
    let so_far = c.loop-name.invariant in
    let name = c.name-item.result in
    record {
      said = texts_of name_unlisted so_far.done;
      listed = tt;
      fault = loop_fault g.F.Files.opens (file_of_name c.args.profile (option_copied c.args.top)) name_listed
          name_unlisted c.args.names.now _ _ _ _ _ _ so_far.done name one.hash
          (drop (suc c.loop-name.name-index) c.args.names.now) c.in-Err.fault
          (items_at so_far.done c.args.names.now c.loop-name.name-index name c.loop-name-test.true c.name-item.is
          so_far.order) so_far.pass one.hashed one.written;
      told = subst (Says (texts_of name_unlisted so_far.done) _) (sym one.noted) so_far.told;
    }

pub returns-clause-listing : goal.returns-clause-listing
returns-clause-listing g c =
    let so_far = c.loop-name.invariant in
    record {
      said = texts_of name_unlisted so_far.done;
      listed = record {
        done = so_far.done;
        order = so_far.order ∙ all_taken c.args.names.now c.loop-name.name-index c.loop-name-test.false
            c.loop-name.auto.name-index-end;
        pass = so_far.pass;
        said_is = refl;
        ends = ap ended_with so_far.worst;
      };
      fault = tt;
      told = so_far.told;
    }
