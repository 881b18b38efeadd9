use Rattle.std.proofs.Common.{◌∙◌, ◌+◌, ◌++◌, [], ◌∷◌, drop, suc, refl, sym, ap, ap₂, subst, arith, cond, not}
use Rattle.std.specs.Prelude.{option_copied}
use Rattle.std.proofs.KnownBytes.{Appends-nil}
use Rattle.std.proofs.lemmas.List.Sums.{sum_by_push}
use Rattle.lvl_report.specs.declared.status.Status.TheVariants.{Same}
use Rattle.lvl_job.specs.Listing.{checked_status, checked_text, file_of_entry, is_same, no_note, worse}
use Rattle.lvl_job.specs.inside.Loops.{IsLoopFault}
use Rattle.lvl_job.proofs.Passing.{all_taken, items_at, items_more, loop_fault, no_notes, pass_more, worst_more}
use Rattle.lvl_job.proofs.checking.check.Goals as goal

pub loop-entry-init : goal.loop-entry-init
loop-entry-init g c = record {
  done = [];
  order = refl;
  pass = record { hashed = refl; whole = Appends-nil _ };
  worst = refl;
  unlike = refl;
  few = omega arith;
  errors = refl;
}

pub loop-entry-preserved : goal.loop-entry-preserved
loop-entry-preserved g c =
    let one = c.in-Ok.ensures.checked in
    let so_far = c.loop-entry.invariant in
    let entry = c.entry-item.result in
    record {
      done = so_far.done ++ (entry, one.hash) ∷ [];
      order = items_more so_far.done c.args.entries.now c.loop-entry.entry-index entry one.hash c.loop-entry-test.true
          c.entry-item.is so_far.order;
      pass = pass_more g.F.Files.opens (file_of_entry c.args.profile (option_copied c.args.top))
          (checked_text c.args.quiet) _ _ _ _ _ _ so_far.done entry one.hash so_far.pass one.hashed one.written;
      worst = c.worse-status.ensures ∙ ap₂ worse so_far.worst one.status
          ∙ sym (worst_more checked_status Same so_far.done entry one.hash);
      unlike = ap₂ ◌+◌ so_far.unlike (c.unlike_of-unlike.ensures.value ∙ ap (λ s. cond (not (is_same s)) 1 0) one.status)
          ∙ sym (sum_by_push _ so_far.done (entry, one.hash));
      few = omega (arith, so_far.few, c.unlike_of-unlike.ensures.few);
      errors = c.in-Ok.ensures.errors ∙ so_far.errors;
    }

pub returns-in-Err-clause-checking : goal.returns-in-Err-clause-checking
returns-in-Err-clause-checking g c =
    let one = c.in-Err.ensures.checked in
    let so_far = c.loop-entry.invariant in
    let entry = c.entry-item.result in
    record {
      checked = tt;
      fault = subst (λ said. IsLoopFault g.F.Files.opens (file_of_entry c.args.profile (option_copied c.args.top))
          (checked_text c.args.quiet) no_note c.args.entries.now c.args.files.now c.check_file.new.files
          (g.O.Write.contents c.args.out.now) (g.O.Write.contents c.check_file.new.out) said c.in-Err.fault) (no_notes so_far.done)
          (loop_fault g.F.Files.opens (file_of_entry c.args.profile (option_copied c.args.top))
          (checked_text c.args.quiet) no_note c.args.entries.now _ _ _ _ _ _ so_far.done entry one.hash
          (drop (suc c.loop-entry.entry-index) c.args.entries.now) c.in-Err.fault
          (items_at so_far.done c.args.entries.now c.loop-entry.entry-index entry c.loop-entry-test.true c.entry-item.is
          so_far.order) so_far.pass one.hashed one.written);
    }

pub returns-clause-checking : goal.returns-clause-checking
returns-clause-checking g c =
    let so_far = c.loop-entry.invariant in
    record {
      checked = record {
        done = so_far.done;
        order = so_far.order ∙ all_taken c.args.entries.now c.loop-entry.entry-index c.loop-entry-test.false
            c.loop-entry.auto.entry-index-end;
        pass = so_far.pass;
        status = so_far.worst;
        unlike = so_far.unlike;
      };
      fault = tt;
    }
