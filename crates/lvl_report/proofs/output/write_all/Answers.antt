use Rattle.std.proofs.Common.{◌≡◌, ℕ, List, refl, take, drop, length, ◌-◌, ◌++◌, ap, ◌∙◌, sym, append_assoc}
use Rattle.std.proofs.Common.{take-append-drop, rules}
use Rattle.std.proofs.lemmas.List.{take_rest}
use Rattle.std.proofs.KnownBytes.{Appends-nil, Appends-trans}
use Rattle.lvl_report.proofs.output.write_all.Goals as goal

pub loop-rest-init : goal.loop-rest-init
loop-rest-init g c = record {
  begun = record { front = _; rest = _; split = refl; appended = Appends-nil _ };
  left = refl;
  errors = refl;
  same = refl;
}

moves_front : (all front rest : List ℕ) (n : ℕ) → all ≡ front ++ rest
    → all ≡ (front ++ take n rest) ++ take (length rest - n) (drop n rest)
moves_front all front rest n e =
    e ∙ ap (λ l. front ++ l) (sym (take-append-drop n rest)) ∙ sym (append_assoc front (take n rest) (drop n rest))
    ∙ ap (λ l. (front ++ take n rest) ++ l) (sym (take_rest rest n))

pub loop-rest-preserved : goal.loop-rest-preserved
loop-rest-preserved g c =
    let so_far = c.loop-rest.invariant in
    let rest = c.loop-rest.rest.now in
    let n = c.in-Ok.taken in
    let split : c.args.text.now ≡ so_far.begun.front ++ rest =
    so_far.begun.split ∙ ap (λ l. so_far.begun.front ++ l) so_far.left in
    record {
      begun = record {
        front = so_far.begun.front ++ take n rest;
        rest = take (length rest - n) (drop n rest);
        split = moves_front _ so_far.begun.front rest n split;
        appended = Appends-trans _ _ _ _ _ so_far.begun.appended c.in-Ok.ensures.bytes;
      };
      left = refl;
      errors = search rules;
      same = c.in-Ok.ensures.same ∙ so_far.same;
    }
