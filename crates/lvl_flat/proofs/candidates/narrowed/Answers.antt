use Rattle.std.proofs.Common.{◌≡◌, ◌<◌, ◌++◌, ◌∷◌, [], ℕ, List, get_or, length, subst, sym, ap, ◌∙◌, arith, Contains, ◌+◌}
use Rattle.lvl_flat.specs.inside.Listed.{IsKept}
use Rattle.lvl_flat.specs.inside.Parts.{MissesPart}
use Rattle.lvl_flat.proofs.Choosing.{has_kept, kept_less, kept_more}
use Rattle.lvl_flat.proofs.candidates.narrowed.Goals.{then-may_cover+in_ok-in_word+in_ok-push, else-may_cover}
use Rattle.lvl_flat.proofs.candidates.narrowed.Goals as goal

pub loop-place-preserved : goal.loop-place-preserved
loop-place-preserved c =
    let list : List ℕ = c.args.list.now in
    let k : ℕ = c.loop-place.place in
    let Out : ℕ → Type 0 = MissesPart c.args.checked.now c.args.window.now c.args.part in
    let old : List ℕ = c.loop-place.kept.items in
    let inside : k < length list = omega (arith, c.loop-place-test.true, c.len-place-end.ensures.value) in
    let is : c.at-index.result ≡ get_or list k 0 = c.at-index.ensures in
    elim c.if-may_cover.branch [
      | then-may_cover+in_ok-in_word+in_ok-push w ↦
          let word : w.in_ok-in_word.field-0 ≡ get_or list k 0 = w.in_ok-in_word.ensures ∙ is in
          subst (λ v. IsKept list Out (k + 1) v.items) (sym w.kept-is)
          (subst (IsKept list Out (k + 1))
          (sym (w.in_ok-push.ensures.items ∙ ap (λ x. old ++ x ∷ []) word))
          (kept_more list Out k old c.len-place-end.ensures.rising inside c.loop-place.invariant))
      | else-may_cover w ↦
          subst (λ v. IsKept list Out (k + 1) v.items) (sym w.kept-is)
          (kept_less list Out k old (subst Out is (c.may_cover.ensures w.if-may_cover.false)) c.loop-place.invariant)
    ]

pub returns : goal.returns
returns c = λ top at i layer q seen covers.
    let list : List ℕ = c.args.list.now in
    let Out : ℕ → Type 0 = MissesPart c.args.checked.now c.args.window.now c.args.part in
    subst (λ xs. Contains xs i) (sym c.of.ensures)
    (has_kept list Out c.loop-place.place c.loop-place.kept.items i c.loop-place.invariant
    (omega (arith, c.loop-place-test.false, c.len-place-end.ensures.value))
    (c.requires.all top at i layer q seen covers) (λ misses. misses top at layer q seen covers))
