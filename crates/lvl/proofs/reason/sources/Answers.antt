use Rattle.std.proofs.Common.{◌≡◌, ◌∙◌, ◌<◌, ◌+◌, ◌++◌, ◌∷◌, [], ℕ, List, get_or, slice_get, Some, All, Contains}
use Rattle.std.proofs.Common.{false, true, sym, ap, subst, arith}
use Rattle.std.proofs.lemmas.List.Elements.{All-push, Contains-append_left, Contains-append_right}
use Rattle.std.proofs.lemmas.Option.{slice_get-get_or, slice_get_within}
use Rattle.lvl_names.specs.declared.layer.Layer.{Layer}
use Rattle.lvl_names.proofs.Elements.{at_contains, contains_at}
use Rattle.lvl_names.proofs.Layers.{is_same, same_is}
use Rattle.lvl_cells.proofs.Sequences.{one_answer}
use Rattle.lvl_view.specs.Views.{target_of}
use Rattle.lvl.proofs.Reasoning.{counted_more}
use Rattle.lvl.proofs.reason.sources.Goals.{then-eq+in_ok-push, else-eq}
use Rattle.lvl.proofs.reason.sources.Goals as goal

pub loop-source-preserved : goal.loop-source-preserved
loop-source-preserved c =
    let pairs = c.args.view.now.pairs in
    let listed : List Layer = c.deref-source-items.result.now in
    let i : ℕ = c.loop-source.source-index in
    let source : Layer = get_or listed i (record { layer = 0; datatype = 0 }) in
    let before : List Layer = c.loop-source.layers.items in
    let at : slice_get listed i ≡ Some source = slice_get-get_or listed i _ c.loop-source-test.true in
    elim c.if-eq.branch [
      | then-eq+in_ok-push w ↦
          let same : c.target.result ≡ c.args.layer =
          is_same c.target.result c.args.layer (sym c.eq.ensures ∙ w.if-eq.true) in
          let counts : target_of pairs source ≡ c.args.layer = sym c.target.ensures ∙ same in
          let items : c.if-eq.layers.items ≡ before ++ source ∷ [] =
          ap (λ v. v.items) w.layers-is ∙ w.in_ok-push.ensures.items in
          record {
            counted =
                subst (λ layers. All (λ l. target_of pairs l ≡ c.args.layer) layers) (sym items)
                (All-push (λ l. target_of pairs l ≡ c.args.layer) before source c.loop-source.invariant.counted counts);
            held =
                subst
                (λ layers. (k : ℕ) (s : Layer) → k < i + 1 → slice_get listed k ≡ Some s → target_of pairs s ≡ c.args.layer
                → Contains layers s) (sym items)
                (counted_more pairs c.args.layer listed i before (before ++ source ∷ []) c.loop-source.invariant.held
                (λ s there. Contains-append_left before (source ∷ []) s there)
                (λ s is counts.
                Contains-append_right before (source ∷ []) s (contains_at (source ∷ []) 0 s (ap Some (one_answer at is)))));
          }
      | else-eq w ↦
          let items : c.if-eq.layers.items ≡ before = ap (λ v. v.items) w.layers-is in
          record {
            counted = subst (λ layers. All (λ l. target_of pairs l ≡ c.args.layer) layers) (sym items)
                c.loop-source.invariant.counted;
            held =
                subst
                (λ layers. (k : ℕ) (s : Layer) → k < i + 1 → slice_get listed k ≡ Some s → target_of pairs s ≡ c.args.layer
                → Contains layers s) (sym items)
                (counted_more pairs c.args.layer listed i before before c.loop-source.invariant.held (λ s there. there)
                (λ s is counts.
                let same : c.target.result ≡ c.args.layer =
                c.target.ensures ∙ ap (target_of pairs) (one_answer at is) ∙ counts in
                let z : true ≡ false =
                sym (same_is c.target.result c.args.layer same) ∙ sym c.eq.ensures ∙ w.if-eq.false in
                cc));
          }
    ]

pub returns-clause-all : goal.returns-clause-all
returns-clause-all c = λ l s covers counts.
    let listed : Contains c.in_ok-listed.listed.items l = c.in_ok-listed.ensures.all l s covers in
    let at = at_contains c.in_ok-listed.listed.items l listed in
    let same = c.deref-source-items.ensures.value in
    let there : slice_get c.deref-source-items.result.now at.0 ≡ Some l =
    ap (λ (ls : List Layer). slice_get ls at.0) same ∙ at.1 in
    c.loop-source.invariant.held at.0 l
    (omega (arith, c.loop-source-test.false, slice_get_within c.deref-source-items.result.now at.0 l there)) there counts
