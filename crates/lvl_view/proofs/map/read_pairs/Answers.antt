use Rattle.std.proofs.Common.{◌<◌, ◌+◌, ℕ, List, take, get_or, sym, ap, subst, ◌∙◌, Bor, map, length, [], ◌==◌}
use Rattle.lvl_view.specs.Texts.{IsPairText}
use Rattle.lvl_view.specs.inside.Reading.{IsAlone}
use Rattle.lvl_view.specs.declared.map.LayerPair.{LayerPair}
use Rattle.std.specs.List.{AllZip, slice_split}
use Rattle.lvl_view.proofs.Cutting.{none_only}
use Rattle.lvl_view.proofs.Zips.{part_none, parts_more, parts_all, read_at}
use Rattle.lvl_view.proofs.map.read_pairs.Goals as goal

pub returns-in_default-clause-err : goal.returns-in_default-clause-err
returns-in_default-clause-err c =
    let parts : List (Bor (List ℕ)) = c.deref-part-items.result.now in
    let part : Bor (List ℕ) = get_or parts c.loop-part.part-index (record { ref_ptr = (0, 0); now = [] }) in
    let within : c.loop-part.part-index < length parts = c.loop-part-test.true in
    part_none IsPairText (Bor (List ℕ)) (λ p. p.now) parts (slice_split (λ b. b == 44) c.args.text.now)
    (ap (λ (l : List (Bor (List ℕ))). map (λ p. p.now) l) c.deref-part-items.ensures.value ∙ c.in_ok-parts.ensures)
    c.loop-part.part-index part within
    (read_at parts c.loop-part.part-index (record { ref_ptr = (0, 0); now = [] }) within)
    (none_only (IsPairText part.now) c.in_default.ensures)

pub loop-part-preserved : goal.loop-part-preserved
loop-part-preserved c =
    let parts : List (Bor (List ℕ)) = c.deref-part-items.result.now in
    let part : Bor (List ℕ) = get_or parts c.loop-part.part-index (record { ref_ptr = (0, 0); now = [] }) in
    let within : c.loop-part.part-index < length parts = c.loop-part-test.true in
    subst
    (λ (ps : List LayerPair).
    IsAlone (AllZip IsPairText (map (λ p. p.now) (take (c.loop-part.part-index + 1) parts))) ps)
    (sym c.in_ok-push.ensures.items)
    (parts_more IsPairText (Bor (List ℕ)) (λ p. p.now) parts c.loop-part.pairs.items c.loop-part.part-index part
    c.in-Some.pair within (read_at parts c.loop-part.part-index (record { ref_ptr = (0, 0); now = [] }) within)
    c.loop-part.invariant c.in-Some.ensures)

pub returns-clause-ok : goal.returns-clause-ok
returns-clause-ok c =
    parts_all IsPairText (Bor (List ℕ)) (λ p. p.now) c.deref-part-items.result.now
    (slice_split (λ b. b == 44) c.args.text.now)
    (ap (λ (l : List (Bor (List ℕ))). map (λ p. p.now) l) c.deref-part-items.ensures.value ∙ c.in_ok-parts.ensures)
    c.loop-part.pairs.items c.loop-part.part-index c.loop-part-test.false c.loop-part.invariant
