use Rattle.std.proofs.Common.{◌≡◌, ◌∙◌, ◌&&◌, ℤ, Bool, pos, ◌-ℤ◌, int_eq, List, [], ap, sym, subst, refl, rules}
use Rattle.std.proofs.Common.{FitsSigned}
use Rattle.std.specs.Int.{w8, w64}
use mir.Val.{to_z, of_z}
use Rattle.std.proofs.lemmas.Bool.{and_parts, and_from}
use Rattle.std.proofs.lemmas.List.Elements.{All-nil}
use Rattle.lvl_grid.proofs.Anyone.{Any-nil}
use Rattle.lvl_grid.specs.Winding.{SomeCovers}
use Rattle.lvl_grid.specs.declared.point.Point.{Point}
use Rattle.lvl_corners.specs.Corners.{FitsCorner}
use Rattle.lvl_corners.specs.Spans.{spanned}
use Rattle.lvl_corners.specs.inside.Marks.{net}
use Rattle.lvl_corners.proofs.Gathered.{at_changes, hashed_none, more_gathered, none_gathered}
use Rattle.lvl_corners.proofs.IntTests.{eq_is, eq_yes}
use Rattle.lvl_corners.proofs.Parts.{no_corners_at}
use Rattle.lvl_corners.proofs.Totals.{corner_by_totals, spanned_fits}
use Rattle.lvl_corners.proofs.digest.LayerHash.push_part.Goals as goal

-- the coordinate, as stored in 64 bits
abbrev kept : ℤ → ℤ
kept z = to_z w64 (of_z w64 z)

pub returns-then-is_empty-clause-hashed : goal.returns-then-is_empty-clause-hashed
returns-then-is_empty-clause-hashed c = (
  [],
  no_corners_at (SomeCovers c.args.rings.now) c.args.x c.args.rows
      (λ s p. Any-nil _ (subst (λ (rings : List (List Point)). SomeCovers rings s) (c.if-is_empty.ensures.0 refl) p)),
  All-nil FitsCorner,
  hashed_none _ _ refl refl refl,
)

pub returns-then-is_empty-clause-gathered : goal.returns-then-is_empty-clause-gathered
returns-then-is_empty-clause-gathered c =
    let end_is : kept c.args.end ≡ c.args.end = search rules in
    none_gathered (SomeCovers c.args.rings.now) c.args.x (kept c.args.end) c.args.rows _ _
    (λ s p. Any-nil _ (subst (λ (rings : List (List Point)). SomeCovers rings s) (c.if-is_empty.ensures.0 refl) p))
    (rw end_is (rw end_is at c.drop_from.ensures))

pub send_sums-requires-clause-small : goal.send_sums-requires-clause-small
send_sums-requires-clause-small c = λ u v.
    let x_is : kept c.args.x ≡ c.args.x = search rules in
    let near = rw x_is at c.in_ok-marks.ensures.marks in
    let at : ℤ → ℤ → Bool = λ z w. near.covered (record { x = z; y = w }) in
    let few = rw x_is at c.sort_at.ensures.changes in
    let is = at_changes (SomeCovers c.args.rings.now) c.args.x _ c.args.rows _ c.sort_at.new.marks.items near few in
    subst (FitsSigned w8) (sym (ap (net u v) c.deref-2.ensures.value ∙ is u v))
    (spanned_fits (int_eq u c.args.x && spanned c.args.rows v) (at u v) (at (u -ℤ pos 1) v) (at u (v -ℤ pos 1))
    (at (u -ℤ pos 1) (v -ℤ pos 1)))

pub returns-clause-hashed : goal.returns-clause-hashed
returns-clause-hashed c =
    let x : ℤ = c.args.x in
    let x_is : kept x ≡ x = search rules in
    let near = rw x_is at c.in_ok-marks.ensures.marks in
    let few = rw x_is at c.sort_at.ensures.changes in
    let is = at_changes (SomeCovers c.args.rings.now) x _ c.args.rows _ c.sort_at.new.marks.items near few in
    let sent = c.in_ok-send_sums.ensures in
    let test : ℤ → ℤ → Bool = λ u v. int_eq u x && spanned c.args.rows v in (
      sent.0,
      record {
        covered = near.covered;
        is_covered = near.is_covered;
        bounded = near.bounded;
        rising = sent.3.rising;
        each = λ k.
            let one = corner_by_totals near.covered test c.deref-2.result.now sent.0
            (λ u v. ap (net u v) c.deref-2.ensures.value ∙ is u v) sent.3 k in (
              λ there.
                  let all = one.0 there in
                  let both = and_parts (int_eq k.x x) (spanned c.args.rows k.y) all.0 in
                  (eq_is k.x x both.0, both.1, all.1, all.2),
              λ all. one.1 (
                and_from (int_eq k.x x) (spanned c.args.rows k.y) (eq_yes k.x x all.0) all.1,
                all.2,
                all.3,
              ),
            );
      },
      sent.2,
      λ before held. c.put.ensures.taken c.in_ok-hashing.hashing sent.0 c.in_ok-hashing.ensures sent.1 before
          (record { bytes = held.bytes; count = held.count }),
    )

pub returns-clause-gathered : goal.returns-clause-gathered
returns-clause-gathered c =
    let x_is : kept c.args.x ≡ c.args.x = search rules in
    let end_is : kept c.args.end ≡ c.args.end = search rules in
    let stop_is : kept c.in_ok-marks.field-0.end ≡ c.in_ok-marks.field-0.end = search rules in
    let near = rw x_is at c.in_ok-marks.ensures.marks in
    let lower = rw (x_is, end_is) at c.in_ok-marks.ensures.lowered in
    rw stop_is (more_gathered (SomeCovers c.args.rings.now) c.args.x c.args.end _ c.args.rows _ _ c.drop_from.new.marks.items _
    c.push_right.new.to.items lower.0 near
    (rw end_is at c.drop_from.ensures) (rw (x_is, stop_is, c.deref.ensures.value) at c.in_ok-push_right.ensures)
    (ap (λ v. v.items) c.put.ensures.right))
