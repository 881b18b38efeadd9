use Rattle.std.proofs.Common.{◌≡◌, ◌+◌, ◌-◌, ◌<◌, ℕ, List, ℤ, pos, take, drop, get_or, length, length-drop, arith}
use Rattle.std.proofs.Common.{int_eq, to_z, of_z, FitsSigned}
use Rattle.std.specs.Int.{w64}
use Rattle.std.proofs.lemmas.Int.{to_z-of_z}
use Rattle.std.proofs.lemmas.List.{take_all}
use Rattle.lvl_corners.specs.inside.Marks.{net, interval_step, row_step}
use Rattle.lvl_corners.proofs.Rows.{row_next, both_next, ours_next, theirs_next, rest_between}
use Rattle.lvl_corners.proofs.bands.push_between.Goals as goal

abbrev none : ℤ × ℤ
none = (pos 0, pos 0)

all_after : (k : ℕ) (es : List (ℤ × ℤ)) → take (length es - k) (drop k es) ≡ drop k es
all_after k es = let long = length-drop k es in take_all (length es - k) (drop k es) (omega (arith, long))

pub loop-i-preserved-then-ours-theirs-2 : goal.loop-i-preserved-then-ours-theirs-2
loop-i-preserved-then-ours-theirs-2 c =
    let before : List (ℤ × ℤ) = c.args.before.now in
    let after : List (ℤ × ℤ) = c.args.after.now in
    let i : ℕ = c.loop-i.i in
    let j : ℕ = c.loop-i.j in
    let some : i < length before = c.loop-i-test.true in
    let more : j < length after = c.if-j-after.true in
    record {
      ours = omega (arith, some);
      theirs = omega (arith, more);
      marks = λ x z.
          both_next (int_eq (to_z w64 (of_z w64 c.args.y)) z) (net x z c.loop-i.marks.items)
          (net x z c.push_changes.new.marks.items) _ (interval_step x (get_or after j none)) (interval_step x (get_or
          before i none)) (row_step x (drop i before)) (row_step x (drop j after)) (row_step x (drop (i + 1) before))
          (row_step x (drop (j + 1) after)) (row_next x after j none more) (row_next x before i none some)
          (c.in_ok-push_changes.ensures x z) (c.loop-i.invariant.marks x z);
    }

pub loop-i-preserved-then-ours-theirs-3 : goal.loop-i-preserved-then-ours-theirs-3
loop-i-preserved-then-ours-theirs-3 c =
    let before : List (ℤ × ℤ) = c.args.before.now in
    let i : ℕ = c.loop-i.i in
    let some : i < length before = c.loop-i-test.true in
    record {
      ours = omega (arith, some);
      theirs = c.loop-i.invariant.theirs;
      marks = λ x z.
          ours_next (int_eq (to_z w64 (of_z w64 c.args.y)) z) (net x z c.loop-i.marks.items)
          (net x z c.push_interval.new.marks.items) _ (interval_step x (get_or before i none))
          (row_step x (drop i before)) (row_step x (drop c.loop-i.j c.args.after.now))
          (row_step x (drop (i + 1) before)) (row_next x before i none some) (c.in_ok-push_interval.ensures x z)
          (c.loop-i.invariant.marks x z);
    }

pub loop-i-preserved : goal.loop-i-preserved
loop-i-preserved c =
    let after : List (ℤ × ℤ) = c.args.after.now in
    let j : ℕ = c.loop-i.j in
    let more : j < length after = c.if-j-after.true in
    record {
      ours = c.loop-i.invariant.ours;
      theirs = omega (arith, more);
      marks = λ x z.
          theirs_next (int_eq (to_z w64 (of_z w64 c.args.y)) z) (net x z c.loop-i.marks.items)
          (net x z c.push_interval-else-ours-theirs-3.new.marks.items) _ (interval_step x (get_or after j none))
          (row_step x (drop c.loop-i.i c.args.before.now)) (row_step x (drop j after))
          (row_step x (drop (j + 1) after)) (row_next x after j none more) (c.in_ok-push_interval-2.ensures x z)
          (c.loop-i.invariant.marks x z);
    }

pub returns : goal.returns
returns c =
    let y_fits : FitsSigned w64 c.args.y = c.ranges.y in
    let before : List (ℤ × ℤ) = c.args.before.now in
    let after : List (ℤ × ℤ) = c.args.after.now in
    let i : ℕ = c.loop-i.i in
    let j : ℕ = c.loop-i.j in
    λ x z.
    rest_between (int_eq c.args.y z) (net x z c.loop-i.marks.items) (net x z c.push_row.new.marks.items)
    (net x z c.push_row-2.new.marks.items) (row_step x (drop i before)) (row_step x (drop j after)) _
    (simp to_z-of_z at (rw (all_after i before) at (c.in_ok-push_row.ensures x z)))
    (simp to_z-of_z at (rw (all_after j after) at (c.in_ok-push_row-2.ensures x z)))
    (simp to_z-of_z at (c.loop-i.invariant.marks x z))
