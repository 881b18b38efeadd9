use Rattle.std.proofs.Common.{◌≡◌, ◌≤◌, ◌<◌, ◌*◌, ◌/◌, ℕ, slice_get, Some, subst, inl, inr, arith}
use Rattle.std.proofs.Math.Nat.{div-lt_iff_lt-mul, div-mul-le_self}
use Rattle.std.proofs.lemmas.Bool.{cases_order}
use Rattle.std.proofs.lemmas.Nat.{le-div}
use Rattle.lvl_witness.specs.declared.lattice.Lattice.{Lattice}
use Rattle.lvl_witness.proofs.InRows.{row_below}
use Rattle.lvl_witness.proofs.lattice.next_in_lattice.Goals as goal

pub loop-row-init : goal.loop-row-init
loop-row-init c = λ k e on below at inside.
    let m : ℕ = c.args.lattice.now.columns in
    let some : 0 < m = c.requires.lattice.kept.columns in
    let s = c.rows_within-rows.ensures k e at inside in
    let row : k / m < c.max-first.result = (div-lt_iff_lt-mul some).1 below in
    let less : c.args.from / m ≤ k / m =
    le-div (c.args.from / m) k m some (omega (arith, div-mul-le_self c.args.from m, on)) in
    omega (arith, s.from, row, less, c.max-first.ensures)

pub returns-clause-apart : goal.returns-clause-apart
returns-clause-apart c = λ k e on below at inside.
    let l : Lattice = c.args.lattice.now in
    let m : ℕ = l.columns in
    let some : 0 < m = c.requires.lattice.kept.columns in
    let row : ℕ = c.loop-row.row in
    let later : row * m ≤ k → ⊥ =
    λ past.
    let s = c.rows_within-rows.ensures k e at inside in
    let from : row ≤ k / m = le-div row k m some past in
    let rows : k / m < l.rows =
    row_below l.across m l.up l.rows k e some
    (subst (λ ps. slice_get ps k ≡ Some e) c.requires.lattice.is at) in
    omega (arith, s.to, from, rows, c.min-last.ensures, c.loop-row-test.false) in
    elim (cases_order k (row * m)) [
      | inl same ↦ later (omega (arith, same))
      | inr apart ↦
          elim apart [
            | inl before ↦ c.loop-row.invariant k e on before at inside
            | inr past ↦ later (omega (arith, past))
          ]
    ]
