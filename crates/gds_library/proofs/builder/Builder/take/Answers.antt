use Rattle.std.proofs.Common.{◌≡◌, ℕ, List, [], refl, sym, ap, ◌∙◌, rules, arith, ◌==◌, false}
use Rattle.std.proofs.lemmas.Bool.Decides.{nat_tests}
use Rattle.gds_library.proofs.builder.Builder.take.Goals as goal
use Rattle.gds_library.proofs.builder.Builder.take.Goals.{in-0, in-3, in-5+else-len-limits}
use Rattle.gds_library.proofs.builder.Builder.take.Goals.{in-6+else-not-is_name+in_ok-open-in-6}
use Rattle.gds_library.proofs.builder.Builder.take.Goals.{in-7+in_ok-close-in-7, in_default-kind}
use Rattle.gds_library.proofs.Grown.{IsOther, shown_other, shown_bgnstr, shown_strname, shown_endstr, by_kind}
use Rattle.lvl_cells.specs.Building.{Built}
use Rattle.gds_library.specs.declared.builder.Builder.{Builder}
use Rattle.gds_elements.specs.Types.{units, endstr, header, bgnstr, strname}

other : (k j : ℕ) → (k ≡ j → ⊥) → k == j ≡ false
other k j h = grind (arith, nat_tests)

other_header : IsOther header
other_header = record { bgnstr = refl; strname = refl; endstr = refl }

other_units : IsOther units
other_units = record { bgnstr = refl; strname = refl; endstr = refl }

pub returns-clause-shown : goal.returns-clause-shown
returns-clause-shown c =
    let p = c.args.self.now.stage in
    let q = c.in-Some.next in
    let b = c.args.self.now in
    let m = c.match-kind.self in
    let b' : Builder = record m { stage = q } in
    let a = sym c.after.ensures ∙ c.in-Some.is in
    let payload = c.args.payload.now in
    elim c.match-kind.branch [
      | in-0 w ↦ by_kind _ header p q b b' payload w.in-0.is
          (shown_other header p q b b' payload other_header (ap (λ (x : Builder). x.cells.cells) w.self-is)) a
      | in-3 w ↦ by_kind _ units p q b b' payload w.in-3.is
          (shown_other units p q b b' payload other_units (ap (λ (x : Builder). x.cells.cells) w.self-is)) a
      | in-5+else-len-limits w ↦ by_kind _ bgnstr p q b b' payload w.in-5.is
          (λ e. shown_bgnstr p q b b' payload e (ap (λ (x : Builder). x.cells) w.self-is)) a
      | in-6+else-not-is_name+in_ok-open-in-6 w ↦ by_kind _ strname p q b b' payload w.in-6.is
          (λ e. shown_strname p q b b' payload e (ap (λ (x : Builder). x.cells) w.self-is
          ∙ w.in_ok-open-in-6.ensures.opened
          ∙ ap (λ (n : List ℕ). let x : Built =
          record { cells = b.cells.cells; current = record { name = n; shapes = []; references = [] } } in x)
          w.name-name.ensures)) a
      | in-7+in_ok-close-in-7 w ↦ by_kind _ endstr p q b b' payload w.in-7.is
          (λ e. shown_endstr p q b b' payload e (ap (λ (x : Builder). x.cells.cells) w.self-is
          ∙ ap (λ (x : Built). x.cells) w.in_ok-close-in-7.ensures.closed)) a
      | in_default-kind w ↦ (
          let z : IsOther c.args.kind = record {
            bgnstr = other _ _ (λ e. absurd (search rules));
            strname = other _ _ (λ e. absurd (search rules));
            endstr = other _ _ (λ e. absurd (search rules));
          } in
          shown_other c.args.kind p q b b' payload z (ap (λ (x : Builder). x.cells.cells) w.self-is) a)
    ]
