use Rattle.std.proofs.Common.{sym, ◌∙◌}
use Rattle.std.proofs.lemmas.Bool.Decides.{Decides-eqb}
use Rattle.lvl_names.proofs.Lattices.{same_lattice}
use Rattle.lvl_names.proofs.offsets.Offsets.is_same_lattice.Goals.{then-eq, else-eq, then-m-p, else-m-p}
use Rattle.lvl_names.proofs.offsets.Offsets.is_same_lattice.Goals as goal

pub returns-then-eq-2 : goal.returns-then-eq-2
returns-then-eq-2 c =
    let k = c.in-Lattice-Lattice in
    elim c.if-m-p.branch [
      | then-m-p w ↦ elim c.if-eq.branch [
        | then-eq v ↦ λ h.
            same_lattice c.self.inside.kept c.other.inside.kept k.a k.m k.b k.n k.c k.p k.d k.q c.eq.result
            w.eq-then-m-p.result c.args.self.now c.args.other.now
            k.is-0 k.is-1 c.self.view_is c.other.view_is c.eq.ensures v.if-eq.true
            ((Decides-eqb k.m k.p).0 (sym v.value-is ∙ w.if-m-p.true))
            w.eq-then-m-p.ensures (sym w.value-is ∙ c.if-eq-2.true) ((Decides-eqb k.n k.q).0 h)
        | else-eq v ↦ λ h. cc
      ]
      | else-m-p w ↦ λ h. cc
    ]
