use Rattle.std.proofs.Common.{◌≡◌, ◌++◌, ◌∷◌, [], ◌∙◌, sym, ap, length, arith, length-append, ◌<◌, ◌≤◌, get_or}
use Rattle.gds_elements.specs.Values.{points}
use Rattle.gds_elements.proofs.Closing.{closed_last, last_closed, straight_steps, straight_edges, point_eq, point_ne}
use Rattle.gds_elements.proofs.Closing.{no_fault}
use Rattle.gds_elements.proofs.boundary.ring_of.Goals as goal

pub returns-then-ne-clause-refused : goal.returns-then-ne-clause-refused
returns-then-ne-clause-refused c =
    let ps = points c.args.payload.now in
    let qs = c.pop.new.self.items in
    let z = c.unwrap-last.result in
    let first = c.index.result.now in
    let e : ps ≡ qs ++ z ∷ [] = sym c.in_ok-points.ensures ∙ rw c.unwrap-last.ensures at c.pop.ensures.items in
    let n : 4 ≤ length ps =
    omega (arith, c.if-len-lt-FEWEST_POINTS.false, c.len.ensures, ap length c.in_ok-points.ensures) in
    let m : 0 < length qs = omega (arith, n, ap length e, length-append qs (z ∷ [])) in
    rw c.breach-then-ne.ensures (
      n,
      λ h. point_ne z first (sym c.ne.ensures ∙ c.if-ne.true) (closed_last ps qs z first e m h ∙ sym c.index.ensures),
    )

pub returns-in-Err-clause-refused : goal.returns-in-Err-clause-refused
returns-in-Err-clause-refused c =
    let ps = points c.args.payload.now in
    let qs = c.pop.new.self.items in
    let z = c.unwrap-last.result in
    let first = c.index.result.now in
    let e : ps ≡ qs ++ z ∷ [] = sym c.in_ok-points.ensures ∙ rw c.unwrap-last.ensures at c.pop.ensures.items in
    let n : 4 ≤ length ps =
    omega (arith, c.if-len-lt-FEWEST_POINTS.false, c.len.ensures, ap length c.in_ok-points.ensures) in
    let m : 0 < length qs = omega (arith, n, ap length e, length-append qs (z ∷ [])) in
    let same : z ≡ get_or qs 0 first = point_eq z first (sym c.ne.ensures ∙ c.if-ne.false) ∙ c.index.ensures in
    let h = c.in-Err.ensures.err in
    rw c.breach-in-Err.ensures (
      n,
      last_closed ps qs z first e m same,
      λ s. no_fault qs c.in-Err.field-0 h (omega (arith, n, ap length e, length-append qs (z ∷ [])))
          (straight_edges ps qs z first e m same s),
    )

pub returns-in-Ok-clause-allowed : goal.returns-in-Ok-clause-allowed
returns-in-Ok-clause-allowed c =
    let ps = points c.args.payload.now in
    let qs = c.pop.new.self.items in
    let z = c.unwrap-last.result in
    let first = c.index.result.now in
    let e : ps ≡ qs ++ z ∷ [] = sym c.in_ok-points.ensures ∙ rw c.unwrap-last.ensures at c.pop.ensures.items in
    let n : 4 ≤ length ps =
    omega (arith, c.if-len-lt-FEWEST_POINTS.false, c.len.ensures, ap length c.in_ok-points.ensures) in
    let m : 0 < length qs = omega (arith, n, ap length e, length-append qs (z ∷ [])) in
    let same : z ≡ get_or qs 0 first = point_eq z first (sym c.ne.ensures ∙ c.if-ne.false) ∙ c.index.ensures in
    let h = c.in-Ok.ensures.ok in
    (n, last_closed ps qs z first e m same, straight_steps ps qs z first e m same h.1.straight)
