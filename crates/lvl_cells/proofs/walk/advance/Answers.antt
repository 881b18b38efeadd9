use Rattle.std.proofs.Common.{◌≡◌, ◌<◌, ◌+◌, ◌∷◌, [], ◌++◌, List, Some, map, set, Contains, refl, sym, ap, ◌∙◌, subst}
use Rattle.std.proofs.Common.{arith}
use Rattle.std.specs.List.{slice_get}
use Rattle.lvl_cells.specs.declared.walk.Visit.{Visit}
use Rattle.lvl_cells.specs.declared.walk.Mark.TheVariants.{New, Open, Done}
use Rattle.lvl_cells.specs.inside.Walking.{IsWalk, LeadsBack, work_left}
use Rattle.lvl_cells.proofs.Walks.{walk_into, walk_past, walk_out, last_open}
use Rattle.lvl_cells.proofs.Nearing.{nearer_into, nearer_past, nearer_out, goes_on, last_at}
use Rattle.std.proofs.lemmas.Option.{slice_get_within}
use Rattle.lvl_cells.proofs.walk.advance.Goals as goal

pub next_step-requires-clause-cell : goal.next_step-requires-clause-cell
next_step-requires-clause-cell c =
    let all = c.args.targets.now in
    let was : IsWalk all c.args.marks.now (c.pop.new.self.items ++ c.in-Some.visit ∷ []) c.args.finished.now.items =
    subst (λ (p : List Visit). IsWalk all c.args.marks.now p c.args.finished.now.items) c.in-Some.ensures.items
    c.requires.walk in
    let is_open : slice_get c.args.marks.now c.in-Some.visit.cell ≡ Some Open =
    last_open all c.args.marks.now c.pop.new.self.items c.in-Some.visit c.args.finished.now.items was in
    omega (arith, slice_get_within c.args.marks.now c.in-Some.visit.cell Open is_open, c.requires.walk.long)

pub bounds-marks-next : goal.bounds-marks-next
bounds-marks-next c = slice_get_within c.args.marks.now c.in-Into.next New c.in-Into.ensures.1

pub bounds-marks-visit : goal.bounds-marks-visit
bounds-marks-visit c =
    let all = c.args.targets.now in
    let was : IsWalk all c.args.marks.now (c.pop.new.self.items ++ c.in-Some.visit ∷ []) c.args.finished.now.items =
    subst (λ (p : List Visit). IsWalk all c.args.marks.now p c.args.finished.now.items) c.in-Some.ensures.items
    c.requires.walk in
    slice_get_within c.args.marks.now c.in-Some.visit.cell Open
    (last_open all c.args.marks.now c.pop.new.self.items c.in-Some.visit c.args.finished.now.items was)

pub returns-in-Round-clause-back : goal.returns-in-Round-clause-back
returns-in-Round-clause-back c =
    let all = c.args.targets.now in
    let path : c.push-in-Round.new.self.items ≡ c.args.path.now.items =
    c.in_ok-push-in-Round.ensures.items ∙ sym c.in-Some.ensures.items in
    let last : LeadsBack all (c.pop.new.self.items ++ c.in-Some.visit ∷ []) c.in-Round.start = (
      c.in-Some.visit,
      last_at c.pop.new.self.items c.in-Some.visit,
      c.in-Round.ensures.0,
      subst (λ (p : List Visit). Contains (map (λ w. w.cell) p) c.in-Round.start) c.in-Some.ensures.items
          ((c.requires.walk.open_ones c.in-Round.start).0 c.in-Round.ensures.1),
    ) in
    subst (λ (p : List Visit). LeadsBack all p c.in-Round.start) (sym c.in_ok-push-in-Round.ensures.items) last

pub returns-in_ok-push-in-Into-2-clause-walk : goal.returns-in_ok-push-in-Into-2-clause-walk
returns-in_ok-push-in-Into-2-clause-walk c =
    let all = c.args.targets.now in
    let marks = c.args.marks.now in
    let done = c.args.finished.now.items in
    let front : List Visit = c.pop.new.self.items in
    let v : Visit = c.in-Some.visit in
    let next = c.in-Into.next in
    let was : IsWalk all marks (front ++ v ∷ []) done =
    subst (λ (p : List Visit). IsWalk all marks p done) c.in-Some.ensures.items c.requires.walk in
    let more : List Visit → List Visit = λ p. p ++ (record { cell = next; done = 0 }) ∷ [] in
    let path : c.push-in-Into.new.self.items ≡ more (front ++ v ∷ []) =
    c.in_ok-push-in-Into-2.ensures.items ∙ ap more c.in_ok-push-in-Into.ensures.items in
    subst (λ (p : List Visit). IsWalk all (set marks next Open) p done) (sym path)
    (walk_into all marks front v next done was c.in-Into.ensures.0 c.in-Into.ensures.1)

pub returns-in_ok-push-in-Into-2-clause-on : goal.returns-in_ok-push-in-Into-2-clause-on
returns-in_ok-push-in-Into-2-clause-on c =
    goes_on c.args.marks.now c.in-Into.next New Open c.in-Into.ensures.1 (λ e. cc)

pub returns-in_ok-push-in-Into-2-clause-nearer : goal.returns-in_ok-push-in-Into-2-clause-nearer
returns-in_ok-push-in-Into-2-clause-nearer c =
    let all = c.args.targets.now in
    let marks = c.args.marks.now in
    let next = c.in-Into.next in
    let more : List Visit → List Visit = λ p. p ++ (record { cell = next; done = 0 }) ∷ [] in
    let path : c.push-in-Into.new.self.items ≡ more c.args.path.now.items =
    c.in_ok-push-in-Into-2.ensures.items
    ∙ ap more (c.in_ok-push-in-Into.ensures.items ∙ sym c.in-Some.ensures.items) in
    subst (λ (p : List Visit). work_left all (set marks next Open) p < work_left all marks c.args.path.now.items)
    (sym path)
    (nearer_into all marks c.args.path.now.items (record { cell = next; done = 0 }) next c.in-Into.ensures.1)

pub returns-in_ok-push-in-Past-clause-walk : goal.returns-in_ok-push-in-Past-clause-walk
returns-in_ok-push-in-Past-clause-walk c =
    let all = c.args.targets.now in
    let marks = c.args.marks.now in
    let done = c.args.finished.now.items in
    let front : List Visit = c.pop.new.self.items in
    let v : Visit = c.in-Some.visit in
    let was : IsWalk all marks (front ++ v ∷ []) done =
    subst (λ (p : List Visit). IsWalk all marks p done) c.in-Some.ensures.items c.requires.walk in
    let step = c.in-Past.ensures in
    let path : c.push-in-Past.new.self.items ≡ front ++ (record { cell = v.cell; done = v.done + 1 }) ∷ [] =
    c.in_ok-push-in-Past.ensures.items ∙ rw step.1 refl in
    subst (λ (p : List Visit). IsWalk all marks p done) (sym path)
    (walk_past all marks front v step.0 done was step.2 step.3)

pub returns-in_ok-push-in-Past-clause-nearer : goal.returns-in_ok-push-in-Past-clause-nearer
returns-in_ok-push-in-Past-clause-nearer c =
    let all = c.args.targets.now in
    let marks = c.args.marks.now in
    let front : List Visit = c.pop.new.self.items in
    let v : Visit = c.in-Some.visit in
    let step = c.in-Past.ensures in
    let path : c.push-in-Past.new.self.items ≡ front ++ (record { cell = v.cell; done = v.done + 1 }) ∷ [] =
    c.in_ok-push-in-Past.ensures.items ∙ rw step.1 refl in
    rw (path, c.in-Some.ensures.items) (nearer_past all marks front v step.0 step.2)

pub returns-in_ok-push-in-Out-clause-walk : goal.returns-in_ok-push-in-Out-clause-walk
returns-in_ok-push-in-Out-clause-walk c =
    let all = c.args.targets.now in
    let marks = c.args.marks.now in
    let done = c.args.finished.now.items in
    let front : List Visit = c.pop.new.self.items in
    let v : Visit = c.in-Some.visit in
    let was : IsWalk all marks (front ++ v ∷ []) done =
    subst (λ (p : List Visit). IsWalk all marks p done) c.in-Some.ensures.items c.requires.walk in
    let out = c.in-Out.ensures in
    subst (IsWalk all (set marks v.cell Done) front) (sym c.in_ok-push-in-Out.ensures.items)
    (walk_out all marks front v done out.0 was out.1 out.2)

pub returns-in_ok-push-in-Out-clause-on : goal.returns-in_ok-push-in-Out-clause-on
returns-in_ok-push-in-Out-clause-on c =
    let all = c.args.targets.now in
    let was : IsWalk all c.args.marks.now (c.pop.new.self.items ++ c.in-Some.visit ∷ []) c.args.finished.now.items =
    subst (λ (p : List Visit). IsWalk all c.args.marks.now p c.args.finished.now.items) c.in-Some.ensures.items
    c.requires.walk in
    goes_on c.args.marks.now c.in-Some.visit.cell Open Done
    (last_open all c.args.marks.now c.pop.new.self.items c.in-Some.visit c.args.finished.now.items was) (λ e. cc)

pub returns-in_ok-push-in-Out-clause-nearer : goal.returns-in_ok-push-in-Out-clause-nearer
returns-in_ok-push-in-Out-clause-nearer c =
    let all = c.args.targets.now in
    let marks = c.args.marks.now in
    let front : List Visit = c.pop.new.self.items in
    let v : Visit = c.in-Some.visit in
    let was : IsWalk all marks (front ++ v ∷ []) c.args.finished.now.items =
    subst (λ (p : List Visit). IsWalk all marks p c.args.finished.now.items) c.in-Some.ensures.items
    c.requires.walk in
    rw c.in-Some.ensures.items
    (nearer_out all marks front v (last_open all marks front v c.args.finished.now.items was))
