use Rattle.std.proofs.Common.{◌≡◌, ◌++◌, ◌∷◌, [], length, List, All, Some, option_map, map, refl, sym, subst, ap, arith, ◌∙◌}
use Rattle.std.specs.List.{slice_get}
use Rattle.std.proofs.lemmas.List.{length-map}
use Rattle.std.proofs.lemmas.Option.{slice_get-map}
use Rattle.std.proofs.lemmas.Result.{IfOk-weaker}
use Rattle.lvl_grid.specs.declared.point.Point.{Point}
use Rattle.lvl_cells.specs.declared.repeated.Repeated.{Repeated}
use Rattle.lvl_cells.specs.inside.Placings.{repeated_in, IsRepeated, KeyAtShifts}
use Rattle.lvl_cells.specs.inside.Spans.{IsPrefixOf}
use Rattle.lvl_cells.proofs.Indexes.{push_last}
use Rattle.lvl_cells.proofs.Keepings.{all_still, begins_same, one_more_stored, AreMoreStored}
use Rattle.lvl_cells.proofs.Placed.{repeated_last}
use Rattle.lvl_cells.proofs.Spanned.{goes_on_more}
use Rattle.lvl_cells.proofs.repeated.RepeatedKeys.push.Goals.{In_ok-push_lean}
use Rattle.lvl_cells.proofs.repeated.RepeatedKeys.push.Goals as goal

pub invariant_of-self : goal.invariant_of-self
invariant_of-self c =
    all_still IsRepeated repeated_in repeated_last _ _ c.self.inside.keys.items c.number_of_owned.ensures.before c.self.invariant

pub returns-in_err-shifts-clause-before : goal.returns-in_err-shifts-clause-before
returns-in_err-shifts-clause-before c =
    begins_same IsRepeated repeated_in repeated_last _ _ c.self.inside.keys.items c.args.self.now
    c.number_of_owned.ensures.before c.self.invariant c.self.view_is

pub returns-in-Some-clause-before : goal.returns-in-Some-clause-before
returns-in-Some-clause-before c =
    begins_same IsRepeated repeated_in repeated_last _ _ c.self.inside.keys.items c.args.self.now
    c.number_of_owned.ensures.before c.self.invariant c.self.view_is

pub returns-in_err-index-clause-before : goal.returns-in_err-index-clause-before
returns-in_err-index-clause-before c =
    begins_same IsRepeated repeated_in repeated_last _ _ c.self.inside.keys.items c.args.self.now
    c.number_of_owned.ensures.before c.self.invariant c.self.view_is

pub returns-in_err-push_lean-clause-before : goal.returns-in_err-push_lean-clause-before
returns-in_err-push_lean-clause-before c =
    subst (λ ks. IsPrefixOf c.args.self.now (map (repeated_in c.number_of_owned.new.kept.items) ks))
    (sym c.in_err-push_lean.ensures.kept)
    (begins_same IsRepeated repeated_in repeated_last _ _ c.self.inside.keys.items c.args.self.now
    c.number_of_owned.ensures.before c.self.invariant c.self.view_is)

abbrev repeated : In_ok-push_lean → Repeated
repeated c = record { key = c.args.key; shifts = c.in_ok-shifts.shifts }

abbrev item : In_ok-push_lean → KeyAtShifts
item c = record { key = c.args.key; shifts = c.args.shifts }

more : (c : In_ok-push_lean)
    → AreMoreStored IsRepeated repeated_in c.number_of_owned.new.kept.items c.self.inside.keys.items (repeated c)
    c.args.self.now (item c)
more c =
    let number = c.in_ok-shifts.ensures.number in
    one_more_stored IsRepeated repeated_in repeated_last c.self.inside.lists.items c.number_of_owned.new.kept.items
    c.self.inside.keys.items (repeated c) c.args.self.now (item c) c.number_of_owned.ensures.before c.self.invariant
    c.self.view_is number.within (rw number.is refl)

all : (c : In_ok-push_lean)
    → map (repeated_in c.number_of_owned.new.kept.items) c.push_lean.new.list.items ≡ c.args.self.now ++ item c ∷ []
all c = ap (map (repeated_in c.number_of_owned.new.kept.items)) c.in_ok-push_lean.ensures.added ∙ (more c).is

pub invariant_of-self-2 : goal.invariant_of-self-2
invariant_of-self-2 c =
    subst (All (IsRepeated c.number_of_owned.new.kept.items)) (sym c.in_ok-push_lean.ensures.added) (more c).are

pub returns-clause-before : goal.returns-clause-before
returns-clause-before c = subst (IsPrefixOf c.args.self.now) (sym (all c)) (goes_on_more c.args.self.now (item c ∷ []))

pub returns-clause-index : goal.returns-clause-index
returns-clause-index c =
    let last : c.in_ok-index.index ≡ length c.args.self.now =
    omega (
      arith,
      c.in_ok-index.ensures.0,
      c.len.ensures,
      ap length c.self.view_is,
      length-map c.self.inside.keys.items (repeated_in c.self.inside.lists.items),
    ) in
    ap (λ ks. slice_get ks c.in_ok-index.index) (all c)
    ∙ (ap (slice_get (c.args.self.now ++ item c ∷ [])) last ∙ push_last c.args.self.now (item c))

pub returns-in-Some-clause-index : goal.returns-in-Some-clause-index
returns-in-Some-clause-index c =
    let kept : List (List Point) = c.number_of_owned.new.kept.items in
    let keys : List Repeated = c.self.inside.keys.items in
    let r : Repeated = record { key = c.args.key; shifts = c.in_ok-shifts.shifts } in
    let found : slice_get keys c.in-Some.index ≡ Some r =
    ap (λ ks. slice_get ks c.in-Some.index) (sym c.deref.ensures.value) ∙ c.in-Some.ensures in
    let means : repeated_in kept r ≡ record { key = c.args.key; shifts = c.args.shifts } =
    rw c.in_ok-shifts.ensures.number.is refl in
    let there : slice_get (map (repeated_in kept) keys) c.in-Some.index
    ≡ Some (record { key = c.args.key; shifts = c.args.shifts }) =
    slice_get-map (repeated_in kept) keys c.in-Some.index
    ∙ (ap (option_map (repeated_in kept)) found ∙ ap Some means) in
    IfOk-weaker c.kept_count.result _ _ (λ i h. ap (slice_get (map (repeated_in kept) keys)) h.0 ∙ there)
    c.kept_count.ensures
