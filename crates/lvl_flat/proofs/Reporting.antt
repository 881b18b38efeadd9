-- Cells that are out of range, and what is reported of them.
use Rattle.std.proofs.Common.{◌≡◌, ◌++◌, ℕ, suc, List, [], ◌∷◌, slice_get, Some, refl, sym, ap, subst, ◌∙◌}
use Rattle.std.proofs.lemmas.List.Elements.{Contains-push}
use Rattle.lvl_cells.proofs.Sequences.{one_answer}
use Rattle.lvl_grid.specs.declared.map.Map.{Map}
use Rattle.lvl_grid.proofs.Composing.{composed, image-composed}
use Rattle.lvl_names.specs.declared.layer.Layer.{Layer}
use Rattle.lvl_cells.specs.Cells.{PlainCell, Rings, map_at}
use Rattle.lvl_cells.specs.Chains.{Chain, unmoved}
use Rattle.lvl_cells.specs.Checks.{Settled}
use Rattle.lvl_flat.specs.declared.fault.FlatFault.{FlatFault}
use Rattle.lvl_flat.specs.declared.fault.FlatFault.TheVariants.{OutOfRange}
use Rattle.lvl_flat.specs.declared.scope.Scope.{Scope}
use Rattle.lvl_flat.specs.declared.visit.Visit.{Visit}
use Rattle.lvl_flat.specs.Flattened.{IsOutOfRange, IsFlatFault, FitShapes, ReportsName}
use Rattle.lvl_flat.specs.Sheet.{PlainSheet}
use Rattle.lvl_flat.specs.inside.Entering.{begun, IsCellOut, IsEnterFault}
use Rattle.lvl_flat.specs.inside.Steps.{IsInto, IsOut}
use Rattle.lvl_flat.specs.inside.Visits.{IsVisit}
use Rattle.lvl_flat.specs.inside.Walking.{IsWalking}
use Rattle.lvl_flat.proofs.Advancing.{next_chain, next_visit, top_visit}

-- a visit whose next pick is out of range
pub out_by_shift : (s : Settled) (layers : List Layer) (scope : Scope) (sheets : List PlainSheet)
    (front : List Visit) (v : Visit)
    (i : ℕ) → IsWalking s layers scope sheets (front ++ v ∷ []) → (o : IsOut s.cells v i) → IsOutOfRange s o.next.name
out_by_shift s layers scope sheets front v i w o =
    let m : Map = composed v.map (map_at o.pick.0 o.pick.1) in
    let old = w.visits v (Contains-push front v) in
    record {
      top = w.top;
      is_top = w.is_top;
      steps = suc old.steps;
      map = m;
      cell = o.next;
      chain =
          next_chain s.cells w.top v m o.pick o.next old o.has o.named
          (λ p. image-composed v.map (map_at o.pick.0 o.pick.1) p);
      named = refl;
      out = λ fits. o.out fits.shift;
    }

-- a visited cell whose placed vertices are out of range
visited_out : (s : Settled) (top : PlainCell Rings) (v : Visit) (name : List ℕ) → slice_get s.cells s.top ≡ Some top
    → IsVisit s.cells top v → IsCellOut s.cells v.cell v.map name → IsOutOfRange s name
visited_out s top v name at visit o =
    let one : o.cell ≡ visit.cell = one_answer o.there visit.there in
    record {
      top = top;
      is_top = at;
      steps = visit.steps;
      map = v.map;
      cell = o.cell;
      chain = subst (λ (c : PlainCell Rings). Chain s.cells top visit.steps v.map c) (sym one) visit.chain;
      named = o.named;
      out = λ fits. o.out fits.vertices;
    }

-- which the walk goes into, or begins with
pub out_by_vertex : (s : Settled) (layers : List Layer) (scope : Scope) (sheets : List PlainSheet)
    (front : List Visit) (v : Visit) (i : ℕ) (m : Map) (rest : Visit) (name : List ℕ)
    → IsWalking s layers scope sheets (front ++ v ∷ []) → IsInto s.cells v i m rest → IsCellOut s.cells i m name
    → IsOutOfRange s name
out_by_vertex s layers scope sheets front v i m rest name w into =
    visited_out s w.top (begun i m) name w.is_top
    (next_visit s.cells w.top v i m rest (w.visits v (Contains-push front v)) into)

pub top_out : (s : Settled) (c : PlainCell Rings) (name : List ℕ) → slice_get s.cells s.top ≡ Some c
    → IsCellOut s.cells s.top unmoved name → IsOutOfRange s name
top_out s c name at = visited_out s c (begun s.top unmoved) name at (top_visit s c at)

-- the name of a cell that is out of range
pub names_out : (s : Settled) (name : List ℕ) (fault : FlatFault) → ReportsName name fault → IsOutOfRange s name
    → IsFlatFault s fault
names_out s name (OutOfRange reported) reports out = subst (IsOutOfRange s) (sym reports) out

pub entered_out : (s : Settled) (i : ℕ) (m : Map) → ((name : List ℕ) → IsCellOut s.cells i m name → IsOutOfRange s name)
    → (fault : FlatFault) → IsEnterFault s.cells i m fault → IsFlatFault s fault
entered_out s i m out (OutOfRange name) h = out name.items h

pub reports_entered : (cells : List (PlainCell Rings)) (i : ℕ) (m : Map) (c : PlainCell Rings)
    → slice_get cells i ≡ Some c → (FitShapes m c.shapes → ⊥) → (fault : FlatFault) → ReportsName c.name fault
    → IsEnterFault cells i m fault
reports_entered cells i m c at out (OutOfRange name) reports =
    record { cell = c; there = at; named = sym reports; out = out }

-- a cell that is drawn alone, and whose vertices are out of range
pub own_out : (c : PlainCell Rings) (fault : FlatFault) → IsEnterFault (c ∷ []) 0 unmoved fault
    → ReportsName c.name fault × (¬ FitShapes unmoved c.shapes)
own_out c (OutOfRange name) o =
    let both : Some c ≡ Some o.cell = o.there in
    let one : o.cell ≡ c = cc in (
      sym o.named ∙ ap (λ (b : PlainCell Rings). b.name) one,
      subst (λ (b : PlainCell Rings). ¬ FitShapes unmoved b.shapes) one o.out,
    )
