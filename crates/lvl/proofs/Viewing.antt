-- From a verdict on what the tops cover under a view to what the bytes of the files spell.
use Rattle.std.proofs.Common.{◌≡◌, ◌↔◌, ◌∙◌, Bool, true, false, List, Option, Some, slice_get, ap, subst, sym}
use Rattle.std.specs.Prelude.{IfErr, IfSome, IsErr, IsErrAnd, Result, Ok, Err}
use Rattle.lvl_grid.specs.declared.point.Square.{Square}
use Rattle.lvl_grid.specs.Winding.{SomeCovers}
use Rattle.lvl_names.specs.declared.layer.Layer.{Layer}
use Rattle.lvl_cells.specs.Cells.{PlainCell, Rings}
use Rattle.lvl_cells.specs.Checks.{Settled}
use Rattle.lvl_cells.specs.Coverage.{CellCovers}
use Rattle.lvl_columns.specs.Windows.{IsShown}
use Rattle.lvl_flat.specs.Flattened.{AllInRange, IsTopInRange, TopCovers}
use Rattle.lvl_region.specs.declared.region.Side.TheVariants.{First, Second}
use Rattle.lvl_changed.proofs.Unchanged.{moved_none}
use Rattle.lvl_count.specs.Drawn.{first_undrawn}
use Rattle.lvl_count.proofs.Drawing.{undrawn_kept}
use Rattle.lvl_path.specs.Figure.{figure_rings}
use Rattle.lvl_view.specs.Views.{IsWhole, PlainView, sources}
use Rattle.lvl_view.specs.Moved.{IsMoved}
use Rattle.lvl_view.specs.declared.map.LayerPair.{LayerPair}
use Rattle.lvl.specs.declared.layout.Head.{Head}
use Rattle.lvl.specs.declared.verdict.Refusal.{Refusal}
use Rattle.lvl.specs.declared.verdict.Refusal.TheVariants.{File as FileRefusal, Cells as CellsRefusal}
use Rattle.lvl.specs.declared.verdict.Refusal.TheVariants.{Flat as FlatRefusal, OutOfMemory}
use Rattle.lvl.specs.declared.verdict.Verdict.{Verdict}
use Rattle.lvl.specs.declared.verdict.Verdict.TheVariants.{Same, Differ}
use Rattle.lvl.specs.Layouts.{File, IsLayoutOf}
use Rattle.lvl.specs.Accepted.{Draws, IsVerdict}
use Rattle.lvl.specs.Kept.{Kept, IsCheckedAs, IsInRangeAs, IsKeptRefusal, IsKeptVerdict, Places}
use Rattle.lvl.specs.Sides.{IsFlattenRefusal}
use Rattle.lvl.specs.Questions.{Asked, IfAsked, IsJudged, IsKeptJudged}
use Rattle.lvl.specs.Reasons.{IsKeptReason, IsReasonIn}
use Rattle.lvl.specs.Views.{IsVerdictOf, IsViewVerdict}
use Rattle.lvl.specs.declared.question.Judged.{Judged}
use Rattle.lvl_why.specs.declared.why.Why.{Why}
use Rattle.lvl.proofs.Reasoning.{kept_with, reason_in}
use Rattle.lvl.proofs.Lifting.{alone_lifted, both_lifted, top_lifted}

-- a verdict depends only on which squares are covered
pub verdict_of_same : (Seen Saw : Square → Type 0) (P P' Q Q' : Layer → Square → Type 0)
    → ((s : Square) → Saw s → Seen s)
    → ((s : Square) → Seen s → Saw s)
    → ((l : Layer) (s : Square) → P l s ↔ P' l s) → ((l : Layer) (s : Square) → Q l s ↔ Q' l s) → (v : Verdict)
    → IsVerdictOf Seen P Q v → IsVerdictOf Saw P' Q' v
verdict_of_same Seen Saw P P' Q Q' f g p q Same h = λ l s saw. both_lifted _ _ _ _ (p l s) (q l s) (h l s (f s saw))
verdict_of_same Seen Saw P P' Q Q' f g p q (Differ layer square side) h = record {
  seen = g square h.seen;
  alone = alone_lifted (P layer) (P' layer) (Q layer) (Q' layer) square side (p layer square) (q layer square) h.alone;
  least_layer = λ l before s saw. both_lifted _ _ _ _ (p l s) (q l s) (h.least_layer l before s (f s saw));
  least_square = λ s saw before. both_lifted _ _ _ _ (p layer s) (q layer s) (h.least_square s (f s saw) before);
}

-- what is covered after mapping depends only on which squares are covered before
pub moved_same : (pairs : List LayerPair) (Q Q' : Layer → Square → Type 0) → ((l : Layer) (s : Square) → Q l s ↔ Q' l s)
    → (l : Layer) (s : Square) → IsMoved pairs Q l s ↔ IsMoved pairs Q' l s
moved_same pairs Q Q' q l s = (
  λ m. record { source = m.source; is_target = m.is_target; covers = (q m.source s).0 m.covers },
  λ m. record { source = m.source; is_target = m.is_target; covers = (q m.source s).1 m.covers },
)

itself : {A : Type 0} → A ↔ A
itself = (λ a. a, λ a. a)

-- under a view without pairs and window the verdict is that on the whole files
pub whole_verdict : (view : PlainView) → IsWhole view → (a b : File) (v : Verdict) → IsViewVerdict view a b v
    → IsVerdict a b v
whole_verdict view whole a b v h = go v (verdict_of_same (IsShown view.window) (λ s. Unit {0})
    (Draws h.both.ours h.both.our_top) (Draws h.both.ours h.both.our_top)
    (IsMoved view.pairs (Draws h.both.theirs h.both.their_top)) (Draws h.both.theirs h.both.their_top)
    (λ s all. rw whole.no_window tt) (λ s seen. tt)
    (λ l s. itself) (moved_none view.pairs whole.no_pairs (Draws h.both.theirs h.both.their_top)) v h.verdict)
  where
    go : (v : Verdict)
        → IsVerdictOf (λ s. Unit {0}) (Draws h.both.ours h.both.our_top) (Draws h.both.theirs h.both.their_top) v
        → IsVerdict a b v
    go Same p = record { both = h.both; alike = λ l s. p l s tt }
    go (Differ layer square side) p = record {
      both = h.both;
      alone = p.alone;
      least_layer = λ l before s. p.least_layer l before s tt;
      least_square = λ s before. p.least_square s tt before;
    }

-- what the top covers, by its cell
pub top_places : (s : Settled) (top : PlainCell Rings) → slice_get s.cells s.top ≡ Some top → (l : Layer)
    (q : Square) → TopCovers s l q ↔ CellCovers SomeCovers s.cells l top q
top_places s top is l q = rw is itself

-- a verdict on what both tops cover is one on what the files draw
kept_viewed : (view : PlainView) (a b : File) (ours theirs : List (PlainCell Rings)) (g h : Head)
    → IsLayoutOf a.profile a.bytes ours g → IsLayoutOf b.profile b.bytes theirs h → (v : Verdict)
    → IsKeptVerdict view (record { limits = a.profile.limits; cells = ours; top = a.top }) (record { limits = b.profile.limits; cells = theirs; top = b.top }) v
    → IsViewVerdict view a b v
kept_viewed view a b ours theirs g h p q v k =
    let x = top_lifted a ours g p k.ours k.first in
    let y = top_lifted b theirs h q k.theirs k.second in
    record {
      both = record {
        ours = p.cells;
        our_top = x.top;
        theirs = q.cells;
        their_top = y.top;
        first = x.accepted;
        second = y.accepted;
      };
      verdict = verdict_of_same (IsShown view.window) (IsShown view.window)
          (Places k.ours k.first.top) (Draws p.cells x.top)
          (IsMoved view.pairs (Places k.theirs k.second.top)) (IsMoved view.pairs (Draws q.cells y.top))
          (λ s seen. seen) (λ s seen. seen) x.draws
          (moved_same view.pairs (Places k.theirs k.second.top) (Draws q.cells y.top) y.draws) v
          k.verdict;
    }

-- a reason that is asked for, in another form
pub if_asked : (asks : Bool) (P Q : Option Why → Type 0) (why : Option Why) → (P why → Q why) → IfAsked asks P why
    → IfAsked asks Q why
if_asked true P Q why f h = f h
if_asked false P Q why f h = h

-- how two libraries compare is how the files compare
pub judged_in : (q : Asked) (a b : File) (ours theirs : List (PlainCell Rings)) (g h : Head)
    → IsLayoutOf a.profile a.bytes ours g → IsLayoutOf b.profile b.bytes theirs h → (j : Judged)
    → IsKeptJudged q (kept_with a ours) (kept_with b theirs) j → IsJudged q a b j
unfolding kept_viewed
judged_in q a b ours theirs g h p r j k =
    let verdict = kept_viewed q.view a b ours theirs g h p r j.verdict k.verdict in
    record {
      verdict = verdict;
      whole = λ whole. whole_verdict q.view whole a b j.verdict verdict;
      undrawn =
          k.undrawn ∙ ap (λ cells. first_undrawn cells (sources q.view.pairs)) r.kept_as
          ∙ undrawn_kept figure_rings r.cells (sources q.view.pairs);
      why = if_asked q.why (IsKeptReason q.view (kept_with a ours) (kept_with b theirs) j.verdict)
          (IsReasonIn q.view a b j.verdict) j.why (reason_in q.view a b ours theirs g h p r j.verdict j.why) k.why;
    }

-- a library that passed the check, and whose top is in range
pub in_range_as : (k : Kept) (s t : Settled) → IsCheckedAs k s → t ≡ s → IsTopInRange t → IsInRangeAs k t
in_range_as k s t checked same h =
    let c : IsCheckedAs k t = subst (IsCheckedAs k) (sym same) checked in
    record {
      checked = c;
      top = c.sound.cell;
      is_top = c.sound.is;
      in_range = subst (λ o. IfSome o (AllInRange t.cells)) c.sound.is h;
    }

-- a verdict on what both tops cover
pub kept_verdict : (view : PlainView) (a b : Kept) (s t : Settled) → IsInRangeAs a s → IsInRangeAs b t → (v : Verdict)
    → IsVerdictOf (IsShown view.window) (TopCovers s) (IsMoved view.pairs (TopCovers t)) v → IsKeptVerdict view a b v
kept_verdict view a b s t first second v h = record {
  ours = s;
  theirs = t;
  first = first;
  second = second;
  verdict = verdict_of_same (IsShown view.window) (IsShown view.window) (TopCovers s) (Places s first.top)
      (IsMoved view.pairs (TopCovers t)) (IsMoved view.pairs (Places t second.top)) (λ q seen. seen) (λ q seen. seen)
      (top_places s first.top first.is_top)
      (moved_same view.pairs (TopCovers t) (Places t second.top) (top_places t second.top second.is_top)) v h;
}

-- the refusal of the first library, if the second passes the check of cells
pub first_fault : (a b : Kept) (s t : Settled) → IsCheckedAs a s → IsCheckedAs b t → (r : Refusal)
    → IsFlattenRefusal First s r → IsKeptRefusal a b r
first_fault a b s t first second (FileRefusal side f) h = absurd h
first_fault a b s t first second (CellsRefusal side f) h = absurd h
first_fault a b s t first second (FlatRefusal First f) h =
    (record { settled = s; checked = first; reported = h.1 }, (t, second))
first_fault a b s t first second (FlatRefusal Second f) h = cc
first_fault a b s t first second OutOfMemory h = tt

pub first_reported : {X : Type 0} (a b : Kept) (s t : Settled) → IsCheckedAs a s → IsCheckedAs b t → (e : Refusal)
    → IsFlattenRefusal First s e → (res : Result X Refusal) → IsErr res × IsErrAnd res (λ r. r ≡ e)
    → IfErr res (IsKeptRefusal a b)
first_reported a b s t first second e h (Ok v) is = tt
first_reported a b s t first second e h (Err r) is =
    subst (IsKeptRefusal a b) (sym is.1) (first_fault a b s t first second e h)

-- the refusal of the second library, if the first is in range
pub second_fault : (a b : Kept) (s t : Settled) → IsInRangeAs a s → IsCheckedAs b t → (r : Refusal)
    → IsFlattenRefusal Second t r → IsKeptRefusal a b r
second_fault a b s t first checked (FileRefusal side f) h = absurd h
second_fault a b s t first checked (CellsRefusal side f) h = absurd h
second_fault a b s t first checked (FlatRefusal First f) h = cc
second_fault a b s t first checked (FlatRefusal Second f) h =
    ((s, first), record { settled = t; checked = checked; reported = h.1 })
second_fault a b s t first checked OutOfMemory h = tt

pub second_reported : {X : Type 0} (a b : Kept) (s u t : Settled) → IsCheckedAs a s → u ≡ s → IsTopInRange u → IsCheckedAs b t
    → (e : Refusal) → IsFlattenRefusal Second t e → (res : Result X Refusal)
    → IsErr res × IsErrAnd res (λ r. r ≡ e)
    → IfErr res (IsKeptRefusal a b)
second_reported a b s u t first same in' second e h (Ok v) is = tt
second_reported a b s u t first same in' second e h (Err r) is =
    subst (IsKeptRefusal a b) (sym is.1) (second_fault a b u t (in_range_as a s u first same in') second e h)
