-- What is promised of an answer, by where it was given.
use Rattle.std.proofs.Common.{◌≡◌, ℕ, Bool, true, false, List, Option, Some, None}
use Rattle.std.proofs.Common.{Result, Ok, Err, IfOk, IsTrue, refl, sym, subst, ◌∙◌}
use Rattle.std.specs.Prelude.{IfSome}
use Rattle.lvl_cells.specs.Cells.{PlainCell, Rings}
use Rattle.lvl_region.specs.declared.region.Side.{Side}
use Rattle.lvl_region.specs.declared.region.Side.TheVariants.{First, Second}
use Rattle.lvl.specs.Kept.{Kept, IsKeptRefusal}
use Rattle.lvl.specs.Layouts.{File, IsLayoutOf}
use Rattle.lvl.specs.Questions.{Asked, HaveSameSteps, IsAfterSteps, IsAnswer, IsAnswerBy, IsBySteps, IsComparedIf}
use Rattle.lvl.specs.Questions.{IsJudged, IsKeptJudged, IsVerdictIn}
use Rattle.lvl.specs.Readers.{Input, IsReadBy, IsUntouched, file_of, refusal_of}
use Rattle.lvl.specs.Sides.{IsOfFile}
use Rattle.lvl.specs.Steps.{AgreeInSteps, DifferInSteps}
use Rattle.lvl.specs.declared.layout.FileFault.{FileFault}
use Rattle.lvl.specs.declared.layout.Head.{Head}
use Rattle.lvl.specs.declared.question.Answer.{Answer}
use Rattle.lvl.specs.declared.question.Judged.{Judged}
use Rattle.lvl.specs.declared.verdict.Refusal.{Refusal}
use Rattle.lvl.specs.declared.verdict.Refusal.TheVariants.{File as FileRefusal, Cells as CellsRefusal}
use Rattle.lvl.specs.declared.verdict.Refusal.TheVariants.{Flat as FlatRefusal, OutOfMemory}
use Rattle.lvl.specs.declared.verdict.Verdict.{Verdict}
use Rattle.lvl.proofs.Refused.{IsElsewhere, elsewhere, first_of_second, first_refused, first_second, read_before}
use Rattle.lvl.proofs.Refused.{second_of_first, second_refused}
use Rattle.lvl.proofs.Viewing.{judged_in}

-- a refusal of a file that wasn't read says nothing of steps
unread_before : (a b : File) (side : Side) (r : Refusal) → IsOfFile side r → IsAfterSteps a b r
unread_before a b side (FileRefusal s f) own = tt
unread_before a b side (CellsRefusal s f) own = absurd own
unread_before a b side (FlatRefusal s f) own = absurd own
unread_before a b side OutOfMemory own = tt

-- a refusal of files that were read and agree in their steps
after_agreed : (a b : File) (r : Refusal) → HaveSameSteps a b → IsAfterSteps a b r
after_agreed a b (FileRefusal s f) same = tt
after_agreed a b (CellsRefusal s f) same = same
after_agreed a b (FlatRefusal s f) same = same
after_agreed a b OutOfMemory same = tt

-- a refusal of libraries that were read is elsewhere for both sides
later : (side : Side) (k l : Kept) (r : Refusal) → IsKeptRefusal k l r → IsElsewhere side r
later side k l (FileRefusal s f) h = absurd h
later side k l (CellsRefusal s f) h = tt
later side k l (FlatRefusal s f) h = tt
later side k l OutOfMemory h = tt

-- the files are compared if their steps agree, or needn't
may_compare : (units : Bool) (first second : Head) (j : Judged) → (IsTrue units → AgreeInSteps first second)
    → IsComparedIf units first second (Some j)
may_compare true first second j agree = agree refl
may_compare false first second j agree = tt

-- the files aren't compared if their steps differ and must agree
pub may_not : (units allowed : Bool) (first second : Head) → (units ≡ false → allowed ≡ true)
    → (allowed ≡ false → DifferInSteps first second) → allowed ≡ false → IsComparedIf units first second None
may_not true allowed first second unasked differ denied = differ denied
may_not false allowed first second unasked differ denied = (let z : true ≡ false = sym (unasked refl) ∙ denied in cc)

-- a refusal of the first file isn't one that the second file wasn't read
not_first : (f : FileFault) (r : Refusal) → IsOfFile Second r → r ≡ FileRefusal First f → ⊥
not_first f r own is = (let s : First ≡ Second = subst (IsOfFile Second) is own in first_second s)

module _ (q : Asked) (a b : Input) where
  -- the first file wasn't read
  pub first_unread : (r : Refusal) → IsReadBy First a (Some r) → IsOfFile First r → IsUntouched b
      → IsAnswerBy q a b (Err r)
  first_unread r read own untouched = record {
    found = λ xs ys first second. tt;
    steps = tt;
    after_steps = λ xs ys first second asked. unread_before _ _ First r own;
    first = read;
    second = read_before Second b r (elsewhere First Second r first_second own) untouched.1
        (λ ys known. second_of_first (file_of b ys) r own);
    kept = λ fault is. untouched;
  }

  module _ (ours : List (PlainCell Rings)) (g : Head) (read : IsReadBy First a None)
      (ours_is : (xs : List ℕ) → a.bytes ≡ Some xs → IsLayoutOf a.profile xs ours g) where
    -- the second file wasn't read
    pub second_unread : (r : Refusal) → IsReadBy Second b (Some r) → IsOfFile Second r → IsAnswerBy q a b (Err r)
    second_unread r unread own = record {
      found = λ xs ys first second. tt;
      steps = tt;
      after_steps = λ xs ys first second asked. unread_before _ _ Second r own;
      first = read_before First a r (elsewhere Second First r (λ e. first_second (sym e)) own) read.reads
          (λ xs known. first_of_second (file_of a xs) ours g (ours_is xs known) r own);
      second = unread;
      kept = λ fault is. absurd (not_first fault r own cc);
    }

    module _ (theirs : List (PlainCell Rings)) (h : Head) (read_too : IsReadBy Second b None)
        (theirs_is : (ys : List ℕ) → b.bytes ≡ Some ys → IsLayoutOf b.profile ys theirs h) where
      -- their steps differ and must agree
      pub uncompared : IsComparedIf q.units g h None
          → IsAnswerBy q a b (Ok (record { first = g; second = h; judged = None }))
      uncompared apart = record {
        found = λ xs ys first second. record {
          first = (let p = ours_is xs first in (p.cells, p.spelled));
          second = (let p = theirs_is ys second in (p.cells, p.spelled));
          judged = tt;
        };
        steps = apart;
        after_steps = λ xs ys first second asked. tt;
        first = read;
        second = read_too;
        kept = λ fault is. cc;
      }

      module _ (agree : IsTrue q.units → AgreeInSteps g h) where
        -- their libraries were refused
        pub refused : (r : Refusal)
            → IsKeptRefusal (record { limits = a.profile.limits; cells = ours; top = a.top })
            (record { limits = b.profile.limits; cells = theirs; top = b.top }) r → IsAnswerBy q a b (Err r)
        refused r why = record {
          found = λ xs ys first second. tt;
          steps = tt;
          after_steps = λ xs ys first second asked. after_agreed _ _ r (record {
            first = g;
            second = h;
            first_is = (let p = ours_is xs first in (p.cells, p.spelled));
            second_is = (let p = theirs_is ys second in (p.cells, p.spelled));
            agree = agree asked;
          });
          first = read_before First a r (later First _ _ r why) read.reads
              (λ xs known. first_refused (file_of a xs) _ ours g (ours_is xs known) r why);
          second = read_before Second b r (later Second _ _ r why) read_too.reads
              (λ ys known. second_refused (file_of b ys) _ theirs h (theirs_is ys known) r why);
          kept = λ fault is. absurd (not_file _ _ fault r why cc);
        }
          where
            not_file : (k l : Kept) (f : FileFault) (r : Refusal) → IsKeptRefusal k l r → r ≡ FileRefusal First f → ⊥
            not_file k l f r why is = subst (IsKeptRefusal k l) is why

        -- they were compared
        pub compared : (j : Judged)
            → IsKeptJudged q (record { limits = a.profile.limits; cells = ours; top = a.top })
            (record { limits = b.profile.limits; cells = theirs; top = b.top }) j
            → IsAnswerBy q a b (Ok (record { first = g; second = h; judged = Some j }))
        compared j kept = record {
          found = λ xs ys first second. record {
            first = (let p = ours_is xs first in (p.cells, p.spelled));
            second = (let p = theirs_is ys second in (p.cells, p.spelled));
            judged = judged_in q (file_of a xs) (file_of b ys) ours theirs g h (ours_is xs first) (theirs_is ys second) j
                kept;
          };
          steps = may_compare q.units g h j agree;
          after_steps = λ xs ys first second asked. tt;
          first = read;
          second = read_too;
          kept = λ fault is. cc;
        }

-- what holds of each verdict that an answer to the question may have holds of the one that it has
pub verdict_from : (q : Asked) (a b : File) (P : Verdict → Type 0) → ((j : Judged) → IsJudged q a b j → P j.verdict)
    → (answer : Result Answer Refusal) (r : Result Verdict Refusal) → IfOk answer (IsAnswer q a b)
    → IfOk answer (IsBySteps false) → IfOk r (IsVerdictIn answer) → refusal_of r ≡ refusal_of answer → IfOk r P
verdict_from q a b P so answer (Err e) found steps verdict same = tt
verdict_from q a b P so (Err e) (Ok v) found steps verdict same = cc
verdict_from q a b P so (Ok answer) (Ok v) found steps verdict same = go answer.judged found.judged steps verdict
  where
    go : (judged : Option Judged) → IfSome judged (IsJudged q a b) → IsComparedIf false answer.first answer.second judged
        → IfSome judged (λ j. j.verdict ≡ v) → P v
    go (Some j) found steps is = subst P is (so j found)
    go None found steps is = absurd steps
