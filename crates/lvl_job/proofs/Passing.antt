-- Files that are hashed one after another.
use Rattle.std.proofs.Common.{◌≡◌, ◌∙◌, ◌+◌, ◌<◌, ◌≤◌, ◌++◌, ℕ, List, [], ◌∷◌, Option, Err, refl, sym, ap, subst}
use Rattle.std.proofs.Common.{take, drop, length, get_or, suc, arith}
use Rattle.std.specs.Io.KnownBytes.{Appends}
use Rattle.std.proofs.KnownBytes.{Appends-kept, Appends-trans}
use Rattle.std.proofs.lemmas.List.{append-nil, map-append, take_more}
use Rattle.std.proofs.lemmas.Grind.{flat_map-append}
use Rattle.std.proofs.Math.Seq.{split_at, take-length}
use Rattle.lvl_report.specs.declared.status.Status.{Status}
use Rattle.lvl_job.specs.declared.fault.JobFault.{JobFault}
use Rattle.lvl_job.specs.declared.fault.JobFault.TheVariants.{BadView, BadIgnore, NotOpened, OutOfMemory, Output}
use Rattle.lvl_job.specs.declared.fault.JobFault.TheVariants.{BadLine, LongList, UnreadList}
use Rattle.lvl_job.specs.Hashing.{AreHashed, Hash, IsHashed, IsPass, items_of, texts_of}
use Rattle.lvl_job.specs.Jobs.{Named}
use Rattle.lvl_job.specs.Listing.{no_note, worse, worst}
use Rattle.lvl_list.specs.declared.entry.Entry.{Entry}
use Rattle.lvl_job.specs.inside.Loops.{IsLoopFault}
use Rattle.lvl_job.specs.inside.Steps.{IsPut}
use Rattle.lvl_job.specs.Opening.{Opened}

module _ {X : Type 0} where
  -- the texts, and one more
  pub texts_more : (text : X → Hash → List ℕ) (done : List (X × Hash)) (x : X) (h : Hash)
      → texts_of text (done ++ (x, h) ∷ []) ≡ texts_of text done ++ text x h
  texts_more text done x h =
      flat_map-append (λ (p : X × Hash). text p.0 p.1) done ((x, h) ∷ [])
      ∙ ap (λ l. texts_of text done ++ l) (append-nil (text x h))

  -- the items, and one more
  pub items_more : (done : List (X × Hash)) (items : List X) (i : ℕ) (x : X) (h : Hash) → i < length items
      → x ≡ get_or items i x → items_of done ≡ take i items → items_of (done ++ (x, h) ∷ []) ≡ take (i + 1) items
  items_more done items i x h lt is so_far =
      map-append (λ (p : X × Hash). p.0) done ((x, h) ∷ []) ∙ ap (λ l. l ++ x ∷ []) so_far
      ∙ ap (λ y. take i items ++ y ∷ []) is ∙ sym (take_more items i x lt)

  -- the item at an index, after those before it
  pub items_at : (done : List (X × Hash)) (items : List X) (i : ℕ) (x : X) → i < length items → x ≡ get_or items i x
      → items_of done ≡ take i items → items ≡ items_of done ++ x ∷ drop (suc i) items
  items_at done items i x lt is so_far =
      split_at items i x lt ∙ ap (λ y. take i items ++ y ∷ drop (suc i) items) (sym is)
      ∙ ap (λ l. l ++ x ∷ drop (suc i) items) (sym so_far)

  -- the greatest status, with one more
  pub worst_more : (status : X → Hash → Status) (first : Status) (done : List (X × Hash)) (x : X) (h : Hash)
      → worst status first (done ++ (x, h) ∷ []) ≡ worse (worst status first done) (status x h)
  worst_more status first [] x h = refl
  worst_more status first (p ∷ ps) x h = worst_more status (worse first (status p.0 p.1)) ps x h

  module _ {S : Type 0} (opens : S → List ℕ → Opened → S → Type 0) (file : X → Named) where
    hashed_more : (done : List (X × Hash)) (old mid new : S) (x : X) (h : Hash) → AreHashed opens file old mid done
        → IsHashed opens (file x) mid new h → AreHashed opens file old new (done ++ (x, h) ∷ [])
    hashed_more [] old mid new x h same one = (new, subst (λ s. IsHashed opens (file x) s new h) same one, refl)
    hashed_more (p ∷ ps) old mid new x h all one = (all.0, all.1, hashed_more ps all.0 mid new x h all.2 one)

    module _ (text : X → Hash → List ℕ) where
      -- one file more was hashed, and its text written
      pub pass_more : (old mid new : S) (from m to : Option (List ℕ)) (done : List (X × Hash)) (x : X) (h : Hash)
          → IsPass opens file text old mid from m done → IsHashed opens (file x) mid new h → Appends m to (text x h)
          → IsPass opens file text old new from to (done ++ (x, h) ∷ [])
      pass_more old mid new from m to done x h pass one written = record {
        hashed = hashed_more done old mid new x h pass.hashed one;
        whole = subst (Appends from to) (sym (texts_more text done x h))
            (Appends-trans from m to (texts_of text done) (text x h) pass.whole written);
      }

      -- why the text of one file more wasn't written
      pub loop_fault : (note : X → Hash → List ℕ) (items : List X) (old mid new : S) (from m to : Option (List ℕ))
          (done : List (X × Hash)) (x : X) (h : Hash) (rest : List X) (f : JobFault)
          → items ≡ items_of done ++ x ∷ rest → IsPass opens file text old mid from m done
          → IsHashed opens (file x) mid new h → IsPut {A = Status} (text x h) m to (Err f)
          → IsLoopFault opens file text note items old new from to (texts_of note done) f
      loop_fault note items old mid new from m to done x h rest OutOfMemory order pass one put = record {
        done = done;
        rest = x ∷ rest;
        new = mid;
        order = order;
        pass = record { hashed = pass.hashed; whole = Appends-kept from m to (texts_of text done) pass.whole put };
        said_is = refl;
      }
      loop_fault note items old mid new from m to done x h rest Output order pass one put = record {
        between = mid;
        middle = m;
        done = done;
        last = x;
        hash = h;
        rest = rest;
        order = order;
        pass = pass;
        hashed = one;
        begun = put;
        said_is = refl;
      }
      loop_fault note items old mid new from m to done x h rest (BadView fault) order pass one put = absurd put
      loop_fault note items old mid new from m to done x h rest (BadIgnore fault) order pass one put = absurd put
      loop_fault note items old mid new from m to done x h rest (NotOpened name why) order pass one put = absurd put
      loop_fault note items old mid new from m to done x h rest (UnreadList name) order pass one put = absurd put
      loop_fault note items old mid new from m to done x h rest (LongList name) order pass one put = absurd put
      loop_fault note items old mid new from m to done x h rest (BadLine name n) order pass one put = absurd put

-- nothing is said of a file that is checked
pub no_notes : (done : List (Entry × Hash)) → texts_of no_note done ≡ []
no_notes [] = refl
no_notes (p ∷ ps) = no_notes ps

-- at the end of a loop all items were taken
pub all_taken : {X : Type 0} (xs : List X) (i : ℕ) → length xs ≤ i → i ≤ length xs → take i xs ≡ xs
all_taken xs i past within =
    (let at : i ≡ length xs = omega arith in subst (λ n. take n xs ≡ xs) (sym at) (take-length xs))
