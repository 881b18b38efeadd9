-- What the result of a reader says about the bytes, in any format.
use Rattle.lvl_profile.specs.declared.profile.Profile.{Profile}
use Rattle.std.proofs.Common.{◌≡◌, ◌∙◌, [], ◌∷◌, ◌++◌, List, ℕ, Option, Some, None, Ok, Err, IfErr, ap, sym, subst, length, ◌<◌, ◌≤◌}
use Rattle.std.proofs.Common.{arith, append_assoc}
use Rattle.std.specs.Prelude.{Result}
use Rattle.std.specs.Io.KnownBytes.{prepend_known}
use Rattle.lvl_io.specs.Peeked.{given_again}
use Rattle.lvl_io.proofs.Known.{known_parts}
use Rattle.lvl_path.specs.Figure.{figure_rings}
use Rattle.lvl_cells.specs.Cells.{PlainCell, Rings, kept}
use Rattle.lvl_refusal.specs.declared.Cause.{Cause}
use Rattle.lvl_refusal.specs.declared.Cause.TheVariants.{Breach, OutOfMemory}
use Rattle.lvl_refusal.specs.Refused.{Says}
use Rattle.lvl_grammar.specs.Refused.{IsHopeless as IsHopelessStream}
use Rattle.gds_library.specs.Front.{IsRead as IsReadGds, SpellsNone as SpellsNoGds, gds}
use Rattle.gds_library.specs.Ends.{Reports as ReportsGds, IsEarly as IsEarlyGds, IsExcused as IsExcusedGds}
use Rattle.gds_library.specs.Ends.{ReportsUnread as ReportsUnreadGds}
use Rattle.gds_library.specs.declared.fault.GdsFault.{GdsFault}
use Rattle.gds_library.specs.declared.head.GdsHead.{GdsHead}
use Rattle.oasis_stream.specs.Front.{oasis}
use Rattle.oasis_library.specs.Library.{IsRead as IsReadOasis, SpellsNone as SpellsNoOasis}
use Rattle.oasis_library.specs.Ends.{Reports as ReportsOasis, IsEarly as IsEarlyOasis, IsExcused as IsExcusedOasis}
use Rattle.oasis_library.specs.Ends.{ReportsUnread as ReportsUnreadOasis}
use Rattle.oasis_library.specs.declared.fault.OasisFault.{OasisFault}
use Rattle.oasis_library.specs.declared.head.OasisHead.{OasisHead}
use Rattle.lvl.specs.Drawing.{Drawing}
use Rattle.lvl.specs.declared.layout.Head.{Head}
use Rattle.lvl.specs.declared.layout.Head.TheVariants.{Gds, Oasis}
use Rattle.lvl.specs.declared.layout.FileFault.TheVariants.{Gds as GdsFile, Oasis as OasisFile}
use Rattle.lvl.specs.Layouts.{BeginsWith, IsOasis, Spells, SpellsSome, IsLayoutOf}
use Rattle.lvl.specs.declared.layout.FileFault.{FileFault}
use Rattle.lvl.specs.Answers.{IsEarlyFile, IsHopeless, IsUnreadAt, ReportsUnreadFile}
use Rattle.lvl.specs.Sides.{IsFileFault, SpellsNothing}
use Rattle.lvl.proofs.Formats.{gds_begins, oasis_begins, one_format, one_byte}

-- a file that was read

gds_alone : (profile : Profile) (xs : List ℕ) (found : List (PlainCell Rings)) (h : GdsHead) → IsReadGds profile xs found h
    → (others : List Drawing) (head : Head)
    → Spells profile xs others head → (found ≡ kept figure_rings others) × (Gds h ≡ head)
gds_alone profile xs found h read others (Gds g) s =
    let p = read.only others g s in (read.kept_as ∙ ap (kept figure_rings) (sym p.0), ap Gds (sym p.1))
gds_alone profile xs found h read others (Oasis o) s = absurd (one_format profile xs read.cells others h o read.spelled s)

pub gds_read : (profile : Profile) (xs : List ℕ) (found : List (PlainCell Rings)) (h : GdsHead)
    → IsReadGds profile xs found h
    → IsLayoutOf profile xs found (Gds h)
gds_read profile xs found h read =
    record {
      cells = read.cells;
      spelled = read.spelled;
      kept_as = read.kept_as;
      alone =
          gds_alone profile xs found h read;
    }

oasis_alone : (profile : Profile) (xs : List ℕ) (found : List (PlainCell Rings)) (h : OasisHead)
    → IsReadOasis profile xs found h
    → (others : List Drawing) (head : Head)
    → Spells profile xs others head → (found ≡ kept figure_rings others) × (Oasis h ≡ head)
oasis_alone profile xs found h read others (Oasis o) s =
    let p = read.only others o s in (read.kept_as ∙ ap (kept figure_rings) (sym p.0), ap Oasis (sym p.1))
oasis_alone profile xs found h read others (Gds g) s = absurd (one_format profile xs others read.cells g h s read.spelled)

pub oasis_read : (profile : Profile) (xs : List ℕ) (found : List (PlainCell Rings)) (h : OasisHead)
    → IsReadOasis profile xs found h
    → IsLayoutOf profile xs found (Oasis h)
oasis_read profile xs found h read =
    record {
      cells = read.cells;
      spelled = read.spelled;
      kept_as = read.kept_as;
      alone =
          oasis_alone profile xs found h read;
    }

-- the first byte shows that a file that wasn't read is none of the other format either

pub no_gds : (profile : Profile) (xs : List ℕ) → (IsOasis xs → ⊥) → SpellsNoGds profile xs → SpellsNothing profile xs
no_gds profile xs other none cells (Gds h) s = none cells h s
no_gds profile xs other none cells (Oasis h) s = other (oasis_begins profile xs cells h s)

no_oasis : (profile : Profile) (xs : List ℕ) → IsOasis xs → SpellsNoOasis profile xs → SpellsNothing profile xs
no_oasis profile xs own none cells (Oasis h) s = none cells h s
no_oasis profile xs own none cells (Gds h) s =
    (let e : 0 ≡ 0x25 = one_byte 0 0x25 xs (gds_begins profile xs cells h s) own in omega (arith, e))

said : {F : Type 0} (P : F → Type 0) (r : Cause F) (fault : F) → r ≡ Breach fault → Says r P → P fault
said P r fault is h = subst (λ x. Says x P) is h

pub gds_fault : (profile : Profile) (xs : List ℕ) (r : Cause GdsFault) (fault : GdsFault) → r ≡ Breach fault
    → (IsOasis xs → ⊥)
    → Says r (ReportsGds profile xs)
    → Says r (λ f. (¬ IsExcusedGds f) → SpellsNoGds profile xs) → IsFileFault profile xs (GdsFile fault)
gds_fault profile xs r fault is other reported none = record {
  reported = (λ read. other, said (ReportsGds profile xs) r fault is reported);
  nothing = λ n. no_gds profile xs other (said (λ f. (¬ IsExcusedGds f) → SpellsNoGds profile xs) r fault is none n);
}

pub oasis_fault : (profile : Profile) (xs : List ℕ) (r : Cause OasisFault) (fault : OasisFault) → r ≡ Breach fault
    → IsOasis xs
    → Says r (ReportsOasis profile xs)
    → Says r (λ f. (¬ IsExcusedOasis f) → SpellsNoOasis profile xs) → IsFileFault profile xs (OasisFile fault)
oasis_fault profile xs r fault is own reported none = record {
  reported = (own, said (ReportsOasis profile xs) r fault is reported);
  nothing = λ n. no_oasis profile xs own (said (λ f. (¬ IsExcusedOasis f) → SpellsNoOasis profile xs) r fault is none n);
}

-- a byte that was peeked at and not given again was taken
hopeless_rest : (profile : Profile) (xs : List ℕ) (byte : Option ℕ) (inner : Option (List ℕ))
    → IsHopeless profile xs (prepend_known (given_again byte) inner)
    → IsHopeless profile xs inner
hopeless_rest profile xs byte inner h =
    let front = given_again byte in
    let p = known_parts front inner h.rest h.left_is in
    record {
      taken = h.taken ++ front;
      rest = p.0;
      parts = h.parts ∙ ap (λ l. h.taken ++ l) (sym p.2) ∙ sym (append_assoc h.taken front p.0);
      left_is = p.1;
      none = λ more some. h.none (front ++ more) (subst (SpellsSome profile) (append_assoc h.taken front more) some);
    }

pub early_rest : (profile : Profile) {A : Type 0} (xs : List ℕ) (byte : Option ℕ) (inner left : Option (List ℕ))
    (r : Result A (Cause FileFault))
    → IfErr r (λ e. Says e (λ f. IsEarlyFile f → IsHopeless profile xs (prepend_known (given_again byte) inner)))
    → inner ≡ left
    → IfErr r (λ e. Says e (λ f. IsEarlyFile f → IsHopeless profile xs left))
early_rest profile xs byte inner left (Ok x) h e = tt
early_rest profile xs byte inner left (Err OutOfMemory) h e = tt
early_rest profile xs byte inner left (Err (Breach f)) h e =
    λ soon. subst (IsHopeless profile xs) e (hopeless_rest profile xs byte inner (h soon))

-- a reader that failed gave all that is missing from what it has left, but for a byte that was peeked at

at_most_one : (byte : Option ℕ) → length (given_again byte) ≤ 1
at_most_one None = omega arith
at_most_one (Some b) = omega arith

pub unread_rest : (profile : Profile) {A : Type 0} (xs : List ℕ) (byte : Option ℕ) (inner left : Option (List ℕ))
    (r : Result A (Cause FileFault))
    → IfErr r (λ e. Says e (ReportsUnreadFile profile xs (prepend_known (given_again byte) inner)))
    → inner ≡ left
    → IfErr r (λ e. Says e (IsUnreadAt profile xs left))
unread_rest profile xs byte inner left (Ok x) h e = tt
unread_rest profile xs byte inner left (Err OutOfMemory) h e = tt
unread_rest profile xs byte inner left (Err (Breach f)) h e = record {
  first = given_again byte;
  few = at_most_one byte;
  unread = subst (λ l. ReportsUnreadFile profile xs (prepend_known (given_again byte) l) f) e h;
}

pub gds_unread : (profile : Profile) (xs : List ℕ) (left : Option (List ℕ)) (r : Cause GdsFault) (fault : GdsFault)
    → r ≡ Breach fault → Says r (ReportsUnreadGds profile xs left)
    → ReportsUnreadFile profile xs left (GdsFile fault)
gds_unread profile xs left r fault is h = said (ReportsUnreadGds profile xs left) r fault is h

pub oasis_unread : (profile : Profile) (xs : List ℕ) (left : Option (List ℕ)) (r : Cause OasisFault)
    (fault : OasisFault) → r ≡ Breach fault → Says r (ReportsUnreadOasis profile xs left)
    → ReportsUnreadFile profile xs left (OasisFile fault)
oasis_unread profile xs left r fault is h = said (ReportsUnreadOasis profile xs left) r fault is h

-- if a file is refused early, no file of either format begins with the bytes taken: at least one was, and it decides
-- the format

begun_so : (byte : ℕ) (taken rest more : List ℕ) → 0 < length taken → BeginsWith byte (taken ++ more)
    → BeginsWith byte (taken ++ rest)
begun_so byte [] rest more some b = absurd (omega (arith, some))
begun_so byte (t ∷ ts) rest more some b =
    (let e : t ∷ (ts ++ more) ≡ byte ∷ b.rest = b.is in record { rest = ts ++ rest; is = cc })

no_gds_more : (profile : Profile) (taken rest more : List ℕ) → 0 < length taken → (IsOasis (taken ++ rest) → ⊥)
    → SpellsNoGds profile (taken ++ more)
    → SpellsSome profile (taken ++ more) → ⊥
no_gds_more profile taken rest more some other none s =
    no_gds profile (taken ++ more) (λ o. other (begun_so 0x25 taken rest more some o)) none s.0 s.1 s.2

no_oasis_more : (profile : Profile) (taken rest more : List ℕ) → 0 < length taken → IsOasis (taken ++ rest)
    → SpellsNoOasis profile (taken ++ more)
    → SpellsSome profile (taken ++ more) → ⊥
no_oasis_more profile taken rest more some own none s =
    no_oasis profile (taken ++ more) (begun_so 0x25 taken more rest some own) none s.0 s.1 s.2

pub gds_early : (profile : Profile) (xs : List ℕ) (left : Option (List ℕ)) (r : Cause GdsFault) (fault : GdsFault)
    → r ≡ Breach fault
    → (IsOasis xs → ⊥)
    → Says r (λ f. IsEarlyGds f → IsHopelessStream (gds profile) xs left) → IsEarlyGds fault → IsHopeless profile xs left
gds_early profile xs left r fault is other early soon =
    let h = said (λ f. IsEarlyGds f → IsHopelessStream (gds profile) xs left) r fault is early soon in
    record {
      taken = h.taken;
      rest = h.rest;
      parts = h.parts;
      left_is = h.left_is;
      none =
          λ more s. no_gds_more profile h.taken h.rest more h.some (λ o. other (subst IsOasis (sym h.parts) o))
          (λ cells g p. h.none more p.records p.whole) s;
    }

pub oasis_early : (profile : Profile) (xs : List ℕ) (left : Option (List ℕ)) (r : Cause OasisFault) (fault : OasisFault)
    → r ≡ Breach fault → IsOasis xs
    → Says r (λ f. IsEarlyOasis f → IsHopelessStream (oasis profile) xs left) → IsEarlyOasis fault
    → IsHopeless profile xs left
oasis_early profile xs left r fault is own early soon =
    let h = said (λ f. IsEarlyOasis f → IsHopelessStream (oasis profile) xs left) r fault is early soon in
    record {
      taken = h.taken;
      rest = h.rest;
      parts = h.parts;
      left_is = h.left_is;
      none =
          λ more s. no_oasis_more profile h.taken h.rest more h.some (subst IsOasis h.parts own)
          (λ cells o p. h.none more p.items p.whole) s;
    }
