-- What a refusal says about the two files, step by step.
use Rattle.std.proofs.Common.{◌≡◌, ℕ, List, false, Some, None, refl, sym, ◌∙◌, subst}
use Rattle.lvl_io.specs.Bytes.{CountsFailure}
use Rattle.lvl_cells.specs.Cells.{PlainCell, Rings}
use Rattle.lvl_region.specs.declared.region.Side.{Side}
use Rattle.lvl_region.specs.declared.region.Side.TheVariants.{First, Second}
use Rattle.lvl.specs.Drawing.{Drawing}
use Rattle.lvl.specs.declared.layout.Head.{Head}
use Rattle.lvl.specs.declared.verdict.Refusal.{Refusal}
use Rattle.lvl.specs.declared.verdict.Refusal.TheVariants.{File as FileRefusal, Cells as CellsRefusal}
use Rattle.lvl.specs.declared.verdict.Refusal.TheVariants.{Flat as FlatRefusal, OutOfMemory}
use Rattle.lvl.specs.Layouts.{File, SpellsSome, IsLayoutOf}
use Rattle.lvl.specs.Accepted.{IsAccepted}
use Rattle.lvl.specs.Kept.{Kept, Passes, IsFitted, IsKeptRefusal}
use Rattle.lvl.specs.Answers.{HasPassed, IsEarlyFile, IsEarlyOf, IsHopeless, IsRefusalOf, IsUnreadAt, PassesCheck}
use Rattle.lvl.specs.Answers.{is_read_of, read_failed}
use Rattle.lvl.specs.Readers.{Input, IsReadBy, file_of}
use Rattle.lvl.specs.declared.layout.FileFault.{FileFault}
use Rattle.lvl.specs.Sides.{IsFileFault, IsOfFile}
use Rattle.lvl.proofs.Lifting.{cell_reported, cell_unaccepted, range_reported, range_unaccepted, top_lifted}

pub first_second : First ≡ Second → ⊥
first_second e = cc

-- a library that was read, checked and flattened

pub passes : (file : File) (cells : List (PlainCell Rings)) (head : Head) → IsLayoutOf file.profile file.bytes cells head
    → Passes (record { limits = file.profile.limits; cells = cells; top = file.top }) → PassesCheck file
passes file cells head read p =
    (read.cells, head, read.spelled, subst (λ c. Passes (record { limits = file.profile.limits; cells = c; top = file.top })) read.kept_as p)

pub spells : (file : File) (cells : List (PlainCell Rings)) (head : Head) → IsLayoutOf file.profile file.bytes cells head
    → SpellsSome file.profile file.bytes
spells file cells head read = (read.cells, head, read.spelled)

accepts : (file : File) (cells : List (PlainCell Rings)) (head : Head) → IsLayoutOf file.profile file.bytes cells head
    → IsFitted (record { limits = file.profile.limits; cells = cells; top = file.top })
    → (others : List Drawing) × (top : Drawing) × IsAccepted file others top
accepts file cells head read f = let l = top_lifted file cells head read f.0 f.1 in (read.cells, l.top, l.accepted)

-- a file that wasn't read

none_before : (side : Side) (file : File) (s : Side) (f : FileFault) → s ≡ side → HasPassed side file (FileRefusal s f)
none_before First file First f e = tt
none_before First file Second f e = absurd (first_second (sym e))
none_before Second file s f e = tt

own_refused : (side : Side) (file : File) (f : FileFault) → IsFileFault file.profile file.bytes f
    → IsRefusalOf side file (FileRefusal side f)
own_refused side file f h = record {
  unaccepted = λ b cells top accepted. h.nothing b.1 cells accepted.head accepted.spelled;
  reported = λ same. h.reported;
  passed = none_before side file side f refl;
}

own_read : (side : Side) (f : FileFault) → is_read_of side (Some (FileRefusal side f)) ≡ read_failed f
own_read First f = refl
own_read Second f = refl

-- what is promised of a reader whose file wasn't read
pub unread : (side : Side) (a : Input) (f : FileFault)
    → ((xs : List ℕ) → a.bytes ≡ Some xs → IsFileFault a.profile xs f)
    → ((xs : List ℕ) → a.bytes ≡ Some xs → IsEarlyFile f → IsHopeless a.profile xs a.left)
    → ((xs : List ℕ) → a.bytes ≡ Some xs → IsUnreadAt a.profile xs a.left f)
    → CountsFailure a.before a.after (read_failed f) → IsReadBy side a (Some (FileRefusal side f))
unread side a f fault early offset reads = record {
  refused = λ xs known. own_refused side (file_of a xs) f (fault xs known);
  early = λ xs known soon. early xs known soon.1;
  unread = λ xs known other is.
      (let same : f ≡ other = cc in subst (IsUnreadAt a.profile xs a.left) same (offset xs known));
  reads = subst (CountsFailure a.before a.after) (sym (own_read side f)) reads;
}

-- the refusal isn't that this side's file wasn't read
abbrev pub IsElsewhere : Side → Refusal → Type 0
IsElsewhere side (FileRefusal s f) = s ≡ side → ⊥
IsElsewhere side (CellsRefusal s f) = Unit {0}
IsElsewhere side (FlatRefusal s f) = Unit {0}
IsElsewhere side OutOfMemory = Unit {0}

never_early : (side : Side) (r : Refusal) → IsElsewhere side r → IsEarlyOf side r → ⊥
never_early side (FileRefusal s f) other soon = other soon.0
never_early side (CellsRefusal s f) other soon = soon
never_early side (FlatRefusal s f) other soon = soon
never_early side OutOfMemory other soon = soon

not_own : (side : Side) (r : Refusal) (f : FileFault) → IsElsewhere side r → Some r ≡ Some (FileRefusal side f) → ⊥
not_own side r f other is =
    let same : r ≡ FileRefusal side f = cc in
    let own : IsElsewhere side (FileRefusal side f) = subst (IsElsewhere side) same other in own refl

not_read : (side : Side) (r : Refusal) → IsElsewhere side r → is_read_of side (Some r) ≡ false
not_read First (FileRefusal First f) other = absurd (other refl)
not_read First (FileRefusal Second f) other = refl
not_read First (CellsRefusal s f) other = refl
not_read First (FlatRefusal s f) other = refl
not_read First OutOfMemory other = refl
not_read Second (FileRefusal First f) other = refl
not_read Second (FileRefusal Second f) other = absurd (other refl)
not_read Second (CellsRefusal s f) other = refl
not_read Second (FlatRefusal s f) other = refl
not_read Second OutOfMemory other = refl

none_read : (side : Side) → is_read_of side None ≡ false
none_read First = refl
none_read Second = refl

-- what is promised of a reader whose file was read
pub read : (side : Side) (a : Input) → CountsFailure a.before a.after false → IsReadBy side a None
read side a reads = record {
  refused = λ xs known. tt;
  early = λ xs known. tt;
  unread = λ xs known fault is. cc;
  reads = subst (CountsFailure a.before a.after) (sym (none_read side)) reads;
}

-- what is promised of a reader that returned no error, if the refusal isn't that its file wasn't read
pub read_before : (side : Side) (a : Input) (r : Refusal) → IsElsewhere side r → CountsFailure a.before a.after false
    → ((xs : List ℕ) → a.bytes ≡ Some xs → IsRefusalOf side (file_of a xs) r) → IsReadBy side a (Some r)
read_before side a r other reads refused = record {
  refused = refused;
  early = λ xs known soon. absurd (never_early side r other soon);
  unread = λ xs known fault is. absurd (not_own side r fault other is);
  reads = subst (CountsFailure a.before a.after) (sym (not_read side r other)) reads;
}

-- a refusal that one side's file wasn't read is elsewhere for the other side
pub elsewhere : (side other : Side) (r : Refusal) → (side ≡ other → ⊥) → IsOfFile side r → IsElsewhere other r
elsewhere side other (FileRefusal s f) apart h = λ e. apart (sym h ∙ e)
elsewhere side other (CellsRefusal s f) apart h = tt
elsewhere side other (FlatRefusal s f) apart h = tt
elsewhere side other OutOfMemory apart h = tt

pub no_memory : (side : Side) (file : File) → IsRefusalOf side file OutOfMemory
no_memory First file = record { unaccepted = λ b. absurd b; reported = tt; passed = tt }
no_memory Second file = record { unaccepted = λ b. absurd b; reported = tt; passed = tt }

-- a refusal of the second file says that the first was read, and one of the first says nothing about the second

pub first_of_second : (file : File) (cells : List (PlainCell Rings)) (head : Head)
    → IsLayoutOf file.profile file.bytes cells head
    → (r : Refusal) → IsOfFile Second r
    → IsRefusalOf First file r
first_of_second file cells head read (FileRefusal First f) h = absurd (first_second h)
first_of_second file cells head read (FileRefusal Second f) h = record {
  unaccepted = λ b. absurd (first_second (sym b.0));
  reported = λ e. absurd (first_second (sym e));
  passed = spells file cells head read;
}
first_of_second file cells head read (CellsRefusal s f) h = absurd h
first_of_second file cells head read (FlatRefusal s f) h = absurd h
first_of_second file cells head read OutOfMemory h = no_memory First file

pub second_of_first : (file : File) (r : Refusal) → IsOfFile First r → IsRefusalOf Second file r
second_of_first file (FileRefusal First f) h = record {
  unaccepted = λ b. absurd (first_second b.0);
  reported = λ e. absurd (first_second e);
  passed = tt;
}
second_of_first file (FileRefusal Second f) h = absurd (first_second (sym h))
second_of_first file (CellsRefusal s f) h = absurd h
second_of_first file (FlatRefusal s f) h = absurd h
second_of_first file OutOfMemory h = no_memory Second file

-- libraries that weren't compared

pub first_refused : (a : File) (k : Kept) (cells : List (PlainCell Rings)) (head : Head)
    → IsLayoutOf a.profile a.bytes cells head
    → (r : Refusal)
    → IsKeptRefusal (record { limits = a.profile.limits; cells = cells; top = a.top }) k r → IsRefusalOf First a r
first_refused a k cells head read (FileRefusal s f) h = absurd h
first_refused a k cells head read (CellsRefusal First f) h = record {
  unaccepted = λ b. cell_unaccepted a cells head read f h;
  reported = λ e. cell_reported a cells head read f h;
  passed = spells a cells head read;
}
first_refused a k cells head read (CellsRefusal Second f) h = record {
  unaccepted = λ b. absurd (first_second (sym b));
  reported = λ e. absurd (first_second (sym e));
  passed = passes a cells head read h.0;
}
first_refused a k cells head read (FlatRefusal First f) h = record {
  unaccepted = λ b. range_unaccepted a cells head read f h.0;
  reported = λ e. range_reported a cells head read f h.0;
  passed = passes a cells head read (h.0.settled, h.0.checked);
}
first_refused a k cells head read (FlatRefusal Second f) h = record {
  unaccepted = λ b. absurd (first_second (sym b));
  reported = λ e. absurd (first_second (sym e));
  passed = accepts a cells head read h.0;
}
first_refused a k cells head read OutOfMemory h = no_memory First a

pub second_refused : (b : File) (k : Kept) (cells : List (PlainCell Rings)) (head : Head)
    → IsLayoutOf b.profile b.bytes cells head → (r : Refusal)
    → IsKeptRefusal k (record { limits = b.profile.limits; cells = cells; top = b.top }) r → IsRefusalOf Second b r
second_refused b k cells head read (FileRefusal s f) h = absurd h
second_refused b k cells head read (CellsRefusal First f) h = record {
  unaccepted = λ b. absurd (first_second b);
  reported = λ e. absurd (first_second e);
  passed = spells b cells head read;
}
second_refused b k cells head read (CellsRefusal Second f) h = record {
  unaccepted = λ e. cell_unaccepted b cells head read f h.1;
  reported = λ e. cell_reported b cells head read f h.1;
  passed = spells b cells head read;
}
second_refused b k cells head read (FlatRefusal First f) h = record {
  unaccepted = λ b. absurd (first_second b);
  reported = λ e. absurd (first_second e);
  passed = passes b cells head read h.1;
}
second_refused b k cells head read (FlatRefusal Second f) h = record {
  unaccepted = λ e. range_unaccepted b cells head read f h.1;
  reported = λ e. range_reported b cells head read f h.1;
  passed = passes b cells head read (h.1.settled, h.1.checked);
}
second_refused b k cells head read OutOfMemory h = no_memory Second b
