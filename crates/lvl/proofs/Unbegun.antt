-- Files without a byte: an empty one, which ends as GDSII before its first record and spells nothing in either format;
-- and one whose first read failed.
use Rattle.std.proofs.Common.{◌≡◌, [], ℕ, List, Option, None, Some, refl, sym, subst, arith, inl, false, true≢false}
use Rattle.std.specs.Option.{is_some}
use Rattle.lvl_profile.specs.declared.profile.Profile.{Profile}
use Rattle.lvl_grammar.specs.Refused.{IsTruncated}
use Rattle.lvl_grammar.proofs.Orders.{empty_word}
use Rattle.lvl_grammar.proofs.Stuck.{truncated_none}
use Rattle.gds_library.specs.Front.{SpellsNone as SpellsNoGds}
use Rattle.gds_library.specs.Faults.{gds_faults}
use Rattle.gds_library.specs.Order.{a_library}
use Rattle.gds_library.proofs.Instance.{are_faults}
use Rattle.gds_records.specs.declared.fault.RecordFault.TheVariants.{Truncated}
use Rattle.gds_library.specs.declared.fault.GdsKind.TheVariants.{Record}
use Rattle.std.specs.Io.KnownBytes.{prepend_known}
use Rattle.lvl.specs.declared.layout.FileFault.{FileFault}
use Rattle.lvl.specs.declared.layout.FileFault.TheVariants.{Gds as GdsFile}
use Rattle.lvl.specs.Answers.{IsUnreadAt, ReportsUnreadFile, nothing_read}
use Rattle.lvl.specs.Layouts.{HasFirst, IsOasis}
use Rattle.lvl.specs.Sides.{IsFileFault}
use Rattle.lvl.proofs.Spelling.{no_gds}

cut_at_once : (profile : Profile) → IsTruncated (gds_faults profile) [] 0
cut_at_once profile = record {
  within = omega arith;
  records = [];
  front = record { spelled = refl; followed = tt; within = omega arith };
  unended = λ whole. true≢false (sym (empty_word a_library whole));
  cut = inl (omega arith);
}

no_library : (profile : Profile) → SpellsNoGds profile []
no_library profile cells h s =
    truncated_none (gds_faults profile) (are_faults profile) [] 0 (cut_at_once profile) s.records s.whole

no_magic : IsOasis [] → ⊥
no_magic own = cc

pub empty_file : (profile : Profile) → IsFileFault profile [] (GdsFile (record { offset = 0; kind = Record Truncated }))
empty_file profile = record {
  reported = (λ read. no_magic, cut_at_once profile);
  nothing = λ n. no_gds profile [] no_magic (no_library profile);
}

pub empty_unread : (profile : Profile) (xs : List ℕ) (left : Option (List ℕ))
    → ReportsUnreadFile profile xs left (GdsFile (record { offset = 0; kind = Record Truncated }))
empty_unread profile xs left excused = absurd excused

-- if the first read failed, the reader gave nothing
pub unread_at_once : (profile : Profile) (xs : List ℕ) → ReportsUnreadFile profile xs (Some xs) (GdsFile nothing_read)
unread_at_once profile xs excused = record {
  within = omega arith;
  records = [];
  front = record { spelled = refl; followed = tt; within = omega arith };
  given = [];
  rest = xs;
  parts = refl;
  left_is = refl;
  begun = λ some. absurd (omega (arith, some));
}

pub none_given : (profile : Profile) (xs : List ℕ) (left : Option (List ℕ)) (fault : FileFault) → left ≡ Some xs
    → ReportsUnreadFile profile xs (Some xs) fault → IsUnreadAt profile xs left fault
none_given profile xs left fault is h = record {
  first = [];
  few = omega arith;
  unread = subst (λ l. ReportsUnreadFile profile xs (prepend_known [] l) fault) (sym is) h;
}

-- an input without a first byte is empty
pub no_bytes : (first : Option ℕ) (xs : List ℕ) → HasFirst first xs → is_some first ≡ false → xs ≡ []
no_bytes None xs h none = h
no_bytes (Some byte) xs h none = absurd (true≢false none)
