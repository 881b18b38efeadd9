use Rattle.std.proofs.Common.{◌≡◌, ◌≤◌, ◌∷◌, [], ◌++◌, List, length, refl, sym, ap, ◌∙◌, subst, arith}
use Rattle.std.specs.Prelude.{Some}
use Rattle.oasis_values.specs.Input.{input_profile, bytes_left}
use Rattle.oasis_blocks.specs.declared.unpack.Unpacker.{Unpacker}
use Rattle.oasis_records.specs.declared.record.Record.{Record}
use Rattle.oasis_stream.specs.Items.{records}
use Rattle.oasis_library.specs.declared.reading.Reading.{Reading}
use Rattle.oasis_library.specs.inside.Holds.{Holds}
use Rattle.oasis_library.proofs.Inside.{unpack_says, inside_breaks, block_taken, block_room}
use Rattle.oasis_library.proofs.Resolving.{says_carried}
use Rattle.oasis_library.proofs.blocks.take_block.Goals as goal

-- what was read is the same in other memory for blocks
held_with : (x : Reading) (u : Unpacker) (rs : List Record) → Holds x rs → Holds (record x { unpacker = u }) rs
held_with x u rs h = record {
  order = h.order;
  names = h.names;
  modal = h.modal;
  cells = h.cells;
  unit = h.unit;
  validation = h.validation;
}

pub returns-in-Err-clause-refused : goal.returns-in-Err-clause-refused
returns-in-Err-clause-refused c =
    rw c.of_block.ensures
    (unpack_says c.args.profile c.args.reading.now c.args.packed c.in-Err.refusal c.in-Err.ensures.refused)

pub take_inside-requires : goal.take_inside-requires
take_inside-requires c =
    let u = c.in-Ok.ensures.unpacks in
    let w = c.requires in
    record {
      held = (records w.0, held_with c.args.reading.now c.unpack.new.unpacker (records w.0) w.1.holds);
      fresh = c.begin.ensures.failed;
      start = c.begin.ensures.offset;
      counted = λ ys k.
          let e : Some ys ≡ Some c.in-Ok.unpacked = sym k ∙ c.begin.ensures.bytes in
          let same : ys ≡ c.in-Ok.unpacked = cc in
          ap length same ∙ u.counted ∙ sym c.count-count.ensures;
      within = rw c.begin.ensures.profile
          (omega (arith, c.in-Ok.ensures.within, u.counted, c.count-count.ensures, w.1.room));
    }

pub returns-in_err-take_inside-clause-refused : goal.returns-in_err-take_inside-clause-refused
returns-in_err-take_inside-clause-refused c =
    let refused = rw c.begin.ensures.profile at c.in_err-take_inside.ensures.refused in
    says_carried _ _ c.from_residual.result c.in_err-take_inside.field-0.0
    (λ f s. λ is h. inside_breaks c.args.profile c.args.reading.now c.args.packed c.in-Ok.unpacked _ is
    c.in-Ok.ensures.unpacks c.in-Ok.ensures.within h (s (records is) c.in-Ok.unpacked (held_with c.args.reading.now c.unpack.new.unpacker (records is) h.holds) c.begin.ensures.bytes))
    refused c.from_residual.ensures

pub returns-clause-kept : goal.returns-clause-kept
returns-clause-kept c = λ is h.
    let whole = rw c.begin.ensures.profile at c.in_ok-take_inside.ensures.whole in
    let taken = block_taken c.args.profile c.args.reading.now c.take_inside.new.reading c.args.packed c.in-Ok.unpacked
    is c.in-Ok.ensures.unpacks c.in-Ok.ensures.within h
    (whole (records is) c.in-Ok.unpacked
    (held_with c.args.reading.now c.unpack.new.unpacker (records is) h.holds) c.begin.ensures.bytes) in (
      taken.0,
      taken.1,
      record {
        holds = record {
          order = taken.2.order;
          names = taken.2.names;
          modal = taken.2.modal;
          cells = taken.2.cells;
          unit = taken.2.unit;
          validation = taken.2.validation;
        };
        room = block_room c.args.profile is c.args.packed taken.0 c.args.reading.now.room _ h.room
            (omega (arith, c.in_ok-take_inside.ensures.room, c.count-count.ensures));
      },
    )
