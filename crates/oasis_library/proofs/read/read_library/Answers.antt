use Rattle.std.proofs.Common.{ℕ, subst}
use Rattle.lvl_io.specs.Bytes.{CountsFailure}
use Rattle.oasis_values.specs.Input.{input_profile, input_reader}
use Rattle.oasis_stream.specs.Items.{IsEnded, records}
use Rattle.oasis_library.specs.inside.Holds.{HasWhole}
use Rattle.oasis_library.proofs.Loop.{reads_as}
use Rattle.oasis_library.proofs.Readable.{law_read, law_unresolved}
use Rattle.oasis_library.proofs.Resolving.{says_carried, read_carried, is_refusal_read}
use Rattle.oasis_library.proofs.read.read_library.Goals as goal

pub returns-in-Ok-clause-spelled : goal.returns-in-Ok-clause-spelled
returns-in-Ok-clause-spelled g c = λ xs k.
    let to = c.in_ok-read_records.ensures.whole xs k in
    let ended = reads_as (input_profile c.args.input.now) xs _ (HasWhole (input_profile c.args.input.now) c.read_records.new.reading) IsEnded _ to
    (λ is h. h.1) in
    let whole = rw c.in_ok-read_records.ensures.profile at c.in_ok-read_nothing.ensures.whole in
    law_read (input_profile c.args.input.now) xs to.records c.in-Ok.read.0 c.in-Ok.read.1 (whole xs ended)
    (c.in-Ok.ensures.cells (records to.records) to.holds.0.holds) (c.in-Ok.ensures.head (records to.records) to.holds.0.holds)

pub returns-in-Err-Breach-clause-refused : goal.returns-in-Err-Breach-clause-refused
returns-in-Err-Breach-clause-refused g c = λ xs k.
    let to = c.in_ok-read_records.ensures.whole xs k in
    let ended = reads_as (input_profile c.args.input.now) xs _ (HasWhole (input_profile c.args.input.now) c.read_records.new.reading) IsEnded _ to
    (λ is h. h.1) in
    let whole = rw c.in_ok-read_records.ensures.profile at c.in_ok-read_nothing.ensures.whole in
    law_unresolved (input_profile c.args.input.now) xs to.records c.in-Err-Breach.number (whole xs ended)
    ((rw c.in-Err-Breach.field-0-is at c.in-Err-Breach.ensures.unnamed) (records to.records) to.holds.0.holds)

pub returns-in_err-read_nothing-clause-refused : goal.returns-in_err-read_nothing-clause-refused
returns-in_err-read_nothing-clause-refused g c = λ xs k.
    let to = c.in_ok-read_records.ensures.whole xs k in
    let ended = reads_as (input_profile c.args.input.now) xs _ (HasWhole (input_profile c.args.input.now) c.read_records.new.reading) IsEnded _ to
    (λ is h. h.1) in
    let refused = rw c.in_ok-read_records.ensures.profile at c.in_err-read_nothing.ensures.refused in
    says_carried _ _ c.from_residual-in_err-read_nothing.result c.in_err-read_nothing.field-0.0 (λ f p. p xs ended)
    refused c.from_residual-in_err-read_nothing.ensures

pub returns-in_err-read_nothing-clause-reads : goal.returns-in_err-read_nothing-clause-reads
returns-in_err-read_nothing-clause-reads g c =
    let before : ℕ = g.R.Read.read_errors (input_reader c.args.input.now) in
    let after : ℕ = g.R.Read.read_errors (input_reader c.read_nothing.new.input) in
    subst (λ b. CountsFailure before after b)
    (read_carried _ c.from_residual-in_err-read_nothing.result c.in_err-read_nothing.field-0.0
    c.from_residual-in_err-read_nothing.ensures)
    (subst (λ i. CountsFailure i after (is_refusal_read c.in_err-read_nothing.field-0.0)) c.in_ok-read_records.ensures.reads
    c.in_err-read_nothing.ensures.reads)
