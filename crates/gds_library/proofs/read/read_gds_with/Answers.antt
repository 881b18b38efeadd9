use Rattle.std.proofs.Common.{◌∙◌, rules}
use Rattle.gds_library.proofs.Readable.{none_in_hand, refused_reports, refused_none, unread_left, early_left}
use Rattle.gds_library.proofs.read.read_gds_with.Goals as goal

pub returns-clause-refused : goal.returns-clause-refused
returns-clause-refused g c =
    λ xs k. refused_reports c.args.profile xs _ c.read_library-read.result
    (c.read_library-read.ensures.refused xs (none_in_hand _ _ _ c.with_buffer-records.ensures.bytes
    (c.in_ok-buffer.ensures.ok ∙ c.new.ensures) ∙ k))

pub returns-clause-none : goal.returns-clause-none
returns-clause-none g c =
    λ xs k. refused_none c.args.profile xs _ c.read_library-read.result
    (c.read_library-read.ensures.refused xs (none_in_hand _ _ _ c.with_buffer-records.ensures.bytes
    (c.in_ok-buffer.ensures.ok ∙ c.new.ensures) ∙ k))

pub returns-clause-early : goal.returns-clause-early
returns-clause-early g c = λ xs k.
    early_left c.args.profile xs _ _ c.read_library-read.result
    (c.read_library-read.ensures.refused xs (none_in_hand _ _ _ c.with_buffer-records.ensures.bytes
    (c.in_ok-buffer.ensures.ok ∙ c.new.ensures) ∙ k)) (search rules)

pub returns-clause-unread : goal.returns-clause-unread
returns-clause-unread g c = λ xs k.
    unread_left c.args.profile xs _ _ c.read_library-read.result
    (c.read_library-read.ensures.refused xs (none_in_hand _ _ _ c.with_buffer-records.ensures.bytes
    (c.in_ok-buffer.ensures.ok ∙ c.new.ensures) ∙ k)) (search rules)
