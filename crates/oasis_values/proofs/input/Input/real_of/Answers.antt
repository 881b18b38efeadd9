use Rattle.std.proofs.lemmas.Result.{err_from_is_err_and}
use Rattle.oasis_values.specs.Known.{Seen}
use Rattle.oasis_values.specs.Reals.{IsDenominator}
use Rattle.oasis_values.proofs.Codes.{seen_code}
use Rattle.oasis_values.proofs.Reading.{reads_err, reads_then, reads_seen, reads_seen_err}
use Rattle.oasis_values.proofs.Values.{denominator_code}
use Rattle.oasis_values.specs.declared.number.Real.TheVariants.{Whole, NegWhole, Reciprocal, NegReciprocal, Ratio}
use Rattle.oasis_values.specs.declared.number.Real.TheVariants.{NegRatio, Four, Eight}
use Rattle.oasis_values.proofs.input.Input.real_of.Goals as goal

pub returns-in_err-number-in-Whole : goal.returns-in_err-number-in-Whole
returns-in_err-number-in-Whole g c =
    let p = err_from_is_err_and c.from_residual.result c.from_residual.ensures.1 in
    rw (p.1, p.2, c.in-Whole.is) (record { reads = reads_seen_err Whole c.in_err-number-in-Whole.ensures.reads })

pub returns-in_ok-number-in-Whole : goal.returns-in_ok-number-in-Whole
returns-in_ok-number-in-Whole g c =
    rw c.in-Whole.is (record { reads = reads_seen Whole c.in_ok-number-in-Whole.ensures.reads })

pub returns-in_err-number-in-NegWhole : goal.returns-in_err-number-in-NegWhole
returns-in_err-number-in-NegWhole g c =
    let p = err_from_is_err_and c.from_residual-in_err-number-in-NegWhole.result
    c.from_residual-in_err-number-in-NegWhole.ensures.1 in
    rw (p.1, p.2, c.in-NegWhole.is)
    (record { reads = reads_seen_err NegWhole c.in_err-number-in-NegWhole.ensures.reads })

pub returns-in_ok-number-in-NegWhole : goal.returns-in_ok-number-in-NegWhole
returns-in_ok-number-in-NegWhole g c =
    rw c.in-NegWhole.is (record { reads = reads_seen NegWhole c.in_ok-number-in-NegWhole.ensures.reads })

pub returns-in_err-below-in-Reciprocal : goal.returns-in_err-below-in-Reciprocal
returns-in_err-below-in-Reciprocal g c =
    let p = err_from_is_err_and c.from_residual-in_err-below-in-Reciprocal.result
    c.from_residual-in_err-below-in-Reciprocal.ensures.1 in
    rw (p.1, p.2, c.in-Reciprocal.is)
    (record { reads = reads_seen_err Reciprocal c.in_err-below-in-Reciprocal.ensures.reads })

pub returns-in_ok-below-in-Reciprocal : goal.returns-in_ok-below-in-Reciprocal
returns-in_ok-below-in-Reciprocal g c =
    rw c.in-Reciprocal.is (record { reads = reads_seen Reciprocal c.in_ok-below-in-Reciprocal.ensures.reads })

pub returns-in_err-below-in-NegReciprocal : goal.returns-in_err-below-in-NegReciprocal
returns-in_err-below-in-NegReciprocal g c =
    let p = err_from_is_err_and c.from_residual-in_err-below-in-NegReciprocal.result
    c.from_residual-in_err-below-in-NegReciprocal.ensures.1 in
    rw (p.1, p.2, c.in-NegReciprocal.is)
    (record { reads = reads_seen_err NegReciprocal c.in_err-below-in-NegReciprocal.ensures.reads })

pub returns-in_ok-below-in-NegReciprocal : goal.returns-in_ok-below-in-NegReciprocal
returns-in_ok-below-in-NegReciprocal g c =
    rw c.in-NegReciprocal.is (record { reads = reads_seen NegReciprocal c.in_ok-below-in-NegReciprocal.ensures.reads })

pub returns-in_err-above-in-Ratio : goal.returns-in_err-above-in-Ratio
returns-in_err-above-in-Ratio g c =
    let p = err_from_is_err_and c.from_residual-in_err-above-in-Ratio.result
    c.from_residual-in_err-above-in-Ratio.ensures.1 in
    rw (p.1, p.2, c.in-Ratio.is) (record {
      reads = reads_err (λ n. Seen (Ratio n) IsDenominator)
          (λ n. seen_code (Ratio n) denominator_code) c.in_err-above-in-Ratio.ensures.reads;
    })

pub returns-in_err-below-in-Ratio : goal.returns-in_err-below-in-Ratio
returns-in_err-below-in-Ratio g c =
    let p = err_from_is_err_and c.from_residual-in_err-below-in-Ratio.result
    c.from_residual-in_err-below-in-Ratio.ensures.1 in
    rw (p.1, p.2, c.in-Ratio.is) (record {
      reads = reads_then (λ n. Seen (Ratio n) IsDenominator) c.in_ok-above-in-Ratio.ensures.reads
          (reads_seen_err (Ratio c.in_ok-above-in-Ratio.above) c.in_err-below-in-Ratio.ensures.reads);
    })

pub returns-in_ok-below-in-Ratio : goal.returns-in_ok-below-in-Ratio
returns-in_ok-below-in-Ratio g c =
    rw c.in-Ratio.is
    (record {
      reads = reads_then (λ n. Seen (Ratio n) IsDenominator) c.in_ok-above-in-Ratio.ensures.reads
          (reads_seen (Ratio c.in_ok-above-in-Ratio.above) c.in_ok-below-in-Ratio.ensures.reads);
    })

pub returns-in_err-above-in-NegRatio : goal.returns-in_err-above-in-NegRatio
returns-in_err-above-in-NegRatio g c =
    let p = err_from_is_err_and c.from_residual-in_err-above-in-NegRatio.result
    c.from_residual-in_err-above-in-NegRatio.ensures.1 in
    rw (p.1, p.2, c.in-NegRatio.is)
    (record {
      reads = reads_err (λ n. Seen (NegRatio n) IsDenominator)
          (λ n. seen_code (NegRatio n) denominator_code) c.in_err-above-in-NegRatio.ensures.reads;
    })

pub returns-in_err-below-in-NegRatio : goal.returns-in_err-below-in-NegRatio
returns-in_err-below-in-NegRatio g c =
    let p = err_from_is_err_and c.from_residual-in_err-below-in-NegRatio.result
    c.from_residual-in_err-below-in-NegRatio.ensures.1 in
    rw (p.1, p.2, c.in-NegRatio.is)
    (record {
      reads = reads_then (λ n. Seen (NegRatio n) IsDenominator) c.in_ok-above-in-NegRatio.ensures.reads
          (reads_seen_err (NegRatio c.in_ok-above-in-NegRatio.above) c.in_err-below-in-NegRatio.ensures.reads);
    })

pub returns-in_ok-below-in-NegRatio : goal.returns-in_ok-below-in-NegRatio
returns-in_ok-below-in-NegRatio g c =
    rw c.in-NegRatio.is
    (record {
      reads = reads_then (λ n. Seen (NegRatio n) IsDenominator) c.in_ok-above-in-NegRatio.ensures.reads
          (reads_seen (NegRatio c.in_ok-above-in-NegRatio.above) c.in_ok-below-in-NegRatio.ensures.reads);
    })

pub returns-in_err-bytes-in-Four : goal.returns-in_err-bytes-in-Four
returns-in_err-bytes-in-Four g c =
    let p = err_from_is_err_and c.from_residual-in_err-bytes-in-Four.result
    c.from_residual-in_err-bytes-in-Four.ensures.1 in
    rw (p.1, p.2, c.in-Four.is) (record { reads = reads_seen_err Four c.in_err-bytes-in-Four.ensures.reads })

pub returns-in_ok-bytes-in-Four : goal.returns-in_ok-bytes-in-Four
returns-in_ok-bytes-in-Four g c =
    rw c.in-Four.is (record { reads = reads_seen Four c.in_ok-bytes-in-Four.ensures.reads })

pub returns-in_err-bytes-in-Eight : goal.returns-in_err-bytes-in-Eight
returns-in_err-bytes-in-Eight g c =
    let p = err_from_is_err_and c.from_residual-in_err-bytes-in-Eight.result
    c.from_residual-in_err-bytes-in-Eight.ensures.1 in
    rw (p.1, p.2, c.in-Eight.is) (record { reads = reads_seen_err Eight c.in_err-bytes-in-Eight.ensures.reads })

pub returns-in_ok-bytes-in-Eight : goal.returns-in_ok-bytes-in-Eight
returns-in_ok-bytes-in-Eight g c =
    rw c.in-Eight.is (record { reads = reads_seen Eight c.in_ok-bytes-in-Eight.ensures.reads })
