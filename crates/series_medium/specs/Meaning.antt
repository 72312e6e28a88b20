-- Only the law of a sink uses it.
-- What a step of a sink of frames means
use Rattle.std.proofs.Common.{◌≡◌, ℕ, ◌<◌, List, length, Some, inl, inr, ap, arith}
use Rattle.relay_outside.specs.Counts.{Rose, risen}
use Rattle.relay_outside.specs.MemoryLaws.{rose-risen}
use Rattle.relay_outside.specs.Put.{PutStep}
use Rattle.relay_outside.specs.declared.sink.Put.{Put}
use Rattle.relay_outside.specs.declared.sink.Put.TheVariants as put
use Rattle.std.specs.declared.option.Option.{Option}
use Rattle.file_series.specs.Series.{Series}
use Rattle.file_series.specs.declared.series.SeriesFail.TheVariants.{Failed}
use Rattle.series_medium.specs.Sinks.{Breaks, SinkState, SinkTakes, sink_faults}

module _ {F : Type 0} (told : F → Option Series) (faults : F → ℕ) (s t : SinkState F) (piece : List ℕ) where
  broken_rose : Breaks told faults Failed s piece t → Rose (sink_faults faults s) (sink_faults faults t)
  broken_rose b =
      let same : t.refused ≡ s.refused = ap (λ (k : SinkState F). k.refused) b.after in
      record { later = omega (arith, b.cause.later, same); higher = omega (arith, b.cause.later, b.cause.higher, same) }

  refused_rose : t ≡ record s { refused = risen s.refused } → Rose (sink_faults faults s) (sink_faults faults t)
  refused_rose after =
      let same : faults t.series ≡ faults s.series = ap (λ (k : SinkState F). faults k.series) after in
      let more : t.refused ≡ risen s.refused = ap (λ (k : SinkState F). k.refused) after in
      let rose = rose-risen s.refused in
      record { later = omega (arith, same, more, rose.later); higher = omega (arith, same, more, rose.later, rose.higher) }

  pub step_means : (answer : Put) → SinkTakes told faults s piece answer t
      → PutStep piece (Some s.bytes) (Some t.bytes) (sink_faults faults s) (sink_faults faults t) answer
  step_means (put.Took n) step =
      let same : t.refused ≡ s.refused = ap (λ (k : SinkState F). k.refused) step.after in
      record {
        count = (step.some, step.within);
        bytes = ap (λ (k : SinkState F). Some k.bytes) step.after;
        cause = omega (arith, step.faults_same, same);
      }
  step_means put.Failed (inl b) = record { count = tt; bytes = ap (λ (k : SinkState F). Some k.bytes) b.after; cause = broken_rose b }
  step_means put.Failed (inr (inl b)) = record { count = tt; bytes = ap (λ (k : SinkState F). Some k.bytes) b.after; cause = refused_rose b.after }
  step_means put.Failed (inr (inr b)) = record { count = tt; bytes = ap (λ (k : SinkState F). Some k.bytes) b.after; cause = refused_rose b.after }
  step_means put.OutOfMemory (inl b) =
      let same : t.refused ≡ s.refused = ap (λ (k : SinkState F). k.refused) b.after in
      record { count = tt; bytes = ap (λ (k : SinkState F). Some k.bytes) b.after; cause = omega (arith, b.cause, same) }
  step_means put.OutOfMemory (inr b) =
      record { count = tt; bytes = ap (λ (k : SinkState F). Some k.bytes) b.after; cause = ap (λ (k : SinkState F). sink_faults faults k) b.after }

pub sink_takes_mean : {F : Type 0} (told : F → Option Series) (faults : F → ℕ) (s : SinkState F) (piece : List ℕ) (answer : Put) (t : SinkState F)
    → 0 < length piece → SinkTakes told faults s piece answer t
    → PutStep piece (Some s.bytes) (Some t.bytes) (sink_faults faults s) (sink_faults faults t) answer
sink_takes_mean told faults s piece answer t some step = step_means told faults s t piece answer step
