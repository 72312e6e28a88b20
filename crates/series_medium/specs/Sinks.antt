-- WHAT A SINK OF FRAMES IS, and what its calls do
use Rattle.std.specs.Prelude.{◌≡◌, ◌⊎◌, ℕ, ◌+◌, ◌<◌, ◌≤◌, List, ◌++◌, length, take, Option, Some, None, option_map, Result, Ok, Err}
use Rattle.relay_outside.specs.Counts.{risen}
use Rattle.relay_outside.specs.declared.sink.Put.{Put}
use Rattle.relay_outside.specs.declared.sink.Put.TheVariants as put
use Rattle.file_series.specs.Series.{Cause, NextFails, Series, after_next}
use Rattle.file_series.specs.declared.series.SeriesFail.{SeriesFail}
use Rattle.file_series.specs.declared.series.SeriesFail.TheVariants.{Failed, OutOfMemory}
use Rattle.series_medium.specs.declared.part.Part.{Part}
use Rattle.series_medium.specs.Reading.{IsDue, files_read, part_behind}
use Rattle.series_medium.specs.Parts.{IsPartOf}

pub record SinkState (F : Type 0) : Type 0 where
  -- the bytes that it took
  pub bytes : List ℕ
  -- what its series told as the sink was made
  pub began : Option Series
  -- its series now
  pub series : F
  -- how the series failed, if it did
  pub stopped : Option SeriesFail
  -- the piece that it was handed as the series failed
  pub handed : List ℕ
  -- how many puts failed without a call of the series
  pub refused : ℕ

-- what the series tells now is the files of these bytes
abbrev pub TellsAll : Option Series → List ℕ → Option Series → Type 0
TellsAll began bytes now = now ≡ option_map (files_read bytes) began

-- it tells files that have all of the first series, and are a first part of the second
pub record TellsBetween (s u : Series) (now : Option Series) : Type 0 where
  pub files : Series
  pub now_is : now ≡ Some files
  pub has : IsPartOf s files
  pub within : IsPartOf files u

-- the files of these bytes, and at most some more that follow in the piece
abbrev pub TellsPart : Option Series → List ℕ → List ℕ → Option Series → Type 0
TellsPart None bytes piece now = now ≡ None
TellsPart (Some s) bytes piece now = TellsBetween (files_read bytes s) (files_read (bytes ++ piece) s) now

-- WHAT THE SERIES TELLS: while it hasn't failed, the files of the bytes that the sink took; then these, and at most some more of
-- the piece that the sink was handed
abbrev pub Tells : Option SeriesFail → Option Series → List ℕ → List ℕ → Option Series → Type 0
Tells None began bytes handed now = TellsAll began bytes now
Tells (Some fail) began bytes handed now = TellsPart began bytes handed now

-- what a sink keeps true of its fields
pub record IsSink (began now : Option Series) (bytes : List ℕ) (part : Part) (stopped : Option SeriesFail) (handed : List ℕ) : Type 0 where
  pub part_is : part_behind bytes ≡ Some part
  pub due : IsDue part
  pub tells : Tells stopped began bytes handed now

abbrev pub put_of : SeriesFail → Put
put_of Failed = put.Failed
put_of OutOfMemory = put.OutOfMemory

-- a failure that is answered again counts as one more, and no memory as none
abbrev pub refused_again : SeriesFail → ℕ → ℕ
refused_again Failed n = risen n
refused_again OutOfMemory n = n

module _ {F : Type 0} (told : F → Option Series) (faults : F → ℕ) where
  -- the first n bytes of the piece are taken
  pub record TakesSome (s : SinkState F) (piece : List ℕ) (n : ℕ) (t : SinkState F) : Type 0 where
    pub works : s.stopped ≡ None
    pub some : 0 < n
    pub within : n ≤ length piece
    pub after : t ≡ record s { bytes = s.bytes ++ take n piece; series = t.series }
    pub faults_same : faults t.series ≡ faults s.series
    pub tells : TellsAll t.began t.bytes (told t.series)

  -- a call of the series fails; from now on nothing is taken
  pub record Breaks (fail : SeriesFail) (s : SinkState F) (piece : List ℕ) (t : SinkState F) : Type 0 where
    pub works : s.stopped ≡ None
    pub after : t ≡ record s { series = t.series; stopped = Some fail; handed = piece }
    pub cause : Cause fail (faults s.series) (faults t.series)
    pub tells : TellsPart t.began t.bytes t.handed (told t.series)

  -- the series failed so before
  pub record IsBroken (fail : SeriesFail) (s t : SinkState F) : Type 0 where
    pub fails : s.stopped ≡ Some fail
    pub after : t ≡ record s { refused = refused_again fail s.refused }

  -- no frame has the first byte there
  pub record IsNoFrame (s : SinkState F) (piece : List ℕ) (t : SinkState F) : Type 0 where
    pub works : s.stopped ≡ None
    pub none : part_behind (s.bytes ++ take 1 piece) ≡ None
    pub after : t ≡ record s { refused = risen s.refused }

  -- A PUT
  abbrev pub SinkTakes : SinkState F → List ℕ → Put → SinkState F → Type 0
  SinkTakes s piece (put.Took n) t = TakesSome s piece n t
  SinkTakes s piece put.Failed t = Breaks Failed s piece t ⊎ (IsBroken Failed s t ⊎ IsNoFrame s piece t)
  SinkTakes s piece put.OutOfMemory t = Breaks OutOfMemory s piece t ⊎ IsBroken OutOfMemory s t

  -- ITS END: the open file is ended, unless a call of the series has failed before
  abbrev pub EndsBy : Option SeriesFail → SinkState F → F → Result (Unit {0}) SeriesFail → Type 0
  EndsBy (Some fail) s series answer = (answer ≡ Err fail) × (series ≡ s.series) × TellsPart s.began s.bytes s.handed (told series)
  EndsBy None s series (Ok done) = (faults series ≡ faults s.series) × (told series ≡ option_map (after_next None) (option_map (files_read s.bytes) s.began))
  EndsBy None s series (Err fail) = Cause fail (faults s.series) (faults series) × NextFails (option_map (files_read s.bytes) s.began) (told series)

abbrev pub sink_faults : {F : Type 0} → (F → ℕ) → SinkState F → ℕ
sink_faults faults s = faults s.series + s.refused
