-- What the series of a sink tells, step by step
use Rattle.std.proofs.Common.{◌≡◌, ◌≢◌, inl, inr, ℕ, ◌+◌, ◌-◌, ◌<◌, ◌≤◌, zero, suc, List, [], ◌∷◌, ◌++◌, length, take, drop, slice_index, Option, Some, None, option_map, refl, sym, ap, ◌∙◌, subst, arith, append_assoc, append-nil}
use Rattle.std.proofs.lemmas.List.{take_more, drop-take, take-take, take-append-drop, length-take-le, length-drop}
use Rattle.std.proofs.lemmas.Option.{none-some, same_Some}
use Rattle.file_series.specs.Series.{NextFails, PutsPart, Series, none_yet, took, after_next}
use Rattle.relay_outside.specs.declared.sink.Put.{Put}
use Rattle.file_series.specs.declared.series.SeriesFail.{SeriesFail}
use Rattle.file_series.specs.declared.series.SeriesFail.TheVariants.{Failed, OutOfMemory}
use Rattle.series_medium.specs.declared.part.Part.{Part}
use Rattle.series_medium.specs.declared.part.Part.TheVariants.{Kind, Length1, Data}
use Rattle.series_medium.specs.Reading.{IsDue, Reading, start, data_or_kind, behind, read, files_read, part_behind}
use Rattle.series_medium.specs.Heads.{IsHeadOf, Leads, head_behind}
use Rattle.series_medium.specs.Parts.{IsPartOf}
use Rattle.series_medium.specs.Sinks.{Breaks, IsSink, SinkState, SinkTakes, Tells, TellsAll, TellsPart, put_of}
use Rattle.series_medium.proofs.Framing.{data_left, read-append, reads_on, read_data, took_more}
use Rattle.series_medium.proofs.Parting.{first_part, next_part, part_same, took_part, took_read}

mapped : (f g : Series → Series) (o : Option Series) → ((s : Series) → f s ≡ g s) → option_map f o ≡ option_map g o
mapped f g None same = refl
mapped f g (Some s) same = ap (λ (t : Series). Some t) (same s)

mapped_twice : (f g : Series → Series) (o : Option Series) → option_map f (option_map g o) ≡ option_map (λ s. f (g s)) o
mapped_twice f g None = refl
mapped_twice f g (Some s) = refl

map_same : (o : Option Series) → option_map (λ s. s) o ≡ o
map_same None = refl
map_same (Some s) = refl

-- a sink that has taken nothing
pub fresh_sink : (o : Option Series) → IsSink o o [] Kind None []
fresh_sink None = record { part_is = refl; due = tt; tells = refl }
fresh_sink (Some s) = record { part_is = refl; due = tt; tells = refl }

-- the head that was read
pub head_read : (began now : Option Series) (bytes piece handed : List ℕ) (used : ℕ) (from part q : Part) (stopped : Option SeriesFail)
    → IsSink began now bytes from stopped handed → used ≤ length piece → Leads from (take used piece) part → (IsDue from → IsDue part) → part ≡ q
    → IsHeadOf bytes piece used q
head_read began now bytes piece handed used from part q stopped sink within leads due is =
    rw (← is) (record { from = from; from_is = sink.part_is; within = within; leads = leads; due = due sink.due })

module _ (bytes piece : List ℕ) (used : ℕ) (part : Part) (h : IsHeadOf bytes piece used part) where
  -- what is read of more bytes than the head's
  past_head : (s : Series) (more : List ℕ) → read (start s) (bytes ++ (take used piece ++ more)) ≡ read (record { part = Some part; series = files_read bytes s }) more
  past_head s more =
      reads_on s bytes (take used piece ++ more) (Some h.from) h.from_is
      ∙ read-append (record { part = Some h.from; series = files_read bytes s }) (take used piece) more
      ∙ ap (λ (r : Reading). read r more) (h.leads (files_read bytes s))

  -- the same of the first n bytes of the piece
  past_first : (s : Series) (n : ℕ) (more : List ℕ) → take n piece ≡ take used piece ++ more
      → read (start s) (bytes ++ take n piece) ≡ read (record { part = Some part; series = files_read bytes s }) more
  past_first s n more is = ap (λ (l : List ℕ). read (start s) (bytes ++ l)) is ∙ past_head s more

  -- if the bytes behind the head do so to any files, the sink comes to that part, and its series tells so
  sink_by : (began old new : Option Series) (handed : List ℕ) (n : ℕ) (more : List ℕ) (q : Part) (f : Series → Series) → take n piece ≡ take used piece ++ more
      → ((s : Series) → read (record { part = Some part; series = s }) more ≡ record { part = Some q; series = f s }) → IsDue q
      → TellsAll began bytes old → new ≡ option_map f old → IsSink began new (bytes ++ take n piece) q None handed
  sink_by began old new handed n more q f is reads due told does =
      let all : (s : Series) → read (start s) (bytes ++ take n piece) ≡ record { part = Some q; series = f (files_read bytes s) }
      = λ s. past_first s n more is ∙ reads (files_read bytes s) in
      let files : (s : Series) → f (files_read bytes s) ≡ files_read (bytes ++ take n piece) s = λ s. sym (ap (λ (r : Reading). r.series) (all s)) in
      record {
        part_is = ap (λ (r : Reading). r.part) (all none_yet);
        due = due;
        tells = does ∙ ap (λ (o : Option Series). option_map f o) told ∙ mapped_twice f (files_read bytes) began
            ∙ mapped (λ s. f (files_read bytes s)) (files_read (bytes ++ take n piece)) began files;
      }

  -- the head alone
  pub head_taken : (began now : Option Series) (handed : List ℕ) → TellsAll began bytes now → IsSink began now (bytes ++ take used piece) part None handed
  head_taken began now handed told =
      sink_by began now now handed used [] part (λ s. s) (sym (append-nil (take used piece))) (λ s. refl) h.due told (sym (map_same now))

-- while nothing failed
pub tells_all : (began now : Option Series) (bytes handed : List ℕ) (part : Part) (stopped : Option SeriesFail) → stopped ≡ None
    → IsSink began now bytes part stopped handed → TellsAll began bytes now
tells_all began now bytes handed part stopped works sink = subst (λ (o : Option SeriesFail). Tells o began bytes handed now) works sink.tells

-- a sink that has come so far, as its fields say it
pub sink_as : (began now : Option Series) (bytes bytes' handed : List ℕ) (part : Part) (stopped : Option SeriesFail) → stopped ≡ None → bytes' ≡ bytes
    → IsSink began now bytes part None handed → IsSink began now bytes' part stopped handed
sink_as began now bytes bytes' handed part stopped works is sink = rw (works, is) sink

-- ---- takes of a list

take_on : {X : Type 0} (n m : ℕ) (xs : List X) → take (n + m) xs ≡ take n xs ++ take m (drop n xs)
take_on n m xs =
    sym (take-append-drop n (take (n + m) xs))
    ∙ ap (λ (l : List _). l ++ drop n (take (n + m) xs)) (take-take n (n + m) xs (omega arith))
    ∙ ap (λ (l : List _). take n xs ++ l) (drop-take n m xs)

kind_due : (n : ℕ) → IsDue (data_or_kind n)
kind_due zero = tt
kind_due (suc n) = subst IsDue (sym (data_left (suc n) (omega arith))) (omega arith)

-- nothing is told but what was
same_told : (began old now : Option Series) (bytes piece : List ℕ) → TellsAll began bytes old → now ≡ old → TellsPart began bytes piece now
same_told None old now bytes piece told same = same ∙ told
same_told (Some s) old now bytes piece told same = record {
  files = files_read bytes s;
  now_is = same ∙ told;
  has = part_same (files_read bytes s);
  within = first_part s bytes piece;
}

module _ (bytes piece : List ℕ) (used : ℕ) where
  -- data is there behind the head
  pub data_taken : (left count : ℕ) (began old new : Option Series) (handed : List ℕ) → IsHeadOf bytes piece used (Data left) → 0 < count → count ≤ left
      → count ≤ length piece - used → TellsAll began bytes old → new ≡ option_map (took (take count (drop used piece))) old
      → IsSink began new (bytes ++ take (used + count) piece) (data_or_kind (left - count)) None handed
  data_taken left count began old new handed h some fits there told does =
      let bits = take count (drop used piece) in
      let size : length bits ≡ count = length-take-le count (drop used piece) (omega (arith, length-drop used piece, there)) in
      let reads : (s : Series) → read (record { part = Some (Data left); series = s }) bits ≡ record { part = Some (data_or_kind (left - count)); series = took bits s }
      = λ s. read_data left s bits (omega (arith, size, some)) (omega (arith, size, fits))
      ∙ ap (λ (n : ℕ). record { part = Some (data_or_kind (left - n)); series = took bits s }) size in
      sink_by bytes piece used (Data left) h began old new handed (used + count) bits (data_or_kind (left - count)) (took bits) (take_on used count piece) reads
      (kind_due (left - count)) told does

  -- the file ends behind the head
  pub end_taken : (began old new : Option Series) (handed : List ℕ) → IsHeadOf bytes piece used Kind → used < length piece → slice_index piece used ≡ 1
      → TellsAll began bytes old → new ≡ option_map (after_next None) old → IsSink began new (bytes ++ take (used + 1) piece) Kind None handed
  end_taken began old new handed h there one told does =
      let whole : take (used + 1) piece ≡ take used piece ++ 1 ∷ [] = take_more piece used 0 there ∙ ap (λ (b : ℕ). take used piece ++ b ∷ []) one in
      sink_by bytes piece used Kind h began old new handed (used + 1) (1 ∷ []) Kind (after_next None) whole (λ s. refl) tt told does

  -- some first bytes of the data that is there are added, perhaps none
  data_part : (left count n : ℕ) (began old now : Option Series) → IsHeadOf bytes piece used (Data left) → 0 < count → count ≤ left → count ≤ length piece - used
      → TellsAll began bytes old → now ≡ option_map (took (take n (take count (drop used piece)))) old → TellsPart began bytes piece now
  data_part left count n None old now h some fits there told does = does ∙ ap (λ (o : Option Series). option_map (took (take n (take count (drop used piece)))) o) told
  data_part left count n (Some s) old now h some fits there told does =
      let bits = take count (drop used piece) in
      let r = files_read bytes s in
      let size : length bits ≡ count = length-take-le count (drop used piece) (omega (arith, length-drop used piece, there)) in
      let rest = drop (used + count) piece in
      let q = data_or_kind (left - length bits) in
      let whole : piece ≡ take used piece ++ (bits ++ rest)
      = sym (take-append-drop (used + count) piece) ∙ ap (λ (l : List ℕ). l ++ rest) (take_on used count piece) ∙ append_assoc (take used piece) bits rest in
      let cut : bits ≡ take n bits ++ drop n bits = sym (take-append-drop n bits) in
      let all : read (start s) (bytes ++ piece) ≡ read (record { part = Some q; series = took (drop n bits) (took (take n bits) r) }) rest
      = ap (λ (l : List ℕ). read (start s) (bytes ++ l)) whole
      ∙ past_head bytes piece used (Data left) h s (bits ++ rest)
      ∙ read-append (record { part = Some (Data left); series = r }) bits rest
      ∙ ap (λ (t : Reading). read t rest) (read_data left r bits (omega (arith, size, some)) (omega (arith, size, fits)))
      ∙ ap (λ (l : List ℕ). read (record { part = Some q; series = took l r }) rest) cut
      ∙ ap (λ (t : Series). read (record { part = Some q; series = t }) rest) (sym (took_more r (take n bits) (drop n bits))) in
      record {
        files = took (take n bits) r;
        now_is = does ∙ ap (λ (o : Option Series). option_map (took (take n bits)) o) told;
        has = took_part r (take n bits);
        within = subst (λ (t : Reading). IsPartOf (took (take n bits) r) t.series) (sym all) (took_read r (take n bits) (drop n bits) (Some q) rest);
      }

  pub data_fails : (left count : ℕ) (began old now : Option Series) → IsHeadOf bytes piece used (Data left) → 0 < count → count ≤ left → count ≤ length piece - used
      → TellsAll began bytes old → PutsPart (take count (drop used piece)) old now → TellsPart began bytes piece now
  data_fails left count began old now h some fits there told (inl same) = same_told began old now bytes piece told same
  data_fails left count began old now h some fits there told (inr part) = data_part left count part.0 began old now h some fits there told part.1

  -- the file has ended, perhaps
  end_part : (began old now : Option Series) → IsHeadOf bytes piece used Kind → used < length piece → slice_index piece used ≡ 1
      → TellsAll began bytes old → now ≡ option_map (after_next None) old → TellsPart began bytes piece now
  end_part None old now h there one told does = does ∙ ap (λ (o : Option Series). option_map (after_next None) o) told
  end_part (Some s) old now h there one told does =
      let r = files_read bytes s in
      let ended = (end_taken (Some s) old now [] h there one told does).tells in
      let files : after_next None r ≡ files_read (bytes ++ take (used + 1) piece) s
      = same_Some (after_next None r) (files_read (bytes ++ take (used + 1) piece) s)
      (sym (does ∙ ap (λ (o : Option Series). option_map (after_next None) o) told) ∙ ended) in
      let whole : (bytes ++ take (used + 1) piece) ++ drop (used + 1) piece ≡ bytes ++ piece
      = append_assoc bytes (take (used + 1) piece) (drop (used + 1) piece) ∙ ap (λ (l : List ℕ). bytes ++ l) (take-append-drop (used + 1) piece) in
      record {
        files = after_next None r;
        now_is = does ∙ ap (λ (o : Option Series). option_map (after_next None) o) told;
        has = next_part r;
        within = rw (files, ← whole) (first_part s (bytes ++ take (used + 1) piece) (drop (used + 1) piece));
      }

  pub end_fails : (began old now : Option Series) → IsHeadOf bytes piece used Kind → used < length piece → slice_index piece used ≡ 1
      → TellsAll began bytes old → NextFails old now → TellsPart began bytes piece now
  end_fails began old now h there one told (inl same) = same_told began old now bytes piece told same
  end_fails began old now h there one told (inr ended) = end_part began old now h there one told ended

-- a byte that no frame has there
first_of : (piece : List ℕ) → 0 < length piece → take 1 piece ≡ slice_index piece 0 ∷ []
first_of [] some = absurd (omega (arith, some))
first_of (b ∷ bs) some = refl

pub no_frame : (bytes piece : List ℕ) (part : Part) → IsHeadOf bytes piece 0 part → 0 < length piece → behind part (slice_index piece 0) ≡ None
    → part_behind (bytes ++ take 1 piece) ≡ None
no_frame bytes piece part h some none =
    ap (λ (r : Reading). r.part) (past_first bytes piece 0 part h none_yet 1 (slice_index piece 0 ∷ []) (first_of piece some)) ∙ none

-- where no head goes on and no file ends, no frame has the byte
pub kind_ends : (byte : ℕ) → head_behind Kind byte ≡ None → byte ≢ 1 → behind Kind byte ≡ None
kind_ends zero none other = absurd (none-some Length1 (sym none))
kind_ends (suc zero) none other = absurd (other refl)
kind_ends (suc (suc n)) none other = refl

-- the series failed
pub sink_broken : (began old now : Option Series) (bytes piece handed handed' : List ℕ) (part : Part) (stopped : Option SeriesFail) (fail : SeriesFail)
    → IsSink began old bytes part stopped handed → TellsPart began bytes piece now → handed' ≡ piece → IsSink began now bytes part (Some fail) handed'
sink_broken began old now bytes piece handed handed' part stopped fail sink tells is =
    rw is (record { part_is = sink.part_is; due = sink.due; tells = tells })

pub breaks : {F : Type 0} (told : F → Option Series) (faults : F → ℕ) (fail : SeriesFail) (s : SinkState F) (piece : List ℕ) (answer : Put) (t : SinkState F)
    → answer ≡ put_of fail → Breaks told faults fail s piece t → SinkTakes told faults s piece answer t
breaks told faults Failed s piece answer t is b = rw is (inl b)
breaks told faults OutOfMemory s piece answer t is b = rw is (inl b)
