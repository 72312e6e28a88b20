-- How the command ends
use Rattle.std.proofs.Common.{◌≡◌, ◌⊎◌, ◌≤◌, ◌<◌, ℕ, Bool, true, false, List, [], ◌∷◌, ◌++◌, length, Option, Some, None, inl, inr, refl, sym, ap, ◌∙◌, subst, arith, append_assoc, append-nil, length-append}
use Rattle.std.proofs.lemmas.List.{append_cancel_right}
use Rattle.std.specs.Prelude.{option_map}
use Rattle.std.specs.Io.KnownBytes.{IsAtEnd}
use Rattle.relay_base.specs.declared.limits.Status.{Status}
use Rattle.av_unit.specs.declared.item.Item.{Item}
use Rattle.flv_tags.specs.declared.tag.Tag.{Tag}
use Rattle.flv_tags.specs.Reads.{IsFile, Reads}
use Rattle.file_commands.specs.Outcome.{most_bytes}
use Rattle.file_series.specs.Series.{Series}
use Rattle.file_series.specs.declared.series.SeriesFail.{SeriesFail}
use Rattle.file_series.specs.declared.series.SeriesFail.TheVariants.{Failed, OutOfMemory}
use Rattle.live_segments.specs.Known.{Known}
use Rattle.live_segments.specs.Live.{some_lost}
use Rattle.hls_command.specs.declared.stop.End.{End}
use Rattle.hls_command.specs.declared.stop.End.TheVariants.{Whole, Refused, SourceFault}
use Rattle.hls_command.specs.Words.{Asked}
use Rattle.hls_command.specs.Written.{WritesPart, finished, written}
use Rattle.hls_command.specs.Outcome.{IsCode, IsReadTo, IsWhole, Outcome, Seen, WritesAll, past_of}
use Rattle.hls_command.specs.Films.{IsCutOff, IsFirst, IsRefused, IsStopped, IsTooLong, WasRead}
use Rattle.hls_command.specs.Parts.{Breaks, Finishes, FilmEnds, IsCut, IsCutTo, IsEndedSo, IsPartCut, IsPartRead, SeriesSeen, Stands, asked_by, fail_status, series_seen, status_of}
use Rattle.hls_command.proofs.Reading.{prepend_none}

-- ---- what a file is, of which bytes were read

record FrontOf (read : List ℕ) (now : Option (List ℕ)) (file : List ℕ) : Type 0 where
  rest : List ℕ
  now_is : now ≡ Some rest
  file_is : file ≡ read ++ rest

front_of : (read : List ℕ) (left now : Option (List ℕ)) (file : List ℕ) → WasRead read left now → left ≡ Some file → FrontOf read now file
front_of read left None file w e = absurd (cc)
front_of read left (Some rest) file w e = record { rest = rest; now_is = refl; file_is = cc }

some_same : (xs ys : List ℕ) → Some xs ≡ Some ys → xs ≡ ys
some_same xs ys e = cc

at_end : (read : List ℕ) (now : Option (List ℕ)) (file : List ℕ) → FrontOf read now file → IsAtEnd now → file ≡ read
at_end read None file f end = absurd (let e = f.now_is in cc)
at_end read (Some xs) file f end =
    f.file_is ∙ ap (λ (l : List ℕ). read ++ l) (sym (some_same xs f.rest f.now_is) ∙ end) ∙ append-nil read

same_read : (read other : List ℕ) (old new : Seen) → WasRead read old.left new.left → IsReadTo other old new → read ≡ other
same_read read other old new w t =
    let f = front_of read old.left new.left (other ++ t.0) w t.1 in
    let rest : f.rest ≡ t.0 = some_same f.rest t.0 (sym f.now_is ∙ t.2) in
    append_cancel_right read other t.0 (ap (λ (l : List ℕ). read ++ l) (sym rest) ∙ sym f.file_is)

longer : (xs ys : List ℕ) → 0 < length xs → 0 < length (xs ++ ys)
longer xs ys some = omega (arith, length-append xs ys, some)

refused_file : (read rest file : List ℕ) (at : ℕ) (tags : List Tag) → file ≡ read ++ rest → IsStopped read at tags ⊎ IsTooLong read at tags → IsRefused file at tags
refused_file read rest file at tags e (inl h) = inl (record {
  front = h.front;
  behind = h.behind ++ rest;
  parts = e ∙ ap (λ (l : List ℕ). l ++ rest) h.parts ∙ append_assoc h.front h.behind rest;
  within = h.within;
  count = h.count;
  cause = h.cause;
  stops = h.stops;
  place = h.place;
})
refused_file read rest file at tags e (inr h) = inr (inr (record {
  front = h.front;
  behind = h.behind ++ rest;
  parts = e ∙ ap (λ (l : List ℕ). l ++ rest) h.parts ∙ append_assoc h.front h.behind rest;
  full = h.full;
  more = longer h.behind rest h.more;
  place = h.place;
  rest = h.rest;
  reads = h.reads;
}))

refused_there : (read file : List ℕ) (now : Option (List ℕ)) (at : ℕ) (tags : List Tag) → FrontOf read now file
    → (IsStopped read at tags ⊎ IsTooLong read at tags) ⊎ (IsAtEnd now × IsCutOff read at tags) → IsRefused file at tags
refused_there read file now at tags f (inl h) = refused_file read f.rest file at tags f.file_is h
refused_there read file now at tags f (inr h) = subst (λ (l : List ℕ). IsRefused l at tags) (sym (at_end read now file f h.0)) (inr (inl h.1))

-- ---- the outcome

whole_is : (a : Asked) (b : Bool) (old new : Seen) (file : List ℕ) → IsCutTo a Whole b old new → old.left ≡ Some file → IsWhole a file b old new
whole_is a b old new file c is =
    let all : file ≡ c.read = at_end c.read new.left file (front_of c.read old.left new.left file c.was_read is) c.ends.1 in
    record {
      tags = c.tags;
      within = subst (λ (l : List ℕ). length l ≤ most_bytes) (sym all) c.ends.0;
      is_file = subst (λ (l : List ℕ). IsFile l c.tags) (sym all) c.ends.2;
      out_is = c.out_is;
      writes = c.writes;
    }

refused_is : (a : Asked) (b : Bool) (at : ℕ) (old new : Seen) (file : List ℕ) → IsCutTo a (Refused at) b old new → old.left ≡ Some file
    → (tags : List Tag) × IsRefused file at tags × WritesAll a tags old new
refused_is a b at old new file c is =
    (c.tags, refused_there c.read file new.left at c.tags (front_of c.read old.left new.left file c.was_read is) c.ends, c.writes)

fault_is : (a : Asked) (b : Bool) (old new : Seen) (read : List ℕ) → IsCutTo a SourceFault b old new → IsReadTo read old new
    → (tags : List Tag) × (rest : List ℕ) × Reads read tags rest × WritesAll a tags old new
fault_is a b old new read c to =
    (c.tags, c.ends.0, subst (λ (l : List ℕ). Reads l c.tags c.ends.0) (same_read c.read read old new c.was_read to) c.ends.1, c.writes)

part_is : (a : Asked) (fail : SeriesFail) (old new : Seen) (read : List ℕ) → IsPartCut a fail old new → IsReadTo read old new
    → (tags : List Tag) × IsFirst read tags × WritesPart a (past_of tags) old.told new.told
part_is a fail old new read c to =
    (c.tags, subst (λ (l : List ℕ). IsFirst l c.tags) (same_read c.read read old new c.was_read to) c.first, c.writes)

cut_to : (end : End) (b : Bool) (a : Asked) (old new : Seen) → IsCutTo a end b old new → Outcome a old new (status_of end b)
cut_to Whole false a old new c = record {
  read = λ e. c.ends.1;
  all = λ e file is. whole_is a false old new file c is;
  left_out = λ e file is. absurd (omega (arith, e));
  refused = λ e file is. absurd (omega (arith, e));
  after_fault = λ e read to. absurd (omega (arith, e));
  part = λ e read to. elim e [ inl x ↦ absurd (omega (arith, x)) | inr x ↦ absurd (omega (arith, x)) ];
  source_fault = λ e. absurd (omega (arith, e));
  series_fault = λ e. absurd (omega (arith, e));
  source = λ e. c.source;
  series = λ e. c.series;
  codes = inl refl;
  place = λ e. refl;
}
cut_to Whole true a old new c = record {
  read = λ e. c.ends.1;
  all = λ e file is. absurd (omega (arith, e));
  left_out = λ e file is. whole_is a true old new file c is;
  refused = λ e file is. absurd (omega (arith, e));
  after_fault = λ e read to. absurd (omega (arith, e));
  part = λ e read to. elim e [ inl x ↦ absurd (omega (arith, x)) | inr x ↦ absurd (omega (arith, x)) ];
  source_fault = λ e. absurd (omega (arith, e));
  series_fault = λ e. absurd (omega (arith, e));
  source = λ e. c.source;
  series = λ e. c.series;
  codes = inr (inr (inr (inr (inr refl))));
  place = λ e. refl;
}
cut_to (Refused at) b a old new c = record {
  read = λ e. elim e [ inl x ↦ absurd (omega (arith, x)) | inr x ↦ absurd (omega (arith, x)) ];
  all = λ e file is. absurd (omega (arith, e));
  left_out = λ e file is. absurd (omega (arith, e));
  refused = λ e file is. refused_is a b at old new file c is;
  after_fault = λ e read to. absurd (omega (arith, e));
  part = λ e read to. elim e [ inl x ↦ absurd (omega (arith, x)) | inr x ↦ absurd (omega (arith, x)) ];
  source_fault = λ e. absurd (omega (arith, e));
  series_fault = λ e. absurd (omega (arith, e));
  source = λ e. c.source;
  series = λ e. c.series;
  codes = inr (inr (inl refl));
  place = λ e. absurd (e refl);
}
cut_to SourceFault b a old new c = record {
  read = λ e. elim e [ inl x ↦ absurd (omega (arith, x)) | inr x ↦ absurd (omega (arith, x)) ];
  all = λ e file is. absurd (omega (arith, e));
  left_out = λ e file is. absurd (omega (arith, e));
  refused = λ e file is. absurd (omega (arith, e));
  after_fault = λ e read to. fault_is a b old new read c to;
  part = λ e read to. elim e [ inl x ↦ absurd (omega (arith, x)) | inr x ↦ absurd (omega (arith, x)) ];
  source_fault = λ e. c.source;
  series_fault = λ e. absurd (omega (arith, e));
  source = λ e. absurd (e (inl refl));
  series = λ e. c.series;
  codes = inr (inl refl);
  place = λ e. refl;
}

pub cut_is : (a : Asked) (status : Status) (old new : Seen) → IsCut a status old new → Outcome a old new status
cut_is a status old new c = subst (λ (s : Status). Outcome a old new s) (sym c.2) (cut_to c.0 c.1 a old new c.3)

pub part_cut : (fail : SeriesFail) (a : Asked) (old new : Seen) → IsPartCut a fail old new → Outcome a old new (fail_status fail)
part_cut Failed a old new c = record {
  read = λ e. elim e [ inl x ↦ absurd (omega (arith, x)) | inr x ↦ absurd (omega (arith, x)) ];
  all = λ e file is. absurd (omega (arith, e));
  left_out = λ e file is. absurd (omega (arith, e));
  refused = λ e file is. absurd (omega (arith, e));
  after_fault = λ e read to. absurd (omega (arith, e));
  part = λ e read to. part_is a Failed old new read c to;
  source_fault = λ e. absurd (omega (arith, e));
  series_fault = λ e. c.cause;
  source = λ e. absurd (e (inr (inl refl)));
  series = λ e. absurd (e refl);
  codes = inr (inr (inr (inl refl)));
  place = λ e. refl;
}
part_cut OutOfMemory a old new c = record {
  read = λ e. elim e [ inl x ↦ absurd (omega (arith, x)) | inr x ↦ absurd (omega (arith, x)) ];
  all = λ e file is. absurd (omega (arith, e));
  left_out = λ e file is. absurd (omega (arith, e));
  refused = λ e file is. absurd (omega (arith, e));
  after_fault = λ e read to. absurd (omega (arith, e));
  part = λ e read to. part_is a OutOfMemory old new read c to;
  source_fault = λ e. absurd (omega (arith, e));
  series_fault = λ e. absurd (omega (arith, e));
  source = λ e. absurd (e (inr (inr refl)));
  series = λ e. c.cause;
  codes = inr (inr (inr (inr (inl refl))));
  place = λ e. refl;
}

-- ---- from the film to what is written

pub film_cut : (a : Asked) (name : List ℕ) (end : End) (b : Bool) (k : Known) (old new : Seen) → asked_by name k ≡ a → b ≡ some_lost k.target k.past
    → IsEndedSo old.left new.left old.source_faults new.source_faults k.past end → Finishes name k (series_seen old.told old.series_faults) (series_seen new.told new.series_faults)
    → IsCutTo a end b old new
film_cut a name end b k old new l e r f =
    let tags = r.so.tags in
    record {
      read = r.read;
      was_read = r.was_read;
      tags = tags;
      ends = r.so.ends;
      out_is = sym (e ∙ ap (λ (x : Asked). some_lost x.target k.past) l ∙ ap (λ (p : List Item). some_lost a.target p) r.so.past_is);
      writes = f.0 ∙ ap (λ (x : Asked). option_map (finished x k.past) old.told) l ∙ ap (λ (p : List Item). option_map (finished a p) old.told) r.so.past_is;
      source = r.source;
      series = f.1;
    }

pub film_fails : (a : Asked) (name : List ℕ) (fail : SeriesFail) (k : Known) (old new : Seen) → asked_by name k ≡ a → IsPartRead old.left new.left k.past
    → Breaks name k (series_seen old.told old.series_faults) (series_seen new.told new.series_faults) fail → IsPartCut a fail old new
film_fails a name fail k old new l r b =
    let tags = r.part.tags in
    record {
      read = r.read;
      was_read = r.was_read;
      tags = tags;
      first = r.part.first;
      writes = subst (λ (p : List Item). WritesPart a p old.told new.told) r.part.past_is (subst (λ (x : Asked). WritesPart x k.past old.told new.told) l b.0);
      cause = b.1;
    }

-- ---- the beginning

same_told : (a : Asked) (o : Option Series) → o ≡ option_map (written a (past_of [])) o
same_told a None = refl
same_told a (Some s) = refl

pub stands_first : (name : List ℕ) (k : Known) (start : SeriesSeen) → k.past ≡ past_of [] → Stands name k start start
stands_first name k start e = (same_told (asked_by name k) start.told ∙ ap (λ (p : List Item). option_map (written (asked_by name k) p) start.told) (sym e), refl)

-- memory is refused before anything is read
pub nothing_cut : (a : Asked) (s : Seen) → IsPartCut a OutOfMemory s s
nothing_cut a s = record {
  read = [];
  was_read = sym (prepend_none s.left);
  tags = [];
  first = record {
    front = [];
    behind = [];
    parts = refl;
    rest = [];
    reads = inl (record { short = omega arith; as_header = λ i within nine four. absurd (omega (arith, within)); none = refl; all = refl });
  };
  writes = inr (inl (same_told a s.told));
  cause = refl;
}

-- no code is 2
pub not_two : (code : ℕ) → IsCode code → code ≡ 2 → ⊥
not_two code (inl o) e = omega (arith, o, e)
not_two code (inr (inl o)) e = omega (arith, o, e)
not_two code (inr (inr (inl o))) e = omega (arith, o, e)
not_two code (inr (inr (inr (inl o)))) e = omega (arith, o, e)
not_two code (inr (inr (inr (inr (inl o))))) e = omega (arith, o, e)
not_two code (inr (inr (inr (inr (inr o))))) e = omega (arith, o, e)
