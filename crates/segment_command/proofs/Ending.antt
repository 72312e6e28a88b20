-- How the command ends
use Rattle.std.proofs.Common.{◌≡◌, ◌⊎◌, ◌≤◌, ◌<◌, ℕ, Bool, true, false, List, [], ◌∷◌, ◌++◌, length, Option, Some, None, inl, inr, refl, sym, ap, ◌∙◌, subst, arith, append_assoc, append-nil, length-append}
use Rattle.std.proofs.lemmas.List.{append_cancel_right}
use Rattle.std.specs.Io.KnownBytes.{IsAtEnd, append_known}
use Rattle.relay_base.specs.declared.limits.Status.{Status}
use Rattle.relay_outside.specs.Houses.{HouseTold}
use Rattle.av_unit.specs.declared.item.Item.{Item}
use Rattle.flv_tags.specs.declared.tag.Tag.{Tag}
use Rattle.flv_tags.specs.Reads.{IsFile, Reads}
use Rattle.file_commands.specs.Outcome.{IsReadTo, Seen, most_bytes}
use Rattle.put_text.specs.Written.{WritesPart}
use Rattle.hls_segments.specs.Cuts.{segments, some_left_out}
use Rattle.hls_segments.specs.Known.{Known}
use Rattle.hls_segments.specs.Playlist.{playlist}
use Rattle.segment_command.specs.declared.stop.Fault.{Fault}
use Rattle.segment_command.specs.declared.stop.Fault.TheVariants.{Sink, House, Memory}
use Rattle.segment_command.specs.declared.stop.End.{End}
use Rattle.segment_command.specs.declared.stop.End.TheVariants.{Whole, Refused, TooMany, SourceFault}
use Rattle.segment_command.specs.Words.{Asked}
use Rattle.segment_command.specs.Files.{Grew, GrewInPart, kept_files, texts}
use Rattle.segment_command.specs.Shelves.{AreKept, HouseCause, IsSameHouse, PutCause, Settles}
use Rattle.segment_command.specs.Outcome.{IsCode, IsTooMany, IsWhole, Outcome, WritesAll, WritesFirst, film, past_of}
use Rattle.segment_command.specs.Films.{IsCutOff, IsFirst, IsRefused, IsStopped, IsTooLong, WasRead}
use Rattle.segment_command.specs.Parts.{CutSource, FilmEnds, IsCut, IsCutTo, IsEndedSo, IsPartCut, IsPartRead, PartCause, fault_status, list_of, status_of}
use Rattle.segment_command.specs.declared.shelf.Pending.{Pending}
use Rattle.segment_command.specs.Shelves.{StandsBy}
use Rattle.segment_command.proofs.Reading.{prepend_none}
use Rattle.segment_command.proofs.Shelving.{grew_none}

-- ---- what a file is, of which bytes were read

record FrontOf (read : List ℕ) (now : Option (List ℕ)) (file : List ℕ) : Type 0 where
  rest : List ℕ
  now_is : now ≡ Some rest
  file_is : file ≡ read ++ rest

front_of : (read : List ℕ) (left now : Option (List ℕ)) (file : List ℕ) → WasRead read left now → left ≡ Some file → FrontOf read now file
front_of read left None file w e = absurd (cc)
front_of read left (Some rest) file w e = record { rest = rest; now_is = refl; file_is = cc }

some_same : (xs ys : List ℕ) → Some xs ≡ Some ys → xs ≡ ys
some_same xs ys e = cc

at_end : (read : List ℕ) (now : Option (List ℕ)) (file : List ℕ) → FrontOf read now file → IsAtEnd now → file ≡ read
at_end read None file f end = absurd (let e = f.now_is in cc)
at_end read (Some xs) file f end =
    f.file_is ∙ ap (λ (l : List ℕ). read ++ l) (sym (some_same xs f.rest f.now_is) ∙ end) ∙ append-nil read

same_read : (read other : List ℕ) (old new : Seen) → WasRead read old.left new.left → IsReadTo other old new → read ≡ other
same_read read other old new w t =
    let f = front_of read old.left new.left (other ++ t.0) w t.1 in
    let rest : f.rest ≡ t.0 = some_same f.rest t.0 (sym f.now_is ∙ t.2) in
    append_cancel_right read other t.0 (ap (λ (l : List ℕ). read ++ l) (sym rest) ∙ sym f.file_is)

longer : (xs ys : List ℕ) → 0 < length xs → 0 < length (xs ++ ys)
longer xs ys some = omega (arith, length-append xs ys, some)

refused_file : (read rest file : List ℕ) (at : ℕ) (tags : List Tag) → file ≡ read ++ rest → IsStopped read at tags ⊎ IsTooLong read at tags → IsRefused file at tags
refused_file read rest file at tags e (inl h) = inl (record {
  front = h.front;
  behind = h.behind ++ rest;
  parts = e ∙ ap (λ (l : List ℕ). l ++ rest) h.parts ∙ append_assoc h.front h.behind rest;
  within = h.within;
  count = h.count;
  cause = h.cause;
  stops = h.stops;
  place = h.place;
})
refused_file read rest file at tags e (inr h) = inr (inr (record {
  front = h.front;
  behind = h.behind ++ rest;
  parts = e ∙ ap (λ (l : List ℕ). l ++ rest) h.parts ∙ append_assoc h.front h.behind rest;
  full = h.full;
  more = longer h.behind rest h.more;
  place = h.place;
  rest = h.rest;
  reads = h.reads;
}))

refused_there : (read file : List ℕ) (now : Option (List ℕ)) (at : ℕ) (tags : List Tag) → FrontOf read now file
    → (IsStopped read at tags ⊎ IsTooLong read at tags) ⊎ (IsAtEnd now × IsCutOff read at tags) → IsRefused file at tags
refused_there read file now at tags f (inl h) = refused_file read f.rest file at tags f.file_is h
refused_there read file now at tags f (inr h) = subst (λ (l : List ℕ). IsRefused l at tags) (sym (at_end read now file f h.0)) (inr (inl h.1))

first_of : (read rest file : List ℕ) (tags : List Tag) → file ≡ read ++ rest → IsFirst read tags → IsFirst file tags
first_of read rest file tags e h = record {
  front = h.front;
  behind = h.behind ++ rest;
  parts = e ∙ ap (λ (l : List ℕ). l ++ rest) h.parts ∙ append_assoc h.front h.behind rest;
  rest = h.rest;
  reads = h.reads;
}

-- ---- the outcome

whole_is : (a : Asked) (b : Bool) (old new : Seen) (h h' : HouseTold) (file : List ℕ) → IsCutTo a Whole b old new h h' → old.left ≡ Some file → IsWhole a file b old new h h'
whole_is a b old new h h' file c is =
    let all : file ≡ c.read = at_end c.read new.left file (front_of c.read old.left new.left file c.was_read is) c.ends.1 in
    record {
      tags = c.tags;
      within = subst (λ (l : List ℕ). length l ≤ most_bytes) (sym all) c.ends.0;
      is_file = subst (λ (l : List ℕ). IsFile l c.tags) (sym all) c.ends.2;
      out_is = c.out_is;
      writes = c.writes;
    }

refused_is : (a : Asked) (b : Bool) (at : ℕ) (old new : Seen) (h h' : HouseTold) (file : List ℕ) → IsCutTo a (Refused at) b old new h h' → old.left ≡ Some file
    → (tags : List Tag) × IsRefused file at tags × WritesAll a tags old new h h'
refused_is a b at old new h h' file c is =
    (c.tags, refused_there c.read file new.left at c.tags (front_of c.read old.left new.left file c.was_read is) c.ends, c.writes)

many_is : (a : Asked) (b : Bool) (old new : Seen) (h h' : HouseTold) (file : List ℕ) → IsCutTo a TooMany b old new h h' → old.left ≡ Some file
    → (tags : List Tag) × IsTooMany a.least file tags × WritesAll a tags old new h h'
many_is a b old new h h' file c is =
    let f = front_of c.read old.left new.left file c.was_read is in
    let t = c.ends in (
      c.tags,
      record {
        next = t.next;
        unit = t.unit;
        unit_is = t.unit_is;
        reads = first_of c.read f.rest file (c.tags ++ t.next ∷ []) f.file_is t.reads;
        further = t.further;
      },
      c.writes,
    )

fault_is : (a : Asked) (b : Bool) (old new : Seen) (h h' : HouseTold) (read : List ℕ) → IsCutTo a SourceFault b old new h h' → IsReadTo read old new
    → (tags : List Tag) × (rest : List ℕ) × Reads read tags rest × WritesAll a tags old new h h'
fault_is a b old new h h' read c to =
    (c.tags, c.ends.0, subst (λ (l : List ℕ). Reads l c.tags c.ends.0) (same_read c.read read old new c.was_read to) c.ends.1, c.writes)

part_is : (a : Asked) (fault : Fault) (old new : Seen) (h h' : HouseTold) (read : List ℕ) → IsPartCut a fault old new h h' → IsReadTo read old new
    → (tags : List Tag) × IsFirst read tags × WritesFirst a tags old new h h'
part_is a fault old new h h' read c to =
    (c.tags, subst (λ (l : List ℕ). IsFirst l c.tags) (same_read c.read read old new c.was_read to) c.first, c.writes)

cut_to : (end : End) (b : Bool) (a : Asked) (old new : Seen) (h h' : HouseTold) → IsCutTo a end b old new h h' → Outcome a old new h h' (status_of end b)
cut_to Whole false a old new h h' c = record {
  read = λ e. c.ends.1;
  all = λ e file is. whole_is a false old new h h' file c is;
  left_out = λ e file is. absurd (omega (arith, e));
  refused = λ e file is. absurd (omega (arith, e));
  too_many = λ e file is. absurd (omega (arith, e));
  after_fault = λ e read to. absurd (omega (arith, e));
  part = λ e read to. elim e [ inl x ↦ absurd (omega (arith, x)) | inr y ↦ elim y [ inl x ↦ absurd (omega (arith, x)) | inr x ↦ absurd (omega (arith, x)) ] ];
  unlisted = λ e. absurd (omega (arith, e));
  source_fault = λ e. absurd (omega (arith, e));
  sink_fault = λ e. absurd (omega (arith, e));
  house_fault = λ e. absurd (omega (arith, e));
  source = λ e. c.source;
  sink = λ e. c.sink;
  files = λ e. c.same.spoiled_same;
  house_is = λ e. c.same.faults_same;
  codes = inl refl;
  place = λ e. refl;
}
cut_to Whole true a old new h h' c = record {
  read = λ e. c.ends.1;
  all = λ e file is. absurd (omega (arith, e));
  left_out = λ e file is. whole_is a true old new h h' file c is;
  refused = λ e file is. absurd (omega (arith, e));
  too_many = λ e file is. absurd (omega (arith, e));
  after_fault = λ e read to. absurd (omega (arith, e));
  part = λ e read to. elim e [ inl x ↦ absurd (omega (arith, x)) | inr y ↦ elim y [ inl x ↦ absurd (omega (arith, x)) | inr x ↦ absurd (omega (arith, x)) ] ];
  unlisted = λ e. absurd (omega (arith, e));
  source_fault = λ e. absurd (omega (arith, e));
  sink_fault = λ e. absurd (omega (arith, e));
  house_fault = λ e. absurd (omega (arith, e));
  source = λ e. c.source;
  sink = λ e. c.sink;
  files = λ e. c.same.spoiled_same;
  house_is = λ e. c.same.faults_same;
  codes = inr (inr (inr (inr (inr (inr (inl refl))))));
  place = λ e. refl;
}
cut_to (Refused at) b a old new h h' c = record {
  read = λ e. elim e [ inl x ↦ absurd (omega (arith, x)) | inr x ↦ absurd (omega (arith, x)) ];
  all = λ e file is. absurd (omega (arith, e));
  left_out = λ e file is. absurd (omega (arith, e));
  refused = λ e file is. refused_is a b at old new h h' file c is;
  too_many = λ e file is. absurd (omega (arith, e));
  after_fault = λ e read to. absurd (omega (arith, e));
  part = λ e read to. elim e [ inl x ↦ absurd (omega (arith, x)) | inr y ↦ elim y [ inl x ↦ absurd (omega (arith, x)) | inr x ↦ absurd (omega (arith, x)) ] ];
  unlisted = λ e. absurd (omega (arith, e));
  source_fault = λ e. absurd (omega (arith, e));
  sink_fault = λ e. absurd (omega (arith, e));
  house_fault = λ e. absurd (omega (arith, e));
  source = λ e. c.source;
  sink = λ e. c.sink;
  files = λ e. c.same.spoiled_same;
  house_is = λ e. c.same.faults_same;
  codes = inr (inr (inl refl));
  place = λ e. absurd (e refl);
}
cut_to TooMany b a old new h h' c = record {
  read = λ e. elim e [ inl x ↦ absurd (omega (arith, x)) | inr x ↦ absurd (omega (arith, x)) ];
  all = λ e file is. absurd (omega (arith, e));
  left_out = λ e file is. absurd (omega (arith, e));
  refused = λ e file is. absurd (omega (arith, e));
  too_many = λ e file is. many_is a b old new h h' file c is;
  after_fault = λ e read to. absurd (omega (arith, e));
  part = λ e read to. elim e [ inl x ↦ absurd (omega (arith, x)) | inr y ↦ elim y [ inl x ↦ absurd (omega (arith, x)) | inr x ↦ absurd (omega (arith, x)) ] ];
  unlisted = λ e. absurd (omega (arith, e));
  source_fault = λ e. absurd (omega (arith, e));
  sink_fault = λ e. absurd (omega (arith, e));
  house_fault = λ e. absurd (omega (arith, e));
  source = λ e. c.source;
  sink = λ e. c.sink;
  files = λ e. c.same.spoiled_same;
  house_is = λ e. c.same.faults_same;
  codes = inr (inr (inr (inr (inr (inr (inr refl))))));
  place = λ e. refl;
}
cut_to SourceFault b a old new h h' c = record {
  read = λ e. elim e [ inl x ↦ absurd (omega (arith, x)) | inr x ↦ absurd (omega (arith, x)) ];
  all = λ e file is. absurd (omega (arith, e));
  left_out = λ e file is. absurd (omega (arith, e));
  refused = λ e file is. absurd (omega (arith, e));
  too_many = λ e file is. absurd (omega (arith, e));
  after_fault = λ e read to. fault_is a b old new h h' read c to;
  part = λ e read to. elim e [ inl x ↦ absurd (omega (arith, x)) | inr y ↦ elim y [ inl x ↦ absurd (omega (arith, x)) | inr x ↦ absurd (omega (arith, x)) ] ];
  unlisted = λ e. absurd (omega (arith, e));
  source_fault = λ e. c.source;
  sink_fault = λ e. absurd (omega (arith, e));
  house_fault = λ e. absurd (omega (arith, e));
  source = λ e. absurd (e (inl refl));
  sink = λ e. c.sink;
  files = λ e. c.same.spoiled_same;
  house_is = λ e. c.same.faults_same;
  codes = inr (inl refl);
  place = λ e. refl;
}

pub cut_is : (a : Asked) (status : Status) (old new : Seen) (h h' : HouseTold) → IsCut a status old new h h' → Outcome a old new h h' status
cut_is a status old new h h' c = subst (λ (s : Status). Outcome a old new h h' s) (sym c.2) (cut_to c.0 c.1 a old new h h' c.3)

pub part_cut : (fault : Fault) (a : Asked) (old new : Seen) (h h' : HouseTold) → IsPartCut a fault old new h h' → Outcome a old new h h' (fault_status fault)
part_cut Sink a old new h h' c = record {
  read = λ e. elim e [ inl x ↦ absurd (omega (arith, x)) | inr x ↦ absurd (omega (arith, x)) ];
  all = λ e file is. absurd (omega (arith, e));
  left_out = λ e file is. absurd (omega (arith, e));
  refused = λ e file is. absurd (omega (arith, e));
  too_many = λ e file is. absurd (omega (arith, e));
  after_fault = λ e read to. absurd (omega (arith, e));
  part = λ e read to. part_is a Sink old new h h' read c to;
  unlisted = λ e. absurd (omega (arith, e));
  source_fault = λ e. absurd (omega (arith, e));
  sink_fault = λ e. elim c.cause.0 [ inl x ↦ inl x.0 | inr x ↦ inr x.0 ];
  house_fault = λ e. absurd (omega (arith, e));
  source = λ e. absurd (e (inr (inl refl)));
  sink = λ e. absurd (e refl);
  files = λ e. absurd (e refl);
  house_is = λ e. c.cause.1;
  codes = inr (inr (inr (inl refl)));
  place = λ e. refl;
}
part_cut House a old new h h' c = record {
  read = λ e. elim e [ inl x ↦ absurd (omega (arith, x)) | inr x ↦ absurd (omega (arith, x)) ];
  all = λ e file is. absurd (omega (arith, e));
  left_out = λ e file is. absurd (omega (arith, e));
  refused = λ e file is. absurd (omega (arith, e));
  too_many = λ e file is. absurd (omega (arith, e));
  after_fault = λ e read to. absurd (omega (arith, e));
  part = λ e read to. part_is a House old new h h' read c to;
  unlisted = λ e. c.cause.4;
  source_fault = λ e. absurd (omega (arith, e));
  sink_fault = λ e. absurd (omega (arith, e));
  house_fault = λ e. c.cause.0;
  source = λ e. c.cause.3;
  sink = λ e. c.cause.2;
  files = λ e. c.cause.1;
  house_is = λ e. absurd (e refl);
  codes = inr (inr (inr (inr (inr (inl refl)))));
  place = λ e. refl;
}
part_cut Memory a old new h h' c = record {
  read = λ e. elim e [ inl x ↦ absurd (omega (arith, x)) | inr x ↦ absurd (omega (arith, x)) ];
  all = λ e file is. absurd (omega (arith, e));
  left_out = λ e file is. absurd (omega (arith, e));
  refused = λ e file is. absurd (omega (arith, e));
  too_many = λ e file is. absurd (omega (arith, e));
  after_fault = λ e read to. absurd (omega (arith, e));
  part = λ e read to. part_is a Memory old new h h' read c to;
  unlisted = λ e. absurd (omega (arith, e));
  source_fault = λ e. absurd (omega (arith, e));
  sink_fault = λ e. absurd (omega (arith, e));
  house_fault = λ e. absurd (omega (arith, e));
  source = λ e. absurd (e (inr (inr refl)));
  sink = λ e. c.cause.1;
  files = λ e. c.cause.0.spoiled_same;
  house_is = λ e. c.cause.0.faults_same;
  codes = inr (inr (inr (inr (inl refl))));
  place = λ e. refl;
}

-- ---- from the film to what is written

-- what a segmenter's segments say of tags
kept_of : (a : Asked) (tags : List Tag) (k : Known) (old new : HouseTold) → k.least ≡ a.least → k.past ≡ past_of tags → AreKept a.name (list_of k) old new
    → Grew (kept_files a.name (texts (film a tags))) old.kept new.kept
kept_of a tags k old new l p f =
    let W : ℕ → List Item → Type 0 = λ n past. Grew (kept_files a.name (texts (segments n past))) old.kept new.kept in
    subst (λ (past : List Item). W a.least past) p (subst (λ (n : ℕ). W n k.past) l f.kept)

list_is : (a : Asked) (tags : List Tag) (k : Known) → k.least ≡ a.least → k.past ≡ past_of tags → playlist a.name (segments k.least k.past) ≡ playlist a.name (film a tags)
list_is a tags k l p = ap (λ (n : ℕ). playlist a.name (segments n k.past)) l ∙ ap (λ (past : List Item). playlist a.name (segments a.least past)) p

-- the film was cut, and its playlist is written
pub film_cut : (a : Asked) (end : End) (b : Bool) (k : Known) (old new : Seen) (h h' : HouseTold) → k.least ≡ a.least → b ≡ some_left_out k.past
    → IsEndedSo k.least old.left new.left old.source_faults new.source_faults k.past end → AreKept a.name (list_of k) h h'
    → new.held ≡ append_known old.held (playlist a.name (segments k.least k.past)) → new.sink_faults ≡ old.sink_faults → IsCutTo a end b old new h h'
film_cut a end b k old new h h' l e r f list sink =
    let tags = r.so.tags in
    record {
      read = r.read;
      was_read = r.was_read;
      tags = tags;
      ends = subst (λ (n : ℕ). FilmEnds n new.left end r.read tags) l r.so.ends;
      out_is = sym (e ∙ ap some_left_out r.so.past_is);
      writes = record { files = kept_of a tags k h h' l r.so.past_is f; list = list ∙ ap (append_known old.held) (list_is a tags k l r.so.past_is) };
      source = r.source;
      sink = sink;
      same = f.same;
    }

-- the playlist can't be written
list_cause : (fault : Fault) (old new : Seen) (h h' : HouseTold) → PutCause fault old.sink_faults new.sink_faults → IsSameHouse h h' → PartCause fault old new h h'
list_cause Sink old new h h' c s = (inl (c, s.spoiled_same), s.faults_same)
list_cause House old new h h' c s = absurd c
list_cause Memory old new h h' c s = (s, c)

pub list_fails : (a : Asked) (end : End) (fault : Fault) (k : Known) (old new : Seen) (h h' : HouseTold) → k.least ≡ a.least
    → IsEndedSo k.least old.left new.left old.source_faults new.source_faults k.past end → AreKept a.name (list_of k) h h'
    → WritesPart (playlist a.name (segments k.least k.past)) old.held new.held → PutCause fault old.sink_faults new.sink_faults → IsPartCut a fault old new h h'
list_fails a end fault k old new h h' l r f list sink =
    let tags = r.so.tags in
    record {
      read = r.read;
      was_read = r.was_read;
      tags = tags;
      first = r.so.first;
      writes = inr (kept_of a tags k h h' l r.so.past_is f, subst (λ (t : List ℕ). WritesPart t old.held new.held) (list_is a tags k l r.so.past_is) list);
      cause = list_cause fault old new h h' sink f.same;
    }

-- the files can't be
house_cause : (last : Fault) (old new : Seen) (h h' : HouseTold) → HouseCause last h h' → CutSource last old.source_faults new.source_faults → new.held ≡ old.held
    → new.sink_faults ≡ old.sink_faults → PartCause last old new h h'
house_cause Sink old new h h' c s e k = (inr (c.0, k), c.1)
house_cause House old new h h' c s e k = (c.0, c.1, k, s, e)
house_cause Memory old new h h' c s e k = (c, k)

pub film_fails : (a : Asked) (last : Fault) (k : Known) (old new : Seen) (h h' : HouseTold) → k.least ≡ a.least → IsPartRead old.left new.left k.past
    → CutSource last old.source_faults new.source_faults → Settles last a.name (list_of k) h h' → new.held ≡ old.held → new.sink_faults ≡ old.sink_faults
    → IsPartCut a last old new h h'
film_fails a last k old new h h' l r s f held sink =
    let tags = r.part.tags in
    let W : ℕ → List Item → Type 0 = λ n past. GrewInPart a.name (texts (segments n past)) h.kept h'.kept in
    record {
      read = r.read;
      was_read = r.was_read;
      tags = tags;
      first = r.part.first;
      writes = inl (subst (λ (past : List Item). W a.least past) r.part.past_is (subst (λ (n : ℕ). W n k.past) l f.0), held);
      cause = house_cause last old new h h' f.1 s held sink;
    }

pub source_of : (fault last : Fault) (s s' : ℕ) → (last ≡ fault) ⊎ (last ≡ Memory) → CutSource fault s s' → CutSource last s s'
source_of fault last s s' (inl e) c = subst (λ (x : Fault). CutSource x s s') (sym e) c
source_of fault last s s' (inr e) c = subst (λ (x : Fault). CutSource x s s') (sym e) tt

-- ---- the beginning

pub stands_first : (name : List ℕ) (k : Known) (p : Pending) (start : HouseTold) → (p.text ≡ []) × (p.count ≡ 0) × (k.past ≡ past_of []) → StandsBy name (list_of k) p None start start
stands_first name k p start e = record {
  list_is = ap (λ (past : List Item). texts (segments k.least past)) e.2;
  text_is = e.0;
  count_is = e.1;
  kept = grew_none start.kept;
  same = record { faults_same = refl; spoiled_same = refl };
}

-- memory is refused before anything is read
pub nothing_cut : (a : Asked) (s : Seen) (h : HouseTold) → IsPartCut a Memory s s h h
nothing_cut a s h = record {
  read = [];
  was_read = sym (prepend_none s.left);
  tags = [];
  first = record {
    front = [];
    behind = [];
    parts = refl;
    rest = [];
    reads = inl (record { short = omega arith; as_header = λ i within nine four. absurd (omega (arith, within)); none = refl; all = refl });
  };
  writes = inl (inl (record { newer = texts (film a []); whole = []; list_is = sym (append-nil (texts (film a []))); files = grew_none h.kept }), refl);
  cause = (record { faults_same = refl; spoiled_same = refl }, refl);
}

-- no code is 2
pub not_two : (code : ℕ) → IsCode code → code ≡ 2 → ⊥
not_two code (inl o) e = omega (arith, o, e)
not_two code (inr (inl o)) e = omega (arith, o, e)
not_two code (inr (inr (inl o))) e = omega (arith, o, e)
not_two code (inr (inr (inr (inl o)))) e = omega (arith, o, e)
not_two code (inr (inr (inr (inr (inl o))))) e = omega (arith, o, e)
not_two code (inr (inr (inr (inr (inr (inl o)))))) e = omega (arith, o, e)
not_two code (inr (inr (inr (inr (inr (inr (inl o))))))) e = omega (arith, o, e)
not_two code (inr (inr (inr (inr (inr (inr (inr o))))))) e = omega (arith, o, e)
