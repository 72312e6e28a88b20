-- A film that is read
use Rattle.std.proofs.Common.{◌≡◌, ◌⊎◌, ◌-◌, ◌≤◌, ◌<◌, ◌+◌, ℕ, List, [], ◌∷◌, ◌++◌, length, take, drop, Option, Some, None, Result, Ok, Err, MatchResult, inl, inr, refl, sym, ap, ◌∙◌, subst, arith, append_assoc, append-nil, length-append}
use Rattle.std.specs.Prelude.{reverse}
use Rattle.std.specs.List.{flat_map}
use Rattle.std.specs.Option.{option_to_list}
use Rattle.std.specs.Io.KnownBytes.{IsAtEnd, prepend_known}
use Rattle.std.proofs.lemmas.List.{take-append-drop, take_all, length-drop, length-take, reverse-append}
use Rattle.std.proofs.lemmas.List.Concat.{flat_map-append}
use Rattle.relay_outside.specs.Counts.{Rose}
use Rattle.av_unit.specs.declared.item.Item.{Item}
use Rattle.av_unit.specs.declared.item.Item.TheVariants.{Begin}
use Rattle.flv_tags.specs.declared.tag.Tag.{Tag}
use Rattle.flv_tags.specs.declared.fail.FlvFail.{FlvFail}
use Rattle.flv_tags.specs.declared.fail.FlvFail.TheVariants.{BadHeader, BadTag, BadBack, OutOfMemory as TagMemory}
use Rattle.flv_tags.specs.Known.{Known as TagsKnown}
use Rattle.flv_tags.specs.Feeds.{IsFedTo, IsRefused, Stands as TagsStand}
use Rattle.flv_tags.specs.Reads.{Reads}
use Rattle.flv_tags.specs.Stops.{Ends as TagsEnd, Stops as TagsStop}
use Rattle.file_commands.specs.Outcome.{most_bytes}
use Rattle.file_commands.specs.Remux.{items, items_of, offset_of}
use Rattle.file_series.specs.declared.series.SeriesFail.{SeriesFail}
use Rattle.file_series.specs.declared.series.SeriesFail.TheVariants.{Failed, OutOfMemory}
use Rattle.live_segments.specs.Known.{Known}
use Rattle.hls_command.specs.declared.stop.End.{End}
use Rattle.hls_command.specs.declared.stop.End.TheVariants.{Whole, Refused, SourceFault}
use Rattle.hls_command.specs.declared.stop.Stop.{Stop}
use Rattle.hls_command.specs.declared.stop.Stop.TheVariants.{Ended, Broken}
use Rattle.hls_command.specs.Outcome.{past_of}
use Rattle.hls_command.specs.Films.{IsFirst, WasRead}
use Rattle.hls_command.specs.Parts.{EndSource, FileEnds, FilmEnds, Fits, IsEndedBy, IsEndedSo, IsPartRead, IsReadSo, IsRefusedHere, ItemBreaks, StepEnds, Stops, TagBreaks, TakeEnds, ended, stop_of_tags}

-- the reasons in other words
pub stops_map : {E E' : End → Type 0} {R R' : Type 0} (S : Type 0) (B : SeriesFail → Type 0) → ((end : End) → E end → E' end) → (R → R') → (stop : Stop) → Stops E R S B stop → Stops E' R' S B stop
stops_map S B f g (Ended end) h = (f end h.0, h.1)
stops_map S B f g (Broken fail) h = (g h.0, h.1)

-- ---- a tag more

past_more : (tags : List Tag) (t : Tag) → past_of (tags ++ t ∷ []) ≡ reverse (items_of t) ++ past_of tags
past_more tags t =
    let more : items (tags ++ t ∷ []) ≡ items tags ++ items_of t =
    ap (λ (l : List Item). Begin ∷ l) (flat_map-append items_of tags (t ∷ []) ∙ ap (λ (l : List Item). flat_map items_of tags ++ l) (append-nil (items_of t))) in
    ap reverse more ∙ reverse-append (items tags) (items_of t)

-- no tag ended
pub fits_on : (r r' : TagsKnown) (k : Known) (piece : List ℕ) (used : ℕ) (o : Option Tag) → o ≡ None → Fits r k → IsFedTo r piece used o r' → Fits r' k
fits_on r r' k piece used o none f i =
    let now : r' ≡ record { fed = r.fed ++ take used piece; given = r.given ++ option_to_list o; failed = None } = i.now in
    let same : r'.given ≡ r.given = ap (λ (x : TagsKnown). x.given) now ∙ ap (λ (x : Option Tag). r.given ++ option_to_list x) none ∙ append-nil r.given in
    record {
      lives = ap (λ (x : TagsKnown). x.failed) now;
      stands = i.read;
      past_is = f.past_is ∙ ap past_of (sym same);
      cuts = f.cuts;
    }

given_more : (r r' : TagsKnown) (piece : List ℕ) (used : ℕ) (o : Option Tag) (t : Tag) → o ≡ Some t → IsFedTo r piece used o r' → r'.given ≡ r.given ++ t ∷ []
given_more r r' piece used o t some i =
    let now : r' ≡ record { fed = r.fed ++ take used piece; given = r.given ++ option_to_list o; failed = None } = i.now in
    ap (λ (x : TagsKnown). x.given) now ∙ ap (λ (x : Option Tag). r.given ++ option_to_list x) some

-- a tag ended, and was cut
pub fits_more : (r r' : TagsKnown) (k k' : Known) (piece : List ℕ) (used : ℕ) (o : Option Tag) (t : Tag) → o ≡ Some t → Fits r k → IsFedTo r piece used o r'
    → k'.past ≡ reverse (items_of t) ++ k.past → k'.failed ≡ None → Fits r' k'
fits_more r r' k k' piece used o t some f i past lives = record {
  lives = ap (λ (x : TagsKnown). x.failed) i.now;
  stands = i.read;
  past_is = past ∙ ap (λ (p : List Item). reverse (items_of t) ++ p) f.past_is ∙ sym (past_more r.given t) ∙ ap past_of (sym (given_more r r' piece used o t some i));
  cuts = lives;
}

-- so many bytes were used, some at least
pub used_some : (r r' : TagsKnown) (piece : List ℕ) (used : ℕ) (o : Option Tag) → 0 < length piece → IsFedTo r piece used o r'
    → (0 < used) × (used ≤ length piece) × (r'.fed ≡ r.fed ++ take used piece)
used_some r r' piece used None near i = (omega (arith, i.all refl, near), i.within, ap (λ (x : TagsKnown). x.fed) i.now)
used_some r r' piece used (Some t) near i = (i.some refl, i.within, ap (λ (x : TagsKnown). x.fed) i.now)

-- what was read before stands at the front of what is read now
first_before : (r : TagsKnown) (piece : List ℕ) → TagsStand r → IsFirst (r.fed ++ piece) r.given
first_before r piece s = record { front = r.fed; behind = piece; parts = refl; rest = s.0; reads = s.1 }

first_now : (r r' : TagsKnown) (piece : List ℕ) (used : ℕ) (o : Option Tag) (t : Tag) → o ≡ Some t → IsFedTo r piece used o r' → IsFirst (r.fed ++ piece) (r.given ++ t ∷ [])
first_now r r' piece used o t some i = record {
  front = r'.fed;
  behind = drop used piece;
  parts = ap (λ (l : List ℕ). r.fed ++ l) (sym (take-append-drop used piece)) ∙ sym (append_assoc r.fed (take used piece) (drop used piece))
      ∙ ap (λ (l : List ℕ). l ++ drop used piece) (sym (ap (λ (x : TagsKnown). x.fed) i.now));
  rest = i.read.0;
  reads = subst (λ (g : List Tag). Reads r'.fed g i.read.0) (given_more r r' piece used o t some i) i.read.1;
}

-- the bytes are refused
pub refused_step : (e : FlvFail) (piece : List ℕ) (r r' : TagsKnown) (k : Known) (S : Type 0) (B : SeriesFail → Type 0) → (S → B OutOfMemory) → Fits r k
    → IsRefused r piece e r' → S → Stops (IsEndedBy StepEnds (r.fed ++ piece) k.past) (IsReadSo (r.fed ++ piece) k.past) S B (stop_of_tags e)
refused_step e piece r r' k S B m fits i s = by e refl i.cause where
  here : (c : FlvFail) → e ≡ c → TagsStop (r.fed ++ piece) (length r'.fed) r'.given e → IsRefusedHere (r.fed ++ piece) (offset_of c) r.given
  here c is x = record {
    count = length r'.fed;
    cause = c;
    stops = subst (λ (c : FlvFail). TagsStop (r.fed ++ piece) (length r'.fed) r.given c) is
        (subst (λ (g : List Tag). TagsStop (r.fed ++ piece) (length r'.fed) g e) (ap (λ (x : TagsKnown). x.given) i.now) x);
    place = refl;
  }

  at_place : (at : ℕ) → IsRefusedHere (r.fed ++ piece) at r.given → IsEndedBy StepEnds (r.fed ++ piece) k.past (Refused at)
  at_place at h = record { tags = r.given; past_is = fits.past_is; first = first_before r piece fits.stands; ends = h }

  by : (c : FlvFail) → e ≡ c → (e ≡ TagMemory) ⊎ TagsStop (r.fed ++ piece) (length r'.fed) r'.given e
      → Stops (IsEndedBy StepEnds (r.fed ++ piece) k.past) (IsReadSo (r.fed ++ piece) k.past) S B (stop_of_tags c)
  by (BadHeader at) is (inl m) = absurd (let h : BadHeader at ≡ TagMemory = sym is ∙ m in cc)
  by (BadHeader at) is (inr x) = (at_place at (here (BadHeader at) is x), s)
  by (BadTag at) is (inl m) = absurd (let h : BadTag at ≡ TagMemory = sym is ∙ m in cc)
  by (BadTag at) is (inr x) = (at_place at (here (BadTag at) is x), s)
  by (BadBack at stored real) is (inl m) = absurd (let h : BadBack at stored real ≡ TagMemory = sym is ∙ m in cc)
  by (BadBack at stored real) is (inr x) = (at_place at (here (BadBack at stored real) is x), s)
  by TagMemory is x = (record { tags = r.given; past_is = fits.past_is; first = first_before r piece fits.stands }, m s)

-- a tag isn't cut, or is written in part
pub tag_breaks : (piece : List ℕ) (used : ℕ) (r r' : TagsKnown) (k k' : Known) (o : Option Tag) (t : Tag) → o ≡ Some t → Fits r k → IsFedTo r piece used o r'
    → TagBreaks k k' t → IsReadSo (r.fed ++ piece) k'.past
tag_breaks piece used r r' k k' o t some fits i (inl e) = record {
  tags = r.given ++ t ∷ [];
  past_is = e ∙ ap (λ (p : List Item). reverse (items_of t) ++ p) fits.past_is ∙ sym (past_more r.given t);
  first = first_now r r' piece used o t some i;
}
tag_breaks piece used r r' k k' o t some fits i (inr e) = record { tags = r.given; past_is = e ∙ fits.past_is; first = first_before r piece fits.stands }

-- the unit of a tag
pub item_breaks : (k k' : Known) (t : Tag) (unit : Item) → items_of t ≡ unit ∷ [] → ItemBreaks k k' unit → TagBreaks k k' t
item_breaks k k' t unit e (inl h) = inl (h ∙ ap (λ (l : List Item). reverse l ++ k.past) (sym e))
item_breaks k k' t unit e (inr h) = inr h

-- ---- a piece

-- the bytes behind those that were taken
abbrev pub left_after : List ℕ → ℕ → List ℕ
left_after left used = take (length left - used) (drop used left)

left_parts : (left : List ℕ) (used : ℕ) → take used left ++ left_after left used ≡ left
left_parts left used =
    ap (λ (l : List ℕ). take used left ++ l) (take_all (length left - used) (drop used left) (omega (arith, length-drop used left)))
    ∙ take-append-drop used left

pub fed_on : (fed fed' left all : List ℕ) (used : ℕ) → fed' ≡ fed ++ take used left → fed ++ left ≡ all → fed' ++ left_after left used ≡ all
fed_on fed fed' left all used e is =
    ap (λ (l : List ℕ). l ++ left_after left used) e ∙ append_assoc fed (take used left) (left_after left used)
    ∙ ap (λ (l : List ℕ). fed ++ l) (left_parts left used) ∙ is

pub step_all : (stop : Stop) (read all : List ℕ) (past : List Item) (S : Type 0) (B : SeriesFail → Type 0) → read ≡ all
    → Stops (IsEndedBy StepEnds read past) (IsReadSo read past) S B stop → Stops (IsEndedBy StepEnds all past) (IsReadSo all past) S B stop
step_all stop read all past S B e h = subst (λ (l : List ℕ). Stops (IsEndedBy StepEnds l past) (IsReadSo l past) S B stop) e h

-- ---- a piece within the bytes that are read

first_more : (bytes more : List ℕ) (tags : List Tag) → IsFirst bytes tags → IsFirst (bytes ++ more) tags
first_more bytes more tags x = record {
  front = x.front;
  behind = x.behind ++ more;
  parts = ap (λ (l : List ℕ). l ++ more) x.parts ∙ append_assoc x.front x.behind more;
  rest = x.rest;
  reads = x.reads;
}

read_more_so : (bytes more : List ℕ) (past : List Item) → IsReadSo bytes past → IsReadSo (bytes ++ more) past
read_more_so bytes more past h = record { tags = h.tags; past_is = h.past_is; first = first_more bytes more h.tags h.first }

take_end : (bytes more : List ℕ) (tags : List Tag) (end : End) → length bytes ≤ most_bytes → StepEnds end bytes tags → TakeEnds end (bytes ++ more) tags
take_end bytes more tags Whole within h = absurd h
take_end bytes more tags (Refused at) within h =
    inl (record { front = bytes; behind = more; parts = refl; within = within; count = h.count; cause = h.cause; stops = h.stops; place = h.place })
take_end bytes more tags SourceFault within h = absurd h

take_ends : (bytes more : List ℕ) (past : List Item) → length bytes ≤ most_bytes → (end : End) → IsEndedBy StepEnds bytes past end → IsEndedBy TakeEnds (bytes ++ more) past end
take_ends bytes more past within end h =
    record { tags = h.tags; past_is = h.past_is; first = first_more bytes more h.tags h.first; ends = take_end bytes more h.tags end within h.ends }

take_stops : (stop : Stop) (bytes more all : List ℕ) (past : List Item) (S : Type 0) (B : SeriesFail → Type 0) → length bytes ≤ most_bytes
    → bytes ++ more ≡ all → Stops (IsEndedBy StepEnds bytes past) (IsReadSo bytes past) S B stop → Stops (IsEndedBy TakeEnds all past) (IsReadSo all past) S B stop
take_stops stop bytes more all past S B within e h =
    subst (λ (l : List ℕ). Stops (IsEndedBy TakeEnds l past) (IsReadSo l past) S B stop) e
    (stops_map S B (take_ends bytes more past within) (read_more_so bytes more past) stop h)

pub whole_stops : (r : Result (Unit {0}) Stop) (bytes : List ℕ) (past : List Item) (S : Type 0) (B : SeriesFail → Type 0) → length bytes ≤ most_bytes
    → MatchResult r (λ _. S) (Stops (IsEndedBy StepEnds bytes past) (IsReadSo bytes past) S B)
    → MatchResult r (λ _. S) (Stops (IsEndedBy TakeEnds bytes past) (IsReadSo bytes past) S B)
whole_stops (Ok x) bytes past S B within h = h
whole_stops (Err stop) bytes past S B within h = take_stops stop bytes [] bytes past S B within (append-nil bytes) h

pub front_stops : (stop : Stop) (fed piece : List ℕ) (n : ℕ) (past : List Item) (S : Type 0) (B : SeriesFail → Type 0) → length fed + n ≤ most_bytes
    → Stops (IsEndedBy StepEnds (fed ++ take n piece) past) (IsReadSo (fed ++ take n piece) past) S B stop
    → Stops (IsEndedBy TakeEnds (fed ++ piece) past) (IsReadSo (fed ++ piece) past) S B stop
front_stops stop fed piece n past S B within h =
    let near : length (fed ++ take n piece) ≤ most_bytes = omega (arith, length-append fed (take n piece), length-take n piece, within) in
    let all : (fed ++ take n piece) ++ drop n piece ≡ fed ++ piece = append_assoc fed (take n piece) (drop n piece) ∙ ap (λ (l : List ℕ). fed ++ l) (take-append-drop n piece) in
    take_stops stop (fed ++ take n piece) (drop n piece) (fed ++ piece) past S B near all h

-- all bytes that are read were cut, and there are more
pub too_long : (fed piece : List ℕ) (n : ℕ) (r : TagsKnown) (k : Known) (S : Type 0) (B : SeriesFail → Type 0) → length fed + n ≡ most_bytes → n < length piece
    → r.fed ≡ fed ++ take n piece → Fits r k → S
    → Stops (IsEndedBy TakeEnds (fed ++ piece) k.past) (IsReadSo (fed ++ piece) k.past) S B (Ended (Refused most_bytes))
too_long fed piece n r k S B full more is fits stands =
    let all : fed ++ piece ≡ r.fed ++ drop n piece =
    ap (λ (l : List ℕ). fed ++ l) (sym (take-append-drop n piece)) ∙ sym (append_assoc fed (take n piece) (drop n piece)) ∙ ap (λ (l : List ℕ). l ++ drop n piece) (sym is) in
    let size : length r.fed ≡ most_bytes = omega (arith, ap (λ (l : List ℕ). length l) is, length-append fed (take n piece), length-take n piece, full, more) in (
      record {
        tags = r.given;
        past_is = fits.past_is;
        first = record { front = r.fed; behind = drop n piece; parts = all; rest = fits.stands.0; reads = fits.stands.1 };
        ends = inr (record {
          front = r.fed;
          behind = drop n piece;
          parts = all;
          full = size;
          more = omega (arith, length-drop n piece, more);
          place = refl;
          rest = fits.stands.0;
          reads = fits.stands.1;
        });
      },
      stands,
    )

-- ---- a whole film

prepend_twice : (known : Option (List ℕ)) (xs ys : List ℕ) → prepend_known xs (prepend_known ys known) ≡ prepend_known (xs ++ ys) known
prepend_twice None xs ys = refl
prepend_twice (Some zs) xs ys = ap Some (sym (append_assoc xs ys zs))

pub prepend_none : (known : Option (List ℕ)) → prepend_known [] known ≡ known
prepend_none None = refl
prepend_none (Some xs) = refl

pub read_more : (read bytes : List ℕ) (left now after : Option (List ℕ)) → WasRead read left now → now ≡ prepend_known bytes after → WasRead (read ++ bytes) left after
read_more read bytes left now after w e = w ∙ ap (prepend_known read) e ∙ prepend_twice after read bytes

film_end : (left : Option (List ℕ)) (all : List ℕ) (tags : List Tag) (end : End) → TakeEnds end all tags → FilmEnds left end all tags
film_end left all tags Whole h = absurd h
film_end left all tags (Refused at) h = inl h
film_end left all tags SourceFault h = absurd h

take_source : (all : List ℕ) (tags : List Tag) (end : End) (before now : ℕ) → TakeEnds end all tags → now ≡ before → EndSource end before now
take_source all tags Whole before now h e = absurd h
take_source all tags (Refused at) before now h e = e
take_source all tags SourceFault before now h e = absurd h

pub piece_stops : (stop : Stop) (fed bytes : List ℕ) (left now after : Option (List ℕ)) (s s' : ℕ) (past : List Item) (S : Type 0) (B : SeriesFail → Type 0)
    → left ≡ prepend_known fed now → now ≡ prepend_known bytes after → s' ≡ s
    → Stops (IsEndedBy TakeEnds (fed ++ bytes) past) (IsReadSo (fed ++ bytes) past) S B stop → Stops (IsEndedSo left after s s' past) (IsPartRead left after past) S B stop
piece_stops stop fed bytes left now after s s' past S B w e q h =
    let was = read_more fed bytes left now after w e in
    let ends : (end : End) → IsEndedBy TakeEnds (fed ++ bytes) past end → IsEndedSo left after s s' past end = λ end x. record {
      read = fed ++ bytes;
      was_read = was;
      so = record { tags = x.tags; past_is = x.past_is; first = x.first; ends = film_end after (fed ++ bytes) x.tags end x.ends };
      source = take_source (fed ++ bytes) x.tags end s s' x.ends q;
    } in
    let breaks : IsReadSo (fed ++ bytes) past → IsPartRead left after past = λ x. record { read = fed ++ bytes; was_read = was; part = x } in
    stops_map S B ends breaks stop h

-- the end
pub end_fails : (e : FlvFail) (fed : List ℕ) (tags : List Tag) → TagsEnd fed tags e → FileEnds (Err (stop_of_tags e)) fed tags
end_fails (BadHeader at) fed tags h = (BadHeader at, h, refl)
end_fails (BadTag at) fed tags h = (BadTag at, h, refl)
end_fails (BadBack at stored real) fed tags h = (BadBack at stored real, h, refl)
end_fails TagMemory fed tags h = tt

first_all : (r : TagsKnown) → TagsStand r → IsFirst r.fed r.given
first_all r s = record { front = r.fed; behind = []; parts = sym (append-nil r.fed); rest = s.0; reads = s.1 }

-- it ends so once all was read
ended_with : (end : End) (left now after : Option (List ℕ)) (s s' : ℕ) (r : TagsKnown) (k : Known) → left ≡ prepend_known r.fed now → after ≡ now → EndSource end s s' → Fits r k
    → FilmEnds after end r.fed r.given → IsEndedSo left after s s' k.past end
ended_with end left now after s s' r k w same q fits h = record {
  read = r.fed;
  was_read = w ∙ ap (prepend_known r.fed) (sym same);
  so = record { tags = r.given; past_is = fits.past_is; first = first_all r fits.stands; ends = h };
  source = q;
}

-- the source fails once all was read
pub source_ends : (left now after : Option (List ℕ)) (s s' : ℕ) (r : TagsKnown) (k : Known) (S : Type 0) (B : SeriesFail → Type 0) (R : Type 0)
    → left ≡ prepend_known r.fed now → after ≡ now → Rose s s' → Fits r k → S → Stops (IsEndedSo left after s s' k.past) R S B (Ended SourceFault)
source_ends left now after s s' r k S B R w same q fits stands = (ended_with SourceFault left now after s s' r k w same q fits (fits.stands.0, fits.stands.1), stands)

part_all : (left now after : Option (List ℕ)) (r : TagsKnown) (k : Known) → left ≡ prepend_known r.fed now → after ≡ now → Fits r k → IsPartRead left after k.past
part_all left now after r k w same fits = record {
  read = r.fed;
  was_read = w ∙ ap (prepend_known r.fed) (sym same);
  part = record { tags = r.given; past_is = fits.past_is; first = first_all r fits.stands };
}

pub film_ends : (r : Result (Unit {0}) Stop) (left now after : Option (List ℕ)) (s s' : ℕ) (t : TagsKnown) (k : Known) (S : Type 0) (B : SeriesFail → Type 0) → (S → B OutOfMemory)
    → length t.fed ≤ most_bytes → left ≡ prepend_known t.fed now → after ≡ now → IsAtEnd now → s' ≡ s → Fits t k → S → FileEnds r t.fed t.given
    → MatchResult r (λ _. IsEndedSo left after s s' k.past Whole × S) (Stops (IsEndedSo left after s s' k.past) (IsPartRead left after k.past) S B)
film_ends (Ok x) left now after s s' t k S B m within w same end q fits stands h =
    (ended_with Whole left now after s s' t k w same q fits (within, subst IsAtEnd (sym same) end, h), stands)
film_ends (Err (Ended Whole)) left now after s s' t k S B m within w same end q fits stands h = absurd h
film_ends (Err (Ended (Refused at))) left now after s s' t k S B m within w same end q fits stands h = (
  ended_with (Refused at) left now after s s' t k w same q fits
      (inr (subst IsAtEnd (sym same) end, record { within = within; cause = h.0; ends = h.1; place = h.2 })),
  stands,
)
film_ends (Err (Ended SourceFault)) left now after s s' t k S B m within w same end q fits stands h = absurd h
film_ends (Err (Broken Failed)) left now after s s' t k S B m within w same end q fits stands h = absurd h
film_ends (Err (Broken OutOfMemory)) left now after s s' t k S B m within w same end q fits stands h = (part_all left now after t k w same fits, m stands)

-- nothing was read
pub nothing_read : (left : Option (List ℕ)) (t : TagsKnown) (k : Known) → t.fed ≡ [] → Fits t k → IsPartRead left left k.past
nothing_read left t k e fits = part_all left left left t k (sym (ap (λ (l : List ℕ). prepend_known l left) e ∙ prepend_none left)) refl fits

-- how it ended
pub ended_film : (r : Result (Unit {0}) Stop) (E : End → Type 0) (R : Type 0) (S : Type 0) (B : SeriesFail → Type 0)
    → MatchResult r (λ _. E Whole × S) (Stops E R S B) → MatchResult (ended r) (λ end. E end × S) (λ fail. R × B fail)
ended_film (Ok x) E R S B h = h
ended_film (Err (Ended end)) E R S B h = h
ended_film (Err (Broken fail)) E R S B h = h

pub part_of : (end : End) (left left' : Option (List ℕ)) (s s' : ℕ) (past : List Item) → IsEndedSo left left' s s' past end → IsPartRead left left' past
part_of end left left' s s' past h =
    record { read = h.read; was_read = h.was_read; part = record { tags = h.so.tags; past_is = h.so.past_is; first = h.so.first } }
