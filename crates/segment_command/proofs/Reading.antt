-- A film that is read
use Rattle.std.proofs.Common.{◌≡◌, ◌⊎◌, ◌-◌, ◌≤◌, ◌<◌, ◌+◌, ℕ, List, [], ◌∷◌, ◌++◌, length, take, drop, Option, Some, None, Result, Ok, Err, MatchResult, inl, inr, refl, sym, ap, ◌∙◌, subst, arith, append_assoc, append-nil, length-append}
use Rattle.std.specs.Prelude.{reverse}
use Rattle.std.specs.List.{flat_map}
use Rattle.std.specs.Option.{option_to_list}
use Rattle.std.specs.Io.KnownBytes.{IsAtEnd, prepend_known}
use Rattle.std.proofs.lemmas.List.{take-append-drop, take_all, length-drop, length-take, reverse-append}
use Rattle.std.proofs.lemmas.List.Concat.{flat_map-append}
use Rattle.relay_outside.specs.Counts.{Rose}
use Rattle.relay_outside.specs.Houses.{HouseTold}
use Rattle.av_unit.specs.declared.item.Item.{Item}
use Rattle.av_unit.specs.declared.item.Item.TheVariants.{Begin}
use Rattle.flv_tags.specs.declared.tag.Tag.{Tag}
use Rattle.flv_tags.specs.declared.fail.FlvFail.{FlvFail}
use Rattle.flv_tags.specs.declared.fail.FlvFail.TheVariants.{BadHeader, BadTag, BadBack, OutOfMemory as TagMemory}
use Rattle.flv_tags.specs.Known.{Known as TagsKnown}
use Rattle.flv_tags.specs.Feeds.{IsFedTo, IsRefused, Stands as TagsStand}
use Rattle.flv_tags.specs.Reads.{Reads}
use Rattle.flv_tags.specs.Stops.{Ends as TagsEnd, Stops as TagsStop}
use Rattle.file_commands.specs.Outcome.{most_bytes}
use Rattle.file_commands.specs.Remux.{items, items_of, offset_of}
use Rattle.hls_segments.specs.Cuts.{is_too_many}
use Rattle.hls_segments.specs.Known.{Known}
use Rattle.segment_command.specs.declared.stop.Fault.{Fault}
use Rattle.segment_command.specs.declared.stop.Fault.TheVariants.{Sink, House, Memory}
use Rattle.segment_command.specs.declared.stop.End.{End}
use Rattle.segment_command.specs.declared.stop.End.TheVariants.{Whole, Refused, TooMany, SourceFault}
use Rattle.segment_command.specs.declared.stop.Stop.{Stop}
use Rattle.segment_command.specs.declared.stop.Stop.TheVariants.{Ended, Broken}
use Rattle.segment_command.specs.declared.shelf.Pending.{Pending}
use Rattle.segment_command.specs.Shelves.{Breaks, FileSeen, IsOfFile, StandsBy}
use Rattle.segment_command.specs.Outcome.{past_of}
use Rattle.segment_command.specs.Films.{IsFirst, WasRead}
use Rattle.segment_command.specs.Parts.{CutSource, EndSource, FileEnds, FilmEnds, Fits, GoesOn, IsEndedBy, IsEndedSo, IsPartRead, IsReadSo, IsRefusedHere, ItemBreaks, ItemEnds, StepEnds, Stops, TagBreaks, TagEnds, TakeEnds, ended, list_of, stop_of_tags}
use Rattle.segment_command.proofs.Shelving.{stands_then}

-- the reasons in other words
pub stops_map : {E E' : End → Type 0} {R R' : Type 0} → ((end : End) → E end → E' end) → (R → R') → (stop : Stop) (name : List ℕ) (k : Known) (p : Pending) (o : Option FileSeen)
    (start now : HouseTold) → Stops E R stop name k p o start now → Stops E' R' stop name k p o start now
stops_map f g (Ended end) name k p o start now h = (f end h.0, h.1)
stops_map f g (Broken fault) name k p o start now h = (g h.0, h.1)

-- ---- a tag more

past_more : (tags : List Tag) (t : Tag) → past_of (tags ++ t ∷ []) ≡ reverse (items_of t) ++ past_of tags
past_more tags t =
    let more : items (tags ++ t ∷ []) ≡ items tags ++ items_of t =
    ap (λ (l : List Item). Begin ∷ l) (flat_map-append items_of tags (t ∷ []) ∙ ap (λ (l : List Item). flat_map items_of tags ++ l) (append-nil (items_of t))) in
    ap reverse more ∙ reverse-append (items tags) (items_of t)

-- no tag ended
pub fits_on : (r r' : TagsKnown) (k : Known) (piece : List ℕ) (used : ℕ) (o : Option Tag) → o ≡ None → Fits r k → IsFedTo r piece used o r' → Fits r' k
fits_on r r' k piece used o none f i =
    let now : r' ≡ record { fed = r.fed ++ take used piece; given = r.given ++ option_to_list o; failed = None } = i.now in
    let same : r'.given ≡ r.given = ap (λ (x : TagsKnown). x.given) now ∙ ap (λ (x : Option Tag). r.given ++ option_to_list x) none ∙ append-nil r.given in
    record {
      lives = ap (λ (x : TagsKnown). x.failed) now;
      stands = i.read;
      past_is = f.past_is ∙ ap past_of (sym same);
      cuts = f.cuts;
    }

given_more : (r r' : TagsKnown) (piece : List ℕ) (used : ℕ) (o : Option Tag) (t : Tag) → o ≡ Some t → IsFedTo r piece used o r' → r'.given ≡ r.given ++ t ∷ []
given_more r r' piece used o t some i =
    let now : r' ≡ record { fed = r.fed ++ take used piece; given = r.given ++ option_to_list o; failed = None } = i.now in
    ap (λ (x : TagsKnown). x.given) now ∙ ap (λ (x : Option Tag). r.given ++ option_to_list x) some

-- a tag ended, and was cut
pub fits_more : (r r' : TagsKnown) (k k' : Known) (piece : List ℕ) (used : ℕ) (o : Option Tag) (t : Tag) → o ≡ Some t → Fits r k → IsFedTo r piece used o r'
    → k'.past ≡ reverse (items_of t) ++ k.past → GoesOn k' → Fits r' k'
fits_more r r' k k' piece used o t some f i past goes = record {
  lives = ap (λ (x : TagsKnown). x.failed) i.now;
  stands = i.read;
  past_is = past ∙ ap (λ (p : List Item). reverse (items_of t) ++ p) f.past_is ∙ sym (past_more r.given t) ∙ ap past_of (sym (given_more r r' piece used o t some i));
  cuts = goes;
}

-- so many bytes were used, some at least
pub used_some : (r r' : TagsKnown) (piece : List ℕ) (used : ℕ) (o : Option Tag) → 0 < length piece → IsFedTo r piece used o r'
    → (0 < used) × (used ≤ length piece) × (r'.fed ≡ r.fed ++ take used piece)
used_some r r' piece used None near i = (omega (arith, i.all refl, near), i.within, ap (λ (x : TagsKnown). x.fed) i.now)
used_some r r' piece used (Some t) near i = (i.some refl, i.within, ap (λ (x : TagsKnown). x.fed) i.now)

-- what was read before stands at the front of what is read now
first_before : (r : TagsKnown) (piece : List ℕ) → TagsStand r → IsFirst (r.fed ++ piece) r.given
first_before r piece s = record { front = r.fed; behind = piece; parts = refl; rest = s.0; reads = s.1 }

first_now : (r r' : TagsKnown) (piece : List ℕ) (used : ℕ) (o : Option Tag) (t : Tag) → o ≡ Some t → IsFedTo r piece used o r' → IsFirst (r.fed ++ piece) (r.given ++ t ∷ [])
first_now r r' piece used o t some i = record {
  front = r'.fed;
  behind = drop used piece;
  parts = ap (λ (l : List ℕ). r.fed ++ l) (sym (take-append-drop used piece)) ∙ sym (append_assoc r.fed (take used piece) (drop used piece))
      ∙ ap (λ (l : List ℕ). l ++ drop used piece) (sym (ap (λ (x : TagsKnown). x.fed) i.now));
  rest = i.read.0;
  reads = subst (λ (g : List Tag). Reads r'.fed g i.read.0) (given_more r r' piece used o t some i) i.read.1;
}

-- memory is refused while bytes are read
pub step_memory : (E : End → Type 0) (name piece : List ℕ) (r : TagsKnown) (k : Known) (p : Pending) (o : Option FileSeen) (start now : HouseTold) → Fits r k
    → StandsBy name (list_of k) p o start now → Stops E (IsReadSo (r.fed ++ piece) k.past) (Broken Memory) name k p o start now
step_memory E name piece r k p o start now fits s =
    (record { tags = r.given; past_is = fits.past_is; first = first_before r piece fits.stands }, stands_then name (list_of k) p.text p.title p.count o start now s)

-- the bytes are refused
pub refused_step : (e : FlvFail) (name piece : List ℕ) (r r' : TagsKnown) (k : Known) (p : Pending) (o : Option FileSeen) (start now : HouseTold) → Fits r k
    → IsRefused r piece e r' → StandsBy name (list_of k) p o start now
    → Stops (IsEndedBy (StepEnds k.least) (r.fed ++ piece) k.past) (IsReadSo (r.fed ++ piece) k.past) (stop_of_tags e) name k p o start now
refused_step e name piece r r' k p o start now fits i s = by e refl i.cause where
  here : (c : FlvFail) → e ≡ c → TagsStop (r.fed ++ piece) (length r'.fed) r'.given e → IsRefusedHere (r.fed ++ piece) (offset_of c) r.given
  here c is x = record {
    count = length r'.fed;
    cause = c;
    stops = subst (λ (c : FlvFail). TagsStop (r.fed ++ piece) (length r'.fed) r.given c) is
        (subst (λ (g : List Tag). TagsStop (r.fed ++ piece) (length r'.fed) g e) (ap (λ (x : TagsKnown). x.given) i.now) x);
    place = refl;
  }

  at_place : (at : ℕ) → IsRefusedHere (r.fed ++ piece) at r.given → IsEndedBy (StepEnds k.least) (r.fed ++ piece) k.past (Refused at)
  at_place at h = record { tags = r.given; past_is = fits.past_is; first = first_before r piece fits.stands; ends = h }

  by : (c : FlvFail) → e ≡ c → (e ≡ TagMemory) ⊎ TagsStop (r.fed ++ piece) (length r'.fed) r'.given e
      → Stops (IsEndedBy (StepEnds k.least) (r.fed ++ piece) k.past) (IsReadSo (r.fed ++ piece) k.past) (stop_of_tags c) name k p o start now
  by (BadHeader at) is (inl m) = absurd (let h : BadHeader at ≡ TagMemory = sym is ∙ m in cc)
  by (BadHeader at) is (inr x) = (at_place at (here (BadHeader at) is x), s)
  by (BadTag at) is (inl m) = absurd (let h : BadTag at ≡ TagMemory = sym is ∙ m in cc)
  by (BadTag at) is (inr x) = (at_place at (here (BadTag at) is x), s)
  by (BadBack at stored real) is (inl m) = absurd (let h : BadBack at stored real ≡ TagMemory = sym is ∙ m in cc)
  by (BadBack at stored real) is (inr x) = (at_place at (here (BadBack at stored real) is x), s)
  by TagMemory is x = step_memory (IsEndedBy (StepEnds k.least) (r.fed ++ piece) k.past) name piece r k p o start now fits s

-- a tag isn't cut
tag_ends : (piece : List ℕ) (used : ℕ) (r r' : TagsKnown) (k k' : Known) (o : Option Tag) (t : Tag) → o ≡ Some t → Fits r k → IsFedTo r piece used o r' → k'.least ≡ k.least
    → (end : End) → TagEnds k k' t end → IsEndedBy (StepEnds k'.least) (r.fed ++ piece) k'.past end
tag_ends piece used r r' k k' o t some fits i least Whole h = absurd h
tag_ends piece used r r' k k' o t some fits i least (Refused at) h = absurd h
tag_ends piece used r r' k k' o t some fits i least TooMany h = record {
  tags = r.given;
  past_is = h.3 ∙ fits.past_is;
  first = first_before r piece fits.stands;
  ends = record {
    next = t;
    unit = h.0;
    unit_is = h.1;
    reads = first_now r r' piece used o t some i;
    further = ap (λ (n : ℕ). is_too_many n (past_of r.given) h.0) least ∙ ap (λ (p : List Item). is_too_many k.least p h.0) (sym fits.past_is) ∙ h.2;
  };
}
tag_ends piece used r r' k k' o t some fits i least SourceFault h = absurd h

tag_breaks : (piece : List ℕ) (used : ℕ) (r r' : TagsKnown) (k k' : Known) (o : Option Tag) (t : Tag) → o ≡ Some t → Fits r k → IsFedTo r piece used o r'
    → TagBreaks k k' t → IsReadSo (r.fed ++ piece) k'.past
tag_breaks piece used r r' k k' o t some fits i (inl e) = record {
  tags = r.given ++ t ∷ [];
  past_is = e ∙ ap (λ (p : List Item). reverse (items_of t) ++ p) fits.past_is ∙ sym (past_more r.given t);
  first = first_now r r' piece used o t some i;
}
tag_breaks piece used r r' k k' o t some fits i (inr e) = record { tags = r.given; past_is = e ∙ fits.past_is; first = first_before r piece fits.stands }

pub tag_fails : (stop : Stop) (name piece : List ℕ) (used : ℕ) (r r' : TagsKnown) (k k' : Known) (p : Pending) (q : Option Tag) (t : Tag) (o : Option FileSeen) (start now : HouseTold)
    → q ≡ Some t → Fits r k → IsFedTo r piece used q r' → k'.least ≡ k.least → Stops (TagEnds k k' t) (TagBreaks k k' t) stop name k' p o start now
    → Stops (IsEndedBy (StepEnds k'.least) (r.fed ++ piece) k'.past) (IsReadSo (r.fed ++ piece) k'.past) stop name k' p o start now
tag_fails stop name piece used r r' k k' p q t o start now some fits i least h =
    stops_map (tag_ends piece used r r' k k' q t some fits i least) (tag_breaks piece used r r' k k' q t some fits i) stop name k' p o start now h

-- the unit of a tag isn't cut
item_ends : (k k' : Known) (t : Tag) (unit : Item) → items_of t ≡ unit ∷ [] → (end : End) → ItemEnds k k' unit end → TagEnds k k' t end
item_ends k k' t unit e Whole h = absurd h
item_ends k k' t unit e (Refused at) h = absurd h
item_ends k k' t unit e TooMany h = (unit, e, h.0, h.1)
item_ends k k' t unit e SourceFault h = absurd h

item_breaks : (k k' : Known) (t : Tag) (unit : Item) → items_of t ≡ unit ∷ [] → ItemBreaks k k' unit → TagBreaks k k' t
item_breaks k k' t unit e (inl h) = inl (h ∙ ap (λ (l : List Item). reverse l ++ k.past) (sym e))
item_breaks k k' t unit e (inr h) = inr h

pub unit_cut : (r : Result (Unit {0}) Stop) (name : List ℕ) (list : List (List ℕ)) (k k' : Known) (t : Tag) (unit : Item) (p : Pending) (o : Option FileSeen) (start now : HouseTold)
    → items_of t ≡ unit ∷ []
    → MatchResult r (λ _. StandsBy name list p o start now) (λ stop. Stops (ItemEnds k k' unit) (ItemBreaks k k' unit) stop name k' p o start now)
    → MatchResult r (λ _. StandsBy name list p o start now) (λ stop. Stops (TagEnds k k' t) (TagBreaks k k' t) stop name k' p o start now)
unit_cut (Ok x) name list k k' t unit p o start now e h = h
unit_cut (Err stop) name list k k' t unit p o start now e h = stops_map (item_ends k k' t unit e) (item_breaks k k' t unit e) stop name k' p o start now h

-- ---- a piece

-- the bytes behind those that were taken
abbrev pub left_after : List ℕ → ℕ → List ℕ
left_after left used = take (length left - used) (drop used left)

left_parts : (left : List ℕ) (used : ℕ) → take used left ++ left_after left used ≡ left
left_parts left used =
    ap (λ (l : List ℕ). take used left ++ l) (take_all (length left - used) (drop used left) (omega (arith, length-drop used left)))
    ∙ take-append-drop used left

pub fed_on : (fed fed' left all : List ℕ) (used : ℕ) → fed' ≡ fed ++ take used left → fed ++ left ≡ all → fed' ++ left_after left used ≡ all
fed_on fed fed' left all used e is =
    ap (λ (l : List ℕ). l ++ left_after left used) e ∙ append_assoc fed (take used left) (left_after left used)
    ∙ ap (λ (l : List ℕ). fed ++ l) (left_parts left used) ∙ is

pub step_all : (stop : Stop) (name read all : List ℕ) (least : ℕ) (k : Known) (p : Pending) (o : Option FileSeen) (start now : HouseTold) → read ≡ all
    → Stops (IsEndedBy (StepEnds least) read k.past) (IsReadSo read k.past) stop name k p o start now
    → Stops (IsEndedBy (StepEnds least) all k.past) (IsReadSo all k.past) stop name k p o start now
step_all stop name read all least k p o start now e h =
    subst (λ (l : List ℕ). Stops (IsEndedBy (StepEnds least) l k.past) (IsReadSo l k.past) stop name k p o start now) e h

-- ---- a piece within the bytes that are read

first_more : (bytes more : List ℕ) (tags : List Tag) → IsFirst bytes tags → IsFirst (bytes ++ more) tags
first_more bytes more tags x = record {
  front = x.front;
  behind = x.behind ++ more;
  parts = ap (λ (l : List ℕ). l ++ more) x.parts ∙ append_assoc x.front x.behind more;
  rest = x.rest;
  reads = x.reads;
}

read_more_so : (bytes more : List ℕ) (past : List Item) → IsReadSo bytes past → IsReadSo (bytes ++ more) past
read_more_so bytes more past h = record { tags = h.tags; past_is = h.past_is; first = first_more bytes more h.tags h.first }

take_end : (least : ℕ) (bytes more : List ℕ) (tags : List Tag) (end : End) → length bytes ≤ most_bytes → StepEnds least end bytes tags → TakeEnds least end (bytes ++ more) tags
take_end least bytes more tags Whole within h = absurd h
take_end least bytes more tags (Refused at) within h =
    inl (record { front = bytes; behind = more; parts = refl; within = within; count = h.count; cause = h.cause; stops = h.stops; place = h.place })
take_end least bytes more tags TooMany within h =
    record { next = h.next; unit = h.unit; unit_is = h.unit_is; reads = first_more bytes more (tags ++ h.next ∷ []) h.reads; further = h.further }
take_end least bytes more tags SourceFault within h = absurd h

take_ends : (least : ℕ) (bytes more : List ℕ) (past : List Item) → length bytes ≤ most_bytes → (end : End) → IsEndedBy (StepEnds least) bytes past end
    → IsEndedBy (TakeEnds least) (bytes ++ more) past end
take_ends least bytes more past within end h =
    record { tags = h.tags; past_is = h.past_is; first = first_more bytes more h.tags h.first; ends = take_end least bytes more h.tags end within h.ends }

take_stops : (stop : Stop) (name bytes more all : List ℕ) (least : ℕ) (k : Known) (p : Pending) (o : Option FileSeen) (start now : HouseTold) → length bytes ≤ most_bytes
    → bytes ++ more ≡ all → Stops (IsEndedBy (StepEnds least) bytes k.past) (IsReadSo bytes k.past) stop name k p o start now
    → Stops (IsEndedBy (TakeEnds least) all k.past) (IsReadSo all k.past) stop name k p o start now
take_stops stop name bytes more all least k p o start now within e h =
    subst (λ (l : List ℕ). Stops (IsEndedBy (TakeEnds least) l k.past) (IsReadSo l k.past) stop name k p o start now) e
    (stops_map (take_ends least bytes more k.past within) (read_more_so bytes more k.past) stop name k p o start now h)

pub whole_stops : (r : Result (Unit {0}) Stop) (name bytes : List ℕ) (list : List (List ℕ)) (least : ℕ) (k : Known) (p : Pending) (o : Option FileSeen) (start now : HouseTold)
    → length bytes ≤ most_bytes
    → MatchResult r (λ _. StandsBy name list p o start now) (λ stop. Stops (IsEndedBy (StepEnds least) bytes k.past) (IsReadSo bytes k.past) stop name k p o start now)
    → MatchResult r (λ _. StandsBy name list p o start now) (λ stop. Stops (IsEndedBy (TakeEnds least) bytes k.past) (IsReadSo bytes k.past) stop name k p o start now)
whole_stops (Ok x) name bytes list least k p o start now within h = h
whole_stops (Err stop) name bytes list least k p o start now within h = take_stops stop name bytes [] bytes least k p o start now within (append-nil bytes) h

pub front_stops : (stop : Stop) (name fed piece : List ℕ) (n : ℕ) (least : ℕ) (k : Known) (p : Pending) (o : Option FileSeen) (start now : HouseTold) → length fed + n ≤ most_bytes
    → Stops (IsEndedBy (StepEnds least) (fed ++ take n piece) k.past) (IsReadSo (fed ++ take n piece) k.past) stop name k p o start now
    → Stops (IsEndedBy (TakeEnds least) (fed ++ piece) k.past) (IsReadSo (fed ++ piece) k.past) stop name k p o start now
front_stops stop name fed piece n least k p o start now within h =
    let near : length (fed ++ take n piece) ≤ most_bytes = omega (arith, length-append fed (take n piece), length-take n piece, within) in
    let all : (fed ++ take n piece) ++ drop n piece ≡ fed ++ piece = append_assoc fed (take n piece) (drop n piece) ∙ ap (λ (l : List ℕ). fed ++ l) (take-append-drop n piece) in
    take_stops stop name (fed ++ take n piece) (drop n piece) (fed ++ piece) least k p o start now near all h

-- all bytes that are read were cut, and there are more
pub too_long : (name fed piece : List ℕ) (n : ℕ) (r : TagsKnown) (k : Known) (p : Pending) (o : Option FileSeen) (start now : HouseTold) → length fed + n ≡ most_bytes → n < length piece
    → r.fed ≡ fed ++ take n piece → Fits r k → StandsBy name (list_of k) p o start now
    → Stops (IsEndedBy (TakeEnds k.least) (fed ++ piece) k.past) (IsReadSo (fed ++ piece) k.past) (Ended (Refused most_bytes)) name k p o start now
too_long name fed piece n r k p o start now full more is fits stands =
    let all : fed ++ piece ≡ r.fed ++ drop n piece =
    ap (λ (l : List ℕ). fed ++ l) (sym (take-append-drop n piece)) ∙ sym (append_assoc fed (take n piece) (drop n piece)) ∙ ap (λ (l : List ℕ). l ++ drop n piece) (sym is) in
    let size : length r.fed ≡ most_bytes = omega (arith, ap (λ (l : List ℕ). length l) is, length-append fed (take n piece), length-take n piece, full, more) in (
      record {
        tags = r.given;
        past_is = fits.past_is;
        first = record { front = r.fed; behind = drop n piece; parts = all; rest = fits.stands.0; reads = fits.stands.1 };
        ends = inr (record {
          front = r.fed;
          behind = drop n piece;
          parts = all;
          full = size;
          more = omega (arith, length-drop n piece, more);
          place = refl;
          rest = fits.stands.0;
          reads = fits.stands.1;
        });
      },
      stands,
    )

-- ---- a whole film

prepend_twice : (known : Option (List ℕ)) (xs ys : List ℕ) → prepend_known xs (prepend_known ys known) ≡ prepend_known (xs ++ ys) known
prepend_twice None xs ys = refl
prepend_twice (Some zs) xs ys = ap Some (sym (append_assoc xs ys zs))

pub prepend_none : (known : Option (List ℕ)) → prepend_known [] known ≡ known
prepend_none None = refl
prepend_none (Some xs) = refl

pub read_more : (read bytes : List ℕ) (left now after : Option (List ℕ)) → WasRead read left now → now ≡ prepend_known bytes after → WasRead (read ++ bytes) left after
read_more read bytes left now after w e = w ∙ ap (prepend_known read) e ∙ prepend_twice after read bytes

film_end : (least : ℕ) (left : Option (List ℕ)) (all : List ℕ) (tags : List Tag) (end : End) → TakeEnds least end all tags → FilmEnds least left end all tags
film_end least left all tags Whole h = absurd h
film_end least left all tags (Refused at) h = inl h
film_end least left all tags TooMany h = h
film_end least left all tags SourceFault h = absurd h

take_source : (least : ℕ) (all : List ℕ) (tags : List Tag) (end : End) (before now : ℕ) → TakeEnds least end all tags → now ≡ before → EndSource end before now
take_source least all tags Whole before now h e = absurd h
take_source least all tags (Refused at) before now h e = e
take_source least all tags TooMany before now h e = e
take_source least all tags SourceFault before now h e = absurd h

pub piece_stops : (stop : Stop) (name fed bytes : List ℕ) (left now after : Option (List ℕ)) (s s' : ℕ) (least : ℕ) (k : Known) (p : Pending) (o : Option FileSeen) (start told : HouseTold)
    → left ≡ prepend_known fed now → now ≡ prepend_known bytes after → s' ≡ s
    → Stops (IsEndedBy (TakeEnds least) (fed ++ bytes) k.past) (IsReadSo (fed ++ bytes) k.past) stop name k p o start told
    → Stops (IsEndedSo least left after s s' k.past) (IsPartRead left after k.past × (s' ≡ s)) stop name k p o start told
piece_stops stop name fed bytes left now after s s' least k p o start told w e q h =
    let was = read_more fed bytes left now after w e in
    let ends : (end : End) → IsEndedBy (TakeEnds least) (fed ++ bytes) k.past end → IsEndedSo least left after s s' k.past end = λ end x. record {
      read = fed ++ bytes;
      was_read = was;
      so = record { tags = x.tags; past_is = x.past_is; first = x.first; ends = film_end least after (fed ++ bytes) x.tags end x.ends };
      source = take_source least (fed ++ bytes) x.tags end s s' x.ends q;
    } in
    let breaks : IsReadSo (fed ++ bytes) k.past → IsPartRead left after k.past × (s' ≡ s) = λ x. (record { read = fed ++ bytes; was_read = was; part = x }, q) in
    stops_map ends breaks stop name k p o start told h

-- the end
pub end_fails : (e : FlvFail) (fed : List ℕ) (tags : List Tag) → TagsEnd fed tags e → FileEnds (Err (stop_of_tags e)) fed tags
end_fails (BadHeader at) fed tags h = (BadHeader at, h, refl)
end_fails (BadTag at) fed tags h = (BadTag at, h, refl)
end_fails (BadBack at stored real) fed tags h = (BadBack at stored real, h, refl)
end_fails TagMemory fed tags h = tt

first_all : (r : TagsKnown) → TagsStand r → IsFirst r.fed r.given
first_all r s = record { front = r.fed; behind = []; parts = sym (append-nil r.fed); rest = s.0; reads = s.1 }

-- it ends so once all was read
ended_with : (end : End) (least : ℕ) (left now after : Option (List ℕ)) (s s' : ℕ) (r : TagsKnown) (k : Known) → left ≡ prepend_known r.fed now → after ≡ now → EndSource end s s' → Fits r k
    → FilmEnds least after end r.fed r.given → IsEndedSo least left after s s' k.past end
ended_with end least left now after s s' r k w same q fits h = record {
  read = r.fed;
  was_read = w ∙ ap (prepend_known r.fed) (sym same);
  so = record { tags = r.given; past_is = fits.past_is; first = first_all r fits.stands; ends = h };
  source = q;
}

-- the source fails once all was read
pub source_ends : (name : List ℕ) (least : ℕ) (left now after : Option (List ℕ)) (s s' : ℕ) (r : TagsKnown) (k : Known) (p : Pending) (o : Option FileSeen) (start told : HouseTold) (R : Type 0)
    → left ≡ prepend_known r.fed now → after ≡ now → Rose s s' → Fits r k → StandsBy name (list_of k) p o start told
    → Stops (IsEndedSo least left after s s' k.past) R (Ended SourceFault) name k p o start told
source_ends name least left now after s s' r k p o start told R w same q fits stands =
    (ended_with SourceFault least left now after s s' r k w same q fits (fits.stands.0, fits.stands.1), stands)

part_all : (left now after : Option (List ℕ)) (r : TagsKnown) (k : Known) → left ≡ prepend_known r.fed now → after ≡ now → Fits r k → IsPartRead left after k.past
part_all left now after r k w same fits = record {
  read = r.fed;
  was_read = w ∙ ap (prepend_known r.fed) (sym same);
  part = record { tags = r.given; past_is = fits.past_is; first = first_all r fits.stands };
}

pub film_ends : (r : Result (Unit {0}) Stop) (name : List ℕ) (least : ℕ) (left now after : Option (List ℕ)) (s s' : ℕ) (t : TagsKnown) (k : Known) (p : Pending) (o : Option FileSeen)
    (start told : HouseTold) → length t.fed ≤ most_bytes → left ≡ prepend_known t.fed now → after ≡ now → IsAtEnd now → s' ≡ s → Fits t k → StandsBy name (list_of k) p o start told
    → FileEnds r t.fed t.given
    → MatchResult r (λ _. IsEndedSo least left after s s' k.past Whole × StandsBy name (list_of k) p o start told)
    (λ stop. Stops (IsEndedSo least left after s s' k.past) (IsPartRead left after k.past × (s' ≡ s)) stop name k p o start told)
film_ends (Ok x) name least left now after s s' t k p o start told within w same end q fits stands h =
    (ended_with Whole least left now after s s' t k w same q fits (within, subst IsAtEnd (sym same) end, h), stands)
film_ends (Err (Ended Whole)) name least left now after s s' t k p o start told within w same end q fits stands h = absurd h
film_ends (Err (Ended (Refused at))) name least left now after s s' t k p o start told within w same end q fits stands h = (
  ended_with (Refused at) least left now after s s' t k w same q fits
      (inr (subst IsAtEnd (sym same) end, record { within = within; cause = h.0; ends = h.1; place = h.2 })),
  stands,
)
film_ends (Err (Ended TooMany)) name least left now after s s' t k p o start told within w same end q fits stands h = absurd h
film_ends (Err (Ended SourceFault)) name least left now after s s' t k p o start told within w same end q fits stands h = absurd h
film_ends (Err (Broken Sink)) name least left now after s s' t k p o start told within w same end q fits stands h = absurd h
film_ends (Err (Broken House)) name least left now after s s' t k p o start told within w same end q fits stands h = absurd h
film_ends (Err (Broken Memory)) name least left now after s s' t k p o start told within w same end q fits stands h =
    ((part_all left now after t k w same fits, q), stands_then name (list_of k) p.text p.title p.count o start told stands)

-- nothing was read
pub nothing_read : (name : List ℕ) (left : Option (List ℕ)) (s : ℕ) (t : TagsKnown) (k : Known) (p : Pending) (o : Option FileSeen) (start told : HouseTold) → t.fed ≡ [] → Fits t k
    → StandsBy name (list_of k) p o start told → (IsPartRead left left k.past × (s ≡ s)) × Breaks Memory name (list_of k) p.title o start told
nothing_read name left s t k p o start told e fits stands = (
  (part_all left left left t k (sym (ap (λ (l : List ℕ). prepend_known l left) e ∙ prepend_none left)) refl fits, refl),
  stands_then name (list_of k) p.text p.title p.count o start told stands,
)

-- how it ended
pub ended_film : (r : Result (Unit {0}) Stop) (E : End → Type 0) (R : Type 0) (name : List ℕ) (k : Known) (p : Pending) (o : Option FileSeen) (start told : HouseTold)
    → MatchResult r (λ _. E Whole × StandsBy name (list_of k) p o start told) (λ stop. Stops E R stop name k p o start told)
    → MatchResult (ended r) (λ end. E end × StandsBy name (list_of k) p o start told) (λ fault. R × Breaks fault name (list_of k) p.title o start told)
ended_film (Ok x) E R name k p o start told h = h
ended_film (Err (Ended end)) E R name k p o start told h = h
ended_film (Err (Broken fault)) E R name k p o start told h = h

-- the last file can't be ended
pub same_source : (fault : Fault) (s s' : ℕ) → s' ≡ s → CutSource fault s s'
same_source Sink s s' e = tt
same_source House s s' e = e
same_source Memory s s' e = tt

pub file_source : (fault : Fault) (s s' : ℕ) → IsOfFile fault → CutSource fault s s'
file_source Sink s s' e = tt
file_source House s s' e = absurd e
file_source Memory s s' e = tt

pub part_of : (end : End) (least : ℕ) (left left' : Option (List ℕ)) (s s' : ℕ) (past : List Item) → IsEndedSo least left left' s s' past end → IsPartRead left left' past
part_of end least left left' s s' past h =
    record { read = h.read; was_read = h.was_read; part = record { tags = h.so.tags; past_is = h.so.past_is; first = h.so.first } }

pub read_fails : (fault : Fault) (s s' : ℕ) (P B : Type 0) → (P × (s' ≡ s)) × B → P × CutSource fault s s' × B
read_fails fault s s' P B h = (h.0.0, same_source fault s s' h.0.1, h.1)

pub last_fails : (end : End) (fault : Fault) (least : ℕ) (left left' : Option (List ℕ)) (s s' : ℕ) (past : List Item) (B : Type 0) → IsEndedSo least left left' s s' past end
    → IsOfFile fault → B → IsPartRead left left' past × CutSource fault s s' × B
last_fails end fault least left left' s s' past B h cause b = (part_of end least left left' s s' past h, file_source fault s s' cause, b)

-- memory is refused before a tag is cut
pub tag_memory : (name : List ℕ) (k : Known) (t : Tag) (p : Pending) (o : Option FileSeen) (start now : HouseTold) → StandsBy name (list_of k) p o start now
    → Stops (TagEnds k k t) (TagBreaks k k t) (Broken Memory) name k p o start now
tag_memory name k t p o start now s = (inr refl, stands_then name (list_of k) p.text p.title p.count o start now s)
