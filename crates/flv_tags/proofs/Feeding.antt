-- What a reader stands for after its steps
use Rattle.std.proofs.Common.{◌≡◌, ◌≢◌, ℕ, Bool, ◌+◌, ◌-◌, ◌<◌, ◌≤◌, ◌⊎◌, inl, inr, true, false, List, [], ◌∷◌, ◌++◌, length, take, drop, slice_index}
use Rattle.std.proofs.Common.{Option, Some, None, IfSome, is_some, refl, sym, ap, ◌∙◌, subst, arith, append_assoc, append-nil, length-append}
use Rattle.std.proofs.Common.{length-drop}
use Rattle.std.specs.Option.{option_to_list}
use Rattle.std.proofs.lemmas.List.{get_or-append_right, length-take, length-take-le, take-append-drop, take_all, take_at}
use Rattle.std.proofs.Math.Seq.{take-add}
use Rattle.std.proofs.lemmas.Bool.{cases_lt}
use Rattle.flv_tags.specs.declared.tag.Tag.{Tag}
use Rattle.flv_tags.specs.declared.part.Part.{Part}
use Rattle.flv_tags.specs.declared.fail.FlvFail.{FlvFail}
use Rattle.flv_tags.specs.declared.fail.FlvFail.TheVariants.{OutOfMemory}
use Rattle.flv_tags.specs.Layout.{size_in, tag_in}
use Rattle.flv_tags.specs.Written.{IsWritable, header}
use Rattle.flv_tags.specs.Reads.{InHeader, InTags, IsAsHeader, IsFile, IsOpen, IsTag, Reads}
use Rattle.flv_tags.specs.Stops.{Refuses, RefusesHeader, RefusesTag, Stops}
use Rattle.flv_tags.specs.Known.{Known}
use Rattle.flv_tags.specs.Feeds.{IsFedTo, IsRefused, IsTakenTo, Stands, after_bytes}
use Rattle.flv_tags.specs.Sound.{IsPart, IsSound, IsStanding, part_bytes}
use Rattle.flv_tags.specs.Steps.{Completes, Grows, Passes, IsHeaderByte, IsTaken, TakeFails}
use Rattle.flv_tags.proofs.Reading.{as_header_more, file_stands, header_file, in_tags_long, in_tags_more, in_tags_tag}

pub first_is : (piece : List ℕ) → 0 < length piece → take 1 piece ≡ slice_index piece 0 ∷ []
first_is [] h = absurd (omega arith)
first_is (x ∷ piece) h = refl

-- what stands after more bytes
pub record Stood (fed : List ℕ) (given : List Tag) (t : Option Tag) (new : Part) : Type 0 where
  pub standing : IsStanding fed given new
  pub at_end : is_some t ≡ true → IsFile fed given
  pub fits : IfSome t IsWritable

-- a tag that is read can be written
tag_fits : (c : List ℕ) → IsTag c → IsWritable (tag_in c)
unfolding tag_in
tag_fits c i =
    let w = i.whole in
    record { kind = i.admitted.kind (omega arith); fits = omega (arith, length-take (size_in c) (drop 11 c), i.admitted.fits (omega arith)) }

pub read_of : (fed : List ℕ) (given : List Tag) (part : Part) → IsStanding fed given part → (r : List ℕ) × Reads fed given r
read_of fed given part s = elim s.at [
  | inl h ↦ (fed, inl h.0)
  | inr i ↦ (part_bytes part, inr i)
]

header_stood : (fed : List ℕ) (byte : ℕ) (given : List Tag) (part : Part) → IsPart part → part_bytes part ≡ [] → InHeader fed given fed
    → (length fed < 9 → length fed ≢ 4 → byte ≡ slice_index header (length fed)) → Stood (fed ++ byte ∷ []) given None part
header_stood fed byte given part p none h fits =
    let n : length (fed ++ byte ∷ []) ≡ length fed + 1 = length-append fed (byte ∷ []) in
    let a : IsAsHeader (fed ++ byte ∷ []) = as_header_more fed byte h.as_header fits in
    let T : List Tag → Type 0 = λ ts. InTags (fed ++ byte ∷ []) ts [] in
    let R : List ℕ → Type 0 = λ r. InTags (fed ++ byte ∷ []) given r in
    record {
      standing = record {
        is_part = p;
        at = elim (cases_lt (length (fed ++ byte ∷ [])) 13) [
          | inl less ↦ inl (record { short = less; as_header = a; none = h.none; all = refl }, none)
          | inr le ↦ (
              let thirteen : length (fed ++ byte ∷ []) ≡ 13 = omega (arith, n, le, h.short) in
              let file : InTags (fed ++ byte ∷ []) [] [] = file_stands (fed ++ byte ∷ []) [] (header_file (fed ++ byte ∷ []) thirteen a) in
              inr (subst R (sym none) (subst T (sym h.none) file)))
        ];
      };
      at_end = λ e. absurd (cc);
      fits = tt;
    }

tag_stood : (fed x : List ℕ) (given : List Tag) (part new : Part) (t : Tag) → InTags fed given (part_bytes part) → Completes part x t new
    → Stood (fed ++ x) (given ++ t ∷ []) (Some t) new
tag_stood fed x given part new t i p =
    let T : Tag → Type 0 = λ u. IsFile (fed ++ x) (given ++ u ∷ []) in
    let file : IsFile (fed ++ x) (given ++ t ∷ []) = subst T (sym p.tag) (in_tags_tag fed x given (part_bytes part) i p.is_tag) in
    let R : List ℕ → Type 0 = λ r. InTags (fed ++ x) (given ++ t ∷ []) r in
    record {
      standing = record { is_part = p.is_part; at = inr (subst R (sym p.none) (file_stands (fed ++ x) (given ++ t ∷ []) file)) };
      at_end = λ _. file;
      fits = subst IsWritable (sym p.tag) (tag_fits (part_bytes part ++ x) p.is_tag);
    }

more_stood : (fed x : List ℕ) (given : List Tag) (part new : Part) → InTags fed given (part_bytes part) → Grows part x new → Stood (fed ++ x) given None new
more_stood fed x given part new i g =
    let R : List ℕ → Type 0 = λ r. InTags (fed ++ x) given r in
    record {
      standing = record {
        is_part = g.is_part;
        at = inr (subst R (sym g.bytes) (in_tags_more fed x given (part_bytes part) i
            (subst IsOpen g.bytes g.is_part.rest)));
      };
      at_end = λ e. absurd (cc);
      fits = tt;
    }

passes_stood : (fed x : List ℕ) (given : List Tag) (part new : Part) (t : Option Tag) → InTags fed given (part_bytes part) → Passes part x t new
    → Stood (fed ++ x) (given ++ option_to_list t) t new
passes_stood fed x given part new None i p = rw append-nil (more_stood fed x given part new i p)
passes_stood fed x given part new (Some t) i p = tag_stood fed x given part new t i p

byte_stood : (fed piece : List ℕ) (given : List Tag) (part new : Part) (t : Option Tag) (used : ℕ) → 0 < length piece → InHeader fed given fed
    → IsPart part → part_bytes part ≡ []
    → IsHeaderByte (length fed) part piece used t new → Stood (fed ++ take used piece) (given ++ option_to_list t) t new
byte_stood fed piece given part new t used some h p none b =
    let x : take used piece ≡ slice_index piece 0 ∷ [] = ap (λ (n : ℕ). take n piece) b.one ∙ first_is piece some in
    let g : given ++ option_to_list t ≡ given = ap (λ (u : Option Tag). given ++ option_to_list u) b.none ∙ append-nil given in
    let P : List ℕ → Type 0 = λ v. Stood (fed ++ v) (given ++ option_to_list t) t new in
    let Q : List Tag → Type 0 = λ ts. Stood (fed ++ slice_index piece 0 ∷ []) ts t new in
    let R : Option Tag → Type 0 = λ u. Stood (fed ++ slice_index piece 0 ∷ []) given u new in
    let S : Part → Type 0 = λ q. Stood (fed ++ slice_index piece 0 ∷ []) given None q in
    subst P (sym x) (subst Q (sym g) (subst R (sym b.none) (subst S (sym b.same) (header_stood fed (slice_index piece 0) given part p none h b.fits))))

taken_stood : (fed piece : List ℕ) (given : List Tag) (part new : Part) (t : Option Tag) (used : ℕ) → 0 < length piece → IsStanding fed given part
    → IsTaken (length fed) part piece used t new
    → Stood (fed ++ take used piece) (given ++ option_to_list t) t new
taken_stood fed piece given part new t used some s (inl b) = elim s.at [
  | inl h ↦ byte_stood fed piece given part new t used some h.0 s.is_part h.1 b
  | inr i ↦ absurd (omega (arith, in_tags_long fed given (part_bytes part) i, b.early))
]
taken_stood fed piece given part new t used some s (inr p) = elim s.at [
  | inl h ↦ absurd (omega (arith, h.0.short, p.0))
  | inr i ↦ passes_stood fed (take used piece) given part new t i p.1.passes
]

taken_within : (count : ℕ) (piece : List ℕ) (part new : Part) (t : Option Tag) (used : ℕ) → 0 < length piece → IsTaken count part piece used t new
    → (0 < used) × (used ≤ length piece)
taken_within count piece part new t used some (inl b) = (omega (arith, b.one), omega (arith, b.one))
taken_within count piece part new t used some (inr p) = (p.1.some, p.1.within)

two_ways : (b : Bool) → b ≡ false → b ≡ true → ⊥
two_ways b f t = cc

-- bytes that were taken
pub record AdvancedOk (fed : List ℕ) (given : List Tag) (piece : List ℕ) (used : ℕ) (t : Option Tag) (new : Part) (count : ℕ)
    (failed : Option FlvFail) (fed_now : List ℕ) (given_now : List Tag) : Type 0 where
  pub sound : IsSound new (count + used) failed fed_now given_now
  pub taken : IsTakenTo (record { fed = fed; given = given; failed = failed }) piece used t (record { fed = fed_now; given = given_now; failed = failed })

pub advance_ok : (part new : Part) (count : ℕ) (failed : Option FlvFail) (fed fed_now : List ℕ) (given given_now : List Tag) (piece : List ℕ)
    (used : ℕ) (t : Option Tag)
    → IsSound part count failed fed given → failed ≡ None → 0 < length piece → IsTaken count part piece used t new
    → fed_now ≡ fed ++ take used piece → given_now ≡ given ++ option_to_list t
    → AdvancedOk fed given piece used t new count failed fed_now given_now
advance_ok part new count failed fed fed_now given given_now piece used t s lives some taken f g =
    let at : IsTaken (length fed) part piece used t new = let P : ℕ → Type 0 = λ n. IsTaken n part piece used t new in subst P s.counted taken in
    let live : is_some failed ≡ false = ap (λ (o : Option FlvFail). is_some o) lives in
    let stood = taken_stood fed piece given part new t used some (s.standing live) at in
    let w = taken_within count piece part new t used some taken in
    let n : length (fed ++ take used piece) ≡ length fed + used = length-append fed (take used piece)
    ∙ ap (λ (k : ℕ). length fed + k) (length-take-le used piece w.1) in
    let read = read_of (fed ++ take used piece) (given ++ option_to_list t) new stood.standing in
    let sound : IsSound new (count + used) failed (fed ++ take used piece) (given ++ option_to_list t) =
    record { counted = omega (arith, n, s.counted); read = read; standing = λ _. stood.standing; dropped = λ d. absurd (two_ways (is_some failed) live d) } in
    let P : List ℕ → List Tag → Type 0 = λ b ts. AdvancedOk fed given piece used t new count failed b ts in
    let whole : P (fed ++ take used piece) (given ++ option_to_list t) = record {
      sound = sound;
      taken = record {
        within = w.1;
        some = w.0;
        now = ap (λ (e : Option FlvFail). record {
          fed = fed ++ take used piece;
          given =
              given ++ option_to_list t;
          failed = e;
        }) lives;
        read = read;
        at_end = stood.at_end;
        fits = stood.fits;
      };
    } in
    let P1 : List Tag → Type 0 = λ ts. P (fed ++ take used piece) ts in
    let P2 : List ℕ → Type 0 = λ b. P b given_now in
    subst P2 (sym f) (subst P1 (sym g) whole)

-- a byte that was refused
refused_is : (fed piece : List ℕ) (given : List Tag) (part : Part) (e : FlvFail) → 0 < length piece → IsStanding fed given part
    → ((length fed < 13) × RefusesHeader (length fed) (slice_index piece 0) e) ⊎ ((13 ≤ length fed) × RefusesTag (length fed - length
    (part_bytes part)) (part_bytes part ++ take 1 piece) e)
    → Refuses fed given (slice_index piece 0) e
refused_is fed piece given part e some s (inl h) = elim s.at [
  | inl i ↦ inl (fed, i.0, h.1)
  | inr i ↦ absurd (omega (arith, in_tags_long fed given (part_bytes part) i, h.0))
]
refused_is fed piece given part e some s (inr h) = elim s.at [
  | inl i ↦ absurd (omega (arith, i.0.short, h.0))
  | inr i ↦ (
      let start = length fed - length (part_bytes part) in
      let P : List ℕ → Type 0 = λ x. RefusesTag start (part_bytes part ++ x) e in
      inr (start, (part_bytes part, i, omega (arith, in_tags_long fed given (part_bytes part) i), subst P (first_is piece some) h.1)))
]

stops_is : (fed piece : List ℕ) (given : List Tag) (e : FlvFail) → 0 < length piece → Refuses fed given (slice_index piece 0) e
    → Stops (fed ++ piece) (length fed) given e
stops_is fed piece given e some r =
    let front : take (length fed) (fed ++ piece) ≡ fed = take_at fed piece (length fed) refl in
    let z : length fed - length fed ≡ 0 = omega arith in
    let byte : slice_index (fed ++ piece) (length fed) ≡ slice_index piece 0 =
    get_or-append_right fed piece (length fed) (length fed) 0 refl (omega arith) ∙ ap (slice_index piece) z in
    let P : List ℕ → Type 0 = λ b. Refuses b given (slice_index piece 0) e in
    let Q : ℕ → Type 0 = λ x. Refuses (take (length fed) (fed ++ piece)) given x e in
    record { there = omega (arith, length-append fed piece); refused = subst Q (sym byte) (subst P (sym front) r) }

pub record AdvancedErr (fed : List ℕ) (given : List Tag) (piece : List ℕ) (e : FlvFail) (new : Part) (count : ℕ) (failed : Option FlvFail) : Type 0 where
  pub sound : IsSound new count (Some e) fed given
  pub refused : IsRefused (record { fed = fed; given = given; failed = failed }) piece e (record { fed = fed; given = given; failed = Some e })

cause_is : (fed piece : List ℕ) (given : List Tag) (part : Part) (e : FlvFail) → 0 < length piece → IsStanding fed given part
    → TakeFails (length fed) part piece e
    → (e ≡ OutOfMemory) ⊎ Stops (fed ++ piece) (length fed) given e
cause_is fed piece given part e some s (inl m) = inl m
cause_is fed piece given part e some s (inr f) = inr (stops_is fed piece given e some (refused_is fed piece given part e some s f))

pub advance_err : (part new : Part) (count : ℕ) (failed : Option FlvFail) (fed : List ℕ) (given : List Tag) (piece : List ℕ) (e : FlvFail)
    → IsSound part count failed fed given → failed ≡ None → 0 < length piece → TakeFails count part piece e → part_bytes new ≡ [] → AdvancedErr fed given piece e new count failed
advance_err part new count failed fed given piece e s lives some fails none =
    let live : is_some failed ≡ false = ap (λ (o : Option FlvFail). is_some o) lives in
    let at : TakeFails (length fed) part piece e = let P : ℕ → Type 0 = λ n. TakeFails n part piece e in subst P s.counted fails in
    record {
      sound = record { counted = s.counted; read = s.read; standing = λ l. absurd (cc); dropped = λ _. none };
      refused = record {
        after = 0;
        within = some;
        now = ap (λ (b : List ℕ). record { fed = b; given = given; failed = Some e }) (sym (append-nil fed));
        read = s.read;
        count = omega arith;
        cause = cause_is fed piece given part e some (s.standing live) at;
      };
    }

pub sound_new : (part : Part) (fed : List ℕ) (given : List Tag) → IsPart part → part_bytes part ≡ [] → fed ≡ [] → given ≡ [] → IsSound part 0 None fed given
sound_new part fed given p none f g =
    let h : InHeader [] [] [] = record { short = omega arith; as_header = λ i l. absurd (omega arith); none = refl; all = refl } in
    let P : List ℕ → List Tag → Type 0 = λ b ts. IsSound part 0 None b ts in
    let whole : P [] [] = record { counted = refl; read = ([], inl h); standing = λ _. record { is_part = p; at = inl (h, none) }; dropped = λ d. absurd (cc) } in
    let P1 : List Tag → Type 0 = λ ts. P [] ts in
    let P2 : List ℕ → Type 0 = λ b. P b given in
    subst P2 (sym f) (subst P1 (sym g) whole)

-- a feed, from its steps
abbrev pub fed_to : Known → List ℕ → ℕ → Known
fed_to old piece used = record { fed = old.fed ++ take used piece; given = old.given; failed = None }

pub rest_is : (piece : List ℕ) (used : ℕ) → take (length piece - used) (drop used piece) ≡ drop used piece
rest_is piece used = take_all (length piece - used) (drop used piece) (omega (arith, length-drop used piece))

pub feed_more : (old mid new : Known) (piece : List ℕ) (used more : ℕ) (t : Option Tag) → mid ≡ fed_to old piece used
    → IsTakenTo mid (drop used piece) more t new → new ≡ after_bytes old piece (used + more) t
feed_more old mid new piece used more t e k =
    let P : Known → Type 0 = λ m. new ≡ after_bytes m (drop used piece) more t in
    let n : new ≡ after_bytes (fed_to old piece used) (drop used piece) more t = subst P e k.now in
    let f : (old.fed ++ take used piece) ++ take more (drop used piece) ≡ old.fed ++ take (used + more) piece =
    append_assoc old.fed (take used piece) (take more (drop used piece)) ∙ ap (λ (b : List ℕ). old.fed ++ b) (sym (take-add used more piece)) in
    n ∙ ap (λ (b : List ℕ). record { fed = b; given = old.given ++ option_to_list t; failed = None }) f

pub feed_none : (old : Known) (piece : List ℕ) (used : ℕ) → after_bytes old piece used None ≡ fed_to old piece used
feed_none old piece used = ap (λ (ts : List Tag). record { fed = old.fed ++ take used piece; given = ts; failed = None }) (append-nil old.given)

pub feed_refused : (old mid new : Known) (piece : List ℕ) (used : ℕ) (e : FlvFail) → used ≤ length piece → mid ≡ fed_to old piece used
    → IsRefused mid (drop used piece) e new → IsRefused old piece e new
feed_refused old mid new piece used e within m r =
    let P : Known → Type 0 = λ k. new ≡ record { fed = k.fed ++ take r.after (drop used piece); given = k.given; failed = Some e } in
    let n = subst P m r.now in
    let f : (old.fed ++ take used piece) ++ take r.after (drop used piece) ≡ old.fed ++ take (used + r.after) piece =
    append_assoc old.fed (take used piece) (take r.after (drop used piece)) ∙ ap (λ (b : List ℕ). old.fed ++ b) (sym (take-add used r.after piece)) in
    let all : (old.fed ++ take used piece) ++ drop used piece ≡ old.fed ++ piece = append_assoc old.fed (take used piece) (drop used piece)
    ∙ ap (λ (b : List ℕ). old.fed ++ b) (take-append-drop used piece) in
    let Q : Known → Type 0 = λ k. (e ≡ OutOfMemory) ⊎ Stops (k.fed ++ drop used piece) (length new.fed) new.given e in
    let c = subst Q m r.cause in
    let R : List ℕ → Type 0 = λ b. (e ≡ OutOfMemory) ⊎ Stops b (length new.fed) new.given e in
    record {
      after = used + r.after;
      within = omega (arith, r.within, length-drop used piece);
      now = n ∙ ap (λ (b : List ℕ). record { fed = b; given = old.given; failed = Some e }) f;
      read = r.read;
      count = omega (arith, r.count, ap (λ (k : Known). length k.fed) m, length-append old.fed (take used piece), length-take-le used piece within);
      cause = subst R all c;
    }

pub feed_goes : (old mid new : Known) (piece : List ℕ) (used more : ℕ) (t : Option Tag) → mid ≡ fed_to old piece used
    → IsTakenTo mid (drop used piece) more t new → is_some t ≡ false → new ≡ fed_to old piece (used + more)
feed_goes old mid new piece used more None e k n = feed_more old mid new piece used more None e k ∙ feed_none old piece (used + more)
feed_goes old mid new piece used more (Some x) e k n = absurd (cc)

pub feed_ends : (old mid new : Known) (piece : List ℕ) (used more : ℕ) (t : Option Tag) → used ≤ length piece → mid ≡ fed_to old piece used
    → IsTakenTo mid (drop used piece) more t new → is_some t ≡ true → IsFedTo old piece (used + more) t new
feed_ends old mid new piece used more t within e k n = record {
  within = omega (arith, k.within, length-drop used piece);
  some = λ _. omega (arith, k.some);
  all = λ f. absurd (cc);
  now = feed_more old mid new piece used more t e k;
  read = k.read;
  at_end = k.at_end;
  fits = k.fits;
  count = ap (λ (m : Known). length m.fed) (feed_more old mid new piece used more t e k) ∙ length-append old.fed (take (used + more) piece)
      ∙ ap (λ (n : ℕ). length old.fed + n) (length-take-le (used + more) piece (omega (arith, k.within, length-drop used piece)));
}

-- a feed to the end of the piece
pub feed_all : (old new : Known) (piece : List ℕ) (used : ℕ) → length piece ≤ used → used ≤ length piece → new ≡ fed_to old piece used → Stands new
    → IsFedTo old piece used None new
feed_all old new piece used low high n r = record {
  within = high;
  some = λ e. absurd (cc);
  all = λ _. omega (arith, low, high);
  now = n ∙ sym (feed_none old piece used);
  read = r;
  at_end = λ e. absurd (cc);
  fits = tt;
  count = ap (λ (m : Known). length m.fed) n ∙ length-append old.fed (take used piece) ∙ ap (λ (k : ℕ). length old.fed + k) (length-take-le used piece high);
}
