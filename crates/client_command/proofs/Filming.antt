-- A film that is read
use Rattle.std.proofs.Common.{◌≡◌, ◌⊎◌, inl, inr, ◌≤◌, ◌+◌, ◌-◌, ℕ, Bool, true, false, List, [], ◌∷◌, ◌++◌, length, take, drop, Option, Some, None, is_some, Result, Ok, Err, refl, sym, ap, ◌∙◌, subst, arith, append_assoc, append-nil, length-append}
use Rattle.std.specs.Prelude.{IfOk}
use Rattle.std.specs.Io.KnownBytes.{prepend_known}
use Rattle.std.proofs.lemmas.List.{length-drop, take-append-drop}
use Rattle.flv_tags.specs.declared.tag.Tag.{Tag}
use Rattle.flv_tags.specs.declared.fail.FlvFail.{FlvFail}
use Rattle.flv_tags.specs.declared.fail.FlvFail.TheVariants as flv
use Rattle.flv_tags.specs.Known.{Known}
use Rattle.flv_tags.specs.Feeds.{IsFedTo, IsRefused, Stands as TagsStand}
use Rattle.flv_tags.specs.Stops.{Ends, Stops as TagsStop}
use Rattle.flv_tags.specs.Reads.{Reads}
use Rattle.flv_tags.specs.Written.{IsWritable}
use Rattle.flv_tags.proofs.Reading.{file_stands}
use Rattle.file_commands.specs.Outcome.{most_bytes}
use Rattle.segment_command.specs.Films.{IsCutOff, IsStopped, WasRead}
use Rattle.rtmp_client.specs.Turns.{is_nil}
use Rattle.client_command.specs.Film.{AreWhole, IsNear, IsUpTo, IsWhole, ReadsOne, most_ahead}
use Rattle.client_command.specs.Giving.{Asks, EndsAs, FeedStops, Fills, IsReadOn, IsReading, MayGo, NextStops, ReadsNext, came_of}
use Rattle.client_command.specs.Turned.{stop_of}
use Rattle.client_command.specs.declared.film.Film.{Film}
use Rattle.client_command.specs.declared.stop.Stop.{Stop}
use Rattle.client_command.specs.declared.stop.Stop.TheVariants.{Client, Refused, Source, Sink, Memory}

-- ---- bytes came

pub prepend_twice : (xs ys : List ℕ) (known : Option (List ℕ)) → prepend_known xs (prepend_known ys known) ≡ prepend_known (xs ++ ys) known
prepend_twice xs ys None = refl
prepend_twice xs ys (Some zs) = ap Some (sym (append_assoc xs ys zs))

pub prepend_none : (known : Option (List ℕ)) → known ≡ prepend_known [] known
prepend_none None = refl
prepend_none (Some xs) = refl

pub came_more : (f g : Film) (count : ℕ) (bytes : List ℕ) → IsReading f → f.ahead ≡ [] → g.reader ≡ f.reader → g.ahead ≡ bytes → g.came ≡ f.came + count → length bytes ≡ count → count ≤ most_ahead → f.came + count ≤ most_bytes → IsReading g
came_more f g count bytes r none same ahead came len few near = record {
  lives = ap (λ (x : Known). x.failed) same ∙ r.lives;
  stands = subst TagsStand (sym same) r.stands;
  came_is = omega (arith, came, len, r.came_is, ap length none, ap length ahead, ap (λ (x : Known). length x.fed) same);
  near = omega (arith, came, near);
  few = omega (arith, ap length ahead, len, few);
}

-- ---- bytes are read

pub read_on : (f g : Film) (used : ℕ) (t : Option Tag) → IsReading f → IsFedTo f.reader f.ahead used t g.reader → g.ahead ≡ drop used f.ahead → g.came ≡ f.came → IsReadOn f g t
read_on f g used t r i ahead came =
    let fed : g.reader.fed ≡ f.reader.fed ++ take used f.ahead = ap (λ (x : Known). x.fed) i.now in
    let left : length g.ahead ≡ length f.ahead - used = ap length ahead ∙ length-drop used f.ahead in
    record {
      reading = record {
        lives = ap (λ (x : Known). x.failed) i.now;
        stands = i.read;
        came_is = omega (arith, came, r.came_is, i.count, left, i.within);
        near = omega (arith, came, r.near);
        few = omega (arith, left, r.few);
      };
      came_same = ap (λ (x : List ℕ). x ++ g.ahead) fed ∙ ap (λ (x : List ℕ). (f.reader.fed ++ take used f.ahead) ++ x) ahead
          ∙ append_assoc f.reader.fed (take used f.ahead) (drop used f.ahead) ∙ ap (λ (x : List ℕ). f.reader.fed ++ x) (take-append-drop used f.ahead);
      given = ap (λ (x : Known). x.given) i.now;
      at_end = i.at_end;
    }

pub goes_on : (f g : Film) (t : Option Tag) → IsReadOn f g t → (is_some t ≡ true → (x : Tag) → t ≡ Some x → IsWritable x) → MayGo g t
goes_on f g None r w = tt
goes_on f g (Some t) r w = (r.reading, w refl t refl)

stopped : (f : Film) (g : Known) (e : FlvFail) (at : ℕ) → IsReading f → IsRefused f.reader f.ahead e g → at ≡ Rattle.file_commands.specs.Remux.offset_of e → TagsStop (f.reader.fed ++ f.ahead) (length g.fed) g.given e → IsStopped (came_of f) at f.reader.given
stopped f g e at r i place s = record {
  front = came_of f;
  behind = [];
  parts = sym (append-nil (came_of f));
  within = omega (arith, length-append f.reader.fed f.ahead, r.came_is, r.near);
  count = length g.fed;
  cause = e;
  stops = subst (λ (x : List Tag). TagsStop (came_of f) (length g.fed) x e) (ap (λ (x : Known). x.given) i.now) s;
  place = place;
}

pub feed_stops : (f : Film) (g : Known) (e : FlvFail) → IsReading f → IsRefused f.reader f.ahead e g → FeedStops (stop_of e) f
feed_stops f g (flv.BadHeader at) r i = by_cause i.cause
  where
    by_cause : ((flv.BadHeader at ≡ flv.OutOfMemory) ⊎ TagsStop (f.reader.fed ++ f.ahead) (length g.fed) g.given (flv.BadHeader at)) → IsStopped (came_of f) at f.reader.given
    by_cause (inl e) = absurd (cc)
    by_cause (inr s) = stopped f g (flv.BadHeader at) at r i refl s
feed_stops f g (flv.BadTag at) r i = by_cause i.cause
  where
    by_cause : ((flv.BadTag at ≡ flv.OutOfMemory) ⊎ TagsStop (f.reader.fed ++ f.ahead) (length g.fed) g.given (flv.BadTag at)) → IsStopped (came_of f) at f.reader.given
    by_cause (inl e) = absurd (cc)
    by_cause (inr s) = stopped f g (flv.BadTag at) at r i refl s
feed_stops f g (flv.BadBack at stored real) r i = by_cause i.cause
  where
    by_cause : ((flv.BadBack at stored real ≡ flv.OutOfMemory) ⊎ TagsStop (f.reader.fed ++ f.ahead) (length g.fed) g.given (flv.BadBack at stored real)) → IsStopped (came_of f) at f.reader.given
    by_cause (inl e) = absurd (cc)
    by_cause (inr s) = stopped f g (flv.BadBack at stored real) at r i refl s
feed_stops f g flv.OutOfMemory r i = tt

-- ---- it may not end here

cut : (f : Film) (e : FlvFail) (at : ℕ) → IsReading f → f.reader.failed ≡ None → at ≡ Rattle.file_commands.specs.Remux.offset_of e → Ends f.reader.fed f.reader.given e → IsCutOff f.reader.fed at f.reader.given
cut f e at r l place s = record { within = omega (arith, r.came_is, r.near); cause = e; ends = s; place = place }

pub end_stops : (f : Film) (e : FlvFail) → IsReading f → Ends f.reader.fed f.reader.given e → EndsAs (Err (stop_of e)) f
end_stops f (flv.BadHeader at) r s = cut f (flv.BadHeader at) at r r.lives refl s
end_stops f (flv.BadTag at) r s = cut f (flv.BadTag at) at r r.lives refl s
end_stops f (flv.BadBack at stored real) r s = absurd s
end_stops f flv.OutOfMemory r s = tt

-- ---- the next tag

all_fed : (f : Film) → f.ahead ≡ [] → came_of f ≡ f.reader.fed
all_fed f none = ap (λ (x : List ℕ). f.reader.fed ++ x) none ∙ append-nil f.reader.fed

-- no more than a part of a tag was read behind those
near_of : (f : Film) (ahead : List ℕ) → length ahead ≤ most_ahead → IsReading f → IsNear (f.reader.fed ++ ahead) f.reader.given
near_of f ahead few r = record { front = f.reader.fed; ahead = ahead; parts = refl; few = few; reads = inl r.stands }

near_here : (f : Film) → IsReading f → IsNear f.reader.fed f.reader.given
near_here f r = record { front = f.reader.fed; ahead = []; parts = sym (append-nil f.reader.fed); few = omega arith; reads = inl r.stands }

nothing_read : Reads [] [] []
nothing_read = inl (record { short = omega arith; as_header = λ j l m n. absurd (omega (arith, l)); none = refl; all = refl })

-- whole tags are near too
whole_reads : (front : List ℕ) (tags : List Tag) → AreWhole front tags → ReadsOne front tags
whole_reads front tags (inl f) = inl ([], inr (file_stands front tags f))
whole_reads front tags (inr e) = inl ([], subst (λ (x : List Tag). Reads front x []) (sym e.1) (subst (λ (x : List ℕ). Reads x [] []) (sym e.0) nothing_read))

pub near_whole : (read : List ℕ) (tags : List Tag) → IsUpTo read tags → IsNear read tags
near_whole read tags u = record { front = u.front; ahead = u.ahead; parts = u.parts; few = u.few; reads = whole_reads u.front tags u.whole }

-- a film that was read whole
pub up_to_all : (read : List ℕ) (tags : List Tag) → AreWhole read tags → IsUpTo read tags
up_to_all read tags w = record { front = read; ahead = []; parts = sym (append-nil read); few = omega arith; whole = w }

pub was_more : (f g : Film) (start left left' : Option (List ℕ)) → f.ahead ≡ [] → g.reader ≡ f.reader → left ≡ prepend_known g.ahead left' → WasRead (came_of f) start left → WasRead (came_of g) start left'
was_more f g start left left' none same e w =
    w ∙ ap (prepend_known (came_of f)) e ∙ prepend_twice (came_of f) g.ahead left'
    ∙ ap (λ (x : List ℕ). prepend_known x left') (ap (λ (x : List ℕ). x ++ g.ahead) (all_fed f none ∙ ap (λ (x : Known). x.fed) (sym same)))

was_past : (f : Film) (b : List ℕ) (start left left' : Option (List ℕ)) → f.ahead ≡ [] → left ≡ prepend_known b left' → WasRead (came_of f) start left → WasRead (f.reader.fed ++ b) start left'
was_past f b start left left' none e w = w ∙ ap (prepend_known (came_of f)) e ∙ prepend_twice (came_of f) b left' ∙ ap (λ (x : List ℕ). prepend_known (x ++ b) left') (all_fed f none)

was_all : (f : Film) (start left left' : Option (List ℕ)) → f.ahead ≡ [] → left' ≡ left → WasRead (came_of f) start left → WasRead f.reader.fed start left'
was_all f start left left' none e w = w ∙ ap (prepend_known (came_of f)) (sym e) ∙ ap (λ (x : List ℕ). prepend_known x left') (all_fed f none)

-- asking failed
pub ask_stops : (stop : Stop) (f g : Film) (start left left' : Option (List ℕ)) (n n' : ℕ) → IsReading f → f.ahead ≡ [] → Asks (Err stop) f g left left' n n' → WasRead (came_of f) start left
    → (read : List ℕ) × WasRead read start left' × NextStops stop f.reader.given read left' n n'
ask_stops Client f g start left left' n n' r none a w = absurd a
ask_stops (Refused at) f g start left left' n n' r none a w =
    let b = a.1.0 in
    let full : length f.reader.fed ≡ most_bytes = omega (arith, a.0.1, r.came_is, ap length none) in (
      f.reader.fed ++ b,
      was_past f b start left left' none a.1.2 w,
      (
        inl (inr (record {
          front = f.reader.fed;
          behind = b;
          parts = refl;
          full = full;
          more = a.1.1;
          place = a.0.0;
          rest = r.stands.0;
          reads = r.stands.1;
        })),
        a.2,
        near_of f b a.1.3 r,
      ),
    )
ask_stops Source f g start left left' n n' r none a w = (f.reader.fed, was_all f start left left' none a.0 w, (r.stands, a.1))
ask_stops Sink f g start left left' n n' r none a w = absurd a
ask_stops Memory f g start left left' n n' r none a w = (f.reader.fed ++ a.0.0, was_past f a.0.0 start left left' none a.0.1 w, (near_of f a.0.0 a.0.2 r, a.1))

-- it was asked for more at its end
pub ask_ends : (q : Result (Option Tag) Stop) (f g : Film) (start left left' : Option (List ℕ)) (n n' : ℕ) → IsReading f → f.ahead ≡ [] → Asks (Ok false) f g left left' n n' → WasRead (came_of f) start left → EndsAs q g
    → ReadsNext q f g start left' n n'
ask_ends q f g start left left' n n' r none a w e = by_same q (subst (EndsAs q) a.0 e)
  where
    by_same : (p : Result (Option Tag) Stop) → EndsAs p f → ReadsNext p f g start left' n n'
    by_same (Ok (Some t)) e = absurd e
    by_same (Ok None) e = ((f.reader.fed, was_all f start left left' none a.2 w, record { within = omega (arith, r.came_is, r.near); at_end = a.1; file = e }), a.3)
    by_same (Err Client) e = absurd e
    by_same (Err (Refused at)) e = (f.reader.fed, was_all f start left left' none a.2 w, (inr (a.1, e), a.3, near_here f r))
    by_same (Err Source) e = absurd e
    by_same (Err Sink) e = absurd e
    by_same (Err Memory) e = (
      f.reader.fed,
      was_all f start left left' none a.2 w,
      (near_here f r, a.3),
    )

-- what came is refused
pub feed_ends : (stop : Stop) (f : Film) (start left : Option (List ℕ)) (n n' : ℕ) → IsReading f → n' ≡ n → FeedStops stop f → WasRead (came_of f) start left
    → (read : List ℕ) × WasRead read start left × NextStops stop f.reader.given read left n n'
feed_ends Client f start left n n' r e s w = absurd s
feed_ends (Refused at) f start left n n' r e s w = (came_of f, w, (inl (inl s), e, near_of f f.ahead r.few r))
feed_ends Source f start left n n' r e s w = absurd s
feed_ends Sink f start left n n' r e s w = absurd s
feed_ends Memory f start left n n' r e s w = (came_of f, w, (near_of f f.ahead r.few r, e))

nil_is : (l : List ℕ) → is_nil l ≡ true → l ≡ []
nil_is [] e = refl
nil_is (x ∷ l) e = absurd (cc)

pub none_ahead : (f : Film) → is_nil f.ahead ≡ true → f.ahead ≡ []
none_ahead f e = nil_is f.ahead e

-- it was asked for more
pub ask_fills : (r : Result Bool Stop) (f g : Film) (start left left' : Option (List ℕ)) (n n' : ℕ) → IsReading f → f.ahead ≡ [] → Asks r f g left left' n n' → WasRead (came_of f) start left → Fills r f g start left' n n'
ask_fills (Ok true) f g start left left' n n' r none a w = (was_more f g start left left' none a.1 a.2 w, a.3)
ask_fills (Ok false) f g start left left' n n' r none a w = λ q e. ask_ends q f g start left left' n n' r none a w e
ask_fills (Err stop) f g start left left' n n' r none a w = ask_stops stop f g start left left' n n' r none a w

pub ask_reading : (r : Result Bool Stop) (f g : Film) (left left' : Option (List ℕ)) (n n' : ℕ) → IsReading f → Asks r f g left left' n n' → IfOk r (λ x. IsReading g)
ask_reading (Ok true) f g left left' n n' r a = a.0
ask_reading (Ok false) f g left left' n n' r a = subst IsReading (sym a.0) r
ask_reading (Err stop) f g left left' n n' r a = tt

pub ask_given : (r : Result Bool Stop) (f g : Film) (left left' : Option (List ℕ)) (n n' : ℕ) → Asks r f g left left' n n' → IfOk r (λ x. g.reader.given ≡ f.reader.given)
ask_given (Ok true) f g left left' n n' a = ap (λ (x : Known). x.given) a.1
ask_given (Ok false) f g left left' n n' a = ap (λ (x : Film). x.reader.given) a.0
ask_given (Err stop) f g left left' n n' a = tt

pub ask_fed : (r : Result Bool Stop) (f g : Film) (left left' : Option (List ℕ)) (n n' : ℕ) → Asks r f g left left' n n' → IfOk r (λ x. g.reader.fed ≡ f.reader.fed)
ask_fed (Ok true) f g left left' n n' a = ap (λ (x : Known). x.fed) a.1
ask_fed (Ok false) f g left left' n n' a = ap (λ (x : Film). x.reader.fed) a.0
ask_fed (Err stop) f g left left' n n' a = tt

-- since the film began
pub reads_since : (q : Result (Option Tag) Stop) (e f g : Film) (start left : Option (List ℕ)) (m n n' : ℕ) → f.reader.given ≡ e.reader.given → n ≡ m → ReadsNext q f g start left n n' → ReadsNext q e g start left m n'
reads_since (Ok (Some t)) e f g start left m n n' same i r = (r.0, r.1 ∙ ap (λ (x : List Tag). x ++ t ∷ []) same, r.2 ∙ i, r.3)
reads_since (Ok None) e f g start left m n n' same i r =
    ((r.0.0, r.0.1, subst (λ (x : List Tag). IsWhole r.0.0 x left) same r.0.2), r.1 ∙ i)
reads_since (Err stop) e f g start left m n n' same i r =
    (r.0, r.1, subst (λ (x : ℕ). NextStops stop e.reader.given r.0 left x n') i (subst (λ (x : List Tag). NextStops stop x r.0 left n n') same r.2))

-- a tag was read
pub read_next : (f g : Film) (t : Tag) (start left : Option (List ℕ)) (n n' : ℕ) → IsReadOn f g (Some t) → WasRead (came_of f) start left × (n' ≡ n) → ReadsNext (Ok (Some t)) f g start left n n'
read_next f g t start left n n' r w = (subst (λ (x : List ℕ). WasRead x start left) (sym r.came_same) w.0, r.given, w.1, r.at_end refl)

pub end_fine : (q : Result (Option Tag) Stop) (f : Film) → EndsAs q f → IfOk q (MayGo f)
end_fine (Ok (Some t)) f e = absurd e
end_fine (Ok None) f e = tt
end_fine (Err stop) f e = tt

pub ask_faults : (r : Result Bool Stop) (f g : Film) (left left' : Option (List ℕ)) (n n' : ℕ) → Asks r f g left left' n n' → IfOk r (λ x. n' ≡ n)
ask_faults (Ok true) f g left left' n n' a = a.3
ask_faults (Ok false) f g left left' n n' a = a.3
ask_faults (Err stop) f g left left' n n' a = tt
