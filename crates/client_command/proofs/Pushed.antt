-- A film that is pushed
use Rattle.std.proofs.Common.{◌≡◌, ◌⊎◌, inl, inr, ◌≤◌, ◌<◌, ◌^◌, ◌++◌, ◌∷◌, ℕ, Bool, true, false, nat_eq, List, [], length, drop, Option, Some, None, Result, Ok, Err, refl, sym, ap, ◌∙◌, subst, arith, append-nil, append_assoc}
use Rattle.relay_outside.specs.Told.{LinkCounts, LinkTold}
use Rattle.chunk_reader.specs.ReaderKnown.{ReaderKnown}
use Rattle.chunk_reader.specs.Sound.{IsRead}
use Rattle.chunk_wire.specs.declared.message.Message.{Message}
use Rattle.flv_tags.specs.declared.tag.Tag.{Tag}
use Rattle.flv_tags.specs.Reads.{IsFile}
use Rattle.flv_tags.specs.Written.{IsWritable}
use Rattle.segment_command.specs.Films.{WasRead}
use Rattle.session_owed.specs.Talk.{hand_bytes}
use Rattle.client_owed.specs.declared.types.Asked.{Asked}
use Rattle.client_owed.specs.declared.types.Gave.{Gave}
use Rattle.client_owed.specs.declared.types.Gift.{Gift}
use Rattle.client_owed.specs.declared.types.Given.{Given}
use Rattle.client_owed.specs.declared.types.Given.TheVariants as given
use Rattle.client_owed.specs.declared.types.Phase.{Phase}
use Rattle.client_owed.specs.declared.types.Phase.TheVariants.{Connecting, Creating, Asking, Started}
use Rattle.client_owed.specs.declared.types.Wish.{Wish}
use Rattle.client_owed.specs.declared.types.Wish.TheVariants as wish
use Rattle.client_owed.specs.Client.{does}
use Rattle.client_owed.specs.Owed.{MayGive, out}
use Rattle.client_owed.specs.Pulled.{gift_for, pulled_from}
use Rattle.client_owed.specs.Standing.{HasStarted, Keeps, Past, Stands, gave_more, is_finished, with_given}
use Rattle.rtmp_client.specs.ClientState.{ClientState, Lasting, StandsSo, Untouched, has_started, lasting_of, untouched_of}
use Rattle.rtmp_client.specs.Keeping.{keeps_of, past_of}
use Rattle.rtmp_client.specs.declared.end.ClientEnd.{ClientEnd}
use Rattle.rtmp_client.specs.declared.end.ClientEnd.TheVariants as end
use Rattle.rtmp_client.specs.declared.end.ClientTurn.TheVariants.{Ended as TurnEnded}
use Rattle.client_command.specs.Closing.{IsRefusal, Tells, client_how, how_by, how_of}
use Rattle.client_command.specs.Ends.{How, Whole, ByClient, ByFilm, BySource, ByMemory, no_refusal}
use Rattle.client_command.specs.Film.{AreWhole, IsNear, IsWhole, sends_in, tags_given}
use Rattle.client_command.specs.Giving.{Gives, HasGiven, IsOpen, IsReading, NextStops, PushStops, ReadsNext, came_of}
use Rattle.client_command.specs.Pushes.{HasPushed, PushBy, PushOutcome, PushSeen, push_seen}
use Rattle.client_command.specs.Runs.{AreFriendly, Causes, HasRun, IsUnfed, most_received}
use Rattle.client_command.specs.Traffic.{Passed}
use Rattle.client_command.specs.Turned.{IsDone, IsLive, IsNew, Runs, Stopped, Turned, gifts_of}
use Rattle.client_command.specs.declared.ending.Ended.{Ended}
use Rattle.client_command.specs.declared.film.Film.{Film}
use Rattle.client_command.specs.declared.stop.Stop.{Stop}
use Rattle.client_command.specs.declared.stop.Stop.TheVariants.{Client, Refused, Source, Sink, Memory}
use Rattle.client_command.proofs.Passing.{calm_here}
use Rattle.client_command.proofs.Turns.{by_client_end, client_in, done_open, new_runs, no_run, run_here, unfed_by}
use Rattle.client_command.proofs.Filming.{near_whole, prepend_none, up_to_all}

-- ---- one that publishes is told nothing

pulled_by : (k : Asked) (p : Phase) (ms : List (ℕ × Message)) → k.wish ≡ wish.Push → pulled_from k p ms ≡ []
unfolding pulled_from
pulled_by k p [] e = refl
pulled_by k p (m ∷ ms) e =
    ap (λ (w : Wish). gift_for w p m.1 ++ pulled_from k (does k p m.1).phase ms) e ∙ pulled_by k (does k p m.1).phase ms e

-- so its run is one without gifts
pub silent : (k : Asked) (y rest : List ℕ) (ms : List (ℕ × Message)) (T : List Gave) (gifts : List Gift) (more : List ℕ) (old new : Option LinkTold) → k.wish ≡ wish.Push → HasRun k y rest ms T gifts more old new → HasRun k y rest ms T [] more old new
silent k y rest ms T gifts more old new e r = record {
  took = r.took;
  passed = r.passed;
  read = r.read;
  friendly = r.friendly;
  owes = r.owes;
  given = r.given;
  told = sym (pulled_by k Connecting ms e);
}

wish_of : (k : Asked) (c : ClientState) (start now : Option LinkTold) (n m : LinkCounts) → c.parts.asked.wish ≡ wish.Push → Runs k c start now n m → k.wish ≡ wish.Push
wish_of k c start now n m w r = ap (λ (x : Asked). x.wish) (sym r.asked) ∙ w

-- ---- what is given

tags_more : (T : List Gave) (g : Gave) → tags_given (T ++ g ∷ []) ≡ tags_given T ++ sends_in g.given
tags_more [] g = append-nil (sends_in g.given)
tags_more (x ∷ T) g = ap (λ (l : List Tag). sends_in x.given ++ l) (tags_more T g) ∙ sym (append_assoc (sends_in x.given) (tags_given T) (sends_in g.given))

started_is : (p : Phase) → has_started p ≡ true → HasStarted p
started_is Connecting e = absurd (cc)
started_is Creating e = absurd (cc)
started_is (Asking id) e = absurd (cc)
started_is (Started id) e = tt

-- what giving left as it was
record IsGiven (c d : ClientState) (g : Given) : Type 0 where
  pub past : past_of d.parts ≡ with_given (past_of c.parts) (record { at = length c.parts.y; given = g })
  pub keeps : keeps_of d.parts ≡ gave_more (keeps_of c.parts) g
  pub others : untouched_of d ≡ untouched_of c

module _ (gives : (k : Asked) (max : ℕ) (p : Past) (q : Keeps) (g : Gave) → HasStarted q.phase → q.finished ≡ false → g.at ≡ length p.y → MayGive k.wish max g.given → Stands k max p q → Stands k max (with_given p g) (gave_more q g.given)) where
  so_given : (c d : ClientState) (g : Given) → has_started c.parts.phase ≡ true → c.parts.finished ≡ false → MayGive c.parts.asked.wish c.parts.reader.max g → IsGiven c d g → StandsSo c.parts → StandsSo d.parts
  so_given c d g st op may i s =
      let q = c.parts in
      let x : Gave = record { at = length q.y; given = g } in
      let h = gives q.asked q.reader.max (past_of q) (keeps_of q) x (started_is q.phase st) op refl may s.stands in
      let asked : d.parts.asked ≡ q.asked = ap (λ (x : Untouched). x.asked) i.others in
      let reader : d.parts.reader ≡ q.reader = ap (λ (x : Untouched). x.reader) i.others in
      let y : d.parts.y ≡ q.y = ap (λ (x : Past). x.y) i.past in
      record {
        read = subst (λ (x : List ℕ). IsRead d.parts.reader.max (drop hand_bytes x) d.parts.reader.given) (sym y) (subst (λ (x : ReaderKnown). IsRead x.max (drop hand_bytes q.y) x.given) (sym reader) s.read);
        stands = subst (λ (x : Asked). Stands x d.parts.reader.max (past_of d.parts) (keeps_of d.parts)) (sym asked)
            (subst (λ (x : ReaderKnown). Stands q.asked x.max (past_of d.parts) (keeps_of d.parts)) (sym reader)
            (subst (λ (x : Past). Stands q.asked q.reader.max x (keeps_of d.parts)) (sym i.past) (subst (λ (x : Keeps). Stands q.asked q.reader.max (with_given (past_of q) (record { at = length q.y; given = g })) x) (sym i.keeps) h)));
      }

  pub live_given : (c d : ClientState) (g : Given) → IsOpen c → has_started c.parts.phase ≡ true → MayGive c.parts.asked.wish c.parts.reader.max g → past_of d.parts ≡ with_given (past_of c.parts) (record { at = length c.parts.y; given = g })
      → keeps_of d.parts ≡ gave_more (keeps_of c.parts) g → untouched_of d ≡ untouched_of c → IsLive d
  live_given c d g o st may p k u = record {
    lives = ap (λ (x : Untouched). x.ended) u ∙ o.live.lives;
    max = ap (λ (x : Untouched). x.reader.max) u ∙ o.live.max;
    short = subst (λ (x : List ℕ). length x ≤ most_received) (sym (ap (λ (x : Untouched). x.input) u)) o.live.short;
    stands = so_given c d g st o.open_is may (record { past = p; keeps = k; others = u }) o.live.stands;
  }

pub runs_given : (k : Asked) (c d : ClientState) (g : Given) (start now : Option LinkTold) (n m : LinkCounts) → IsLive d → past_of d.parts ≡ with_given (past_of c.parts) (record { at = length c.parts.y; given = g }) → untouched_of d ≡ untouched_of c
    → Runs k c start now n m → Runs k d start now n m
runs_given k c d g start now n m live p u r =
    let y : d.parts.y ≡ c.parts.y = ap (λ (x : Past). x.y) p in
    let sent : d.parts.sent ≡ c.parts.sent = ap (λ (x : Past). x.sent) p in
    let input : d.input ≡ c.input = ap (λ (x : Untouched). x.input) u in
    let reader : d.parts.reader ≡ c.parts.reader = ap (λ (x : Untouched). x.reader) u in
    record {
      live = live;
      asked = ap (λ (x : Untouched). x.asked) u ∙ r.asked;
      passed = subst (λ (x : List ℕ). Passed (x ++ d.input) d.parts.sent start now) (sym y) (subst (λ (x : List ℕ). Passed (c.parts.y ++ x) d.parts.sent start now) (sym input)
          (subst (λ (x : List ℕ). Passed (c.parts.y ++ c.input) x start now) (sym sent) r.passed));
      friendly = subst (λ (x : ReaderKnown). AreFriendly x.given) (sym reader) r.friendly;
      calm = r.calm;
    }

pub open_given : (c d : ClientState) (t : Tag) → IsOpen c → IsLive d → keeps_of d.parts ≡ gave_more (keeps_of c.parts) (given.Send t) → untouched_of d ≡ untouched_of c → IsOpen d
open_given c d t o l k u = record {
  live = l;
  pushes = ap (λ (x : Untouched). x.asked.wish) u ∙ o.pushes;
  open_is = ap (λ (x : Keeps). x.finished) k;
}

pub may_send : (c : ClientState) (t : Tag) → IsOpen c → t.time < 2 ^ 32 → IsWritable t → MayGive c.parts.asked.wish c.parts.reader.max (given.Send t)
may_send c t o time w = (o.pushes, w.kind, subst (λ (x : ℕ). length t.body ≤ x) (sym o.live.max) w.fits, time)

pub gave_all : (c d : ClientState) (g : Given) → past_of d.parts ≡ with_given (past_of c.parts) (record { at = length c.parts.y; given = g }) → tags_given d.parts.gave ≡ tags_given c.parts.gave ++ sends_in g
gave_all c d g p = ap (λ (x : Past). tags_given x.gave) p ∙ tags_more c.parts.gave (record { at = length c.parts.y; given = g })

pub tag_given : (k : Asked) (c d : ClientState) (f h : Film) (t : Tag) (old : PushSeen) (left left' : Option (List ℕ)) (faults faults' : ℕ) (told : Option LinkTold) (counts : LinkCounts) → Gives k c f old (push_seen left faults told counts)
    → ReadsNext (Ok (Some t)) f h old.left left' faults faults' → IsLive d → past_of d.parts ≡ with_given (past_of c.parts) (record { at = length c.parts.y; given = given.Send t }) → untouched_of d ≡ untouched_of c
    → Gives k d h old (push_seen left' faults' told counts)
tag_given k c d f h t old left left' faults faults' told counts v r live p u = record {
  runs = runs_given k c d (given.Send t) old.told told old.counts counts live p u v.runs;
  tags = gave_all c d (given.Send t) p ∙ ap (λ (l : List Tag). l ++ t ∷ []) v.tags ∙ sym r.1;
  whole = inl r.3;
  read = r.0;
  faults = r.2 ∙ v.faults;
}

pub end_given : (k : Asked) (c d : ClientState) (f h : Film) (old : PushSeen) (left left' : Option (List ℕ)) (faults faults' : ℕ) (told : Option LinkTold) (counts : LinkCounts) → c.parts.asked.wish ≡ wish.Push → Gives k c f old (push_seen left faults told counts)
    → ReadsNext (Ok None) f h old.left left' faults faults' → IsLive d → past_of d.parts ≡ with_given (past_of c.parts) (record { at = length c.parts.y; given = given.Finish }) → untouched_of d ≡ untouched_of c
    → HasGiven k d old (push_seen left' faults' told counts)
end_given k c d f h old left left' faults faults' told counts w v r live p u =
    let tags : tags_given d.parts.gave ≡ f.reader.given = gave_all c d given.Finish p ∙ append-nil (tags_given c.parts.gave) ∙ v.tags in
    record {
      runs = runs_given k c d given.Finish old.told told old.counts counts live p u v.runs;
      read = r.0.0;
      was_read = r.0.1;
      whole = subst (λ (l : List Tag). IsWhole r.0.0 l left') (sym tags) r.0.2;
      pushes = ap (λ (x : Untouched). x.asked.wish) u ∙ w;
      faults = r.1 ∙ v.faults;
    }

-- ---- what a film's end comes to

pushed_run : (k : Asked) (c : ClientState) (start now : Option LinkTold) (n m : LinkCounts) → IsOpen c → Runs k c start now n m → HasRun k c.parts.y c.input c.parts.reader.given c.parts.gave [] c.parts.outgoing.pending start now
pushed_run k c start now n m o r = silent k c.parts.y c.input c.parts.reader.given c.parts.gave (gifts_of c.parts) c.parts.outgoing.pending start now (wish_of k c start now n m o.pushes r) (run_here k c start now n m r)

not_finished : (c : ClientState) → IsOpen c → is_finished c.parts.gave ≡ false
not_finished c o = sym o.live.stands.stands.finished ∙ o.open_is

-- by one that lives
pushed_so : (how : How) (k : Asked) (c : ClientState) (old : PushSeen) (read : List ℕ) (left : Option (List ℕ)) (faults : ℕ) (told : Option LinkTold) (counts : LinkCounts) → (client_in how ≡ end.PeerClosed → ⊥) → IsOpen c → Runs k c old.told told old.counts counts → WasRead read old.left left
    → PushBy how read c.parts.gave c.parts.reader.given (c.parts.y ++ c.input) c.parts.outgoing.pending old (push_seen left faults told counts) → HasPushed k how old (push_seen left faults told counts)
pushed_so how k c old read left faults told counts q o r w e = record {
  read = read;
  was_read = w;
  y = c.parts.y;
  rest = c.input;
  unfed = unfed_by how c.input q o.live.short;
  ms = c.parts.reader.given;
  T = c.parts.gave;
  more = c.parts.outgoing.pending;
  run = pushed_run k c old.told told old.counts counts o r;
  ends = e;
}

pub next_stops : (stop : Stop) (k : Asked) (c : ClientState) (f : Film) (old : PushSeen) (left left' : Option (List ℕ)) (faults faults' : ℕ) (told : Option LinkTold) (counts : LinkCounts) → IsOpen c → c.parts.outgoing.pending ≡ []
    → Gives k c f old (push_seen left faults told counts) → (read : List ℕ) × WasRead read old.left left' × NextStops stop f.reader.given read left' faults faults' → PushStops stop k c old (push_seen left' faults' told counts)
next_stops Client k c f old left left' faults faults' told counts o none v r = absurd r.2
next_stops (Refused at) k c f old left left' faults faults' told counts o none v r =
    pushed_so (ByFilm at) k c old r.0 left' faults' told counts done_open o v.runs r.1
    (subst (λ (l : List Tag). Rattle.client_command.specs.Film.IsRefusedAt r.0 at l left') (sym v.tags) r.2.0, r.2.1 ∙ v.faults, record { none = none; finished = not_finished c o; calm = v.runs.calm }, subst (IsNear r.0) (sym v.tags) r.2.2)
next_stops Source k c f old left left' faults faults' told counts o none v r =
    pushed_so BySource k c old r.0 left' faults' told counts done_open o v.runs r.1 (
      (r.2.0.0, subst (λ (l : List Tag). Rattle.flv_tags.specs.Reads.Reads r.0 l r.2.0.0) (sym v.tags) r.2.0.1),
      subst (λ (x : ℕ). Rattle.relay_outside.specs.Counts.Rose x faults') v.faults r.2.1,
      record { none = none; finished = not_finished c o; calm = v.runs.calm },
    )
next_stops Sink k c f old left left' faults faults' told counts o none v r = absurd r.2
next_stops Memory k c f old left left' faults faults' told counts o none v r =
    pushed_so ByMemory k c old r.0 left' faults' told counts done_open o v.runs r.1
    (subst (IsNear r.0) (sym v.tags) r.2.0, r.2.1 ∙ v.faults, v.runs.calm)

-- there was no memory to give it
pub lost_given : (k : Asked) (c : ClientState) (f h : Film) (t : Tag) (old : PushSeen) (left left' : Option (List ℕ)) (faults faults' : ℕ) (told : Option LinkTold) (counts : LinkCounts) → IsOpen c → IsReading h → Gives k c f old (push_seen left faults told counts)
    → ReadsNext (Ok (Some t)) f h old.left left' faults faults' → HasPushed k ByMemory old (push_seen left' faults' told counts)
lost_given k c f h t old left left' faults faults' told counts o reading v r =
    pushed_so ByMemory k c old (came_of h) left' faults' told counts done_open o v.runs r.0 (
      record {
        front = h.reader.fed;
        ahead = h.ahead;
        parts = refl;
        few = reading.few;
        reads = inr (t, subst (IsFile h.reader.fed) (r.1 ∙ ap (λ (l : List Tag). l ++ t ∷ []) (sym v.tags)) r.3);
      },
      r.2 ∙ v.faults,
      v.runs.calm,
    )

-- or to finish it
pub lost_end : (k : Asked) (c : ClientState) (f h : Film) (old : PushSeen) (left left' : Option (List ℕ)) (faults faults' : ℕ) (told : Option LinkTold) (counts : LinkCounts) → IsOpen c → Gives k c f old (push_seen left faults told counts)
    → ReadsNext (Ok None) f h old.left left' faults faults' → HasPushed k ByMemory old (push_seen left' faults' told counts)
lost_end k c f h old left left' faults faults' told counts o v r =
    pushed_so ByMemory k c old r.0.0 left' faults' told counts done_open o v.runs r.0.1
    (near_whole r.0.0 (tags_given c.parts.gave) (up_to_all r.0.0 (tags_given c.parts.gave) (inl (subst (IsFile r.0.0) (sym v.tags) r.0.2.file))), r.1 ∙ v.faults, v.runs.calm)

-- ---- turns

-- by one that ended in the turn
ended_so : (how : How) (k : Asked) (e : ClientEnd) (c : ClientState) (old : PushSeen) (read : List ℕ) (left : Option (List ℕ)) (faults : ℕ) (told told' : Option LinkTold) (counts counts' : LinkCounts) → c.parts.asked.wish ≡ wish.Push → Runs k c old.told told old.counts counts
    → WasRead read old.left left → (s : Stopped k e c.parts old.told told' old.counts counts') → IsUnfed how s.rest → PushBy how read c.parts.gave c.parts.reader.given (c.parts.y ++ s.rest) s.more old (push_seen left faults told' counts') → HasPushed k how old (push_seen left faults told' counts')
ended_so how k e c old read left faults told told' counts counts' p r w s unfed b = record {
  read = read;
  was_read = w;
  y = c.parts.y;
  rest = s.rest;
  unfed = unfed;
  ms = c.parts.reader.given;
  T = c.parts.gave;
  more = s.more;
  run = silent k c.parts.y s.rest c.parts.reader.given c.parts.gave (gifts_of c.parts) s.more old.told told' (wish_of k c old.told told old.counts counts p r) s.run;
  ends = b;
}

client_pushed : (e : ClientEnd) (k : Asked) (old new : PushSeen) → HasPushed k (ByClient e) old new → HasPushed k (client_how e) old new
client_pushed e k old new = by_client_end (λ (how : How). HasPushed k how old new) e (λ h. h.ends.2)

-- the client ended while it may be given more
pub turn_stops : (k : Asked) (c d : ClientState) (f : Film) (old : PushSeen) (told told' : Option LinkTold) (counts counts' : LinkCounts) (left : Option (List ℕ)) (faults : ℕ) → IsOpen c → IsReading f → Gives k c f old (push_seen left faults told counts)
    → Turned TurnEnded k c d old.told told' old.counts counts' → PushStops Client k d old (push_seen left faults told' counts')
turn_stops k c d f old told told' counts counts' left faults o reading v t = (
  t.0,
  t.1,
  client_pushed t.0 k old (push_seen left faults told' counts')
      (ended_so (ByClient t.0) k t.0 c old (came_of f) left faults told told' counts counts' o.pushes v.runs v.read t.2 t.2.unfed
      (record { front = f.reader.fed; ahead = f.ahead; parts = refl; few = reading.few; whole = subst (AreWhole f.reader.fed) (sym v.tags) v.whole }, v.faults, why t.2.why)),
)
  where
    why : (IsDone t.0 c.parts t.2.more old.counts counts' ⊎ Causes t.0 c.parts.reader.given (c.parts.y ++ t.2.rest) old.counts counts') → Causes t.0 c.parts.reader.given (c.parts.y ++ t.2.rest) old.counts counts'
    why (inl d) = absurd (let b : true ≡ false = sym d.finished ∙ o.open_is in cc)
    why (inr h) = h

-- a turn leaves it so
pub turn_goes : (k : Asked) (c d : ClientState) (f : Film) (old : PushSeen) (told told' : Option LinkTold) (counts counts' : LinkCounts) (left : Option (List ℕ)) (faults : ℕ) → Gives k c f old (push_seen left faults told counts)
    → lasting_of d.parts ≡ lasting_of c.parts → Runs k d old.told told' old.counts counts' → Gives k d f old (push_seen left faults told' counts')
turn_goes k c d f old told told' counts counts' left faults v la r = record {
  runs = r;
  tags = ap (λ (x : Lasting). tags_given x.gave) la ∙ v.tags;
  whole = v.whole;
  read = v.read;
  faults = v.faults;
}

pub open_turned : (c d : ClientState) → lasting_of d.parts ≡ lasting_of c.parts → IsLive d → IsOpen c → IsOpen d
open_turned c d la l o = record {
  live = l;
  pushes = ap (λ (x : Lasting). x.asked.wish) la ∙ o.pushes;
  open_is = ap (λ (x : Lasting). x.finished) la ∙ o.open_is;
}

-- ---- the whole film was given

pub out_goes : (k : Asked) (c d : ClientState) (old : PushSeen) (told told' : Option LinkTold) (counts counts' : LinkCounts) (left : Option (List ℕ)) (faults : ℕ) → HasGiven k c old (push_seen left faults told counts)
    → lasting_of d.parts ≡ lasting_of c.parts → Runs k d old.told told' old.counts counts' → HasGiven k d old (push_seen left faults told' counts')
out_goes k c d old told told' counts counts' left faults v la r =
    let tags : tags_given d.parts.gave ≡ tags_given c.parts.gave = ap (λ (x : Lasting). tags_given x.gave) la in
    record {
      runs = r;
      read = v.read;
      was_read = v.was_read;
      whole = subst (λ (l : List Tag). IsWhole v.read l left) (sym tags) v.whole;
      pushes = ap (λ (x : Lasting). x.asked.wish) la ∙ v.pushes;
      faults = v.faults;
    }

pub out_stops : (k : Asked) (c d : ClientState) (old : PushSeen) (told told' : Option LinkTold) (counts counts' : LinkCounts) (left : Option (List ℕ)) (faults : ℕ) → HasGiven k c old (push_seen left faults told counts)
    → Turned TurnEnded k c d old.told told' old.counts counts' → PushStops Client k d old (push_seen left faults told' counts')
out_stops k c d old told told' counts counts' left faults v t = (t.0, t.1, by_why t.2.why)
  where
    out_so : (how : How) → IsUnfed how t.2.rest → PushBy how v.read c.parts.gave c.parts.reader.given (c.parts.y ++ t.2.rest) t.2.more old (push_seen left faults told' counts') → HasPushed k how old (push_seen left faults told' counts')
    out_so how = ended_so how k t.0 c old v.read left faults told told' counts counts' v.pushes v.runs v.was_read t.2

    by_why : (IsDone t.0 c.parts t.2.more old.counts counts' ⊎ Causes t.0 c.parts.reader.given (c.parts.y ++ t.2.rest) old.counts counts') → HasPushed k (client_how t.0) old (push_seen left faults told' counts')
    by_why (inl d) = subst (λ (e : ClientEnd). HasPushed k (client_how e) old (push_seen left faults told' counts')) (sym d.is_done)
        (out_so Whole (unfed_by Whole t.2.rest done_open t.2.unfed.few) (v.whole, v.faults, record { none = d.none; finished = sym v.runs.live.stands.stands.finished ∙ d.finished; calm = d.calm }))
    by_why (inr h) = client_pushed t.0 k old (push_seen left faults told' counts')
        (out_so (ByClient t.0) t.2.unfed (up_to_all v.read (tags_given c.parts.gave) (inl v.whole.file), v.faults, h))

-- ---- the status

told_so : (how : How) (k : Asked) (old new : PushSeen) (e : Ended) → HasPushed k how old new → Tells how e → PushOutcome k old new e
told_so how k old new e p t = record { how = how; status = t.status; refusal = t.refusal; pushed = p }

lost : (k : Asked) (code description : List ℕ) (old new : PushSeen) → HasPushed k (ByClient (end.Refused code description)) old new → HasPushed k ByMemory old new
lost k code description old new h = record {
  read = h.read;
  was_read = h.was_read;
  y = h.y;
  rest = h.rest;
  unfed = unfed_by ByMemory h.rest done_open h.unfed.few;
  ms = h.ms;
  T = h.T;
  more = h.more;
  run = h.run;
  ends = (near_whole h.read (tags_given h.T) h.ends.0, h.ends.1, h.ends.2.1);
}

by_tells : (how : How) (k : Asked) (old new : PushSeen) (e : Ended) → HasPushed k how old new → (Tells how e ⊎ (IsRefusal how × Tells ByMemory e)) → PushOutcome k old new e
by_tells how k old new e p (inl t) = told_so how k old new e p t
by_tells how k old new e p (inr r) = told_so ByMemory k old new e (lost k r.0.0 r.0.1 old new (subst (λ (q : How). HasPushed k q old new) r.0.2 p)) r.1

pub push_outcome : (stop : Stop) (o : Option ClientEnd) (c : ClientState) (k : Asked) (old new : PushSeen) (e : Ended) → o ≡ c.ended → PushStops stop k c old new
    → (Tells (how_of (Err stop) o) e ⊎ (IsRefusal (how_of (Err stop) o) × Tells ByMemory e)) → PushOutcome k old new e
push_outcome Client o c k old new e i p t = by_tells (how_by o) k old new e (subst (λ (q : Option ClientEnd). HasPushed k (how_by q) old new) (sym (i ∙ p.1)) p.2) t
push_outcome (Refused at) o c k old new e i p t = by_tells (ByFilm at) k old new e p t
push_outcome Source o c k old new e i p t = by_tells BySource k old new e p t
push_outcome Sink o c k old new e i p t = absurd p
push_outcome Memory o c k old new e i p t = by_tells ByMemory k old new e p t

-- without a client
pub no_client : (k : Asked) (seen : PushSeen) (e : Ended) → e ≡ record { status = record { code = 6; place = 0 }; refusal = no_refusal } → PushOutcome k seen seen e
no_client k seen e i =
    told_so ByMemory k seen seen e
    (record {
      read = [];
      was_read = prepend_none seen.left;
      y = [];
      rest = [];
      unfed = record { few = omega arith; none = λ q. refl };
      ms = [];
      T = [];
      more = out k [] [] [];
      run = no_run k seen.told;
      ends = (near_whole [] [] (up_to_all [] [] (inr (refl, refl))), refl, calm_here seen.counts);
    })
    (record { status = ap (λ (x : Ended). x.status) i; refusal = ap (λ (x : Ended). x.refusal) i })

-- a new client and film
front_nil : (a b : List ℕ) → a ++ b ≡ [] → a ≡ []
front_nil [] b e = refl
front_nil (x ∷ a) b e = absurd (cc)

pub new_gives : (k : Asked) (c : ClientState) (f : Film) (seen : PushSeen) → c.parts.asked ≡ k → IsNew c → IsLive c → came_of f ≡ [] → f.reader.given ≡ [] → Gives k c f seen seen
new_gives k c f seen asked n l came given = record {
  runs = new_runs k c seen.told seen.counts asked n l;
  tags = ap (λ (x : Past). tags_given x.gave) n.past ∙ sym given;
  whole = inr (front_nil f.reader.fed f.ahead came, given);
  read = subst (λ (x : List ℕ). WasRead x seen.left seen.left) (sym came) (prepend_none seen.left);
  faults = refl;
}

pub new_open : (c : ClientState) → c.parts.asked.wish ≡ wish.Push → IsNew c → IsLive c → IsOpen c
new_open c w n l = record { live = l; pushes = w; open_is = ap (λ (x : Keeps). x.finished) n.keeps }

pub none_long : (l : List ℕ) (n : ℕ) → n ≡ length l → n ≡ 0 → l ≡ []
none_long [] n e t = refl
none_long (x ∷ l) n e t = absurd (omega (arith, e, t))
