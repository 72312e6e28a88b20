-- A stream that is pulled
use Rattle.std.proofs.Common.{◌≡◌, ◌⊎◌, inl, inr, ◌++◌, ◌∷◌, ℕ, Bool, true, false, List, [], Option, Some, None, Result, Ok, Err, refl, sym, ap, ◌∙◌, subst, arith, append-nil}
use Rattle.std.specs.Io.KnownBytes.{append_known}
use Rattle.relay_outside.specs.Told.{LinkCounts, LinkTold}
use Rattle.client_owed.specs.declared.types.Asked.{Asked}
use Rattle.client_owed.specs.declared.types.Gave.{Gave}
use Rattle.client_owed.specs.declared.types.Gift.{Gift}
use Rattle.client_owed.specs.declared.types.Gift.TheVariants as gift
use Rattle.client_owed.specs.Owed.{out}
use Rattle.client_owed.specs.Standing.{Keeps, Past, is_finished, listed}
use Rattle.rtmp_client.specs.ClientState.{ClientState, Lasting, lasting_of, without_gift}
use Rattle.rtmp_client.specs.declared.core_fields.Core.{Core}
use Rattle.rtmp_client.specs.declared.end.ClientEnd.{ClientEnd}
use Rattle.rtmp_client.specs.declared.end.ClientEnd.TheVariants as end
use Rattle.rtmp_client.specs.declared.end.ClientTurn.TheVariants.{Ended as TurnEnded}
use Rattle.put_text.specs.Written.{WritesPart}
use Rattle.client_command.specs.Closing.{IsRefusal, Tells, client_how, how_by, how_of}
use Rattle.client_command.specs.Ends.{How, Whole, ByClient, BySink, ByMemory, no_refusal}
use Rattle.client_command.specs.Gifts.{IsOn, pull_text}
use Rattle.client_command.specs.Pulls.{HasPulled, PullBy, PullOutcome, PullSeen, pull_seen}
use Rattle.client_command.specs.Runs.{Causes, HasRun}
use Rattle.client_command.specs.Telling.{Plays, PullEnds, PullSteps, PullStops, has_some, is_last, step_by}
use Rattle.client_command.specs.Turned.{IsDone, IsNew, PutCause, Runs, Stopped, Turned, gifts_of}
use Rattle.client_command.specs.declared.ending.Ended.{Ended}
use Rattle.client_command.specs.declared.stop.Stop.{Stop}
use Rattle.client_command.specs.declared.stop.Stop.TheVariants.{Client, Refused, Source, Sink, Memory}
use Rattle.client_command.proofs.Passing.{calm_here}
use Rattle.client_command.proofs.Turns.{by_client_end, client_in, done_open, new_runs, no_run, run_here, unfed_by}
use Rattle.segment_command.proofs.Writing.{no_part_put}
use Rattle.client_command.proofs.Writing.{all_part, append_known_nil}

-- ---- what it was told

pub on_more : (gs : List Gift) (g : Gift) → IsOn gs → is_last g ≡ false → IsOn (gs ++ g ∷ [])
on_more [] (gift.Tag t) o e = tt
on_more [] gift.Published o e = tt
on_more [] gift.Unpublished o e = absurd (cc)
on_more (gift.Tag t ∷ gs) g o e = on_more gs g o e
on_more (gift.Published ∷ gs) g o e = on_more gs g o e
on_more (gift.Unpublished ∷ gs) g o e = absurd o

last_is : (g : Gift) → is_last g ≡ true → g ≡ gift.Unpublished
last_is (gift.Tag t) e = absurd (cc)
last_is gift.Published e = absurd (cc)
last_is gift.Unpublished e = refl

pub some_more : (gs : List Gift) (g : Gift) → true ≡ has_some (gs ++ g ∷ [])
some_more [] g = refl
some_more (x ∷ gs) g = refl

-- ---- a turn

-- what was taken is written as before
still_plays : (k : Asked) (c d : ClientState) (begun : Bool) (old now new : PullSeen) → Plays k c begun old now → d.parts.taken ≡ c.parts.taken → d.parts.gave ≡ c.parts.gave → new.held ≡ now.held → new.faults ≡ now.faults
    → Runs k d old.told new.told old.counts new.counts → Plays k d begun old new
still_plays k c d begun old now new p taken gave held faults r = record {
  runs = r;
  gave = gave ∙ p.gave;
  on = subst IsOn (sym taken) p.on;
  begun_is = p.begun_is ∙ ap has_some (sym taken);
  held = held ∙ p.held ∙ ap (λ (x : List Gift). append_known old.held (pull_text x)) (sym taken);
  faults = faults ∙ p.faults;
}

pub turn_goes : (k : Asked) (c d : ClientState) (begun : Bool) (old : PullSeen) (told told' : Option LinkTold) (counts counts' : LinkCounts) (held : Option (List ℕ)) (faults : ℕ) → Plays k c begun old (pull_seen told counts held faults)
    → lasting_of d.parts ≡ lasting_of c.parts → Runs k d old.told told' old.counts counts' → Plays k d begun old (pull_seen told' counts' held faults)
turn_goes k c d begun old told told' counts counts' held faults p la r =
    still_plays k c d begun old (pull_seen told counts held faults) (pull_seen told' counts' held faults) p (ap (λ (x : Lasting). x.taken) la) (ap (λ (x : Lasting). x.gave) la) refl refl r

never_done : (c : Core) → c.finished ≡ is_finished c.gave → c.gave ≡ [] → c.finished ≡ true → ⊥
unfolding is_finished
never_done c s g e = let f : true ≡ false = sym e ∙ s ∙ ap is_finished g in absurd (cc)

pub gifts_none : (c : Core) → c.gift ≡ None → gifts_of c ≡ c.taken
gifts_none c e = ap (λ (x : Option Gift). c.taken ++ listed x) e ∙ append-nil c.taken

client_pulled : (e : ClientEnd) (k : Asked) (old new : PullSeen) → HasPulled k (ByClient e) old new → HasPulled k (client_how e) old new
client_pulled e k old new = by_client_end (λ (how : How). HasPulled k how old new) e (λ h. h.ends.3)

pub turn_stops : (k : Asked) (c d : ClientState) (begun : Bool) (old : PullSeen) (told told' : Option LinkTold) (counts counts' : LinkCounts) (held : Option (List ℕ)) (faults : ℕ) → Plays k c begun old (pull_seen told counts held faults)
    → c.parts.gift ≡ None → Turned TurnEnded k c d old.told told' old.counts counts' → PullStops Client k d old (pull_seen told' counts' held faults)
turn_stops k c d begun old told told' counts counts' held faults p none t =
    let e = t.0 in
    let s = t.2 in
    let q = c.parts in
    let run : HasRun k q.y s.rest q.reader.given [] q.taken s.more old.told told' =
    subst (λ (x : List Gift). HasRun k q.y s.rest q.reader.given [] x s.more old.told told') (gifts_none q none)
    (subst (λ (x : List Gave). HasRun k q.y s.rest q.reader.given x (gifts_of q) s.more old.told told') p.gave s.run) in (
      e,
      t.1,
      client_pulled e k old (pull_seen told' counts' held faults) (record {
        y = q.y;
        rest = s.rest;
        unfed = s.unfed;
        ms = q.reader.given;
        gifts = q.taken;
        more = s.more;
        run = run;
        ends = (p.on, p.held, p.faults, why s.why);
      }),
    )
  where
    why : (IsDone t.0 c.parts t.2.more old.counts counts' ⊎ Causes t.0 c.parts.reader.given (c.parts.y ++ t.2.rest) old.counts counts') → Causes t.0 c.parts.reader.given (c.parts.y ++ t.2.rest) old.counts counts'
    why (inl d) = absurd (never_done c.parts p.runs.live.stands.stands.finished p.gave d.finished)
    why (inr h) = h

-- ---- a gift

-- none waits
pub none_taken : (k : Asked) (c d : ClientState) (begun : Bool) (old new : PullSeen) → Plays k c begun old new → c.parts.gift ≡ None → d.parts ≡ without_gift c.parts → Runs k d old.told new.told old.counts new.counts → Plays k d begun old new
none_taken k c d begun old new p none e r =
    still_plays k c d begun old new new p (ap (λ (x : Core). x.taken) e ∙ gifts_none c.parts none) (ap (λ (x : Core). x.gave) e) refl refl r

-- one was taken
one_taken : (c : Core) (d : ClientState) (g : Gift) → c.gift ≡ Some g → d.parts ≡ without_gift c → d.parts.taken ≡ c.taken ++ g ∷ []
one_taken c d g some e = ap (λ (x : Core). x.taken) e ∙ ap (λ (x : Option Gift). c.taken ++ listed x) some

run_taken : (k : Asked) (c : Core) (d : ClientState) (g : Gift) (old told : Option LinkTold) (n m : LinkCounts) → c.gift ≡ Some g → d.parts ≡ without_gift c → c.gave ≡ [] → Runs k d old told n m
    → HasRun k d.parts.y d.input d.parts.reader.given [] (c.taken ++ g ∷ []) d.parts.outgoing.pending old told
run_taken k c d g old told n m some e none r =
    let q = d.parts in
    let gifts : gifts_of q ≡ c.taken ++ g ∷ [] = gifts_none q (ap (λ (x : Core). x.gift) e) ∙ one_taken c d g some e in
    subst (λ (x : List Gift). HasRun k q.y d.input q.reader.given [] x q.outgoing.pending old told) gifts
    (subst (λ (x : List Gave). HasRun k q.y d.input q.reader.given x (gifts_of q) q.outgoing.pending old told) (ap (λ (x : Core). x.gave) e ∙ none) (run_here k d old told n m r))

-- how a stream was pulled whose last gift was taken
gift_pulled : (how : How) (k : Asked) (c : Core) (d : ClientState) (g : Gift) (old new : PullSeen) → (client_in how ≡ end.PeerClosed → ⊥) → c.gift ≡ Some g → d.parts ≡ without_gift c → c.gave ≡ [] → Runs k d old.told new.told old.counts new.counts
    → PullBy how (c.taken ++ g ∷ []) d.parts.reader.given (d.parts.y ++ d.input) old new → HasPulled k how old new
gift_pulled how k c d g old new q some e none r b = record {
  y = d.parts.y;
  rest = d.input;
  unfed = unfed_by how d.input q r.live.short;
  ms = d.parts.reader.given;
  gifts = c.taken ++ g ∷ [];
  more = d.parts.outgoing.pending;
  run = run_taken k c d g old.told new.told old.counts new.counts some e none r;
  ends = b;
}

wrote_steps : (b moved : Bool) (k : Asked) (c d : ClientState) (begun : Bool) (g : Gift) (old : PullSeen) (told : Option LinkTold) (counts : LinkCounts) (held held' : Option (List ℕ)) (faults faults' : ℕ) → is_last g ≡ b
    → Plays k c begun old (pull_seen told counts held faults) → c.parts.gift ≡ Some g → d.parts ≡ without_gift c.parts → Runs k d old.told told old.counts counts
    → held' ≡ append_known old.held (pull_text (c.parts.taken ++ g ∷ [])) → faults' ≡ faults → PullSteps (Ok (step_by b moved)) k d true old (pull_seen told counts held' faults')
wrote_steps true moved k c d begun g old told counts held held' faults faults' l p some e r w f =
    gift_pulled Whole k c.parts d g old (pull_seen told counts held' faults') done_open some e p.gave r
    ((c.parts.taken, ap (λ (x : Gift). c.parts.taken ++ x ∷ []) (last_is g l), p.on), w, f ∙ p.faults, r.calm)
wrote_steps false moved k c d begun g old told counts held held' faults faults' l p some e r w f = by_moved moved
  where
    plays : Plays k d true old (pull_seen told counts held' faults')
    plays =
        let taken : d.parts.taken ≡ c.parts.taken ++ g ∷ [] = one_taken c.parts d g some e in
        record {
          runs = r;
          gave = ap (λ (x : Core). x.gave) e ∙ p.gave;
          on = subst IsOn (sym taken) (on_more c.parts.taken g p.on l);
          begun_is = some_more c.parts.taken g ∙ ap has_some (sym taken);
          held = w ∙ ap (λ (x : List Gift). append_known old.held (pull_text x)) (sym taken);
          faults = f ∙ p.faults;
        }

    by_moved : (b : Bool) → PullSteps (Ok (step_by false b)) k d true old (pull_seen told counts held' faults')
    by_moved true = plays
    by_moved false = plays

pub gift_steps : (moved : Bool) (k : Asked) (c d : ClientState) (begun : Bool) (g : Gift) (old : PullSeen) (told : Option LinkTold) (counts : LinkCounts) (held held' : Option (List ℕ)) (faults faults' : ℕ)
    → Plays k c begun old (pull_seen told counts held faults) → c.parts.gift ≡ Some g → d.parts ≡ without_gift c.parts → Runs k d old.told told old.counts counts
    → held' ≡ append_known old.held (pull_text (c.parts.taken ++ g ∷ [])) → faults' ≡ faults → PullSteps (Ok (step_by (is_last g) moved)) k d true old (pull_seen told counts held' faults')
gift_steps moved k c d begun g old told counts held held' faults faults' p some e r w f =
    wrote_steps (is_last g) moved k c d begun g old told counts held held' faults faults' refl p some e r w f

pub none_steps : (moved : Bool) (k : Asked) (c : ClientState) (begun : Bool) (old new : PullSeen) → Plays k c begun old new → PullSteps (Ok (step_by false moved)) k c begun old new
none_steps true k c begun old new p = p
none_steps false k c begun old new p = p

pub gift_stops : (stop : Stop) (k : Asked) (c d : ClientState) (begun : Bool) (g : Gift) (old : PullSeen) (told : Option LinkTold) (counts : LinkCounts) (held held' : Option (List ℕ)) (faults faults' : ℕ)
    → Plays k c begun old (pull_seen told counts held faults) → c.parts.gift ≡ Some g → d.parts ≡ without_gift c.parts → Runs k d old.told told old.counts counts
    → WritesPart (pull_text (c.parts.taken ++ g ∷ [])) old.held held' → PutCause stop faults faults' → PullStops stop k d old (pull_seen told counts held' faults')
gift_stops Client k c d begun g old told counts held held' faults faults' p some e r w f = absurd f
gift_stops (Refused at) k c d begun g old told counts held held' faults faults' p some e r w f = absurd f
gift_stops Source k c d begun g old told counts held held' faults faults' p some e r w f = absurd f
gift_stops Sink k c d begun g old told counts held held' faults faults' p some e r w f =
    gift_pulled BySink k c.parts d g old (pull_seen told counts held' faults') done_open some e p.gave r (w, subst (λ (x : ℕ). Rattle.relay_outside.specs.Counts.Rose x faults') p.faults f, r.calm)
gift_stops Memory k c d begun g old told counts held held' faults faults' p some e r w f =
    gift_pulled ByMemory k c.parts d g old (pull_seen told counts held' faults') done_open some e p.gave r (w, f ∙ p.faults, r.calm)

-- ---- the beginning and the end

-- there is no client
pub unpulled : (k : Asked) (seen : PullSeen) → HasPulled k ByMemory seen seen
unpulled k seen = record {
  y = [];
  rest = [];
  unfed = record { few = omega arith; none = λ q. refl };
  ms = [];
  gifts = [];
  more = out k [] [] [];
  run = no_run k seen.told;
  ends = (no_part_put [] seen.held, refl, calm_here seen.counts);
}

-- ---- the status

-- where there is no memory for the refusal's words
lost : (k : Asked) (code description : List ℕ) (old new : PullSeen) → HasPulled k (ByClient (end.Refused code description)) old new → HasPulled k ByMemory old new
lost k code description old new h = record {
  y = h.y;
  rest = h.rest;
  unfed = unfed_by ByMemory h.rest done_open h.unfed.few;
  ms = h.ms;
  gifts = h.gifts;
  more = h.more;
  run = h.run;
  ends = (all_part (pull_text h.gifts) old.held new.held h.ends.1, h.ends.2, h.ends.3.1);
}

told_so : (how : How) (k : Asked) (old new : PullSeen) (e : Ended) → HasPulled k how old new → Tells how e → PullOutcome k old new e
told_so how k old new e p t = record { how = how; status = t.status; refusal = t.refusal; pulled = p }

client_outcome : (o : Option ClientEnd) (c : ClientState) (k : Asked) (old new : PullSeen) (e : Ended) → o ≡ c.ended → PullStops Client k c old new → (Tells (how_by o) e ⊎ (IsRefusal (how_by o) × Tells ByMemory e))
    → PullOutcome k old new e
client_outcome o c k old new e i p t = by_how (subst (λ (q : Option ClientEnd). HasPulled k (how_by q) old new) (sym (i ∙ p.1)) p.2) t
  where
    by_how : HasPulled k (how_by o) old new → (Tells (how_by o) e ⊎ (IsRefusal (how_by o) × Tells ByMemory e)) → PullOutcome k old new e
    by_how h (inl t) = told_so (how_by o) k old new e h t
    by_how h (inr r) = told_so ByMemory k old new e (lost k r.0.0 r.0.1 old new (subst (λ (q : How). HasPulled k q old new) r.0.2 h)) r.1

other_outcome : (how : How) (k : Asked) (old new : PullSeen) (e : Ended) → HasPulled k how old new → (IsRefusal how → ⊥) → (Tells how e ⊎ (IsRefusal how × Tells ByMemory e)) → PullOutcome k old new e
other_outcome how k old new e p n (inl t) = told_so how k old new e p t
other_outcome how k old new e p n (inr r) = absurd (n r.0)

pub pull_outcome : (run : Result (Unit {0}) Stop) (o : Option ClientEnd) (c : ClientState) (k : Asked) (old new : PullSeen) (e : Ended) → o ≡ c.ended → PullEnds run k c old new
    → (Tells (how_of run o) e ⊎ (IsRefusal (how_of run o) × Tells ByMemory e)) → PullOutcome k old new e
pull_outcome (Ok x) o c k old new e i p t = other_outcome Whole k old new e p (λ r. absurd (let f : Whole ≡ ByClient (end.Refused r.0 r.1) = r.2 in cc)) t
pull_outcome (Err Client) o c k old new e i p t = client_outcome o c k old new e i p t
pull_outcome (Err (Refused at)) o c k old new e i p t = absurd p
pull_outcome (Err Source) o c k old new e i p t = absurd p
pull_outcome (Err Sink) o c k old new e i p t = other_outcome BySink k old new e p (λ r. absurd (let f : BySink ≡ ByClient (end.Refused r.0 r.1) = r.2 in cc)) t
pull_outcome (Err Memory) o c k old new e i p t = other_outcome ByMemory k old new e p (λ r. absurd (let f : ByMemory ≡ ByClient (end.Refused r.0 r.1) = r.2 in cc)) t

-- without a client
pub no_client : (k : Asked) (seen : PullSeen) (e : Ended) → e ≡ record { status = record { code = 6; place = 0 }; refusal = no_refusal } → PullOutcome k seen seen e
no_client k seen e i = told_so ByMemory k seen seen e (unpulled k seen) (record { status = ap (λ (x : Ended). x.status) i; refusal = ap (λ (x : Ended). x.refusal) i })

-- a new client
pub new_plays : (k : Asked) (c : ClientState) (seen : PullSeen) → c.parts.asked ≡ k → IsNew c → Rattle.client_command.specs.Turned.IsLive c → Plays k c false seen seen
new_plays k c seen asked n l =
    let taken : c.parts.taken ≡ [] = ap (λ (x : Past). x.taken) n.past in
    record {
      runs = new_runs k c seen.told seen.counts asked n l;
      gave = ap (λ (x : Past). x.gave) n.past;
      on = subst IsOn (sym taken) tt;
      begun_is = sym (ap has_some taken);
      held = sym (ap (λ (x : List Gift). append_known seen.held (pull_text x)) taken ∙ append_known_nil seen.held);
      faults = refl;
    }

pub new_none : (c : ClientState) → IsNew c → c.parts.gift ≡ None
new_none c n = ap (λ (x : Keeps). x.gift) n.keeps
