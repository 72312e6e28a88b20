-- A turn of an edge, over what its link tells
use Rattle.std.proofs.Common.{◌≡◌, inl, inr, ℕ, ◌<◌, ◌≤◌, Bool, true, false, List, [], ◌∷◌, ◌++◌, length, Option, Some, None, Result, Ok, Err}
use Rattle.std.proofs.Common.{refl, sym, ap, ◌∙◌, subst}
use Rattle.std.proofs.lemmas.Bool.{false≢true}
use Rattle.relay_outside.specs.Heard.{Came, HearStep}
use Rattle.relay_outside.specs.Said.{SayStep}
use Rattle.relay_outside.specs.Told.{LinkCounts, LinkTold}
use Rattle.relay_outside.specs.declared.link.Said.{Said}
use Rattle.client_owed.specs.declared.types.Asked.{Asked}
use Rattle.client_owed.specs.declared.types.Gift.{Gift}
use Rattle.rtmp_client.specs.ClientState.{ClientState, life_of}
use Rattle.rtmp_client.specs.Turns.{end_of, turn_of}
use Rattle.rtmp_client.specs.declared.core_fields.Core.{Core as ClientCore}
use Rattle.rtmp_client.specs.declared.end.ClientEnd.{ClientEnd}
use Rattle.rtmp_client.specs.declared.end.ClientEnd.TheVariants as fin
use Rattle.rtmp_client.specs.declared.end.ClientTurn.{ClientTurn}
use Rattle.rtmp_client.specs.declared.end.ClientTurn.TheVariants as client_turn
use Rattle.stream_model.specs.declared.calls.Call.{Call}
use Rattle.stream_model.specs.declared.calls.Call.TheVariants as call
use Rattle.stream_model.specs.declared.calls.Entry.{Entry}
use Rattle.stream_model.specs.declared.replies.Reply.{Reply}
use Rattle.stream_model.specs.declared.replies.Reply.TheVariants as reply
use Rattle.session_owed.specs.Talk.{Own}
use Rattle.relay_session.specs.SeatState.{SeatState}
use Rattle.relay_session.specs.declared.seat_answers.Made.{Made}
use Rattle.relay_session.specs.declared.seat_answers.Made.TheVariants as made_as
use Rattle.origin_calls.specs.Calls.{entries, entry_of}
use Rattle.origin_pull.specs.EdgeState.{EdgeState, Lasting, StandsBy, StandsFor, ended_by, lasting_of, life_at}
use Rattle.origin_pull.specs.Keeping.{IsOwnEnd, listed, made, waiting}
use Rattle.origin_pull.specs.Turns.{ClientTurns, EndedBy, IsTaken, MadeAs, TakesBy, ToldAs, TurnBy, after, after_begin, end_as, is_begin}
use Rattle.origin_pull.specs.declared.core_fields.Core.{Core}
use Rattle.origin_pull.specs.declared.end.EdgeEnd.{EdgeEnd}
use Rattle.origin_pull.specs.declared.end.EdgeEnd.TheVariants as edge
use Rattle.origin_pull.specs.declared.turn.EdgeTurn.{EdgeTurn}
use Rattle.origin_pull.specs.declared.turn.EdgeTurn.TheVariants.{Moved, Idle, Ended}
use Rattle.client_command.specs.Traffic.{IsCalm, Passed}
use Rattle.client_command.proofs.Passing.{calm_then, passed_as, passed_then}
use Rattle.edge_serve.specs.Driving.{DrivenBy, Drives, HasDriven, WaitsBy, made_for}
use Rattle.edge_serve.specs.Pulls.{EdgeCause, Origin, origin}
use Rattle.edge_serve.proofs.Walking.{Went, Why, turn_went, why_calm}

-- ---- what waits bears the name

head_is : (e f : Entry) (xs ys : List Entry) → e ∷ xs ≡ f ∷ ys → e ≡ f
head_is e f xs ys is = cc

tail_is : (e f : Entry) (xs ys : List Entry) → e ∷ xs ≡ f ∷ ys → xs ≡ ys
tail_is e f xs ys is = cc

-- an entry among those of a name is one of the name
bears : (who : ℕ) (cs : List Call) (xs : List Entry) (e : Entry) (rest : List Entry) → xs ++ e ∷ rest ≡ entries who cs → e ≡ entry_of who e.call
bears who [] [] e rest is = absurd (cc)
bears who [] (x ∷ xs) e rest is = absurd (cc)
bears who (c ∷ cs) [] e rest is = let h = head_is e (entry_of who c) rest (entries who cs) is in h
    ∙ ap (λ (d : Call). entry_of who d) (sym (ap (λ (x : Entry). x.call) h))
bears who (c ∷ cs) (x ∷ xs) e rest is = bears who cs xs e rest (tail_is x (entry_of who c) (xs ++ e ∷ rest) (entries who cs) is)

-- none is kept where none waits
none_kept : (o : Option Entry) (l : List Entry) → listed o ++ l ≡ [] → o ≡ None
none_kept None l e = refl
none_kept (Some x) l e = absurd (cc)

begin_is : (c : Call) → is_begin c ≡ true → c ≡ call.Begin
begin_is call.Begin e = refl
begin_is (call.Push u) e = absurd (false≢true e)
begin_is call.End e = absurd (false≢true e)
begin_is call.Join e = absurd (false≢true e)
begin_is (call.Take player want) e = absurd (false≢true e)
begin_is (call.Leave player) e = absurd (false≢true e)
begin_is call.Count e = absurd (false≢true e)
begin_is (call.BeginAs name) e = absurd (false≢true e)
begin_is (call.JoinAs name) e = absurd (false≢true e)

-- ---- by the ends of its client

-- the edge has ended by it, or for want of memory as that has
client_caused : (e : ClientEnd) (who max : ℕ) (calls : List Own) (fed : ℕ) (all : List ℕ) (n n' : LinkCounts)
    → (end_as (Some e) ≡ edge.Client → IsOwnEnd (Some e)) → Why e max fed all n n'
    → EdgeCause (end_as (Some e)) (Some e) who calls max fed all n n'
client_caused fin.PeerClosed who max calls fed all n n' own h = h
client_caused fin.LinkFault who max calls fed all n n' own h = h
client_caused (fin.BadVersion at) who max calls fed all n n' own h = h
client_caused (fin.BadChunk cause at) who max calls fed all n n' own h = h
client_caused (fin.BadControl at) who max calls fed all n n' own h = h
client_caused (fin.BadCommand at) who max calls fed all n n' own h = h
client_caused (fin.Refused code description) who max calls fed all n n' own h = h
client_caused fin.Done who max calls fed all n n' own h = absurd (own refl)
client_caused fin.OutOfMemory who max calls fed all n n' own h = tt

client_waits : (e : ClientEnd) (kept : Option Entry) → (end_as (Some e) ≡ edge.Client → kept ≡ None) → WaitsBy (end_as (Some e)) kept
client_waits fin.PeerClosed kept w = w refl
client_waits fin.LinkFault kept w = w refl
client_waits (fin.BadVersion at) kept w = w refl
client_waits (fin.BadChunk cause at) kept w = w refl
client_waits (fin.BadControl at) kept w = w refl
client_waits (fin.BadCommand at) kept w = w refl
client_waits (fin.Refused code description) kept w = w refl
client_waits fin.Done kept w = w refl
client_waits fin.OutOfMemory kept w = tt

-- what it stands for then
own_end : (e : EdgeEnd) (c : Core) (k : ClientState) → StandsBy (Some e) c k → e ≡ edge.Client → IsOwnEnd k.ended
own_end e c k s is = (subst (λ (x : EdgeEnd). StandsBy (Some x) c k) is s).1.own

own_waits : (e : EdgeEnd) (c : Core) (k : ClientState) → StandsBy (Some e) c k → e ≡ edge.Client → c.kept ≡ None
own_waits e c k s is = none_kept c.kept _ ((subst (λ (x : EdgeEnd). StandsBy (Some x) c k) is s).1.none)

module _ {P Q L : Type 0} (asks : P → SeatState Q → ℕ → Entry → Made → P → SeatState Q → Type 0)
    (hears : L → ℕ → Came → L → Type 0) (told : L → Option LinkTold) (counts : L → LinkCounts)
    (hears_mean : (l : L) (room : ℕ) (answer : Came) (m : L) → 0 < room → hears l room answer m → HearStep room (told l) (told m) (counts l) (counts m) answer)
    (says : L → List ℕ → Said → L → Type 0) (says_mean : (l : L) (piece : List ℕ) (answer : Said) (m : L) → 0 < length piece → says l piece answer m
    → SayStep piece (told l) (told m) (counts l) (counts m) answer)
    (k : Asked) (max who place : ℕ) (start : Origin) where
  abbrev at_link : L → Origin
  at_link l = origin (told l) (counts l)

  abbrev Now : EdgeTurn → L → EdgeState Q → Type 0
  Now a l s = DrivenBy a k max who place start (at_link l) s

  -- ---- a call was made, or wasn't

  -- its client and its link are as they were
  record IsIdle (s t : EdgeState Q) (l m : L) : Type 0 where
    pub client : t.client ≡ s.client
    pub link : m ≡ l
    pub lasts : lasting_of t.parts t.client ≡ lasting_of s.parts s.client

  drives_on : (s t : EdgeState Q) (l m : L) → IsIdle s t l m → t.ended ≡ None → Drives k max who place start (at_link l) s
      → Drives k max who place start (at_link m) t
  drives_on s t l m i e d = record {
    lives = e;
    lasts = i.lasts ∙ d.lasts;
    passed = subst (λ (x : L). Passed (t.client.parts.y ++ t.client.input) t.client.parts.sent start.told (told x)) (sym i.link)
        (subst (λ (c : ClientState). Passed (c.parts.y ++ c.input) c.parts.sent start.told (told l)) (sym i.client) d.passed);
    calm = subst (λ (x : L). IsCalm start.counts (counts x)) (sym i.link) d.calm;
    few = subst (λ (c : ClientState). length c.input ≤ 4096) (sym i.client) d.few;
    gave = ap (λ (c : ClientState). c.parts.gave) i.client ∙ d.gave;
  }

  -- it has ended by an answer that is no matter of its client
  ends_on : (e : EdgeEnd) (s t : EdgeState Q) (l m : L) → IsIdle s t l m → t.ended ≡ Some e
      → EdgeCause e t.client.ended who t.parts.calls max (length t.client.parts.y) (t.client.parts.y ++ t.client.input) start.counts (counts m)
      → WaitsBy e t.parts.kept → Drives k max who place start (at_link l) s → HasDriven k max who place start (at_link m) e t
  ends_on e s t l m i n cause waits d = record {
    ended = n;
    lasts = i.lasts ∙ d.lasts;
    rest = t.client.input;
    few = subst (λ (c : ClientState). length c.input ≤ 4096) (sym i.client) d.few;
    passed = subst (λ (x : L). Passed (t.client.parts.y ++ t.client.input) t.client.parts.sent start.told (told x)) (sym i.link)
        (subst (λ (c : ClientState). Passed (c.parts.y ++ c.input) c.parts.sent start.told (told l)) (sym i.client) d.passed);
    cause = cause;
    waits = waits;
    gave = ap (λ (c : ClientState). c.parts.gave) i.client ∙ d.gave;
  }

  -- a Begin was answered
  begun : (r : Reply) (a : EdgeTurn) (s t : EdgeState Q) (l m : L) → IsIdle s t l m → t.ended ≡ ended_by a → a ≡ after_begin r → t.parts.kept ≡ None
      → t.parts.calls ≡ s.parts.calls ++ (entry_of who call.Begin, r) ∷ []
      → Drives k max who place start (at_link l) s → Now a m t
  begun (reply.InUse by) a s t l m i e is kept calls d =
      subst (λ (x : EdgeTurn). Now x m t) (sym is)
      (ends_on (edge.InUse by) s t l m i (e ∙ ap ended_by is) (s.parts.calls, calls) kept d)
  begun (reply.NoSlot slots) a s t l m i e is kept calls d =
      subst (λ (x : EdgeTurn). Now x m t) (sym is)
      (ends_on edge.NoSlot s t l m i (e ∙ ap ended_by is) (slots, (s.parts.calls, calls)) kept d)
  begun (reply.Began n) a s t l m i e is kept calls d = subst (λ (x : EdgeTurn). Now x m t) (sym is) (drives_on s t l m i (e ∙ ap ended_by is) d)
  begun (reply.Pushed n) a s t l m i e is kept calls d = subst (λ (x : EdgeTurn). Now x m t) (sym is) (drives_on s t l m i (e ∙ ap ended_by is) d)
  begun (reply.NotPublisher live) a s t l m i e is kept calls d = subst (λ (x : EdgeTurn). Now x m t) (sym is) (drives_on s t l m i (e ∙ ap ended_by is) d)
  begun (reply.Ended n) a s t l m i e is kept calls d = subst (λ (x : EdgeTurn). Now x m t) (sym is) (drives_on s t l m i (e ∙ ap ended_by is) d)
  begun (reply.Joined player from) a s t l m i e is kept calls d = subst (λ (x : EdgeTurn). Now x m t) (sym is) (drives_on s t l m i (e ∙ ap ended_by is) d)
  begun reply.Full a s t l m i e is kept calls d = subst (λ (x : EdgeTurn). Now x m t) (sym is) (drives_on s t l m i (e ∙ ap ended_by is) d)
  begun reply.NotPlayer a s t l m i e is kept calls d = subst (λ (x : EdgeTurn). Now x m t) (sym is) (drives_on s t l m i (e ∙ ap ended_by is) d)
  begun (reply.Sent from n item) a s t l m i e is kept calls d = subst (λ (x : EdgeTurn). Now x m t) (sym is) (drives_on s t l m i (e ∙ ap ended_by is) d)
  begun (reply.Skip from to) a s t l m i e is kept calls d = subst (λ (x : EdgeTurn). Now x m t) (sym is) (drives_on s t l m i (e ∙ ap ended_by is) d)
  begun (reply.NotYet end) a s t l m i e is kept calls d = subst (λ (x : EdgeTurn). Now x m t) (sym is) (drives_on s t l m i (e ∙ ap ended_by is) d)
  begun (reply.Left player) a s t l m i e is kept calls d = subst (λ (x : EdgeTurn). Now x m t) (sym is) (drives_on s t l m i (e ∙ ap ended_by is) d)
  begun (reply.Counts began pushed ended joined skips) a s t l m i e is kept calls d =
      subst (λ (x : EdgeTurn). Now x m t) (sym is) (drives_on s t l m i (e ∙ ap ended_by is) d)

  answered_by : (b : Bool) (f : Entry) (r : Reply) (a : EdgeTurn) (s t : EdgeState Q) (l m : L) → is_begin f.call ≡ b → f ≡ entry_of who f.call
      → IsIdle s t l m → t.ended ≡ ended_by a → a ≡ after b r → t.parts.kept ≡ None
      → t.parts.calls ≡ s.parts.calls ++ (f, r) ∷ [] → Drives k max who place start (at_link l) s → Now a m t
  answered_by true f r a s t l m b name i e is kept calls d =
      let entry : f ≡ entry_of who call.Begin = name ∙ ap (λ (c : Call). entry_of who c) (begin_is f.call b) in
      begun r a s t l m i e is kept (calls ∙ ap (λ (x : Entry). s.parts.calls ++ (x, r) ∷ []) entry) d
  answered_by false f r a s t l m b name i e is kept calls d = subst (λ (x : EdgeTurn). Now x m t) (sym is) (drives_on s t l m i (e ∙ ap ended_by is) d)

  called : (came : Made) (f : Entry) (rest : List Entry) (a : EdgeTurn) (s t : EdgeState Q) (l m : L) → f ≡ entry_of who f.call → IsIdle s t l m
      → t.ended ≡ ended_by a → MadeAs s.parts f rest came a t.parts
      → Drives k max who place start (at_link l) s → Now a m t
  called (made_as.Answer r) f rest a s t l m name i e b d =
      answered_by (is_begin f.call) f r a s t l m refl name i e b.1 (ap (λ (c : Core). c.kept) b.0.parts) (ap (λ (c : Core). c.calls) b.0.parts) d
  called (made_as.Busy g) f rest a s t l m name i e b d = subst (λ (x : EdgeTurn). Now x m t) (sym b.1) (drives_on s t l m i (e ∙ ap ended_by b.1) d)
  called (made_as.Worn g) f rest a s t l m name i e b d = subst (λ (x : EdgeTurn). Now x m t) (sym b.1)
      (ends_on edge.Worn s t l m i (e ∙ ap ended_by b.1) tt tt d)
  called (made_as.OutOfMemory g) f rest a s t l m name i e b d =
      subst (λ (x : EdgeTurn). Now x m t) (sym b.1) (ends_on edge.OutOfMemory s t l m i (e ∙ ap ended_by b.1) tt tt d)

  -- ---- its client took a turn

  -- the client lives
  record HasRun (c : ClientState) (m : L) : Type 0 where
    pub passed : Passed (c.parts.y ++ c.input) c.parts.sent start.told (told m)
    pub calm : IsCalm start.counts (counts m)
    pub few : length c.input ≤ 4096
    pub gave : c.parts.gave ≡ []

  ran : (moved : Bool) (u w : ClientState) (l m : L) → Passed (u.parts.y ++ u.input) u.parts.sent start.told (told l) → IsCalm start.counts (counts l)
      → u.parts.gave ≡ [] → Went max (life_of u) (life_of w) (Ok moved) (told l) (told m) (counts l) (counts m) → HasRun w m
  ran moved u w l m p c v g = record {
    passed = passed_as ((u.parts.y ++ u.input) ++ g.b) (w.parts.y ++ w.input) (u.parts.sent ++ g.s) w.parts.sent start.told (told m) (sym g.ways.all_is)
        (sym g.ways.sent_is)
        (passed_then (u.parts.y ++ u.input) g.b u.parts.sent g.s start.told (told l) (told m) p g.passed);
    calm = calm_then start.counts (counts l) (counts m) c g.ways.calm;
    few = g.ways.few;
    gave = g.ways.gave_is ∙ v;
  }

  -- a gift was taken, where one waited
  run_taken : (c j : ClientState) (m : L) → IsTaken c j → HasRun c m → HasRun j m
  run_taken c j m i h = record {
    passed = passed_as (c.parts.y ++ c.input) (j.parts.y ++ j.input) c.parts.sent j.parts.sent start.told (told m)
        (ap (λ (x : List ℕ). c.parts.y ++ x) (sym i.input) ∙ ap (λ (q : ClientCore). q.y ++ j.input) (sym i.parts))
        (ap (λ (q : ClientCore). q.sent) (sym i.parts)) h.passed;
    calm = h.calm;
    few = subst (λ (b : List ℕ). length b ≤ 4096) (sym i.input) h.few;
    gave = ap (λ (q : ClientCore). q.gave) i.parts ∙ h.gave;
  }

  run_drives : (s : EdgeState Q) (m : L) → s.ended ≡ None → lasting_of s.parts s.client ≡ made_for k max who place → HasRun s.client m
      → Drives k max who place start (at_link m) s
  run_drives s m e lasts h = record { lives = e; lasts = lasts; passed = h.passed; calm = h.calm; few = h.few; gave = h.gave }

  run_starves : (s : EdgeState Q) (m : L) → s.ended ≡ Some edge.OutOfMemory → lasting_of s.parts s.client ≡ made_for k max who place → HasRun s.client m
      → HasDriven k max who place start (at_link m) edge.OutOfMemory s
  run_starves s m e lasts h = record { ended = e; lasts = lasts; rest = s.client.input; few = h.few; passed = h.passed; cause = tt; waits = tt; gave = h.gave }

  -- by what the turn was answered: it moved or didn't
  taken_by : (g : Option Gift) (b a : EdgeTurn) (c : Core) (t : EdgeState Q) (m : L) → (Drives k max who place start (at_link m) t → Now b m t)
      → ended_by b ≡ None → t.ended ≡ ended_by a → lasting_of t.parts t.client ≡ made_for k max who place → TakesBy g c b a t.parts → HasRun t.client m
      → Now a m t
  taken_by None b a c t m on lives e lasts f h =
      subst (λ (x : EdgeTurn). Now x m t) (sym f.1) (on (run_drives t m (e ∙ ap ended_by f.1 ∙ lives) lasts h))
  taken_by (Some g) b a c t m on lives e lasts (inl f) h =
      subst (λ (x : EdgeTurn). Now x m t) (sym f.1) (on (run_drives t m (e ∙ ap ended_by f.1 ∙ lives) lasts h))
  taken_by (Some g) b a c t m on lives e lasts (inr f) h =
      subst (λ (x : EdgeTurn). Now x m t) (sym f.1) (run_starves t m (e ∙ ap ended_by f.1) lasts h)

  -- the client has ended
  gone : (f : ClientEnd) (u w : ClientState) (a : EdgeTurn) (t : EdgeState Q) (l m : L) → w.ended ≡ Some f → t.client ≡ w → a ≡ Ended (end_as w.ended)
      → t.ended ≡ ended_by a → StandsFor t → lasting_of t.parts t.client ≡ made_for k max who place
      → Passed (u.parts.y ++ u.input) u.parts.sent start.told (told l) → IsCalm start.counts (counts l) → u.parts.gave ≡ []
      → Went max (life_of u) (life_of w) (Err f) (told l) (told m) (counts l) (counts m) → Now a m t
  gone f u w a t l m ended same is e stands lasts p c v g =
      let q = g.ways in
      let answer_is : a ≡ Ended (end_as (Some f)) = is ∙ ap (λ (o : Option ClientEnd). Ended (end_as o)) ended in
      let how : t.client.ended ≡ Some f = ap (λ (x : ClientState). x.ended) same ∙ ended in
      let edge_end : t.ended ≡ Some (end_as (Some f)) = e ∙ ap ended_by answer_is in
      let s : StandsBy (Some (end_as (Some f))) t.parts t.client = subst (λ (o : Option EdgeEnd). StandsBy o t.parts t.client) edge_end stands in
      let why = why_since f q.why in
      let cause : EdgeCause (end_as (Some f)) (Some f) who t.parts.calls max (length w.parts.y) (w.parts.y ++ q.rest) start.counts (counts m) =
      client_caused f who max t.parts.calls (length w.parts.y) (w.parts.y ++ q.rest) start.counts (counts m)
      (λ x. subst IsOwnEnd how (own_end (end_as (Some f)) t.parts t.client s x)) why in
      let passed : Passed (w.parts.y ++ q.rest) w.parts.sent start.told (told m) =
      passed_as ((u.parts.y ++ u.input) ++ g.b) (w.parts.y ++ q.rest) (u.parts.sent ++ g.s) w.parts.sent start.told (told m) (sym q.all_is) (sym q.sent_is)
      (passed_then (u.parts.y ++ u.input) g.b u.parts.sent g.s start.told (told l) (told m) p g.passed) in
      let driven : HasDriven k max who place start (at_link m) (end_as (Some f)) t = record {
        ended = edge_end;
        lasts = lasts;
        rest = q.rest;
        few = q.few;
        passed = subst (λ (x : ClientState). Passed (x.parts.y ++ q.rest) x.parts.sent start.told (told m)) (sym same) passed;
        cause = subst (λ (o : Option ClientEnd). EdgeCause (end_as (Some f)) o who t.parts.calls max (length t.client.parts.y)
            (t.client.parts.y ++ q.rest) start.counts (counts m)) (sym how)
            (subst (λ (x : ClientState). EdgeCause (end_as (Some f)) (Some f) who t.parts.calls max (length x.parts.y) (x.parts.y ++ q.rest) start.counts
            (counts m)) (sym same) cause);
        gave = ap (λ (x : ClientState). x.parts.gave) same ∙ (q.gave_is ∙ v);
        waits = client_waits f t.parts.kept (λ x. own_waits (end_as (Some f)) t.parts t.client s x);
      } in
      subst (λ (x : EdgeTurn). Now x m t) (sym answer_is) driven
    where
      why_since : (f : ClientEnd) → Why f max (length w.parts.y) ((u.parts.y ++ u.input) ++ g.b) (counts l) (counts m)
          → Why f max (length w.parts.y) (w.parts.y ++ g.ways.rest) start.counts (counts m)
      why_since f h =
          why_calm f max (length w.parts.y) (w.parts.y ++ g.ways.rest) start.counts (counts l) (counts m) c
          (subst (λ (x : List ℕ). Why f max (length w.parts.y) x (counts l) (counts m)) (sym g.ways.all_is) h)

  -- by what the client's turn came to
  pulled_by : (answer : ClientTurn) (o : Result Bool ClientEnd) (u w : ClientState) (a : EdgeTurn) (s t : EdgeState Q) (l m : L) → answer ≡ turn_of o
      → w.ended ≡ end_of o → ToldAs answer s.parts w a t.parts t.client → t.ended ≡ ended_by a → StandsFor t
      → lasting_of t.parts t.client ≡ made_for k max who place → Passed (u.parts.y ++ u.input) u.parts.sent start.told (told l)
      → IsCalm start.counts (counts l) → u.parts.gave ≡ [] → Went max (life_of u) (life_of w) o (told l) (told m) (counts l) (counts m) → Now a m t
  pulled_by answer (Ok true) u w a s t l m is ended f e stands lasts p c v g =
      let q : ToldAs client_turn.Moved s.parts w a t.parts t.client = subst (λ (x : ClientTurn). ToldAs x s.parts w a t.parts t.client) is f in
      taken_by w.parts.gift Moved a s.parts t m (λ x. x) refl e lasts q.1 (run_taken w t.client m q.0 (ran true u w l m p c v g))
  pulled_by answer (Ok false) u w a s t l m is ended f e stands lasts p c v g =
      let q : ToldAs client_turn.Idle s.parts w a t.parts t.client = subst (λ (x : ClientTurn). ToldAs x s.parts w a t.parts t.client) is f in
      taken_by w.parts.gift Idle a s.parts t m (λ x. x) refl e lasts q.1 (run_taken w t.client m q.0 (ran false u w l m p c v g))
  pulled_by answer (Err x) u w a s t l m is ended f e stands lasts p c v g =
      let q : ToldAs client_turn.Ended s.parts w a t.parts t.client = subst (λ (x : ClientTurn). ToldAs x s.parts w a t.parts t.client) is f in
      gone x u w a t l m ended q.1 q.2 e stands lasts p c v g

  -- ---- one of the two

  turn_by : (es : List Entry) (x y : P) (a : EdgeTurn) (s t : EdgeState Q) (l m : L) → waiting s.parts ≡ es
      → TurnBy asks (ClientTurns hears says) es (life_at s x) l a (life_at t y) m → s.client.ended ≡ None → s.client.parts.reader.max ≡ max
      → ((f : Entry) (rest : List Entry) → waiting s.parts ≡ f ∷ rest → f ≡ entry_of who f.call) → t.ended ≡ ended_by a → StandsFor t
      → lasting_of t.parts t.client ≡ lasting_of s.parts s.client → Drives k max who place start (at_link l) s → Now a m t
  turn_by [] x y a s t l m w f lives mx bear e stands lasts d =
      let p = f.0 in
      let u = p.turned in
      pulled_by p.answer u.comes s.client p.between a s t l m u.answered u.ended p.told e stands (lasts ∙ d.lasts) d.passed d.calm d.gave
      (turn_went hears told counts hears_mean max says says_mean p.answer s.client p.between l m lives mx d.few u)
  turn_by (g ∷ rest) x y a s t l m w f lives mx bear e stands lasts d =
      let c = f.0 in
      called c.came g rest a s t l m (bear g rest w) (record { client = c.client; link = f.1; lasts = lasts }) e c.became d

  -- A TURN of an edge that lives
  pub turned : (x y : P) (a : EdgeTurn) (s t : EdgeState Q) (l m : L) → EndedBy asks (ClientTurns hears says) s.ended (life_at s x) l a (life_at t y) m
      → t.ended ≡ ended_by a → StandsFor s → StandsFor t → lasting_of t.parts t.client ≡ lasting_of s.parts s.client
      → Drives k max who place start (at_link l) s → Now a m t
  turned x y a s t l m f e before stands lasts d =
      let turn = subst (λ (o : Option EdgeEnd). EndedBy asks (ClientTurns hears says) o (life_at s x) l a (life_at t y) m) d.lives f in
      let now = subst (λ (o : Option EdgeEnd). StandsBy o s.parts s.client) d.lives before in
      let name : s.parts.who ≡ who = ap (λ (q : Lasting). q.who) d.lasts in
      let mx : s.client.parts.reader.max ≡ max = ap (λ (q : Lasting). q.max) d.lasts in
      turn_by (waiting s.parts) x y a s t l m refl turn now.lives mx
      (λ g rest w. subst (λ (n : ℕ). g ≡ entry_of n g.call) name
      (bears s.parts.who _ (made s.parts.calls) g rest (ap (λ (es : List Entry). made s.parts.calls ++ es) (sym w) ∙ now.calls.calls)))
      e stands lasts d
