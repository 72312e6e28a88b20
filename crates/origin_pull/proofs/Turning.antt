-- What a turn of an edge leaves
use Rattle.std.proofs.Common.{◌≡◌, ◌⊎◌, inl, inr, ℕ, ◌+◌, true, false, is_some, List, [], ◌∷◌, ◌++◌, Option, Some, None, refl, sym, ap, ◌∙◌, subst, arith}
use Rattle.std.proofs.Common.{append-nil}
use Rattle.relay_outside.specs.Counts.{Rose}
use Rattle.relay_outside.specs.Told.{LinkCounts}
use Rattle.client_owed.specs.Standing.{is_finished, listed}
use Rattle.client_owed.specs.declared.types.Asked.{Asked}
use Rattle.client_owed.specs.declared.types.Gave.{Gave}
use Rattle.client_owed.specs.declared.types.Gift.{Gift}
use Rattle.rtmp_client.specs.Causes as client_did
use Rattle.rtmp_client.specs.ClientState as client
use Rattle.rtmp_client.specs.ClientState.{ClientState, EndsSo, StandsBy, life_of, without_gift}
use Rattle.rtmp_client.specs.Keeping.{IsOver, StandsNow}
use Rattle.rtmp_client.specs.Turns.{life}
use Rattle.rtmp_client.specs.declared.core_fields.Core.{Core as ClientCore}
use Rattle.rtmp_client.specs.declared.end.ClientEnd.{ClientEnd}
use Rattle.rtmp_client.specs.declared.end.ClientEnd.TheVariants as end
use Rattle.rtmp_client.specs.declared.end.ClientTurn.{ClientTurn}
use Rattle.rtmp_client.specs.declared.end.ClientTurn.TheVariants as turn
use Rattle.origin_calls.specs.Calls.{edge_calls, entries}
use Rattle.origin_pull.specs.Causes.{Did, MayWait}
use Rattle.origin_pull.specs.EdgeState.{Lasting, LivesOn, lasting_of}
use Rattle.origin_pull.specs.Keeping.{Begun, HasEnded, HasRoom, IsOwnEnd, IsQuiet, IsSound, OverBy, Owes, bytes_in, made, waiting, waiting_bytes}
use Rattle.origin_pull.specs.Turns.{IsTaken, TakesBy, ToldAs, end_as}
use Rattle.origin_pull.specs.declared.core_fields.Core.{Core}
use Rattle.origin_pull.specs.declared.end.EdgeEnd.TheVariants as edge
use Rattle.origin_pull.specs.declared.turn.EdgeTurn.{EdgeTurn}
use Rattle.origin_pull.specs.declared.turn.EdgeTurn.TheVariants.{Moved, Idle, Ended}
use Rattle.origin_pull.proofs.Owing.{IsFree, all_made, begun_more, free_waits, owes_due}
use Rattle.origin_pull.proofs.Walking.{LeavesAs}

-- ---- its client, where the gift that waited was taken

now_without : (c : ClientCore) → StandsNow c → StandsNow (without_gift c)
now_without c s = record {
  early = λ h. (let e = s.early h in record { messages = e.messages; gave = e.gave });
  reaches = s.reaches;
  owes = s.owes;
  writer = s.writer;
  window = s.window;
  phase = s.phase;
  given = s.given;
  finished = s.finished;
  told = append-nil (c.taken ++ listed c.gift) ∙ s.told;
}

over_without : (c : ClientCore) (more : List ℕ) → IsOver c more → IsOver (without_gift c) more
over_without c more o = record { ms = o.ms; read = o.read; owes = o.owes; given = o.given; told = append-nil (c.taken ++ listed c.gift) ∙ o.told }

stands_without : (o : Option ClientEnd) (c : ClientCore) → StandsBy o c → StandsBy o (without_gift c)
stands_without None c s = record { read = s.read; stands = now_without c s.stands }
stands_without (Some e) c s = record { more = s.more; over = over_without c s.more s.over; all = s.all }

stands_taken : (k j : ClientState) → IsTaken k j → client.StandsFor k → client.StandsFor j
stands_taken k j t s =
    subst (λ (o : Option ClientEnd). StandsBy o j.parts) (sym t.ended)
    (subst (λ (c : ClientCore). StandsBy k.ended c) (sym t.parts) (stands_without k.ended k.parts s))

abbrev SameClient : ClientState → ClientState → Type 0
SameClient k j = client.lasting_of j.parts ≡ client.lasting_of k.parts

quiet_if : (k b : ClientState) → IsQuiet k → SameClient k b → client.StandsFor b → b.parts.gift ≡ None → IsQuiet b
quiet_if k b q same s g = record {
  gift = g;
  gave = ap (λ (x : client.Lasting). x.gave) same ∙ q.gave;
  short = omega (arith, q.short, ap (λ (x : client.Lasting). x.max) same);
  stands = s;
}

quiet_taken : (k b j : ClientState) → IsQuiet k → SameClient k b → client.StandsFor b → IsTaken b j → IsQuiet j
quiet_taken k b j q same s t = record {
  gift = ap (λ (c : ClientCore). c.gift) t.parts;
  gave = ap (λ (c : ClientCore). c.gave) t.parts ∙ ap (λ (x : client.Lasting). x.gave) same ∙ q.gave;
  short = omega (arith, q.short, ap (λ (x : client.Lasting). x.max) same, ap (λ (c : ClientCore). c.reader.max) t.parts);
  stands = stands_taken b j t s;
}

-- what it has taken then
taken_then : (k b j : ClientState) (o : Option Gift) → SameClient k b → b.parts.gift ≡ o → IsTaken b j → j.parts.taken ≡ k.parts.taken ++ listed o
taken_then k b j o same g t =
    ap (λ (c : ClientCore). c.taken) t.parts ∙ ap (λ (l : List Gift). l ++ listed b.parts.gift) (ap (λ (x : client.Lasting). x.taken) same)
    ∙ ap (λ (x : Option Gift). k.parts.taken ++ listed x) g

-- ---- what the edge keeps then

-- it lives on, or it has ended for want of memory
abbrev Leaves : EdgeTurn → EdgeTurn → Core → ClientState → Type 0
Leaves b a d j = (IsSound d j × (a ≡ b)) ⊎ (HasEnded edge.OutOfMemory d j × (a ≡ Ended edge.OutOfMemory))

taken_leaves : (o : Option Gift) (c d : Core) (k b j : ClientState) (x a : EdgeTurn) → IsSound c k → IsFree c → SameClient k b → client.StandsFor b
    → b.ended ≡ None
    → b.parts.gift ≡ o → IsTaken b j → TakesBy o c x a d → HasRoom (waiting_bytes d) j → Leaves x a d j
taken_leaves None c d k b j x a s f same st al g t u room =
    let taken : j.parts.taken ≡ k.parts.taken = taken_then k b j None same g t ∙ append-nil k.parts.taken in
    let owes : Owes d (waiting d) j.parts.taken = subst (λ (l : List Gift). Owes d (waiting d) l) (sym taken)
    (subst (λ (y : Core). Owes y (waiting y) k.parts.taken) (sym u.0) s.owes) in
    inl (record { client = quiet_taken k b j s.client same st t; lives = t.ended ∙ al; owes = owes; room = room }, u.1)
taken_leaves (Some g) c d k b j x a s f same st al e t (inl u) room =
    let taken : j.parts.taken ≡ k.parts.taken ++ g ∷ [] = taken_then k b j (Some g) same e t in
    let owes : Owes d (waiting d) j.parts.taken = subst (λ (l : List Gift). Owes d (waiting d) l) (sym taken) (owes_due c d g k.parts.taken f u.0 s.owes) in
    inl (record { client = quiet_taken k b j s.client same st t; lives = t.ended ∙ al; owes = owes; room = room }, u.1)
taken_leaves (Some g) c d k b j x a s f same st al e t (inr u) room =
    let taken : j.parts.taken ≡ k.parts.taken ++ g ∷ [] = taken_then k b j (Some g) same e t in
    let begun : Begun d j.parts.taken = subst (λ (l : List Gift). Begun d l) (sym taken)
    (subst (λ (y : Core). Begun y (k.parts.taken ++ g ∷ [])) (sym u.0) (begun_more c g k.parts.taken f s.owes)) in
    inr (record { client = quiet_taken k b j s.client same st t; over = begun; room = room }, u.1)

lives_moved : (a : EdgeTurn) (d : Core) (j : ClientState) → Leaves Moved a d j → LivesOn d j a
lives_moved a d j (inl l) = subst (LivesOn d j) (sym l.1) l.0
lives_moved a d j (inr l) = subst (LivesOn d j) (sym l.1) l.0

lives_idle : (a : EdgeTurn) (d : Core) (j : ClientState) → Leaves Idle a d j → LivesOn d j a
lives_idle a d j (inl l) = subst (LivesOn d j) (sym l.1) l.0
lives_idle a d j (inr l) = subst (LivesOn d j) (sym l.1) l.0

-- ---- where its client has ended

not_finished : (l : List Gave) → l ≡ [] → is_finished l ≡ true → ⊥
unfolding is_finished
not_finished [] e f = absurd (cc)
not_finished (g ∷ l) e f = absurd (cc)

not_done : (o : Option ClientEnd) (c : ClientCore) → o ≡ Some end.Done → c.gave ≡ [] → StandsBy o c → ⊥
not_done o c e g s =
    let t : EndsSo end.Done c = subst (λ (x : Option ClientEnd). StandsBy x c) e s in
    not_finished c.gave g t.all.0

own_end : (o : Option ClientEnd) (c : Core) (k : ClientState) → k.ended ≡ o → (o ≡ Some end.Done → ⊥) → (o ≡ None → ⊥) → waiting c ≡ []
    → made c.calls ≡ entries c.who (edge_calls false k.parts.taken) → OverBy (end_as o) c k
own_end None c k e n s none all = absurd (s refl)
own_end (Some end.PeerClosed) c k e n s none all = record { none = none; all = all; own = subst IsOwnEnd (sym e) tt }
own_end (Some end.LinkFault) c k e n s none all = record { none = none; all = all; own = subst IsOwnEnd (sym e) tt }
own_end (Some (end.BadVersion at)) c k e n s none all = record { none = none; all = all; own = subst IsOwnEnd (sym e) tt }
own_end (Some (end.BadChunk cause at)) c k e n s none all = record { none = none; all = all; own = subst IsOwnEnd (sym e) tt }
own_end (Some (end.BadControl at)) c k e n s none all = record { none = none; all = all; own = subst IsOwnEnd (sym e) tt }
own_end (Some (end.BadCommand at)) c k e n s none all = record { none = none; all = all; own = subst IsOwnEnd (sym e) tt }
own_end (Some (end.Refused code description)) c k e n s none all = record { none = none; all = all; own = subst IsOwnEnd (sym e) tt }
own_end (Some end.Done) c k e n s none all = absurd (n refl)
own_end (Some end.OutOfMemory) c k e n s none all = ([], append-nil (made c.calls) ∙ all)

is_an_end : (o : Option ClientEnd) (e : ClientEnd) → o ≡ Some e → o ≡ None → ⊥
is_an_end None e x y = absurd (cc)
is_an_end (Some f) e x y = absurd (cc)

ended_leaves : (c : Core) (k b : ClientState) → IsSound c k → IsFree c → SameClient k b → client.StandsFor b → LeavesAs turn.Ended k b
    → HasEnded (end_as b.ended) c b
ended_leaves c k b s f same st l =
    let gift : b.parts.gift ≡ None = l.1 ∙ s.client.gift in
    let quiet = quiet_if k b s.client same st gift in
    let taken : b.parts.taken ≡ k.parts.taken = ap (λ (x : client.Lasting). x.taken) same in
    let all : made c.calls ≡ entries c.who (edge_calls false b.parts.taken) = all_made c k.parts.taken f s.owes
    ∙ ap (λ (t : List Gift). entries c.who (edge_calls false t)) (sym taken) in
    record {
      client = quiet;
      over = own_end b.ended c b refl (λ e. not_done b.ended b.parts e quiet.gave st) (is_an_end b.ended l.0.0 l.0.1) (free_waits c f) all;
      room = inl (ap bytes_in (free_waits c f));
    }

pub told_lives : (t : ClientTurn) (c d : Core) (k b j : ClientState) (a : EdgeTurn) → IsSound c k → IsFree c → SameClient k b → client.StandsFor b
    → LeavesAs t k b → ToldAs t c b a d j → HasRoom (waiting_bytes d) j → LivesOn d j a
told_lives turn.Moved c d k b j a s f same st l u room = lives_moved a d j (taken_leaves b.parts.gift c d k b j Moved a s f same st l refl u.0 u.1 room)
told_lives turn.Idle c d k b j a s f same st l u room = lives_idle a d j (taken_leaves b.parts.gift c d k b j Idle a s f same st l.0 refl u.0 u.1 room)
told_lives turn.Ended c d k b j a s f same st l u room =
    let h : HasEnded (end_as b.ended) d j = subst (λ (y : Core). HasEnded (end_as b.ended) y j) (sym u.0)
    (subst (λ (y : ClientState). HasEnded (end_as b.ended) c y) (sym u.1) (ended_leaves c k b s f same st l)) in
    subst (LivesOn d j) (sym u.2) h

-- ---- what it did

moved_taken : (k b j : ClientState) → IsTaken b j → client_did.HasMoved (life_of k) (life_of b) → client_did.HasMoved (life_of k) (life_of j)
moved_taken k b j t h = subst (λ (c : ClientCore). client_did.HasMoved (life_of k) (life c j.input)) (sym t.parts) h

still_taken : (k b j : ClientState) → IsTaken b j → client_did.IsStill (life_of k) (life_of b) → client_did.IsStill (life_of k) (life_of j)
still_taken k b j t h = record {
  y = ap (λ (c : ClientCore). c.y) t.parts ∙ h.y;
  input = t.input ∙ h.input;
  sent = ap (λ (c : ClientCore). c.sent) t.parts
      ∙ h.sent;
}

did_moved : (o : Option Gift) (c d : Core) (k b j : ClientState) (a : EdgeTurn) → client_did.HasMoved (life_of k) (life_of j) → TakesBy o c Moved a d
    → Did a c k d j
did_moved None c d k b j a h u = subst (λ (x : EdgeTurn). Did x c k d j) (sym u.1) (inr h)
did_moved (Some g) c d k b j a h (inl u) = subst (λ (x : EdgeTurn). Did x c k d j) (sym u.1) (inr h)
did_moved (Some g) c d k b j a h (inr u) = subst (λ (x : EdgeTurn). Did x c k d j) (sym u.1) tt

did_idle : (o : Option Gift) (c d : Core) (k b j : ClientState) (a : EdgeTurn) → client_did.IsStill (life_of k) (life_of j) → TakesBy o c Idle a d
    → Did a c k d j
did_idle None c d k b j a h u = subst (λ (x : EdgeTurn). Did x c k d j) (sym u.1) (record { calls = ap (λ (y : Core). y.calls) u.0; client = h })
did_idle (Some g) c d k b j a h (inl u) = subst (λ (x : EdgeTurn). Did x c k d j) (sym u.1)
    (record { calls = ap (λ (y : Core). y.calls) u.0.parts; client = h })
did_idle (Some g) c d k b j a h (inr u) = subst (λ (x : EdgeTurn). Did x c k d j) (sym u.1) tt

pub told_did : (t : ClientTurn) (c d : Core) (k b j : ClientState) (a : EdgeTurn) → client_did.Did t (life_of k) (life_of b) → ToldAs t c b a d j
    → Did a c k d j
told_did turn.Moved c d k b j a h u = did_moved b.parts.gift c d k b j a (moved_taken k b j u.0 h) u.1
told_did turn.Idle c d k b j a h u = did_idle b.parts.gift c d k b j a (still_taken k b j u.0 h) u.1
told_did turn.Ended c d k b j a h u = subst (λ (x : EdgeTurn). Did x c k d j) (sym u.2) tt

-- ---- why it is idle

may_by : (o : Option Gift) (c d : Core) (b a : EdgeTurn) (x y : LinkCounts) → MayWait b x y → TakesBy o c b a d → MayWait a x y
may_by None c d b a x y w u = subst (λ (z : EdgeTurn). MayWait z x y) (sym u.1) w
may_by (Some g) c d b a x y w (inl u) = subst (λ (z : EdgeTurn). MayWait z x y) (sym u.1) w
may_by (Some g) c d b a x y w (inr u) = subst (λ (z : EdgeTurn). MayWait z x y) (sym u.1) tt

no_gift : (o : Option Gift) → o ≡ None → is_some o ≡ true → ⊥
no_gift None e f = absurd (cc)
no_gift (Some g) e f = absurd (cc)

waits_for : (b : ClientState) (x y : LinkCounts) → b.parts.gift ≡ None → client_did.MayBe turn.Idle x y (life_of b) → Rose x.waits y.waits
waits_for b x y e (inl r) = r
waits_for b x y e (inr s) = absurd (no_gift b.parts.gift e s)

pub told_may : (t : ClientTurn) (c d : Core) (k b j : ClientState) (a : EdgeTurn) (x y : LinkCounts) → k.parts.gift ≡ None → LeavesAs t k b
    → client_did.MayBe t x y (life_of b) → ToldAs t c b a d j → MayWait a x y
told_may turn.Moved c d k b j a x y e l w u = may_by b.parts.gift c d Moved a x y tt u.1
told_may turn.Idle c d k b j a x y e l w u = may_by b.parts.gift c d Idle a x y (waits_for b x y (l.1 ∙ e) w) u.1
told_may turn.Ended c d k b j a x y e l w u = subst (λ (z : EdgeTurn). MayWait z x y) (sym u.2) tt

-- ---- what it keeps as it was made

pub same_lasting : (c d : Core) (k j : ClientState) → d.who ≡ c.who → d.place ≡ c.place → j.parts.asked ≡ k.parts.asked
    → j.parts.reader.max ≡ k.parts.reader.max → lasting_of d j ≡ lasting_of c k
same_lasting c d k j w p q m =
    let R : ℕ → ℕ → Asked → ℕ → Lasting = λ who place asked max. record { who = who; place = place; asked = asked; max = max } in
    ap (λ (n : ℕ). R n d.place j.parts.asked j.parts.reader.max) w ∙ ap (λ (n : ℕ). R c.who n j.parts.asked j.parts.reader.max) p
    ∙ ap (λ (x : Asked). R c.who c.place x j.parts.reader.max) q ∙ ap (λ (n : ℕ). R c.who c.place k.parts.asked n) m

core_by : (o : Option Gift) (c d : Core) (b a : EdgeTurn) → TakesBy o c b a d → (d.who ≡ c.who) × (d.place ≡ c.place)
core_by None c d b a u = (ap (λ (y : Core). y.who) u.0, ap (λ (y : Core). y.place) u.0)
core_by (Some g) c d b a (inl u) = (ap (λ (y : Core). y.who) u.0.parts, ap (λ (y : Core). y.place) u.0.parts)
core_by (Some g) c d b a (inr u) = (ap (λ (y : Core). y.who) u.0, ap (λ (y : Core). y.place) u.0)

taken_lasts : (c d : Core) (k b j : ClientState) → (d.who ≡ c.who) × (d.place ≡ c.place) → SameClient k b → IsTaken b j → lasting_of d j ≡ lasting_of c k
taken_lasts c d k b j e same t =
    same_lasting c d k j e.0 e.1 (ap (λ (x : ClientCore). x.asked) t.parts ∙ ap (λ (x : client.Lasting). x.asked) same)
    (ap (λ (x : ClientCore). x.reader.max) t.parts ∙ ap (λ (x : client.Lasting). x.max) same)

pub told_lasts : (t : ClientTurn) (c d : Core) (k b j : ClientState) (a : EdgeTurn) → SameClient k b → ToldAs t c b a d j → lasting_of d j ≡ lasting_of c k
told_lasts turn.Moved c d k b j a same u = taken_lasts c d k b j (core_by b.parts.gift c d Moved a u.1) same u.0
told_lasts turn.Idle c d k b j a same u = taken_lasts c d k b j (core_by b.parts.gift c d Idle a u.1) same u.0
told_lasts turn.Ended c d k b j a same u =
    ap (λ (x : Core). lasting_of x j) u.0 ∙ ap (λ (x : ClientState). lasting_of c x) u.1
    ∙ same_lasting c c k b refl refl (ap (λ (x : client.Lasting). x.asked) same) (ap (λ (x : client.Lasting). x.max) same)

-- ---- it makes no call

calls_by : (o : Option Gift) (c d : Core) (b a : EdgeTurn) → TakesBy o c b a d → d.calls ≡ c.calls
calls_by None c d b a u = ap (λ (y : Core). y.calls) u.0
calls_by (Some g) c d b a (inl u) = ap (λ (y : Core). y.calls) u.0.parts
calls_by (Some g) c d b a (inr u) = ap (λ (y : Core). y.calls) u.0

pub told_calls : (t : ClientTurn) (c d : Core) (b j : ClientState) (a : EdgeTurn) → ToldAs t c b a d j → d.calls ≡ c.calls
told_calls turn.Moved c d b j a u = calls_by b.parts.gift c d Moved a u.1
told_calls turn.Idle c d b j a u = calls_by b.parts.gift c d Idle a u.1
told_calls turn.Ended c d b j a u = ap (λ (y : Core). y.calls) u.0
