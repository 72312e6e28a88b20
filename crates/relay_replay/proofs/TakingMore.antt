use Rattle.relay_replay.specs.Streams.{SoleAsks}
-- What a link in memory took is what its player, or its edge's client, sent
use Rattle.std.proofs.Common.{inl, inr, ◌≡◌, ℕ, Bool, true, false, List, ◌∷◌, [], ◌++◌, take, Option, Some, None, Result, Ok, Err, sym, ap, ◌∙◌}
use Rattle.relay_outside.specs.Heard.{Came, CameBytes, CameEnd, CameNotYet, CameFailed}
use Rattle.relay_outside.specs.MemLinks.{MemLinkState, MemHears, MemSays}
use Rattle.relay_outside.specs.declared.link.Said.{Said}
use Rattle.relay_outside.specs.declared.link.Said.TheVariants as said
use Rattle.command_dialog.specs.declared.types.Ask.{Ask}
use Rattle.command_dialog.specs.declared.types.Grant.{Grant}
use Rattle.stream_model.specs.declared.calls.Entry.{Entry}
use Rattle.stream_registry.specs.Books.{SeenState, SoleState}
use Rattle.relay_session.specs.SeatState.{SeatState}
use Rattle.relay_session.specs.Turns.{is_nil}
use Rattle.relay_session.specs.declared.seat_answers.Made.{Made}
use Rattle.relay_session.specs.declared.seat_answers.Made.TheVariants as made
use Rattle.http_flv.specs.Turns.{AfterJoin, AfterKept, CameAs, DroppedBy, EndedBy, Gone, HeardBy, Input, IsEnded, IsTried, IsUnheard, JoinedBy, JoinMade}
use Rattle.http_flv.specs.Turns.{KeptOn, Life, ReadBy, SendBy, Sent, SentAs, TakeMade, Taken, TakenBy, ToldBy, life, takes, told}
use Rattle.http_flv.specs.declared.core_fields.Core.{Core}
use Rattle.http_flv.specs.declared.end.HttpEnd.{HttpEnd}
use Rattle.http_flv.specs.declared.stage.Stage.{Stage}
use Rattle.http_flv.specs.declared.stage.Stage.TheVariants as stage
use Rattle.http_flv.specs.declared.turn.HttpTurn.{HttpTurn}
use Rattle.client_owed.specs.Standing.{Past}
use Rattle.rtmp_client.specs.ClientState.{ClientState, life_of}
use Rattle.rtmp_client.specs.Feeding.{Fixed}
use Rattle.rtmp_client.specs.Turns as pulling
use Rattle.rtmp_client.specs.declared.core_fields.Core.{Core as ClientCore}
use Rattle.rtmp_client.specs.declared.end.ClientEnd.{ClientEnd}
use Rattle.rtmp_client.specs.declared.end.ClientTurn.{ClientTurn}
use Rattle.rtmp_client.specs.declared.end.ClientTurn.TheVariants as client_turn
use Rattle.origin_pull.specs.Keeping.{waiting}
use Rattle.origin_pull.specs.Turns as edge
use Rattle.origin_pull.specs.declared.core_fields.Core.{Core as EdgeCore}
use Rattle.origin_pull.specs.declared.end.EdgeEnd.{EdgeEnd}
use Rattle.origin_pull.specs.declared.turn.EdgeTurn.{EdgeTurn}
use Rattle.relay_replay.proofs.Taking.{heard_same, said_took}

-- ---- a player

-- it sent nothing more
abbrev Same : Core → Core → Type 0
Same c d = d.sent ≡ c.sent

abbrev Took : Core → MemLinkState → Type 0
Took c l = l.sent ≡ c.sent

unheard_same : (c : Core) (b : List ℕ) (d : Core) → IsUnheard c b d → Same c d
unheard_same c b d (inl e) = ap (λ (g : Gone). g.sent) e
unheard_same c b d (inr u) = ap (λ (g : Gone). g.sent) u.1.1

module _ {P S : Type 0} (asks : P → S → ℕ → Entry → Made → P → S → Type 0) where
  ended_same : (e : HttpEnd) (v : Life P S) (a : HttpTurn) (w : Life P S) → IsEnded e v a w → Same v.parts w.parts
  ended_same e v a w i = ap (λ (g : Gone). g.sent) i.gone

  made_same : (v : Life P S) (e : Entry) (moved : Bool) (came : Made) (w : Life P S) (a : HttpTurn) → TakeMade asks v e moved came w a → Same v.parts w.parts
  made_same v e moved (made.Answer r) w a (inl t) = ap (λ (x : Core). x.sent) t.0.rest
  made_same v e moved (made.Answer r) w a (inr t) = ap (λ (g : Gone). g.sent) t.0
  made_same v e moved (made.Busy f) w a t = ap (λ (x : Core). x.sent) t.0
  made_same v e moved (made.Worn f) w a t = ap (λ (x : Core). x.sent) t.0
  made_same v e moved (made.OutOfMemory f) w a t = ap (λ (x : Core). x.sent) t.0

  taken_by_same : (o : Option (ℕ × ℕ)) (v : Life P S) (moved : Bool) (a : HttpTurn) (w : Life P S) → TakenBy asks o v moved a w → Same v.parts w.parts
  taken_by_same None v moved a w t = ap (λ (x : Life P S). x.parts.sent) t.1
  taken_by_same (Some p) v moved a w t = made_same v _ moved t.came w a t.taken

  taken_same : (v : Life P S) (moved : Bool) (a : HttpTurn) (w : Life P S) → Taken asks v moved a w → Same v.parts w.parts
  taken_same v moved a w t = taken_by_same (takes v.parts) v moved a w t

  join_same : (v : Life P S) (place : ℕ) (e : Entry) (came : Made) (r : Result Bool HttpEnd) (w : Life P S) → JoinMade asks v place e came r w
      → Same v.parts w.parts
  join_same v place e (made.Answer x) r w (inl t) = ap (λ (c : Core). c.sent) t.1.rest
  join_same v place e (made.Answer x) r w (inr t) = ap (λ (g : Gone). g.sent) t.1
  join_same v place e (made.Busy f) r w t = ap (λ (c : Core). c.sent) t.1
  join_same v place e (made.Worn f) r w t = ap (λ (c : Core). c.sent) t.1
  join_same v place e (made.OutOfMemory f) r w t = ap (λ (c : Core). c.sent) t.1

  tried_same : (v : Life P S) (e : Entry) (r : Result Bool HttpEnd) (w : Life P S) → IsTried asks v e r w → Same v.parts w.parts
  tried_same v e r w t = join_same v t.place e t.came r w t.became

  after_join_same : (r : Result Bool HttpEnd) (m : Life P S) (a : HttpTurn) (w : Life P S) → AfterJoin asks r m a w → Same m.parts w.parts
  after_join_same (Ok b) m a w t = taken_same m true a w t
  after_join_same (Err e) m a w t = ended_same e m a w t

  joined_same : (o : Option Entry) (v : Life P S) (a : HttpTurn) (w : Life P S) → JoinedBy asks o v a w → Same v.parts w.parts
  joined_same None v a w t = taken_same v true a w t
  joined_same (Some e) v a w t = after_join_same t.0 t.1.0 a w t.1.1.1 ∙ tried_same v e t.0 t.1.0 t.1.1.0

  module _ (desk : Ask → Grant) where
    heard_by_same : (b : List ℕ) (v : Life P S) (a : HttpTurn) (w : Life P S) → HeardBy asks desk b v a w → Same v.parts w.parts
    heard_by_same b v a w (inl t) = joined_same t.0.kept (life t.0 v.port v.seat) a w t.1.1 ∙ ap (λ (c : Core). c.sent) t.1.0.rest
    heard_by_same b v a w (inr t) = ended_same _ (life t.0 v.port v.seat) a w t.1.1 ∙ unheard_same v.parts b t.0 t.1.0

    dropped_same : (b : List ℕ) (v : Life P S) (a : HttpTurn) (w : Life P S) → DroppedBy asks desk b v a w → Same v.parts w.parts
    dropped_same b v a w t = taken_same (life t.0 v.port v.seat) true a w t.1.1 ∙ ap (λ (c : Core). c.sent) t.1.0

    read_same : (s : Stage) (b : List ℕ) (v : Life P S) (a : HttpTurn) (w : Life P S) → ReadBy asks desk s b v a w → Same v.parts w.parts
    read_same stage.Reading b v a w t = heard_by_same b v a w t
    read_same (stage.Joining place) b v a w t = dropped_same b v a w t
    read_same (stage.Telling r) b v a w t = dropped_same b v a w t
    read_same (stage.Playing place player) b v a w t = dropped_same b v a w t

    came_same : (came : Came) (v : Life P S) (moved : Bool) (a : HttpTurn) (w : Life P S) → CameAs asks desk came v moved a w → Same v.parts w.parts
    came_same (CameBytes b) v moved a w t = read_same v.parts.stage b v a w t
    came_same CameNotYet v moved a w t = taken_same v moved a w t
    came_same CameEnd v moved a w t = ended_same _ v a w t
    came_same CameFailed v moved a w t = ended_same _ v a w t

    input_took : (v : Life P S) (l : MemLinkState) (moved : Bool) (a : HttpTurn) (w : Life P S) (m : MemLinkState)
        → Input asks desk MemHears v l moved a w m → Took v.parts l → Took w.parts m
    input_took v l moved a w m t k = heard_same l 4096 t.0 m t.1.0 ∙ k ∙ sym (came_same t.0 v moved a w t.1.1)

    ended_took : (e : HttpEnd) (v : Life P S) (l : MemLinkState) (a : HttpTurn) (w : Life P S) (m : MemLinkState) → IsEnded e v a w × (m ≡ l)
        → Took v.parts l → Took w.parts m
    ended_took e v l a w m t k = ap (λ (x : MemLinkState). x.sent) t.1 ∙ k ∙ sym (ended_same e v a w t.0)

    told_took : (o : Option ℕ) (v : Life P S) (l : MemLinkState) (a : HttpTurn) (w : Life P S) (m : MemLinkState)
        → ToldBy asks desk MemHears MemSays o v l a w m → Took v.parts l → Took w.parts m
    told_took None v l a w m t k = input_took v l true a w m t k
    told_took (Some code) v l a w m t k = ended_took _ v l a w m t k

    sent_as_took : (q : Said) (v : Life P S) (l k : MemLinkState) (moved : Bool) (a : HttpTurn) (w : Life P S) (m : MemLinkState)
        → MemSays l (take 16384 v.parts.out.left) q k → SentAs asks desk MemHears MemSays q v k moved a w m
        → Took v.parts l → Took w.parts m
    sent_as_took (said.Took n) v l k moved a w m s t h =
        let sent : Took t.0 k = said_took l v.parts.out.left n k s ∙ ap (λ (b : List ℕ). b ++ take n v.parts.out.left) h
        ∙ sym (ap (λ (c : Core). c.sent) t.1.0.rest) in
        told_took (told t.0) (life t.0 v.port v.seat) k a w m t.1.1 sent
    sent_as_took said.NotYet v l k moved a w m s t h = input_took v k moved a w m t (ap (λ (x : MemLinkState). x.sent) s.2 ∙ h)
    sent_as_took said.Failed v l k moved a w m s t h = ended_took _ v k a w m t (ap (λ (x : MemLinkState). x.sent) s.1 ∙ h)
    sent_as_took said.OutOfMemory v l k moved a w m s t h = ended_took _ v k a w m t (ap (λ (x : MemLinkState). x.sent) s.2 ∙ h)

    send_took : (b : Bool) (v : Life P S) (l : MemLinkState) (moved : Bool) (a : HttpTurn) (w : Life P S) (m : MemLinkState)
        → SendBy asks desk MemHears MemSays b v l moved a w m → Took v.parts l → Took w.parts m
    send_took true v l moved a w m t h = input_took v l moved a w m t h
    send_took false v l moved a w m t h = sent_as_took t.0 v l t.1.0 moved a w m t.1.1.0 t.1.1.1 h

    sent_took : (v : Life P S) (l : MemLinkState) (moved : Bool) (a : HttpTurn) (w : Life P S) (m : MemLinkState)
        → Sent asks desk MemHears MemSays v l moved a w m → Took v.parts l → Took w.parts m
    sent_took v l moved a w m t h = send_took (is_nil v.parts.out.left) v l moved a w m t h

    after_kept_took : (r : Result Bool HttpEnd) (k : Life P S) (l : MemLinkState) (a : HttpTurn) (w : Life P S) (m : MemLinkState)
        → AfterKept asks desk MemHears MemSays r k l a w m → Took k.parts l → Took w.parts m
    after_kept_took (Ok true) k l a w m t h = sent_took k l true a w m t h
    after_kept_took (Ok false) k l a w m t h = ap (λ (x : MemLinkState). x.sent) t.2 ∙ h ∙ sym (ap (λ (x : Life P S). x.parts.sent) t.1)
    after_kept_took (Err e) k l a w m t h = ended_took e k l a w m t h

    kept_on_took : (o : Option Entry) (v : Life P S) (l : MemLinkState) (a : HttpTurn) (w : Life P S) (m : MemLinkState)
        → KeptOn asks desk MemHears MemSays o v l a w m → Took v.parts l → Took w.parts m
    kept_on_took None v l a w m t h = sent_took v l false a w m t h
    kept_on_took (Some e) v l a w m t h = after_kept_took t.0 t.1.0 l a w m t.1.1.1 (h ∙ sym (tried_same v e t.0 t.1.0 t.1.1.0))

    walk_took : (o : Option HttpEnd) (v : Life P S) (l : MemLinkState) (a : HttpTurn) (w : Life P S) (m : MemLinkState)
        → EndedBy asks desk MemHears MemSays o v l a w m → Took v.parts l → Took w.parts m
    walk_took None v l a w m t h = kept_on_took v.parts.kept v l a w m t h
    walk_took (Some e) v l a w m t h = ap (λ (x : MemLinkState). x.sent) t.2 ∙ h ∙ sym (ap (λ (x : Life P S). x.parts.sent) t.1)

-- AFTER A TURN the link took what the player sent, if it had before
pub player_took : (desk : Ask → Grant) (o : Option HttpEnd) (v : Life SoleState (SeatState SeenState)) (l : MemLinkState) (a : HttpTurn)
    (w : Life SoleState (SeatState SeenState)) (m : MemLinkState)
    → EndedBy SoleAsks desk MemHears MemSays o v l a w m → l.sent ≡ v.parts.sent → m.sent ≡ w.parts.sent
player_took desk o v l a w m t h = walk_took SoleAsks desk o v l a w m t h

-- ---- a client

abbrev ClientTook : ClientCore → MemLinkState → Type 0
ClientTook c l = l.sent ≡ c.sent

fed_sent : (by : pulling.FedBy) (v w : pulling.Life) (moved : Bool) (a : Result Bool ClientEnd) → pulling.FedAs by v moved a w → w.parts.sent ≡ v.parts.sent
fed_sent pulling.Quietly v w moved a t = ap (λ (f : Fixed). f.sent) t.0.fixed
fed_sent pulling.Loudly v w moved a t = ap (λ (f : Fixed). f.sent) t.0.fixed
fed_sent (pulling.Stopping e) v w moved a t = ap (λ (f : Fixed). f.sent) t.0.fixed

gone_sent : (e : ClientEnd) (v w : pulling.Life) (a : Result Bool ClientEnd) → pulling.IsEnded e v a w → w.parts.sent ≡ v.parts.sent
gone_sent e v w a i = ap (λ (g : pulling.Gone). g.sent) i.gone

came_sent : (came : Came) (v w : pulling.Life) (moved : Bool) (a : Result Bool ClientEnd) → pulling.CameAs came v moved a w → w.parts.sent ≡ v.parts.sent
came_sent (CameBytes b) v w moved a (inl t) = fed_sent t.0 (pulling.life v.parts b) w true a t.1
came_sent (CameBytes b) v w moved a (inr t) = gone_sent _ v w a t
came_sent CameNotYet v w moved a t = ap (λ (x : pulling.Life). x.parts.sent) t.1
came_sent CameEnd v w moved a t = gone_sent _ v w a t
came_sent CameFailed v w moved a t = gone_sent _ v w a t

empty_link : (b : Bool) (v w : pulling.Life) (l m : MemLinkState) (moved : Bool) (a : Result Bool ClientEnd) → pulling.EmptyBy MemHears b v l moved a w m
    → ClientTook v.parts l → ClientTook w.parts m
empty_link true v w l m moved a t k = heard_same l 4096 t.0 m t.1.0 ∙ k ∙ sym (came_sent t.0 v w moved a t.1.1)
empty_link false v w l m moved a t k = ap (λ (x : MemLinkState). x.sent) t.1 ∙ k ∙ sym (fed_sent t.0.0 v w moved a t.0.1)

input_link : (b : Bool) (v w : pulling.Life) (l m : MemLinkState) (moved : Bool) (a : Result Bool ClientEnd) → pulling.InputBy MemHears b v l moved a w m
    → ClientTook v.parts l → ClientTook w.parts m
input_link true v w l m moved a t k = empty_link (pulling.is_nil v.input) v w l m moved a t k
input_link false v w l m moved a t k = ap (λ (x : MemLinkState). x.sent) t.2 ∙ k ∙ sym (ap (λ (x : pulling.Life). x.parts.sent) t.1)

gone_link : (e : ClientEnd) (v w : pulling.Life) (l m : MemLinkState) (a : Result Bool ClientEnd) → pulling.IsEnded e v a w × (m ≡ l)
    → ClientTook v.parts l → ClientTook w.parts m
gone_link e v w l m a t k = ap (λ (x : MemLinkState). x.sent) t.1 ∙ k ∙ sym (gone_sent e v w a t.0)

done_link : (b : Bool) (v w : pulling.Life) (l m : MemLinkState) (moved : Bool) (a : Result Bool ClientEnd) → pulling.DoneBy MemHears b v l moved a w m
    → ClientTook v.parts l → ClientTook w.parts m
done_link true v w l m moved a t k = gone_link _ v w l m a t k
done_link false v w l m moved a t k = input_link (pulling.is_hungry v.parts) v w l m moved a t k

said_link : (q : Said) (v w : pulling.Life) (l k m : MemLinkState) (a : Result Bool ClientEnd) → MemSays l (take 16384 v.parts.outgoing.pending) q k
    → pulling.SentAs MemHears MemSays q v k a w m → ClientTook v.parts l → ClientTook w.parts m
said_link (said.Took n) v w l k m a s t h =
    let sent : ClientTook t.0 k = said_took l v.parts.outgoing.pending n k s ∙ ap (λ (b : List ℕ). b ++ take n v.parts.outgoing.pending) h
    ∙ sym (ap (λ (p : Past). p.sent) t.1.0.past) in
    done_link (pulling.is_done t.0) (pulling.life t.0 v.input) w k m true a t.1.1 sent
said_link said.NotYet v w l k m a s t h = done_link (pulling.is_done v.parts) v w k m false a t (ap (λ (x : MemLinkState). x.sent) s.2 ∙ h)
said_link said.Failed v w l k m a s t h = gone_link _ v w k m a t (ap (λ (x : MemLinkState). x.sent) s.1 ∙ h)
said_link said.OutOfMemory v w l k m a s t h = gone_link _ v w k m a t (ap (λ (x : MemLinkState). x.sent) s.2 ∙ h)

send_link : (b : Bool) (v w : pulling.Life) (l m : MemLinkState) (a : Result Bool ClientEnd) → pulling.SendBy MemHears MemSays b v l a w m
    → ClientTook v.parts l → ClientTook w.parts m
send_link true v w l m a t h = done_link (pulling.is_done v.parts) v w l m false a t h
send_link false v w l m a t h = said_link t.0 v w l t.1.0 m a t.1.1.0 t.1.1.1 h

client_link : (o : Option ClientEnd) (v w : pulling.Life) (l m : MemLinkState) (a : Result Bool ClientEnd) → pulling.EndedBy MemHears MemSays o v l a w m
    → ClientTook v.parts l → ClientTook w.parts m
client_link (Some e) v w l m a t h = ap (λ (x : MemLinkState). x.sent) t.2 ∙ h ∙ sym (ap (λ (x : pulling.Life). x.parts.sent) t.1)
client_link None v w l m a t h = send_link (pulling.is_nil v.parts.outgoing.pending) v w l m a t h

-- ---- an edge

told_sent : (t : ClientTurn) (c : EdgeCore) (b : ClientState) (a : EdgeTurn) (d : EdgeCore) (j : ClientState) → edge.ToldAs t c b a d j
    → j.parts.sent ≡ b.parts.sent
told_sent client_turn.Moved c b a d j t = ap (λ (x : ClientCore). x.sent) t.0.parts
told_sent client_turn.Idle c b a d j t = ap (λ (x : ClientCore). x.sent) t.0.parts
told_sent client_turn.Ended c b a d j t = ap (λ (x : ClientState). x.parts.sent) t.1

by_took : (ws : List Entry) (v w : edge.Life SoleState (SeatState SeenState)) (l m : MemLinkState) (a : EdgeTurn)
    → edge.TurnBy SoleAsks (edge.ClientTurns MemHears MemSays) ws v l a w m → ClientTook v.client.parts l → ClientTook w.client.parts m
by_took [] v w l m a t h =
    client_link v.client.ended (life_of v.client) (life_of t.0.between) l m t.0.turned.comes t.0.turned.made h
    ∙ sym (told_sent t.0.answer v.parts t.0.between a w.parts w.client t.0.told)
by_took (e ∷ rest) v w l m a t h = ap (λ (x : MemLinkState). x.sent) t.1 ∙ h ∙ sym (ap (λ (k : ClientState). k.parts.sent) t.0.client)

-- AFTER A TURN the link took what the edge's client sent, if it had before
pub edge_took : (o : Option EdgeEnd) (v : edge.Life SoleState (SeatState SeenState)) (l : MemLinkState) (a : EdgeTurn)
    (w : edge.Life SoleState (SeatState SeenState)) (m : MemLinkState)
    → edge.EndedBy SoleAsks (edge.ClientTurns MemHears MemSays) o v l a w m → l.sent ≡ v.client.parts.sent → m.sent ≡ w.client.parts.sent
edge_took (Some e) v l a w m t h = ap (λ (x : MemLinkState). x.sent) t.2 ∙ h
    ∙ sym (ap (λ (x : edge.Life SoleState (SeatState SeenState)). x.client.parts.sent) t.1)
edge_took None v l a w m t h = by_took (waiting v.parts) v w l m a t h
