-- A client between two turns: what it takes and what it was told
use Rattle.std.proofs.Common.{◌≡◌, ◌≤◌, ◌++◌, ◌&&◌, ◌==◌, if◌then◌else◌, ℕ, Bool, true, false, List, [], ◌∷◌, length, Option, Some, None, Result, Ok, Err, refl, sym, ap, ◌∙◌, subst, append-nil}
use Rattle.std.specs.Prelude.{IfSome, drop, codes}
use Rattle.chunk_reader.specs.Laws.{AreShort}
use Rattle.chunk_reader.specs.Reads.{Reads}
use Rattle.chunk_wire.specs.State.{State}
use Rattle.chunk_wire.specs.declared.message.Message.{Message}
use Rattle.flv_tags.specs.Layout.{is_kind}
use Rattle.relay_outside.specs.Told.{LinkCounts, LinkTold}
use Rattle.rtmp_command.specs.declared.command.CommandFail.{CommandFail}
use Rattle.session_owed.specs.Talk.{hand_bytes}
use Rattle.client_owed.specs.declared.types.Asked.{Asked}
use Rattle.client_owed.specs.declared.types.Gift.{Gift}
use Rattle.client_owed.specs.declared.types.Gift.TheVariants as gift
use Rattle.client_owed.specs.declared.types.News.{News}
use Rattle.client_owed.specs.declared.types.News.TheVariants as news
use Rattle.client_owed.specs.declared.types.Phase.{Phase}
use Rattle.client_owed.specs.declared.types.Phase.TheVariants.{Connecting, Creating, Asking, Started}
use Rattle.client_owed.specs.declared.types.Wish.{Wish}
use Rattle.client_owed.specs.declared.types.Wish.TheVariants as wish
use Rattle.client_owed.specs.Client.{does}
use Rattle.client_owed.specs.News.{is_text, news_in}
use Rattle.client_owed.specs.Pulled.{gift_for, gift_in, pulled, pulled_from, tag_of, tag_on, told_in}
use Rattle.client_owed.specs.Standing.{Stands, gift_now, listed}
use Rattle.client_owed.proofs.Standing.{stands_taken}
use Rattle.rtmp_client.specs.Bounds.{IsInput}
use Rattle.rtmp_client.specs.ClientState.{ClientState, StandsBy, StandsSo, TurnMade, lasting_of, Lasting, without_gift}
use Rattle.rtmp_client.specs.Keeping.{StandsNow, keeps_of, past_of}
use Rattle.rtmp_client.specs.Turns.{Life, end_of, turn_of}
use Rattle.rtmp_client.specs.declared.core_fields.Core.{Core}
use Rattle.rtmp_client.specs.declared.end.ClientEnd.{ClientEnd}
use Rattle.rtmp_client.specs.declared.end.ClientTurn.{ClientTurn}
use Rattle.client_command.specs.Runs.{most_message, most_received}
use Rattle.client_command.specs.Telling.{AreFine, IsFine}
use Rattle.client_command.specs.Traffic.{Passed}
use Rattle.client_command.specs.Turned.{IsLive, Runs, StillLives}

-- ---- gifts can be written

fine_more : (gs hs : List Gift) → AreFine gs → AreFine hs → AreFine (gs ++ hs)
fine_more [] hs a b = b
fine_more (g ∷ gs) hs a b = (a.0, fine_more gs hs a.1 b)

fine_last : (gs : List Gift) (g : Gift) → AreFine (gs ++ g ∷ []) → IsFine g
fine_last [] g a = a.0
fine_last (x ∷ gs) g a = fine_last gs g a.1

told_fine : (r : Result News CommandFail) → AreFine (told_in r)
told_fine (Ok (news.Status code)) = by_code (is_text code (codes "NetStream.Play.PublishNotify")) (is_text code (codes "NetStream.Play.UnpublishNotify"))
  where
    by_code : (a b : Bool) → AreFine (if a then gift.Published ∷ [] else (if b then gift.Unpublished ∷ [] else []))
    by_code true b = (tt, tt)
    by_code false true = (tt, tt)
    by_code false false = tt
told_fine (Ok (news.Refused code description)) = tt
told_fine (Ok (news.Done transaction number)) = tt
told_fine (Ok news.Other) = tt
told_fine (Err e) = tt

tag_fine : (a b : Bool) (m : Message) → is_kind m.kind ≡ a → length m.body ≤ most_message → AreFine (if a && b then gift.Tag (tag_of m) ∷ [] else [])
tag_fine true true m e le = (record { kind = e; fits = le }, tt)
tag_fine true false m e le = tt
tag_fine false b m e le = tt

kind_fine : (b : Bool) (id : ℕ) (m : Message) → length m.body ≤ most_message → AreFine (if b then told_in (news_in m.body) else tag_on id m)
kind_fine true id m le = told_fine (news_in m.body)
kind_fine false id m le = tag_fine (is_kind m.kind) (m.stream == id) m refl le

gift_fine : (p : Phase) (m : Message) → length m.body ≤ most_message → AreFine (gift_in p m)
unfolding gift_in
gift_fine (Started id) m le = kind_fine (m.kind == 20) id m le
gift_fine Connecting m le = tt
gift_fine Creating m le = tt
gift_fine (Asking id) m le = tt

wish_fine : (w : Wish) (p : Phase) (m : Message) → length m.body ≤ most_message → AreFine (gift_for w p m)
wish_fine wish.Push p m le = tt
wish_fine wish.Pull p m le = gift_fine p m le

pulled_fine : (k : Asked) (p : Phase) (ms : List (ℕ × Message)) → AreShort most_message ms → AreFine (pulled_from k p ms)
unfolding pulled_from
pulled_fine k p [] a = tt
pulled_fine k p (m ∷ ms) a = fine_more (gift_for k.wish p m.1) (pulled_from k (does k p m.1).phase ms) (wish_fine k.wish p m.1 a.0) (pulled_fine k (does k p m.1).phase ms a.1)

module _ (short : (max : ℕ) (b : List ℕ) (ms : List (ℕ × Message)) (s : State) (r : List ℕ) → Reads max b ms s r → AreShort max ms) where
  one_fine : (c : Core) (g : Gift) → c.reader.max ≡ most_message → StandsSo c → c.gift ≡ Some g → IsFine g
  one_fine c g mx s e =
      let few : AreShort most_message c.reader.given = subst (λ (x : ℕ). AreShort x c.reader.given) mx (short c.reader.max (drop hand_bytes c.y) c.reader.given s.read.s s.read.r s.read.reads) in
      let all : AreFine (pulled c.asked c.reader.given) = pulled_fine c.asked Connecting c.reader.given few in
      let told : c.taken ++ g ∷ [] ≡ pulled c.asked c.reader.given = ap (λ (x : Option Gift). c.taken ++ listed x) (sym e) ∙ s.stands.told in
      fine_last c.taken g (subst AreFine (sym told) all)

  pub taken_fine : (c : ClientState) (o : Option Gift) → o ≡ c.parts.gift → IsLive c → IfSome o IsFine
  taken_fine c None e l = tt
  taken_fine c (Some g) e l = one_fine c.parts g l.max l.stands (sym e)

-- ---- a gift is taken

told_taken : (taken : List Gift) (g : Option Gift) (l : List Gift) → taken ++ listed g ≡ l → (taken ++ listed g) ++ [] ≡ l
told_taken taken g l e = append-nil (taken ++ listed g) ∙ e

stands_without : (c : Core) (g : Option Gift) → c.gift ≡ g → StandsNow c → StandsNow (without_gift c)
stands_without c (Some x) e s =
    let t = stands_taken c.asked c.reader.max (past_of c) (keeps_of c) x e s in
    subst (λ (l : List Gift). Stands c.asked c.reader.max (record { y = c.y; ms = c.reader.given; gave = c.gave; sent = c.sent; taken = c.taken ++ l }) (gift_now (keeps_of c) None)) (sym (ap listed e)) t
stands_without c None e s = record {
  early = λ l. let y = s.early l in record { messages = y.messages; gave = y.gave };
  reaches = s.reaches;
  owes = s.owes;
  writer = s.writer;
  window = s.window;
  phase = s.phase;
  given = s.given;
  finished = s.finished;
  told = told_taken c.taken c.gift (pulled c.asked c.reader.given) s.told;
}

so_without : (c : Core) → StandsSo c → StandsSo (without_gift c)
so_without c s = record { read = s.read; stands = stands_without c c.gift refl s.stands }

pub live_without : (c d : ClientState) → d.parts ≡ without_gift c.parts → (d.input ≡ c.input) × (d.ended ≡ c.ended) → IsLive c → IsLive d
live_without c d e f l = record {
  lives = f.1 ∙ l.lives;
  short = subst (λ (x : List ℕ). length x ≤ most_received) (sym f.0) l.short;
  max = ap (λ (x : Core). x.reader.max) e ∙ l.max;
  stands = subst StandsSo (sym e) (so_without c.parts l.stands);
}

pub runs_without : (k : Asked) (c d : ClientState) (start now : Option LinkTold) (n m : LinkCounts) → d.parts ≡ without_gift c.parts → (d.input ≡ c.input) × (d.ended ≡ c.ended) → Runs k c start now n m → Runs k d start now n m
runs_without k c d start now n m e f r = record {
  live = live_without c d e f r.live;
  asked = ap (λ (x : Core). x.asked) e ∙ r.asked;
  passed = subst (λ (x : List ℕ). Passed (d.parts.y ++ x) d.parts.sent start now) (sym f.0) (subst (λ (x : Core). Passed (x.y ++ c.input) x.sent start now) (sym e) r.passed);
  friendly = subst (λ (x : Core). Rattle.client_command.specs.Runs.AreFriendly x.reader.given) (sym e) r.friendly;
  calm = r.calm;
}

-- ---- a turn leaves it so

input_now : (d : ClientState) → d.ended ≡ None → IsInput d.ended d.input → length d.input ≤ most_received
input_now d e i = subst (λ (x : Option ClientEnd). IsInput x d.input) e i

live_now : (a : Result Bool ClientEnd) (c d : ClientState) → d.ended ≡ end_of a → StandsBy d.ended d.parts → lasting_of d.parts ≡ lasting_of c.parts → IsInput d.ended d.input → IsLive c → StillLives (turn_of a) d
live_now (Ok true) c d e s la i l = record { lives = e; max = ap (λ (x : Lasting). x.max) la ∙ l.max; short = input_now d e i; stands = subst (λ (x : Option ClientEnd). StandsBy x d.parts) e s }
live_now (Ok false) c d e s la i l = record { lives = e; max = ap (λ (x : Lasting). x.max) la ∙ l.max; short = input_now d e i; stands = subst (λ (x : Option ClientEnd). StandsBy x d.parts) e s }
live_now (Err f) c d e s la i l = tt

pub live_turned : {L : Type 0} (Turns : Option ClientEnd → Life → L → Result Bool ClientEnd → Life → L → Type 0) (answer : ClientTurn) (c d : ClientState) (l m : L) → TurnMade Turns c l answer d m → StandsBy d.ended d.parts
    → lasting_of d.parts ≡ lasting_of c.parts → IsInput d.ended d.input → IsLive c → StillLives answer d
live_turned {L} Turns answer c d l m t s la i live = subst (λ (x : ClientTurn). StillLives x d) (sym t.answered) (live_now t.comes c d t.ended s la i live)
