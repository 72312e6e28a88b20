-- What a turn of a client comes to, over what its link tells
use Rattle.std.proofs.Common.{◌≡◌, ◌⊎◌, inl, inr, ◌<◌, ◌≤◌, ◌-◌, ◌==◌, ◌&&◌, if◌then◌else◌, ℕ, Bool, true, false, List, [], ◌∷◌, ◌++◌, length, take, drop, Option, Some, None, Result, Ok, Err, refl, sym, ap, ◌∙◌, subst, arith, append_assoc, append-nil, length-append}
use Rattle.std.proofs.lemmas.List.{length-take, take-append-drop, take-take}
use Rattle.relay_outside.specs.Counts.{Rose}
use Rattle.relay_outside.specs.Heard.{Came, CameBytes, CameEnd, CameFailed, CameNotYet, HearStep}
use Rattle.relay_outside.specs.Said.{SayStep}
use Rattle.relay_outside.specs.Told.{LinkCounts, LinkTold}
use Rattle.relay_outside.specs.declared.link.Said.{Said}
use Rattle.relay_outside.specs.declared.link.Said.TheVariants as said
use Rattle.ack_window.specs.Controls.{control_in}
use Rattle.ack_window.specs.declared.control.Control.{Control}
use Rattle.ack_window.specs.declared.control.BadControl.{BadControl}
use Rattle.chunk_reader.proofs.Reading.{reads_nothing}
use Rattle.chunk_reader.specs.ReaderKnown.{ReaderKnown}
use Rattle.chunk_reader.specs.Sound.{IsRead}
use Rattle.chunk_wire.specs.declared.message.Message.{Message}
use Rattle.rtmp_command.specs.declared.command.CommandFail.{CommandFail}
use Rattle.rtmp_command.specs.declared.command.CommandFail.TheVariants as command
use Rattle.session_owed.specs.Talk.{hand_bytes}
use Rattle.client_owed.specs.declared.types.Asked.{Asked}
use Rattle.client_owed.specs.declared.types.News.{News}
use Rattle.client_owed.specs.declared.types.News.TheVariants as news
use Rattle.client_owed.specs.News.{news_in}
use Rattle.client_owed.specs.Owed.{AreGiven, out}
use Rattle.client_owed.specs.Pulled.{pulled, pulled_from}
use Rattle.client_owed.specs.Standing.{Keeps, Past, count_of}
use Rattle.rtmp_client.specs.Bounds.{IsInput}
use Rattle.rtmp_client.specs.ClientState.{ClientState, Lasting, StandsBy, TurnMade, lasting_of, life_of}
use Rattle.rtmp_client.specs.Feeding.{Decides, Fixed, Heard, Hears, IsFed, IsSent}
use Rattle.rtmp_client.specs.Refusing.{ended_by, refused, refused_by}
use Rattle.rtmp_client.specs.Turns.{CameAs, DoneBy, EmptyBy, EndedBy, Fed, FedAs, FedBy, Quietly, Loudly, Stopping, InputBy, IsEnded, Life, SendBy, SentAs, end_of, is_done, is_hungry, is_nil, life, turn_of}
use Rattle.rtmp_client.specs.declared.core_fields.Core.{Core}
use Rattle.rtmp_client.specs.declared.end.ClientEnd.{ClientEnd}
use Rattle.rtmp_client.specs.declared.end.ClientEnd.TheVariants as end
use Rattle.rtmp_client.specs.declared.end.ClientTurn.{ClientTurn}
use Rattle.client_command.specs.Closing.{client_how}
use Rattle.client_command.specs.Ends.{How, Whole, ByClient, ByFilm, BySource, BySink, ByMemory}
use Rattle.client_command.specs.Runs.{AreFriendly, Causes, HasRun, IsUnfed, most_message, most_received}
use Rattle.client_command.specs.Traffic.{IsCalm, Passed}
use Rattle.client_command.specs.Turned.{IsDone, IsLive, IsNew, Runs, Stopped, Turned, gifts_of}
use Rattle.client_command.proofs.Passing.{calm_here, calm_then, passed_as, passed_given, passed_same, passed_taken, passed_then}

-- ---- a message that ends no client does so at each place

ended_anywhere : (at : ℕ) (r : Result News CommandFail) → ended_by at r ≡ None → ended_by 0 r ≡ None
ended_anywhere at (Ok (news.Refused code description)) e = absurd (cc)
ended_anywhere at (Ok (news.Done transaction number)) e = refl
ended_anywhere at (Ok (news.Status code)) e = refl
ended_anywhere at (Ok news.Other) e = refl
ended_anywhere at (Err (command.BadCommand place)) e = absurd (cc)
ended_anywhere at (Err command.OutOfMemory) e = absurd (cc)

kind_anywhere : (b : Bool) (at : ℕ) (r : Result News CommandFail) → (if b then ended_by at r else None) ≡ None → (if b then ended_by 0 r else None) ≡ None
kind_anywhere true at r e = ended_anywhere at r e
kind_anywhere false at r e = refl

refused_anywhere : (at : ℕ) (m : Message) (r : Result (Option Control) BadControl) → refused_by at m r ≡ None → refused_by 0 m r ≡ None
refused_anywhere at m (Ok None) e = kind_anywhere (m.kind == 20) at (news_in m.body) e
refused_anywhere at m (Ok (Some control)) e = refl
refused_anywhere at m (Err f) e = absurd (cc)

friendly_there : (at : ℕ) (m : Message) → refused at m ≡ None → refused 0 m ≡ None
unfolding refused
friendly_there at m e = refused_anywhere at m (control_in m) e

pub friendly_more : (ms : List (ℕ × Message)) (n at : ℕ) (m : Message) → AreFriendly ms → refused at m ≡ None → AreFriendly (ms ++ (n, m) ∷ [])
friendly_more [] n at m a e = (friendly_there at m e, tt)
friendly_more (x ∷ ms) n at m a e = (a.0, friendly_more ms n at m a.1 e)

-- ---- why it ends

causes_calm : (e : ClientEnd) (ms : List (ℕ × Message)) (all : List ℕ) (n m o : LinkCounts) → IsCalm n m → Causes e ms all m o → Causes e ms all n o
causes_calm end.PeerClosed ms all n m o c h = (subst (λ (x : ℕ). Rose x o.ends) c.ends h.0, h.1 ∙ c.faults)
causes_calm end.LinkFault ms all n m o c h = (subst (λ (x : ℕ). Rose x o.faults) c.faults h.0, h.1 ∙ c.ends)
causes_calm (end.BadVersion at) ms all n m o c h = (h.0, calm_then n m o c h.1)
causes_calm (end.BadChunk cause at) ms all n m o c h = (h.0, calm_then n m o c h.1)
causes_calm (end.BadControl at) ms all n m o c h = (h.0, calm_then n m o c h.1)
causes_calm (end.BadCommand at) ms all n m o c h = (h.0, calm_then n m o c h.1)
causes_calm (end.Refused code description) ms all n m o c h = (h.0, calm_then n m o c h.1)
causes_calm end.Done ms all n m o c h = h
causes_calm end.OutOfMemory ms all n m o c h = calm_then n m o c h

decided_why : (e : ClientEnd) (ms : List (ℕ × Message)) (all : List ℕ) (n : ℕ) (x y : LinkCounts) → Decides most_message ms all n e → IsCalm x y → Causes e ms all x y
decided_why end.PeerClosed ms all n x y d c = absurd d
decided_why end.LinkFault ms all n x y d c = absurd d
decided_why (end.BadVersion at) ms all n x y d c = ((n, d), c)
decided_why (end.BadChunk cause at) ms all n x y d c = ((n, d), c)
decided_why (end.BadControl at) ms all n x y d c = ((n, d), c)
decided_why (end.BadCommand at) ms all n x y d c = ((n, d), c)
decided_why (end.Refused code description) ms all n x y d c = ((n, d), c)
decided_why end.Done ms all n x y d c = absurd d
decided_why end.OutOfMemory ms all n x y d c = c

-- ---- what it wasn't fed

abbrev pub client_in : How → ClientEnd
client_in (ByClient e) = e
client_in Whole = end.Done
client_in (ByFilm at) = end.Done
client_in BySource = end.Done
client_in BySink = end.Done
client_in ByMemory = end.Done

-- these are other ends
pub done_open : end.Done ≡ end.PeerClosed → ⊥
done_open q = cc

fault_open : end.LinkFault ≡ end.PeerClosed → ⊥
fault_open q = cc

memory_open : end.OutOfMemory ≡ end.PeerClosed → ⊥
memory_open q = cc

-- where the server hasn't closed the link
pub unfed_by : (how : How) (rest : List ℕ) → (client_in how ≡ end.PeerClosed → ⊥) → length rest ≤ most_received → IsUnfed how rest
unfed_by how rest n few = record { few = few; none = λ e. absurd (n (ap client_in e)) }

abbrev LeavesUnfed : Result Bool ClientEnd → List ℕ → Type 0
LeavesUnfed (Ok moved) rest = Unit {0}
LeavesUnfed (Err e) rest = IsUnfed (ByClient e) rest

fed_unfed : (by : FedBy) (c : Core) (input rest : List ℕ) (moved : Bool) (a : Result Bool ClientEnd) (w : Life) → length rest ≤ most_received → FedAs by (life c input) moved a w → LeavesUnfed a rest
fed_unfed Quietly c input rest moved a w few f = subst (λ (x : Result Bool ClientEnd). LeavesUnfed x rest) (sym f.3) tt
fed_unfed Loudly c input rest moved a w few f = subst (λ (x : Result Bool ClientEnd). LeavesUnfed x rest) (sym f.3) tt
fed_unfed (Stopping e) c input rest moved a w few f =
    let open_is : e ≡ end.PeerClosed → ⊥ = λ h. subst (Decides c.reader.max c.reader.given (c.y ++ input) (length w.parts.y)) h f.0.cause in
    subst (λ (x : Result Bool ClientEnd). LeavesUnfed x rest) (sym f.1) (unfed_by (ByClient e) rest open_is few)

-- ---- the steps of a turn, the last first

-- a client with these bytes before it came to that, where these are all
abbrev Ways : Result Bool ClientEnd → Core → Life → List ℕ → LinkCounts → LinkCounts → Type 0
Ways (Ok moved) c w all n n' = (w.parts.y ++ w.input ≡ all) × (w.parts.sent ≡ c.sent) × (AreFriendly c.reader.given → AreFriendly w.parts.reader.given) × IsCalm n n'
Ways (Err e) c w all n n' = IsDone e c c.outgoing.pending n n' ⊎ Causes e c.reader.given all n n'

friendly_heard : (b : Bool) (c d : Core) → Hears c d b → AreFriendly c.reader.given → AreFriendly d.reader.given
friendly_heard false c d h a = subst AreFriendly (sym (ap (λ (x : Heard). x.given) h)) a
friendly_heard true c d h a = subst AreFriendly (sym h.1.given) (friendly_more c.reader.given (count_of d.y) (length d.y - 1) h.0 a h.1.passed)

fed_all : (c d : Core) (input left : List ℕ) → IsFed c input d left → d.y ++ left ≡ c.y ++ input
fed_all c d input left f = ap (λ (l : List ℕ). l ++ left) f.y ∙ append_assoc c.y f.fed left ∙ ap (λ (l : List ℕ). c.y ++ l) f.split

fed_ways : (by : FedBy) (c : Core) (input : List ℕ) (moved : Bool) (a : Result Bool ClientEnd) (w : Life) (n n' : LinkCounts) → c.reader.max ≡ most_message → IsCalm n n' → FedAs by (life c input) moved a w → Ways a c w (c.y ++ input) n n'
fed_ways Quietly c input moved a w n n' mx calm f =
    let all : w.parts.y ++ w.input ≡ c.y ++ input = ap (λ (l : List ℕ). w.parts.y ++ l) f.2 ∙ fed_all c w.parts input [] f.0 in
    subst (λ (x : Result Bool ClientEnd). Ways x c w (c.y ++ input) n n') (sym f.3)
    (all, ap (λ (x : Fixed). x.sent) f.0.fixed, friendly_heard false c w.parts f.1, calm)
fed_ways Loudly c input moved a w n n' mx calm f =
    subst (λ (x : Result Bool ClientEnd). Ways x c w (c.y ++ input) n n') (sym f.3)
    (fed_all c w.parts input w.input f.0, ap (λ (x : Fixed). x.sent) f.0.fixed, friendly_heard true c w.parts f.1, calm)
fed_ways (Stopping e) c input moved a w n n' mx calm f =
    let why : Decides most_message c.reader.given (c.y ++ input) (length w.parts.y) e = subst (λ (x : ℕ). Decides x c.reader.given (c.y ++ input) (length w.parts.y) e) mx f.0.cause in
    subst (λ (x : Result Bool ClientEnd). Ways x c w (c.y ++ input) n n') (sym f.1)
    (inr (decided_why e c.reader.given (c.y ++ input) (length w.parts.y) n n' why calm))

nil_is : (l : List ℕ) → is_nil l ≡ true → l ≡ []
nil_is [] e = refl
nil_is (x ∷ l) e = absurd (cc)

-- bytes were received, and the turn went on so
record Taken (v w : Life) (a : Result Bool ClientEnd) (t t' : Option LinkTold) (n n' : LinkCounts) : Type 0 where
  pub b : List ℕ
  pub passed : Passed b [] t t'
  pub ways : Ways a v.parts w ((v.parts.y ++ v.input) ++ b) n n'
  pub unfed : length v.input ≤ most_received → LeavesUnfed a (v.input ++ b)

-- it came to an end
gone_ways : (v w : Life) (a : Result Bool ClientEnd) (e : ClientEnd) (t t' : Option LinkTold) (n n' : LinkCounts) → IsEnded e v a w → (b : List ℕ) → Passed b [] t t'
    → (IsDone e v.parts v.parts.outgoing.pending n n' ⊎ Causes e v.parts.reader.given ((v.parts.y ++ v.input) ++ b) n n')
    → (length v.input ≤ most_received → IsUnfed (ByClient e) (v.input ++ b)) → Taken v w a t t' n n'
gone_ways v w a e t t' n n' i b p h u = record {
  b = b;
  passed = p;
  unfed = λ s. subst (λ (x : Result Bool ClientEnd). LeavesUnfed x (v.input ++ b)) (sym i.ended) (u s);
  ways = subst (λ (x : Result Bool ClientEnd). Ways x v.parts w ((v.parts.y ++ v.input) ++ b) n n') (sym i.ended) h;
}

-- nothing more was done
stay_ways : (v w : Life) (moved : Bool) (a : Result Bool ClientEnd) (t t' : Option LinkTold) (n n' : LinkCounts) → a ≡ Ok moved → w ≡ v → Passed [] [] t t' → IsCalm n n' → Taken v w a t t' n n'
stay_ways v w moved a t t' n n' e f p c = record {
  b = [];
  passed = p;
  unfed = λ s. subst (λ (x : Result Bool ClientEnd). LeavesUnfed x (v.input ++ [])) (sym e) tt;
  ways = subst (λ (x : Result Bool ClientEnd). Ways x v.parts w ((v.parts.y ++ v.input) ++ []) n n') (sym e)
      (subst (λ (x : Life). Ways (Ok moved) v.parts x ((v.parts.y ++ v.input) ++ []) n n') (sym f) (sym (append-nil (v.parts.y ++ v.input)), refl, (λ h. h), c));
}

none_more : (l : List ℕ) → length l ≤ most_received → length (l ++ []) ≤ most_received
none_more l s = omega (arith, length-append l [], s)

-- the buffer was fed
here_ways : (v w : Life) (moved : Bool) (a : Result Bool ClientEnd) (t t' : Option LinkTold) (n n' : LinkCounts) → v.parts.reader.max ≡ most_message → Fed v moved a w → t' ≡ t → IsCalm n n' → Taken v w a t t' n n'
here_ways v w moved a t t' n n' mx f e c = record {
  b = [];
  passed = passed_same t t' e;
  unfed = λ s. fed_unfed f.0 v.parts v.input (v.input ++ []) moved a w (none_more v.input s) f.1;
  ways = subst (λ (l : List ℕ). Ways a v.parts w l n n') (sym (append-nil (v.parts.y ++ v.input))) (fed_ways f.0 v.parts v.input moved a w n n' mx c f.1);
}

-- ---- since the turn began

record Since (u v : Life) (s : List ℕ) : Type 0 where
  pub y : v.parts.y ≡ u.parts.y
  pub input : v.input ≡ u.input
  pub sent : v.parts.sent ≡ u.parts.sent ++ s
  pub split : s ++ v.parts.outgoing.pending ≡ u.parts.outgoing.pending
  pub reader : v.parts.reader ≡ u.parts.reader
  pub finished : v.parts.finished ≡ u.parts.finished

since_here : (u : Life) → Since u u []
since_here u = record { y = refl; input = refl; sent = sym (append-nil u.parts.sent); split = refl; reader = refl; finished = refl }

abbrev WaysFrom : Result Bool ClientEnd → Life → Life → List ℕ → List ℕ → List ℕ → LinkCounts → LinkCounts → Type 0
WaysFrom (Ok moved) u w s more all n n' =
    (w.parts.y ++ w.input ≡ all) × (w.parts.sent ≡ u.parts.sent ++ s) × (AreFriendly u.parts.reader.given → AreFriendly w.parts.reader.given) × IsCalm n n'
WaysFrom (Err e) u w s more all n n' = IsDone e u.parts more n n' ⊎ Causes e u.parts.reader.given all n n'

-- these bytes were sent and those received
record Went (u w : Life) (a : Result Bool ClientEnd) (t t' : Option LinkTold) (n n' : LinkCounts) : Type 0 where
  pub s : List ℕ
  pub b : List ℕ
  pub more : List ℕ
  pub passed : Passed b s t t'
  pub split : s ++ more ≡ u.parts.outgoing.pending
  pub ways : WaysFrom a u w s more ((u.parts.y ++ u.input) ++ b) n n'
  pub unfed : length u.input ≤ most_received → LeavesUnfed a (u.input ++ b)

ways_from : (a : Result Bool ClientEnd) (u v w : Life) (s b : List ℕ) (n m o : LinkCounts) → Since u v s → IsCalm n m → Ways a v.parts w ((v.parts.y ++ v.input) ++ b) m o
    → WaysFrom a u w s v.parts.outgoing.pending ((u.parts.y ++ u.input) ++ b) n o
ways_from (Ok moved) u v w s b n m o i c h =
    let all : (v.parts.y ++ v.input) ++ b ≡ (u.parts.y ++ u.input) ++ b = ap (λ (x : List ℕ). (x ++ v.input) ++ b) i.y ∙ ap (λ (x : List ℕ). (u.parts.y ++ x) ++ b) i.input in
    (h.0 ∙ all, h.1 ∙ i.sent, (λ f. h.2 (subst (λ (x : ReaderKnown). AreFriendly x.given) (sym i.reader) f)), calm_then n m o c h.3)
ways_from (Err e) u v w s b n m o i c (inl d) =
    inl (record { is_done = d.is_done; finished = sym i.finished ∙ d.finished; none = d.none; calm = calm_then n m o c d.calm })
ways_from (Err e) u v w s b n m o i c (inr h) =
    let all : (v.parts.y ++ v.input) ++ b ≡ (u.parts.y ++ u.input) ++ b = ap (λ (x : List ℕ). (x ++ v.input) ++ b) i.y ∙ ap (λ (x : List ℕ). (u.parts.y ++ x) ++ b) i.input in
    inr (causes_calm e u.parts.reader.given ((u.parts.y ++ u.input) ++ b) n m o c
    (subst (λ (x : List ℕ). Causes e u.parts.reader.given x m o) all (subst (λ (x : ReaderKnown). Causes e x.given ((v.parts.y ++ v.input) ++ b) m o) i.reader h)))

went_from : (a : Result Bool ClientEnd) (u v w : Life) (s : List ℕ) (t t' t'' : Option LinkTold) (n m o : LinkCounts) → Since u v s → Passed [] s t t' → IsCalm n m → Taken v w a t' t'' m o → Went u w a t t'' n o
went_from a u v w s t t' t'' n m o i p c k = record {
  s = s;
  b = k.b;
  more = v.parts.outgoing.pending;
  passed = passed_as k.b k.b (s ++ []) s t t'' refl (append-nil s) (passed_then [] k.b s [] t t' t'' p k.passed);
  split = i.split;
  ways = ways_from a u v w s k.b n m o i c k.ways;
  unfed = λ h. subst (λ (x : List ℕ). LeavesUnfed a (x ++ k.b)) i.input (k.unfed (subst (λ (x : List ℕ). length x ≤ most_received) (sym i.input) h));
}

and_both : (a b : Bool) → (a && b) ≡ true → (a ≡ true) × (b ≡ true)
and_both true true e = (refl, refl)
and_both true false e = absurd (cc)
and_both false b e = absurd (cc)

some_length : (l : List ℕ) → is_nil l ≡ false → 0 < length l
some_length [] e = absurd (cc)
some_length (b ∷ l) e = omega arith

piece_some : (l : List ℕ) → is_nil l ≡ false → 0 < length (take 16384 l)
piece_some l n = omega (arith, length-take 16384 l, some_length l n)

since_sent : (u : Life) (c : Core) (n : ℕ) → IsSent u.parts n c → Since u (life c u.input) (take n u.parts.outgoing.pending)
since_sent u c n s =
    let p = u.parts.outgoing.pending in
    let pending : c.outgoing.pending ≡ drop n p = ap (λ (x : Keeps). x.pending) s.keeps in
    record {
      y = ap (λ (x : Past). x.y) s.past;
      input = refl;
      sent = ap (λ (x : Past). x.sent) s.past;
      split = ap (λ (x : List ℕ). take n p ++ x) pending ∙ take-append-drop n p;
      reader = s.fixed.1;
      finished = ap (λ (x : Keeps). x.finished) s.keeps;
    }

taken_twice : (n most : ℕ) (l : List ℕ) → n ≤ length (take most l) → take n (take most l) ≡ take n l
taken_twice n most l le = take-take n most l (omega (arith, le, length-take most l))

came_few : (input b : List ℕ) → is_nil input ≡ true → length b ≤ 4096 → length (input ++ b) ≤ most_received
came_few input b n few = omega (arith, length-append input b, ap length (nil_is input n), few)

module _ {L : Type 0} (hears : L → ℕ → Came → L → Type 0) (told : L → Option LinkTold) (counts : L → LinkCounts)
    (hears_mean : (l : L) (room : ℕ) (answer : Came) (m : L) → 0 < room → hears l room answer m → HearStep room (told l) (told m) (counts l) (counts m) answer) where
  came_ways : (came : Came) (v w : Life) (moved : Bool) (a : Result Bool ClientEnd) (l m : L) → v.parts.reader.max ≡ most_message → is_nil v.input ≡ true → hears l 4096 came m → CameAs came v moved a w
      → Taken v w a (told l) (told m) (counts l) (counts m)
  came_ways (CameBytes b) v w moved a l m mx n h (inl f) =
      let s = hears_mean l 4096 (CameBytes b) m (omega arith) h in
      let calm : IsCalm (counts l) (counts m) = record { faults = s.counts.0; ends = s.counts.2 } in
      let all : v.parts.y ++ b ≡ (v.parts.y ++ v.input) ++ b = ap (λ (x : List ℕ). x ++ b) (sym (ap (λ (x : List ℕ). v.parts.y ++ x) (nil_is v.input n) ∙ append-nil v.parts.y)) in
      record {
        b = b;
        passed = passed_given b (told l) (told m) s.told.0 s.told.1;
        unfed = λ h. fed_unfed f.0 v.parts b (v.input ++ b) true a w (came_few v.input b n s.count.1) f.1;
        ways = subst (λ (x : List ℕ). Ways a v.parts w x (counts l) (counts m)) all (fed_ways f.0 v.parts b true a w (counts l) (counts m) mx calm f.1);
      }
  came_ways (CameBytes b) v w moved a l m mx n h (inr e) =
      let s = hears_mean l 4096 (CameBytes b) m (omega arith) h in
      gone_ways v w a end.OutOfMemory (told l) (told m) (counts l) (counts m) e b (passed_given b (told l) (told m) s.told.0 s.told.1) (inr (record { faults = s.counts.0; ends = s.counts.2 }))
      (λ h. unfed_by (ByClient end.OutOfMemory) (v.input ++ b) memory_open (came_few v.input b n s.count.1))
  came_ways CameNotYet v w moved a l m mx n h f =
      let s = hears_mean l 4096 CameNotYet m (omega arith) h in
      stay_ways v w moved a (told l) (told m) (counts l) (counts m) f.0 f.1 (passed_same (told l) (told m) s.told) (record { faults = s.counts.0; ends = s.counts.2 })
  came_ways CameEnd v w moved a l m mx n h e =
      let s = hears_mean l 4096 CameEnd m (omega arith) h in
      gone_ways v w a end.PeerClosed (told l) (told m) (counts l) (counts m) e [] (passed_same (told l) (told m) s.told) (inr (s.counts.2, s.counts.0))
      (λ h. record { few = none_more v.input h; none = λ q. append-nil v.input ∙ nil_is v.input n })
  came_ways CameFailed v w moved a l m mx n h e =
      let s = hears_mean l 4096 CameFailed m (omega arith) h in
      gone_ways v w a end.LinkFault (told l) (told m) (counts l) (counts m) e [] (passed_same (told l) (told m) s.told) (inr (s.counts.0, s.counts.2))
      (λ h. unfed_by (ByClient end.LinkFault) (v.input ++ []) fault_open (none_more v.input h))

  calm_at : (l m : L) → m ≡ l → IsCalm (counts l) (counts m)
  calm_at l m e = subst (λ (x : L). IsCalm (counts l) (counts x)) (sym e) (calm_here (counts l))

  empty_ways : (b : Bool) (v w : Life) (moved : Bool) (a : Result Bool ClientEnd) (l m : L) → v.parts.reader.max ≡ most_message → is_nil v.input ≡ b → EmptyBy hears b v l moved a w m → Taken v w a (told l) (told m) (counts l) (counts m)
  empty_ways true v w moved a l m mx n f = came_ways f.0 v w moved a l m mx n f.1.0 f.1.1
  empty_ways false v w moved a l m mx n f = here_ways v w moved a (told l) (told m) (counts l) (counts m) mx f.0 (ap told f.1) (calm_at l m f.1)

  input_ways : (b : Bool) (v w : Life) (moved : Bool) (a : Result Bool ClientEnd) (l m : L) → v.parts.reader.max ≡ most_message → InputBy hears b v l moved a w m → Taken v w a (told l) (told m) (counts l) (counts m)
  input_ways true v w moved a l m mx f = empty_ways (is_nil v.input) v w moved a l m mx refl f
  input_ways false v w moved a l m mx f = stay_ways v w moved a (told l) (told m) (counts l) (counts m) f.0 f.1 (passed_same (told l) (told m) (ap told f.2)) (calm_at l m f.2)

  done_ways : (b : Bool) (v w : Life) (moved : Bool) (a : Result Bool ClientEnd) (l m : L) → v.parts.reader.max ≡ most_message → is_done v.parts ≡ b → DoneBy hears b v l moved a w m → Taken v w a (told l) (told m) (counts l) (counts m)
  done_ways true v w moved a l m mx d f =
      let both = and_both v.parts.finished (is_nil v.parts.outgoing.pending) d in
      gone_ways v w a end.Done (told l) (told m) (counts l) (counts m) f.0 [] (passed_same (told l) (told m) (ap told f.1))
      (inl (record { is_done = refl; finished = both.0; none = nil_is v.parts.outgoing.pending both.1; calm = calm_at l m f.1 }))
      (λ h. unfed_by (ByClient end.Done) (v.input ++ []) done_open (none_more v.input h))
  done_ways false v w moved a l m mx d f = input_ways (is_hungry v.parts) v w moved a l m mx f

  module _ (says : L → List ℕ → Said → L → Type 0) (says_mean : (l : L) (piece : List ℕ) (answer : Said) (m : L) → 0 < length piece → says l piece answer m → SayStep piece (told l) (told m) (counts l) (counts m) answer) where
    said_went : (q : Said) (u w : Life) (a : Result Bool ClientEnd) (l k m : L) → u.parts.reader.max ≡ most_message → is_nil u.parts.outgoing.pending ≡ false → says l (take 16384 u.parts.outgoing.pending) q k → SentAs hears says q u k a w m
        → Went u w a (told l) (told m) (counts l) (counts m)
    said_went (said.Took n) u w a l k m mx e h f =
        let p = u.parts.outgoing.pending in
        let t = says_mean l (take 16384 p) (said.Took n) k (piece_some p e) h in
        let c = f.0 in
        let i = since_sent u c n f.1.0 in
        let mx' : c.reader.max ≡ most_message = ap (λ (x : ReaderKnown). x.max) f.1.0.fixed.1 ∙ mx in
        let took : Passed [] (take n p) (told l) (told k) = passed_as [] [] (take n (take 16384 p)) (take n p) (told l) (told k) refl (taken_twice n 16384 p t.count.1) (passed_taken (take n (take 16384 p)) (told l) (told k) t.told) in
        went_from a u (life c u.input) w (take n p) (told l) (told k) (told m) (counts l) (counts k) (counts m) i took (record { faults = t.counts.0; ends = t.counts.2 })
        (done_ways (is_done c) (life c u.input) w true a k m mx' refl f.1.1)
    said_went said.NotYet u w a l k m mx e h f =
        let t = says_mean l (take 16384 u.parts.outgoing.pending) said.NotYet k (piece_some u.parts.outgoing.pending e) h in
        went_from a u u w [] (told l) (told k) (told m) (counts l) (counts k) (counts m) (since_here u) (passed_same (told l) (told k) t.told) (record { faults = t.counts.0; ends = t.counts.2 })
        (done_ways (is_done u.parts) u w false a k m mx refl f)
    said_went said.Failed u w a l k m mx e h f =
        let t = says_mean l (take 16384 u.parts.outgoing.pending) said.Failed k (piece_some u.parts.outgoing.pending e) h in
        let told' : told m ≡ told l = ap told f.1 ∙ t.told in
        let rose : Rose (counts l).faults (counts m).faults = subst (λ (x : L). Rose (counts l).faults (counts x).faults) (sym f.1) t.counts.0 in
        let ends : (counts m).ends ≡ (counts l).ends = ap (λ (x : L). (counts x).ends) f.1 ∙ t.counts.2 in
        went_from a u u w [] (told l) (told l) (told m) (counts l) (counts l) (counts m) (since_here u) (passed_same (told l) (told l) refl) (calm_here (counts l))
        (gone_ways u w a end.LinkFault (told l) (told m) (counts l) (counts m) f.0 [] (passed_same (told l) (told m) told') (inr (rose, ends))
        (λ z. unfed_by (ByClient end.LinkFault) (u.input ++ []) fault_open (none_more u.input z)))
    said_went said.OutOfMemory u w a l k m mx e h f =
        let t = says_mean l (take 16384 u.parts.outgoing.pending) said.OutOfMemory k (piece_some u.parts.outgoing.pending e) h in
        let told' : told m ≡ told l = ap told f.1 ∙ t.told in
        let calm : IsCalm (counts l) (counts m) = subst (λ (x : L). IsCalm (counts l) (counts x)) (sym f.1) (record { faults = t.counts.0; ends = t.counts.2 }) in
        went_from a u u w [] (told l) (told l) (told m) (counts l) (counts l) (counts m) (since_here u) (passed_same (told l) (told l) refl) (calm_here (counts l))
        (gone_ways u w a end.OutOfMemory (told l) (told m) (counts l) (counts m) f.0 [] (passed_same (told l) (told m) told') (inr calm)
        (λ z. unfed_by (ByClient end.OutOfMemory) (u.input ++ []) memory_open (none_more u.input z)))

    send_went : (b : Bool) (u w : Life) (a : Result Bool ClientEnd) (l m : L) → u.parts.reader.max ≡ most_message → is_nil u.parts.outgoing.pending ≡ b → SendBy hears says b u l a w m → Went u w a (told l) (told m) (counts l) (counts m)
    send_went true u w a l m mx e f =
        went_from a u u w [] (told l) (told l) (told m) (counts l) (counts l) (counts m) (since_here u) (passed_same (told l) (told l) refl) (calm_here (counts l))
        (done_ways (is_done u.parts) u w false a l m mx refl f)
    send_went false u w a l m mx e f = said_went f.0 u w a l f.1.0 m mx e f.1.1.0 f.1.1.1

    -- ---- a turn

    run_from : (k : Asked) (c : ClientState) (start now now' : Option LinkTold) (n n' : LinkCounts) (s b more : List ℕ) → Runs k c start now n n' → Passed b s now now' → s ++ more ≡ c.parts.outgoing.pending
        → HasRun k c.parts.y (c.input ++ b) c.parts.reader.given c.parts.gave (gifts_of c.parts) more start now'
    run_from k c start now now' n n' s b more r p e =
        let q = c.parts in
        record {
          took = q.sent ++ s;
          passed = passed_as ((q.y ++ c.input) ++ b) (q.y ++ (c.input ++ b)) (q.sent ++ s) (q.sent ++ s) start now' (append_assoc q.y c.input b) refl
              (passed_then (q.y ++ c.input) b q.sent s start now now' r.passed p);
          read = subst (λ (x : ℕ). IsRead x (drop hand_bytes q.y) q.reader.given) r.live.max r.live.stands.read;
          friendly = r.friendly;
          owes = append_assoc q.sent s more ∙ ap (λ (x : List ℕ). q.sent ++ x) e ∙ r.live.stands.stands.owes ∙ ap (λ (x : Asked). out x q.y q.reader.given q.gave) r.asked;
          given = subst (λ (x : Asked). AreGiven x most_message (count_of q.y) q.reader.given q.gave) r.asked (subst (λ (x : ℕ). AreGiven q.asked x (count_of q.y) q.reader.given q.gave) r.live.max r.live.stands.stands.given);
          told = r.live.stands.stands.told ∙ ap (λ (x : Asked). pulled x q.reader.given) r.asked;
        }

    stops_from : (e : ClientEnd) (k : Asked) (u : ClientState) (w : Life) (start : Option LinkTold) (l m : L) (n : LinkCounts) → Runs k u start (told l) n (counts l) → Went (life_of u) w (Err e) (told l) (told m) (counts l) (counts m)
        → Stopped k e u.parts start (told m) n (counts m)
    stops_from e k u w start l m n r g = record {
      rest = u.input ++ g.b;
      unfed = g.unfed r.live.short;
      more = g.more;
      run = run_from k u start (told l) (told m) n (counts l) g.s g.b g.more r g.passed g.split;
      why = why_from g.ways;
    }
      where
        why_from : (IsDone e u.parts g.more (counts l) (counts m) ⊎ Causes e u.parts.reader.given ((u.parts.y ++ u.input) ++ g.b) (counts l) (counts m))
            → IsDone e u.parts g.more n (counts m) ⊎ Causes e u.parts.reader.given (u.parts.y ++ (u.input ++ g.b)) n (counts m)
        why_from (inl d) = inl (record { is_done = d.is_done; finished = d.finished; none = d.none; calm = calm_then n (counts l) (counts m) r.calm d.calm })
        why_from (inr h) =
            inr (causes_calm e u.parts.reader.given (u.parts.y ++ (u.input ++ g.b)) n (counts l) (counts m) r.calm
            (subst (λ (x : List ℕ). Causes e u.parts.reader.given x (counts l) (counts m)) (append_assoc u.parts.y u.input g.b) h))

    runs_from : (moved : Bool) (k : Asked) (u w : ClientState) (start : Option LinkTold) (l m : L) (n : LinkCounts) → Runs k u start (told l) n (counts l) → Went (life_of u) (life_of w) (Ok moved) (told l) (told m) (counts l) (counts m) → w.ended ≡ None
        → StandsBy w.ended w.parts → lasting_of w.parts ≡ lasting_of u.parts → IsInput w.ended w.input → Runs k w start (told m) n (counts m)
    runs_from moved k u w start l m n r g lives stands lasts input = record {
      live = record { lives = lives; max = ap (λ (x : Lasting). x.max) lasts ∙ r.live.max; short = subst (λ (x : Option ClientEnd). IsInput x w.input) lives input; stands = subst (λ (x : Option ClientEnd). StandsBy x w.parts) lives stands };
      asked = ap (λ (x : Lasting). x.asked) lasts ∙ r.asked;
      passed = passed_as ((u.parts.y ++ u.input) ++ g.b) (w.parts.y ++ w.input) (u.parts.sent ++ g.s) w.parts.sent start (told m) (sym g.ways.0) (sym g.ways.1)
          (passed_then (u.parts.y ++ u.input) g.b u.parts.sent g.s start (told l) (told m) r.passed g.passed);
      friendly = g.ways.2 r.friendly;
      calm = calm_then n (counts l) (counts m) r.calm g.ways.3;
    }

    comes_to : (a : Result Bool ClientEnd) (k : Asked) (u w : ClientState) (start : Option LinkTold) (l m : L) (n : LinkCounts) → Runs k u start (told l) n (counts l) → Went (life_of u) (life_of w) a (told l) (told m) (counts l) (counts m) → w.ended ≡ end_of a
        → StandsBy w.ended w.parts → lasting_of w.parts ≡ lasting_of u.parts → IsInput w.ended w.input → Turned (turn_of a) k u w start (told m) n (counts m)
    comes_to (Ok true) k u w start l m n r g e s la i = runs_from true k u w start l m n r g e s la i
    comes_to (Ok false) k u w start l m n r g e s la i = runs_from false k u w start l m n r g e s la i
    comes_to (Err f) k u w start l m n r g e s la i = (f, e, stops_from f k u (life_of w) start l m n r g)

    pub turned : (answer : ClientTurn) (k : Asked) (u w : ClientState) (start : Option LinkTold) (l m : L) (n : LinkCounts) → TurnMade (EndedBy hears says) u l answer w m → StandsBy w.ended w.parts → lasting_of w.parts ≡ lasting_of u.parts → IsInput w.ended w.input
        → Runs k u start (told l) n (counts l) → Turned answer k u w start (told m) n (counts m)
    turned answer k u w start l m n t s la i r =
        let made : EndedBy hears says None (life_of u) l t.comes (life_of w) m = subst (λ (x : Option ClientEnd). EndedBy hears says x (life_of u) l t.comes (life_of w) m) r.live.lives t.made in
        let g = send_went (is_nil u.parts.outgoing.pending) (life_of u) (life_of w) t.comes l m r.live.max refl made in
        subst (λ (x : ClientTurn). Turned x k u w start (told m) n (counts m)) (sym t.answered) (comes_to t.comes k u w start l m n r g t.ended s la i)

-- what a client that lives has done
pub run_here : (k : Asked) (c : ClientState) (start now : Option LinkTold) (n m : LinkCounts) → Runs k c start now n m
    → HasRun k c.parts.y c.input c.parts.reader.given c.parts.gave (gifts_of c.parts) c.parts.outgoing.pending start now
run_here k c start now n m r =
    let q = c.parts in
    record {
      took = q.sent;
      passed = r.passed;
      read = subst (λ (x : ℕ). IsRead x (drop hand_bytes q.y) q.reader.given) r.live.max r.live.stands.read;
      friendly = r.friendly;
      owes = r.live.stands.stands.owes ∙ ap (λ (x : Asked). out x q.y q.reader.given q.gave) r.asked;
      given = subst (λ (x : Asked). AreGiven x most_message (count_of q.y) q.reader.given q.gave) r.asked (subst (λ (x : ℕ). AreGiven q.asked x (count_of q.y) q.reader.given q.gave) r.live.max r.live.stands.stands.given);
      told = r.live.stands.stands.told ∙ ap (λ (x : Asked). pulled x q.reader.given) r.asked;
    }

-- a new client has done nothing
pub new_runs : (k : Asked) (c : ClientState) (told : Option LinkTold) (n : LinkCounts) → c.parts.asked ≡ k → IsNew c → IsLive c → Runs k c told told n n
new_runs k c told n asked new live =
    let y : c.parts.y ≡ [] = ap (λ (x : Past). x.y) new.past in
    let sent : c.parts.sent ≡ [] = ap (λ (x : Past). x.sent) new.past in
    let given : c.parts.reader.given ≡ [] = ap (λ (x : Past). x.ms) new.past in
    record {
      live = live;
      asked = asked;
      passed = passed_as [] (c.parts.y ++ c.input) [] c.parts.sent told told (sym (ap (λ (x : List ℕ). x ++ c.input) y ∙ new.input)) (sym sent) (passed_same told told refl);
      friendly = subst AreFriendly (sym given) tt;
      calm = calm_here n;
    }

-- and nothing is done without one
nothing_told : (k : Asked) → [] ≡ pulled k []
unfolding pulled_from
nothing_told k = refl

pub no_run : (k : Asked) (told : Option LinkTold) → HasRun k [] [] [] [] [] (out k [] [] []) told told
no_run k told = record {
  took = [];
  passed = passed_same told told refl;
  read = record { s = _; r = []; reads = reads_nothing most_message };
  friendly = tt;
  owes = refl;
  given = tt;
  told = nothing_told k;
}

-- ---- how a command ends by the end of its client, but where all was sent

pub by_client_end : (P : How → Type 0) (e : ClientEnd) → (P (ByClient end.Done) → ⊥) → P (ByClient e) → P (client_how e)
by_client_end P end.Done n h = absurd (n h)
by_client_end P end.PeerClosed n h = h
by_client_end P end.LinkFault n h = h
by_client_end P (end.BadVersion at) n h = h
by_client_end P (end.BadChunk cause at) n h = h
by_client_end P (end.BadControl at) n h = h
by_client_end P (end.BadCommand at) n h = h
by_client_end P (end.Refused code description) n h = h
by_client_end P end.OutOfMemory n h = h
