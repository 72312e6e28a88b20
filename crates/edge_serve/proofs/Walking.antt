-- What a turn of a client comes to, over what its link tells
use Rattle.std.proofs.Common.{◌≡◌, inl, inr, ◌<◌, ◌≤◌, ℕ, Bool, true, false, List, [], ◌∷◌, ◌++◌, length, take, Option, None, Result, Ok, Err, refl, sym, ap}
use Rattle.std.proofs.Common.{◌∙◌, subst, arith, append_assoc, append-nil}
use Rattle.std.proofs.lemmas.List.{length-append, length-take, take-take}
use Rattle.relay_outside.specs.Counts.{Rose}
use Rattle.relay_outside.specs.Heard.{Came, CameBytes, CameEnd, CameFailed, CameNotYet, HearStep}
use Rattle.relay_outside.specs.Said.{SayStep}
use Rattle.relay_outside.specs.Told.{LinkCounts, LinkTold}
use Rattle.relay_outside.specs.declared.link.Said.{Said}
use Rattle.relay_outside.specs.declared.link.Said.TheVariants as said
use Rattle.chunk_reader.specs.ReaderKnown.{ReaderKnown}
use Rattle.chunk_wire.specs.declared.message.Message.{Message}
use Rattle.client_owed.specs.Standing.{Past}
use Rattle.client_owed.specs.declared.types.Gave.{Gave}
use Rattle.rtmp_client.specs.ClientState.{ClientState, TurnMade, life_of}
use Rattle.rtmp_client.specs.Feeding.{Decides, Fixed, IsSent}
use Rattle.rtmp_client.specs.Turns.{CameAs, DoneBy, EmptyBy, EndedBy, Fed, FedAs, FedBy, Quietly, Loudly, Stopping, Gone, InputBy, IsEnded, Life, SendBy}
use Rattle.rtmp_client.specs.Turns.{SentAs, is_done, is_hungry, is_nil, life}
use Rattle.rtmp_client.specs.declared.core_fields.Core.{Core}
use Rattle.rtmp_client.specs.declared.end.ClientEnd.{ClientEnd}
use Rattle.rtmp_client.specs.declared.end.ClientEnd.TheVariants as end
use Rattle.rtmp_client.specs.declared.end.ClientTurn.{ClientTurn}
use Rattle.client_command.specs.Traffic.{IsCalm, Passed}
use Rattle.client_command.proofs.Passing.{calm_here, calm_then, passed_as, passed_given, passed_same, passed_taken, passed_then}
use Rattle.edge_serve.specs.Pulls.{ClientCause}

-- ---- why it ends

-- as its cause says; want of memory has none, and nobody says here why it would be done
abbrev pub Why : ClientEnd → ℕ → ℕ → List ℕ → LinkCounts → LinkCounts → Type 0
Why end.PeerClosed max fed all n n' = ClientCause end.PeerClosed max fed all n n'
Why end.LinkFault max fed all n n' = ClientCause end.LinkFault max fed all n n'
Why (end.BadVersion at) max fed all n n' = ClientCause (end.BadVersion at) max fed all n n'
Why (end.BadChunk cause at) max fed all n n' = ClientCause (end.BadChunk cause at) max fed all n n'
Why (end.BadControl at) max fed all n n' = ClientCause (end.BadControl at) max fed all n n'
Why (end.BadCommand at) max fed all n n' = ClientCause (end.BadCommand at) max fed all n n'
Why (end.Refused code description) max fed all n n' = ClientCause (end.Refused code description) max fed all n n'
Why end.Done max fed all n n' = Unit {0}
Why end.OutOfMemory max fed all n n' = Unit {0}

pub why_calm : (e : ClientEnd) (max fed : ℕ) (all : List ℕ) (n m o : LinkCounts) → IsCalm n m → Why e max fed all m o → Why e max fed all n o
why_calm end.PeerClosed max fed all n m o c h =
    record { rose = subst (λ (x : ℕ). Rose x o.ends) c.ends h.rose; faults = h.faults ∙ c.faults; all_fed = h.all_fed }
why_calm end.LinkFault max fed all n m o c h = (subst (λ (x : ℕ). Rose x o.faults) c.faults h.0, h.1 ∙ c.ends)
why_calm (end.BadVersion at) max fed all n m o c h = (h.0, calm_then n m o c h.1)
why_calm (end.BadChunk cause at) max fed all n m o c h = (h.0, calm_then n m o c h.1)
why_calm (end.BadControl at) max fed all n m o c h = (h.0, calm_then n m o c h.1)
why_calm (end.BadCommand at) max fed all n m o c h = (h.0, calm_then n m o c h.1)
why_calm (end.Refused code description) max fed all n m o c h = (h.0, calm_then n m o c h.1)
why_calm end.Done max fed all n m o c h = tt
why_calm end.OutOfMemory max fed all n m o c h = tt

decided_why : (e : ClientEnd) (ms : List (ℕ × Message)) (max fed : ℕ) (all : List ℕ) (x y : LinkCounts) → Decides max ms all fed e → IsCalm x y
    → Why e max fed all x y
decided_why end.PeerClosed ms max fed all x y d c = absurd d
decided_why end.LinkFault ms max fed all x y d c = absurd d
decided_why (end.BadVersion at) ms max fed all x y d c = ((ms, d), c)
decided_why (end.BadChunk cause at) ms max fed all x y d c = ((ms, d), c)
decided_why (end.BadControl at) ms max fed all x y d c = ((ms, d), c)
decided_why (end.BadCommand at) ms max fed all x y d c = ((ms, d), c)
decided_why (end.Refused code description) ms max fed all x y d c = ((ms, d), c)
decided_why end.Done ms max fed all x y d c = tt
decided_why end.OutOfMemory ms max fed all x y d c = tt

-- ---- the steps of a turn, the last first

-- all these bytes came to it. It goes on, or has ended with some of them fed
pub record HasEndedOn (e : ClientEnd) (max : ℕ) (sent : List ℕ) (gave : List Gave) (w : Core) (all : List ℕ) (n n' : LinkCounts) : Type 0 where
  pub rest : List ℕ
  pub few : length rest ≤ 4096
  pub all_is : w.y ++ rest ≡ all
  pub sent_is : w.sent ≡ sent
  pub gave_is : w.gave ≡ gave
  pub why : Why e max (length w.y) all n n'

pub record GoesOnWith (sent : List ℕ) (gave : List Gave) (w : Life) (all : List ℕ) (n n' : LinkCounts) : Type 0 where
  pub few : length w.input ≤ 4096
  pub all_is : w.parts.y ++ w.input ≡ all
  pub sent_is : w.parts.sent ≡ sent
  pub gave_is : w.parts.gave ≡ gave
  pub calm : IsCalm n n'

abbrev pub Ways : Result Bool ClientEnd → ℕ → List ℕ → List Gave → Life → List ℕ → LinkCounts → LinkCounts → Type 0
Ways (Ok moved) max sent gave w all n n' = GoesOnWith sent gave w all n n'
Ways (Err e) max sent gave w all n n' = HasEndedOn e max sent gave w.parts all n n'

split_all : (y fed left input z : List ℕ) → z ≡ y ++ fed → fed ++ left ≡ input → z ++ left ≡ y ++ input
split_all y fed left input z e s = ap (λ (l : List ℕ). l ++ left) e ∙ append_assoc y fed left ∙ ap (λ (l : List ℕ). y ++ l) s

-- what is left of an input is no more than the input
left_few : (fed left input : List ℕ) → fed ++ left ≡ input → length input ≤ 4096 → length left ≤ 4096
left_few fed left input e le = omega (arith, le, ap length e, length-append fed left)

fed_ways : (by : FedBy) (max : ℕ) (c : Core) (input : List ℕ) (moved : Bool) (a : Result Bool ClientEnd) (w : Life) (n n' : LinkCounts)
    → c.reader.max ≡ max → length input ≤ 4096 → IsCalm n n' → FedAs by (life c input) moved a w
    → Ways a max c.sent c.gave w (c.y ++ input) n n'
fed_ways Quietly max c input moved a w n n' mx le calm f =
    subst (λ (x : Result Bool ClientEnd). Ways x max c.sent c.gave w (c.y ++ input) n n') (sym f.3)
    (record {
      few = omega (arith, ap length f.2);
      all_is = ap (λ (l : List ℕ). w.parts.y ++ l) f.2 ∙ split_all c.y f.0.fed [] input w.parts.y f.0.y f.0.split;
      sent_is = ap (λ (x : Fixed). x.sent) f.0.fixed;
      gave_is = ap (λ (x : Fixed). x.gave) f.0.fixed;
      calm = calm;
    })
fed_ways Loudly max c input moved a w n n' mx le calm f =
    subst (λ (x : Result Bool ClientEnd). Ways x max c.sent c.gave w (c.y ++ input) n n') (sym f.3)
    (record {
      few = left_few f.0.fed w.input input f.0.split le;
      all_is = split_all c.y f.0.fed w.input input w.parts.y f.0.y f.0.split;
      sent_is = ap (λ (x : Fixed). x.sent) f.0.fixed;
      gave_is = ap (λ (x : Fixed). x.gave) f.0.fixed;
      calm = calm;
    })
fed_ways (Stopping e) max c input moved a w n n' mx le calm f =
    let all = c.y ++ input in
    let cause : Decides max c.reader.given all (length w.parts.y) e = subst (λ (x : ℕ). Decides x c.reader.given all (length w.parts.y) e) mx f.0.cause in
    subst (λ (x : Result Bool ClientEnd). Ways x max c.sent c.gave w (c.y ++ input) n n') (sym f.1)
    (record {
      rest = f.0.left;
      few = left_few f.0.fed f.0.left input f.0.split le;
      all_is = split_all c.y f.0.fed f.0.left input w.parts.y f.0.y f.0.split;
      sent_is = ap (λ (x : Fixed). x.sent) f.0.fixed;
      gave_is = ap (λ (x : Fixed). x.gave) f.0.fixed;
      why = decided_why e c.reader.given max (length w.parts.y) all n n' cause calm;
    })

nil_is : (l : List ℕ) → is_nil l ≡ true → l ≡ []
nil_is [] e = refl
nil_is (x ∷ l) e = absurd (cc)

-- bytes were received, and the turn went on so
record Taken (max : ℕ) (v w : Life) (a : Result Bool ClientEnd) (t t' : Option LinkTold) (n n' : LinkCounts) : Type 0 where
  pub b : List ℕ
  pub passed : Passed b [] t t'
  pub ways : Ways a max v.parts.sent v.parts.gave w ((v.parts.y ++ v.input) ++ b) n n'

-- it came to an end
gone_ways : (max : ℕ) (v w : Life) (a : Result Bool ClientEnd) (e : ClientEnd) (t t' : Option LinkTold) (n n' : LinkCounts) → IsEnded e v a w
    → (b : List ℕ) → length (v.input ++ b) ≤ 4096 → Passed b [] t t'
    → Why e max (length w.parts.y) ((v.parts.y ++ v.input) ++ b) n n' → Taken max v w a t t' n n'
gone_ways max v w a e t t' n n' i b le p h = record {
  b = b;
  passed = p;
  ways = subst (λ (x : Result Bool ClientEnd). Ways x max v.parts.sent v.parts.gave w ((v.parts.y ++ v.input) ++ b) n n') (sym i.ended)
      (record {
        rest = v.input ++ b;
        few = le;
        all_is = ap (λ (x : Gone). x.y ++ (v.input ++ b)) i.gone ∙ sym (append_assoc v.parts.y v.input b);
        sent_is = ap (λ (x : Gone). x.sent) i.gone;
        gave_is = ap (λ (x : Gone). x.gave) i.gone;
        why = h;
      });
}

-- with no byte more
none_more : (input : List ℕ) → length input ≤ 4096 → length (input ++ []) ≤ 4096
none_more input le = omega (arith, le, ap length (append-nil input))

-- all that had come was fed
all_here : {e : ClientEnd} {a : Result Bool ClientEnd} (v w : Life) → IsEnded e v a w → v.input ≡ [] → length ((v.parts.y ++ v.input) ++ []) ≡ length w.parts.y
all_here v w i n =
    ap length (append-nil (v.parts.y ++ v.input)) ∙ ap (λ (x : List ℕ). length (v.parts.y ++ x)) n ∙ ap length (append-nil v.parts.y)
    ∙ ap (λ (x : Gone). length x.y) (sym i.gone)

-- nothing more was done
stay_ways : (max : ℕ) (v w : Life) (moved : Bool) (a : Result Bool ClientEnd) (t t' : Option LinkTold) (n n' : LinkCounts) → a ≡ Ok moved → w ≡ v
    → length v.input ≤ 4096 → Passed [] [] t t' → IsCalm n n' → Taken max v w a t t' n n'
stay_ways max v w moved a t t' n n' e f le p c = record {
  b = [];
  passed = p;
  ways = subst (λ (x : Result Bool ClientEnd). Ways x max v.parts.sent v.parts.gave w ((v.parts.y ++ v.input) ++ []) n n') (sym e)
      (record {
        few = omega (arith, le, ap (λ (x : Life). length x.input) f);
        all_is = ap (λ (x : Life). x.parts.y ++ x.input) f ∙ sym (append-nil (v.parts.y ++ v.input));
        sent_is = ap (λ (x : Life). x.parts.sent) f;
        gave_is = ap (λ (x : Life). x.parts.gave) f;
        calm = c;
      });
}

-- the buffer was fed
here_ways : (max : ℕ) (v w : Life) (moved : Bool) (a : Result Bool ClientEnd) (t t' : Option LinkTold) (n n' : LinkCounts) → v.parts.reader.max ≡ max
    → length v.input ≤ 4096 → Fed v moved a w → t' ≡ t → IsCalm n n' → Taken max v w a t t' n n'
here_ways max v w moved a t t' n n' mx le f e c = record {
  b = [];
  passed = passed_same t t' e;
  ways = subst (λ (l : List ℕ). Ways a max v.parts.sent v.parts.gave w l n n') (sym (append-nil (v.parts.y ++ v.input)))
      (fed_ways f.0 max v.parts v.input moved a w n n' mx le c f.1);
}

-- ---- since the turn began

-- these bytes more were sent
record Since (u v : Life) (s : List ℕ) : Type 0 where
  pub y : v.parts.y ≡ u.parts.y
  pub input : v.input ≡ u.input
  pub sent : v.parts.sent ≡ u.parts.sent ++ s
  pub gave : v.parts.gave ≡ u.parts.gave

since_here : (u : Life) → Since u u []
since_here u = record { y = refl; input = refl; sent = sym (append-nil u.parts.sent); gave = refl }

-- these bytes were sent and those received
pub record Went (max : ℕ) (u w : Life) (a : Result Bool ClientEnd) (t t' : Option LinkTold) (n n' : LinkCounts) : Type 0 where
  pub s : List ℕ
  pub b : List ℕ
  pub passed : Passed b s t t'
  pub ways : Ways a max (u.parts.sent ++ s) u.parts.gave w ((u.parts.y ++ u.input) ++ b) n n'

ways_from : (a : Result Bool ClientEnd) (max : ℕ) (u v w : Life) (s b : List ℕ) (n m o : LinkCounts) → Since u v s → IsCalm n m
    → Ways a max v.parts.sent v.parts.gave w ((v.parts.y ++ v.input) ++ b) m o
    → Ways a max (u.parts.sent ++ s) u.parts.gave w ((u.parts.y ++ u.input) ++ b) n o
ways_from (Ok moved) max u v w s b n m o i c h =
    let all : (v.parts.y ++ v.input) ++ b ≡ (u.parts.y ++ u.input) ++ b = ap (λ (x : List ℕ). (x ++ v.input) ++ b) i.y
    ∙ ap (λ (x : List ℕ). (u.parts.y ++ x) ++ b) i.input in
    record { few = h.few; all_is = h.all_is ∙ all; sent_is = h.sent_is ∙ i.sent; gave_is = h.gave_is ∙ i.gave; calm = calm_then n m o c h.calm }
ways_from (Err e) max u v w s b n m o i c h =
    let all : (v.parts.y ++ v.input) ++ b ≡ (u.parts.y ++ u.input) ++ b = ap (λ (x : List ℕ). (x ++ v.input) ++ b) i.y
    ∙ ap (λ (x : List ℕ). (u.parts.y ++ x) ++ b) i.input in
    record {
      rest = h.rest;
      few = h.few;
      all_is = h.all_is ∙ all;
      sent_is = h.sent_is ∙ i.sent;
      gave_is = h.gave_is ∙ i.gave;
      why = why_calm e max (length w.parts.y) ((u.parts.y ++ u.input) ++ b) n m o c (subst (λ (x : List ℕ). Why e max (length w.parts.y) x m o) all h.why);
    }

went_from : (a : Result Bool ClientEnd) (max : ℕ) (u v w : Life) (s : List ℕ) (t t' t'' : Option LinkTold) (n m o : LinkCounts) → Since u v s
    → Passed [] s t t' → IsCalm n m → Taken max v w a t' t'' m o → Went max u w a t t'' n o
went_from a max u v w s t t' t'' n m o i p c k = record {
  s = s;
  b = k.b;
  passed = passed_as k.b k.b (s ++ []) s t t'' refl (append-nil s) (passed_then [] k.b s [] t t' t'' p k.passed);
  ways = ways_from a max u v w s k.b n m o i c k.ways;
}

some_length : (l : List ℕ) → is_nil l ≡ false → 0 < length l
some_length [] e = absurd (cc)
some_length (b ∷ l) e = omega arith

piece_some : (l : List ℕ) → is_nil l ≡ false → 0 < length (take 16384 l)
piece_some l n = omega (arith, length-take 16384 l, some_length l n)

since_sent : (u : Life) (c : Core) (n : ℕ) → IsSent u.parts n c → Since u (life c u.input) (take n u.parts.outgoing.pending)
since_sent u c n s = record {
  y = ap (λ (x : Past). x.y) s.past;
  input = refl;
  sent = ap (λ (x : Past). x.sent) s.past;
  gave =
      ap (λ (x : Past). x.gave) s.past;
}

taken_twice : (n most : ℕ) (l : List ℕ) → n ≤ length (take most l) → take n (take most l) ≡ take n l
taken_twice n most l le = take-take n most l (omega (arith, le, length-take most l))

module _ {L : Type 0} (hears : L → ℕ → Came → L → Type 0) (told : L → Option LinkTold) (counts : L → LinkCounts)
    (hears_mean : (l : L) (room : ℕ) (answer : Came) (m : L) → 0 < room → hears l room answer m
    → HearStep room (told l) (told m) (counts l) (counts m) answer) (max : ℕ) where
  came_ways : (came : Came) (v w : Life) (moved : Bool) (a : Result Bool ClientEnd) (l m : L) → v.parts.reader.max ≡ max → is_nil v.input ≡ true
      → hears l 4096 came m → CameAs came v moved a w
      → Taken max v w a (told l) (told m) (counts l) (counts m)
  came_ways (CameBytes b) v w moved a l m mx n h (inl f) =
      let s = hears_mean l 4096 (CameBytes b) m (omega arith) h in
      let calm : IsCalm (counts l) (counts m) = record { faults = s.counts.0; ends = s.counts.2 } in
      let all : v.parts.y ++ b ≡ (v.parts.y ++ v.input) ++ b =
      ap (λ (x : List ℕ). x ++ b) (sym (ap (λ (x : List ℕ). v.parts.y ++ x) (nil_is v.input n) ∙ append-nil v.parts.y)) in
      record {
        b = b;
        passed = passed_given b (told l) (told m) s.told.0 s.told.1;
        ways = subst (λ (x : List ℕ). Ways a max v.parts.sent v.parts.gave w x (counts l) (counts m)) all
            (fed_ways f.0 max v.parts b true a w (counts l) (counts m) mx s.count.1 calm f.1);
      }
  came_ways (CameBytes b) v w moved a l m mx n h (inr e) =
      let s = hears_mean l 4096 (CameBytes b) m (omega arith) h in
      gone_ways max v w a end.OutOfMemory (told l) (told m) (counts l) (counts m) e b
      (omega (arith, s.count.1, ap length (nil_is v.input n), length-append v.input b)) (passed_given b (told l) (told m) s.told.0 s.told.1) tt
  came_ways CameNotYet v w moved a l m mx n h f =
      let s = hears_mean l 4096 CameNotYet m (omega arith) h in
      stay_ways max v w moved a (told l) (told m) (counts l) (counts m) f.0 f.1
      (omega (arith, ap length (nil_is v.input n))) (passed_same (told l) (told m) s.told)
      (record { faults = s.counts.0; ends = s.counts.2 })
  came_ways CameEnd v w moved a l m mx n h e =
      let s = hears_mean l 4096 CameEnd m (omega arith) h in
      gone_ways max v w a end.PeerClosed (told l) (told m) (counts l) (counts m) e []
      (omega (arith, ap length (nil_is v.input n), length-append v.input [])) (passed_same (told l) (told m) s.told)
      (record { rose = s.counts.2; faults = s.counts.0; all_fed = all_here v w e (nil_is v.input n) })
  came_ways CameFailed v w moved a l m mx n h e =
      let s = hears_mean l 4096 CameFailed m (omega arith) h in
      gone_ways max v w a end.LinkFault (told l) (told m) (counts l) (counts m) e []
      (omega (arith, ap length (nil_is v.input n), length-append v.input [])) (passed_same (told l) (told m) s.told) (s.counts.0, s.counts.2)

  calm_at : (l m : L) → m ≡ l → IsCalm (counts l) (counts m)
  calm_at l m e = subst (λ (x : L). IsCalm (counts l) (counts x)) (sym e) (calm_here (counts l))

  empty_ways : (b : Bool) (v w : Life) (moved : Bool) (a : Result Bool ClientEnd) (l m : L) → v.parts.reader.max ≡ max → length v.input ≤ 4096
      → is_nil v.input ≡ b → EmptyBy hears b v l moved a w m → Taken max v w a (told l) (told m) (counts l) (counts m)
  empty_ways true v w moved a l m mx le n f = came_ways f.0 v w moved a l m mx n f.1.0 f.1.1
  empty_ways false v w moved a l m mx le n f = here_ways max v w moved a (told l) (told m) (counts l) (counts m) mx le f.0 (ap told f.1) (calm_at l m f.1)

  input_ways : (b : Bool) (v w : Life) (moved : Bool) (a : Result Bool ClientEnd) (l m : L) → v.parts.reader.max ≡ max → length v.input ≤ 4096
      → InputBy hears b v l moved a w m
      → Taken max v w a (told l) (told m) (counts l) (counts m)
  input_ways true v w moved a l m mx le f = empty_ways (is_nil v.input) v w moved a l m mx le refl f
  input_ways false v w moved a l m mx le f = stay_ways max v w moved a (told l) (told m) (counts l) (counts m) f.0 f.1 le
      (passed_same (told l) (told m) (ap told f.2)) (calm_at l m f.2)

  done_ways : (b : Bool) (v w : Life) (moved : Bool) (a : Result Bool ClientEnd) (l m : L) → v.parts.reader.max ≡ max → length v.input ≤ 4096
      → DoneBy hears b v l moved a w m
      → Taken max v w a (told l) (told m) (counts l) (counts m)
  done_ways true v w moved a l m mx le f = gone_ways max v w a end.Done (told l) (told m) (counts l) (counts m) f.0 [] (none_more v.input le)
      (passed_same (told l) (told m) (ap told f.1)) tt
  done_ways false v w moved a l m mx le f = input_ways (is_hungry v.parts) v w moved a l m mx le f

  module _ (says : L → List ℕ → Said → L → Type 0) (says_mean : (l : L) (piece : List ℕ) (answer : Said) (m : L) → 0 < length piece
      → says l piece answer m → SayStep piece (told l) (told m) (counts l) (counts m) answer) where
    said_went : (q : Said) (u w : Life) (a : Result Bool ClientEnd) (l k m : L) → u.parts.reader.max ≡ max → length u.input ≤ 4096
        → is_nil u.parts.outgoing.pending ≡ false
        → says l (take 16384 u.parts.outgoing.pending) q k → SentAs hears says q u k a w m
        → Went max u w a (told l) (told m) (counts l) (counts m)
    said_went (said.Took n) u w a l k m mx le e h f =
        let p = u.parts.outgoing.pending in
        let t = says_mean l (take 16384 p) (said.Took n) k (piece_some p e) h in
        let c = f.0 in
        let mx' : c.reader.max ≡ max = ap (λ (x : ReaderKnown). x.max) f.1.0.fixed.1 ∙ mx in
        let took : Passed [] (take n p) (told l) (told k) = passed_as [] [] (take n (take 16384 p)) (take n p) (told l) (told k) refl
        (taken_twice n 16384 p t.count.1) (passed_taken (take n (take 16384 p)) (told l) (told k) t.told) in
        went_from a max u (life c u.input) w (take n p) (told l) (told k) (told m) (counts l) (counts k) (counts m) (since_sent u c n f.1.0) took
        (record { faults = t.counts.0; ends = t.counts.2 })
        (done_ways (is_done c) (life c u.input) w true a k m mx' le f.1.1)
    said_went said.NotYet u w a l k m mx le e h f =
        let t = says_mean l (take 16384 u.parts.outgoing.pending) said.NotYet k (piece_some u.parts.outgoing.pending e) h in
        went_from a max u u w [] (told l) (told k) (told m) (counts l) (counts k) (counts m) (since_here u) (passed_same (told l) (told k) t.told)
        (record { faults = t.counts.0; ends = t.counts.2 })
        (done_ways (is_done u.parts) u w false a k m mx le f)
    said_went said.Failed u w a l k m mx le e h f =
        let t = says_mean l (take 16384 u.parts.outgoing.pending) said.Failed k (piece_some u.parts.outgoing.pending e) h in
        let told' : told m ≡ told l = ap told f.1 ∙ t.told in
        let rose : Rose (counts l).faults (counts m).faults = subst (λ (x : L). Rose (counts l).faults (counts x).faults) (sym f.1) t.counts.0 in
        let ends : (counts m).ends ≡ (counts l).ends = ap (λ (x : L). (counts x).ends) f.1 ∙ t.counts.2 in
        went_from a max u u w [] (told l) (told l) (told m) (counts l) (counts l) (counts m) (since_here u) (passed_same (told l) (told l) refl)
        (calm_here (counts l))
        (gone_ways max u w a end.LinkFault (told l) (told m) (counts l) (counts m) f.0 [] (none_more u.input le)
        (passed_same (told l) (told m) told') (rose, ends))
    said_went said.OutOfMemory u w a l k m mx le e h f =
        let t = says_mean l (take 16384 u.parts.outgoing.pending) said.OutOfMemory k (piece_some u.parts.outgoing.pending e) h in
        let told' : told m ≡ told l = ap told f.1 ∙ t.told in
        went_from a max u u w [] (told l) (told l) (told m) (counts l) (counts l) (counts m) (since_here u) (passed_same (told l) (told l) refl)
        (calm_here (counts l))
        (gone_ways max u w a end.OutOfMemory (told l) (told m) (counts l) (counts m) f.0 [] (none_more u.input le)
        (passed_same (told l) (told m) told') tt)

    send_went : (b : Bool) (u w : Life) (a : Result Bool ClientEnd) (l m : L) → u.parts.reader.max ≡ max → length u.input ≤ 4096
        → is_nil u.parts.outgoing.pending ≡ b
        → SendBy hears says b u l a w m → Went max u w a (told l) (told m) (counts l) (counts m)
    send_went true u w a l m mx le e f =
        went_from a max u u w [] (told l) (told l) (told m) (counts l) (counts l) (counts m) (since_here u) (passed_same (told l) (told l) refl)
        (calm_here (counts l))
        (done_ways (is_done u.parts) u w false a l m mx le f)
    send_went false u w a l m mx le e f = said_went f.0 u w a l f.1.0 m mx le e f.1.1.0 f.1.1.1

    -- A TURN of a client that lives
    pub turn_went : (answer : ClientTurn) (u w : ClientState) (l m : L) → u.ended ≡ None → u.parts.reader.max ≡ max → length u.input ≤ 4096
        → (t : TurnMade (EndedBy hears says) u l answer w m) → Went max (life_of u) (life_of w) t.comes (told l) (told m) (counts l) (counts m)
    turn_went answer u w l m lives mx le t =
        let made : EndedBy hears says None (life_of u) l t.comes (life_of w) m =
        subst (λ (x : Option ClientEnd). EndedBy hears says x (life_of u) l t.comes (life_of w) m) lives t.made in
        send_went (is_nil u.parts.outgoing.pending) (life_of u) (life_of w) t.comes l m mx le refl made
