-- What a turn did, by its answer
use Rattle.std.proofs.Common.{◌≡◌, ◌⊎◌, inl, inr, ◌<◌, ◌≤◌, ℕ, Bool, true, false, not, ◌&&◌, ◌||◌, nat_le, is_some, List, [], ◌∷◌, ◌++◌, length, take, Option, Some, None, Result, Ok, Err, refl, sym, ap, ◌∙◌, subst, arith, length-append}
use Rattle.std.proofs.lemmas.List.{length-take}
use Rattle.relay_outside.specs.Counts.{Rose}
use Rattle.relay_outside.specs.Heard.{Came, CameBytes, CameEnd, CameNotYet, CameFailed, HearStep}
use Rattle.relay_outside.specs.Said.{SayStep}
use Rattle.relay_outside.specs.Told.{LinkCounts, LinkTold}
use Rattle.relay_outside.specs.declared.link.Said.{Said}
use Rattle.relay_outside.specs.declared.link.Said.TheVariants as said
use Rattle.client_owed.specs.declared.types.Gift.{Gift}
use Rattle.client_owed.specs.Standing.{Past}
use Rattle.rtmp_client.specs.Causes.{Did, MayBe}
use Rattle.rtmp_client.specs.ClientState.{IsClient, LivesOn, StandsBy}
use Rattle.rtmp_client.specs.Feeding.{IsSent}
use Rattle.rtmp_client.specs.Turns.{CameAs, DoneBy, EmptyBy, EndedBy, Fed, FedAs, FedBy, Quietly, Loudly, Stopping, InputBy, Life, SendBy, SentAs, end_of, is_done, is_hungry, is_nil, life, turn_of}
use Rattle.rtmp_client.specs.declared.core_fields.Core.{Core}
use Rattle.rtmp_client.specs.declared.end.ClientEnd.{ClientEnd}
use Rattle.rtmp_client.specs.declared.end.ClientEnd.TheVariants as end
use Rattle.rtmp_client.proofs.Living.{read_here}

-- ---- an end says nothing more

ended_did : (v w : Life) (a : Result Bool ClientEnd) (e : ClientEnd) → a ≡ Err e → Did (turn_of a) v w
ended_did v w a e is = rw is tt

ended_may : (w : Life) (a : Result Bool ClientEnd) (e : ClientEnd) (x y : LinkCounts) → a ≡ Err e → MayBe (turn_of a) x y w
ended_may w a e x y is = rw is tt

-- ---- since the turn began

abbrev SentSince : Life → Life → Bool → Type 0
SentSince u v true = length u.parts.sent < length v.parts.sent
SentSince u v false = v.parts.sent ≡ u.parts.sent

record Since (u v : Life) (moved : Bool) : Type 0 where
  pub y : v.parts.y ≡ u.parts.y
  pub input : v.input ≡ u.input
  pub sent : SentSince u v moved

since_here : (u : Life) → Since u u false
since_here u = record { y = refl; input = refl; sent = refl }

stay_did : (u v : Life) (moved : Bool) → Since u v moved → Did (turn_of (Ok moved)) u v
stay_did u v true s = inl s.sent
stay_did u v false s = record { y = s.y; input = s.input; sent = s.sent }

some_length : (l : List ℕ) → is_nil l ≡ false → 0 < length l
some_length [] e = absurd (cc)
some_length (b ∷ l) e = omega arith

or_true : (a b : Bool) → b ≡ true → (a || b) ≡ true
or_true true b e = refl
or_true false b e = e

some_nil : (l : List ℕ) → 0 < length l → is_nil l ≡ false
some_nil [] e = absurd (omega (arith, e))
some_nil (b ∷ l) e = refl

-- where there is input, some of it is fed
fed_by : (by : FedBy) (u v w : Life) (moved : Bool) (a : Result Bool ClientEnd) → v.parts.y ≡ u.parts.y → is_nil v.input ≡ false → FedAs by v moved a w → Did (turn_of a) u w
fed_by Quietly u v w moved a ye n f =
    let more : length v.parts.y < length w.parts.y = omega (arith, ap length f.0.y, length-append v.parts.y f.0.fed, ap length f.0.split, length-append f.0.fed [], some_length v.input n) in
    let up : length u.parts.y < length w.parts.y = omega (arith, more, ap length ye) in
    let e : a ≡ Ok true = f.3 ∙ ap Ok (or_true moved (not (is_nil v.input)) (ap not n)) in
    rw e (inr up)
fed_by Loudly u v w moved a ye n f =
    let up : length u.parts.y < length w.parts.y = omega (arith, f.2, ap length ye) in
    rw f.3 (inr up)
fed_by (Stopping e) u v w moved a ye n f = ended_did u w a e f.1

fed_did : (u v w : Life) (moved : Bool) (a : Result Bool ClientEnd) → v.parts.y ≡ u.parts.y → is_nil v.input ≡ false → Fed v moved a w → Did (turn_of a) u w
fed_did u v w moved a ye n f = fed_by f.0 u v w moved a ye n f.1

fed_idle_by : (by : FedBy) (v w : Life) (moved : Bool) (a : Result Bool ClientEnd) (x y : LinkCounts) → is_nil v.input ≡ false → FedAs by v moved a w → MayBe (turn_of a) x y w
fed_idle_by Quietly v w moved a x y n f =
    let e : a ≡ Ok true = f.3 ∙ ap Ok (or_true moved (not (is_nil v.input)) (ap not n)) in
    rw e tt
fed_idle_by Loudly v w moved a x y n f = rw f.3 tt
fed_idle_by (Stopping e) v w moved a x y n f = ended_may w a e x y f.1

rose_then : (a b c : ℕ) → Rose a b → Rose b c → Rose a c
rose_then a b c r s = record { later = omega (arith, r.later, s.later); higher = omega (arith, r.higher, s.later) }

-- why nothing moves
abbrev Waits : LinkCounts → LinkCounts → Core → Type 0
Waits x y c = Rose x.waits y.waits ⊎ (is_nil c.outgoing.pending ≡ true)

hungry_not : (g : Option Gift) (o : ℕ) (l : List ℕ) → o ≤ length l → is_nil l ≡ true → (not (is_some g) && nat_le o 8192) ≡ false → is_some g ≡ true
hungry_not (Some g) o l le n e = refl
hungry_not None o [] le n e = absurd (let z : o ≡ 0 = omega (arith, le) in let h : nat_le 0 8192 ≡ false = ap (λ (k : ℕ). nat_le k 8192) (sym z) ∙ e in cc)
hungry_not None o (b ∷ l) le n e = absurd (cc)

module _ {L : Type 0} (hears : L → ℕ → Came → L → Type 0) (told : L → Option LinkTold) (counts : L → LinkCounts)
    (hears_mean : (l : L) (room : ℕ) (answer : Came) (m : L) → 0 < room → hears l room answer m → HearStep room (told l) (told m) (counts l) (counts m) answer) where
  came_did : (came : Came) (u v w : Life) (moved : Bool) (a : Result Bool ClientEnd) (l m : L) → Since u v moved → hears l 4096 came m → CameAs came v moved a w → Did (turn_of a) u w
  came_did (CameBytes b) u v w moved a l m s h (inl f) = fed_did u (life v.parts b) w true a s.y (some_nil b (hears_mean l 4096 (CameBytes b) m (omega arith) h).count.0) f
  came_did (CameBytes b) u v w moved a l m s h (inr e) = ended_did u w a end.OutOfMemory e.ended
  came_did CameNotYet u v w moved a l m s h f = rw (f.0, f.1) (stay_did u v moved s)
  came_did CameEnd u v w moved a l m s h e = ended_did u w a end.PeerClosed e.ended
  came_did CameFailed u v w moved a l m s h e = ended_did u w a end.LinkFault e.ended

  empty_did : (b : Bool) (u v w : Life) (moved : Bool) (a : Result Bool ClientEnd) (l m : L) → is_nil v.input ≡ b → Since u v moved → EmptyBy hears b v l moved a w m → Did (turn_of a) u w
  empty_did true u v w moved a l m n s f = came_did f.0 u v w moved a l m s f.1.0 f.1.1
  empty_did false u v w moved a l m n s f = fed_did u v w moved a s.y n f.0

  input_did : (b : Bool) (u v w : Life) (moved : Bool) (a : Result Bool ClientEnd) (l m : L) → Since u v moved → InputBy hears b v l moved a w m → Did (turn_of a) u w
  input_did true u v w moved a l m s f = empty_did (is_nil v.input) u v w moved a l m refl s f
  input_did false u v w moved a l m s f = rw (f.0, f.1) (stay_did u v moved s)

  done_did : (b : Bool) (u v w : Life) (moved : Bool) (a : Result Bool ClientEnd) (l m : L) → Since u v moved → DoneBy hears b v l moved a w m → Did (turn_of a) u w
  done_did true u v w moved a l m s f = ended_did u w a end.Done f.0.ended
  done_did false u v w moved a l m s f = input_did (is_hungry v.parts) u v w moved a l m s f

  -- ---- it is idle only where something waits

  -- what is known of it where nothing has moved: the link's waits rose, or nothing is pending; and its waits rose or stayed
  abbrev Still : LinkCounts → LinkCounts → Core → Type 0
  Still x y c = Waits x y c × (x.waits ≡ y.waits ⊎ Rose x.waits y.waits)

  rose_on : (a b c : ℕ) → (a ≡ b ⊎ Rose a b) → Rose b c → Rose a c
  rose_on a b c (inl e) s = subst (λ (n : ℕ). Rose n c) (sym e) s
  rose_on a b c (inr r) s = rose_then a b c r s

  came_may : (came : Came) (v w : Life) (moved : Bool) (a : Result Bool ClientEnd) (l m : L) (x : LinkCounts) → (moved ≡ false → Still x (counts l) v.parts) → hears l 4096 came m → CameAs came v moved a w → MayBe (turn_of a) x (counts m) w
  came_may (CameBytes b) v w moved a l m x k h (inl f) = fed_idle_by f.0 (life v.parts b) w true a x (counts m) (some_nil b (hears_mean l 4096 (CameBytes b) m (omega arith) h).count.0) f.1
  came_may (CameBytes b) v w moved a l m x k h (inr e) = ended_may w a end.OutOfMemory x (counts m) e.ended
  came_may CameNotYet v w true a l m x k h f = rw f.0 tt
  came_may CameNotYet v w false a l m x k h f =
      let s = hears_mean l 4096 CameNotYet m (omega arith) h in
      rw f.0 (inl (rose_on x.waits (counts l).waits (counts m).waits (k refl).1 s.counts.1))
  came_may CameEnd v w moved a l m x k h e = ended_may w a end.PeerClosed x (counts m) e.ended
  came_may CameFailed v w moved a l m x k h e = ended_may w a end.LinkFault x (counts m) e.ended

  empty_may : (b : Bool) (v w : Life) (moved : Bool) (a : Result Bool ClientEnd) (l m : L) (x : LinkCounts) → is_nil v.input ≡ b → (moved ≡ false → Still x (counts l) v.parts) → EmptyBy hears b v l moved a w m → MayBe (turn_of a) x (counts m) w
  empty_may true v w moved a l m x n k f = came_may f.0 v w moved a l m x k f.1.0 f.1.1
  empty_may false v w moved a l m x n k f = fed_idle_by f.0.0 v w moved a x (counts m) n f.0.1

  by_wait : (v : Life) (x y : LinkCounts) → v.parts.outgoing.others ≤ length v.parts.outgoing.pending → is_hungry v.parts ≡ false → Waits x y v.parts → Rose x.waits y.waits ⊎ (is_some v.parts.gift ≡ true)
  by_wait v x y le h (inl r) = inl r
  by_wait v x y le h (inr n) = inr (hungry_not v.parts.gift v.parts.outgoing.others v.parts.outgoing.pending le n h)

  input_may : (b : Bool) (v w : Life) (moved : Bool) (a : Result Bool ClientEnd) (l m : L) (x : LinkCounts) → is_hungry v.parts ≡ b → v.parts.outgoing.others ≤ length v.parts.outgoing.pending → (moved ≡ false → Still x (counts l) v.parts)
      → InputBy hears b v l moved a w m → MayBe (turn_of a) x (counts m) w
  input_may true v w moved a l m x h le k f = empty_may (is_nil v.input) v w moved a l m x refl k f
  input_may false v w true a l m x h le k f = rw f.0 tt
  input_may false v w false a l m x h le k f = rw (f.0, f.1, f.2) (by_wait v x (counts l) le h (k refl).0)

  done_may : (b : Bool) (v w : Life) (moved : Bool) (a : Result Bool ClientEnd) (l m : L) (x : LinkCounts) → v.parts.outgoing.others ≤ length v.parts.outgoing.pending → (moved ≡ false → Still x (counts l) v.parts) → DoneBy hears b v l moved a w m
      → MayBe (turn_of a) x (counts m) w
  done_may true v w moved a l m x le k f = ended_may w a end.Done x (counts m) f.0.ended
  done_may false v w moved a l m x le k f = input_may (is_hungry v.parts) v w moved a l m x refl le k f

  module _ (says : L → List ℕ → Said → L → Type 0) (says_mean : (l : L) (piece : List ℕ) (answer : Said) (m : L) → 0 < length piece → says l piece answer m → SayStep piece (told l) (told m) (counts l) (counts m) answer) where
    piece_some : (l : List ℕ) → is_nil l ≡ false → 0 < length (take 16384 l)
    piece_some l n = omega (arith, length-take 16384 l, some_length l n)

    since_sent : (v : Life) (c : Core) (n : ℕ) → is_nil v.parts.outgoing.pending ≡ false → 0 < n → IsSent v.parts n c → Since v (life c v.input) true
    since_sent v c n e some s =
        let p = v.parts.outgoing.pending in
        let sent : c.sent ≡ v.parts.sent ++ take n p = ap (λ (x : Past). x.sent) s.past in
        record {
          y = ap (λ (x : Past). x.y) s.past;
          input = refl;
          sent = omega (arith, ap length sent, length-append v.parts.sent (take n p), length-take n p, some, some_length p e);
        }

    said_did : (q : Said) (v w : Life) (a : Result Bool ClientEnd) (l k m : L) → is_nil v.parts.outgoing.pending ≡ false → says l (take 16384 v.parts.outgoing.pending) q k → SentAs hears says q v k a w m → Did (turn_of a) v w
    said_did (said.Took n) v w a l k m e h f =
        let t = says_mean l (take 16384 v.parts.outgoing.pending) (said.Took n) k (piece_some v.parts.outgoing.pending e) h in
        done_did (is_done f.0) v (life f.0 v.input) w true a k m (since_sent v f.0 n e t.count.0 f.1.0) f.1.1
    said_did said.NotYet v w a l k m e h f = done_did (is_done v.parts) v v w false a k m (since_here v) f
    said_did said.Failed v w a l k m e h f = ended_did v w a end.LinkFault f.0.ended
    said_did said.OutOfMemory v w a l k m e h f = ended_did v w a end.OutOfMemory f.0.ended

    send_did : (b : Bool) (v w : Life) (a : Result Bool ClientEnd) (l m : L) → is_nil v.parts.outgoing.pending ≡ b → SendBy hears says b v l a w m → Did (turn_of a) v w
    send_did true v w a l m e f = done_did (is_done v.parts) v v w false a l m (since_here v) f
    send_did false v w a l m e f = said_did f.0 v w a l f.1.0 m e f.1.1.0 f.1.1.1

    pub turn_did : (o : Option ClientEnd) (v w : Life) (a : Result Bool ClientEnd) (l m : L) → EndedBy hears says o v l a w m → Did (turn_of a) v w
    turn_did (Some e) v w a l m f = ended_did v w a e f.0
    turn_did None v w a l m f = send_did (is_nil v.parts.outgoing.pending) v w a l m refl f

    sent_within : (v : Life) (c : Core) (n : ℕ) → IsSent v.parts n c → c.outgoing.others ≤ length c.outgoing.pending
    sent_within v c n s = omega (arith, s.others)

    never : (x y : LinkCounts) (c : Core) → true ≡ false → Still x y c
    never x y c e = absurd (cc)

    said_may : (q : Said) (v w : Life) (a : Result Bool ClientEnd) (l k m : L) → is_nil v.parts.outgoing.pending ≡ false → v.parts.outgoing.others ≤ length v.parts.outgoing.pending → says l (take 16384 v.parts.outgoing.pending) q k → SentAs hears says q v k a w m
        → MayBe (turn_of a) (counts l) (counts m) w
    said_may (said.Took n) v w a l k m e le h f =
        done_may (is_done f.0) (life f.0 v.input) w true a k m (counts l) (sent_within v f.0 n f.1.0) (never (counts l) (counts k) f.0) f.1.1
    said_may said.NotYet v w a l k m e le h f =
        let t = says_mean l (take 16384 v.parts.outgoing.pending) said.NotYet k (piece_some v.parts.outgoing.pending e) h in
        done_may (is_done v.parts) v w false a k m (counts l) le (λ z. (inl t.counts.1, inr t.counts.1)) f
    said_may said.Failed v w a l k m e le h f = ended_may w a end.LinkFault (counts l) (counts m) f.0.ended
    said_may said.OutOfMemory v w a l k m e le h f = ended_may w a end.OutOfMemory (counts l) (counts m) f.0.ended

    send_may : (b : Bool) (v w : Life) (a : Result Bool ClientEnd) (l m : L) → is_nil v.parts.outgoing.pending ≡ b → v.parts.outgoing.others ≤ length v.parts.outgoing.pending → SendBy hears says b v l a w m → MayBe (turn_of a) (counts l) (counts m) w
    send_may true v w a l m e le f = done_may (is_done v.parts) v w false a l m (counts l) le (λ z. (inr e, inl refl)) f
    send_may false v w a l m e le f = said_may f.0 v w a l f.1.0 m e le f.1.1.0 f.1.1.1

    pub turn_may : (o : Option ClientEnd) (v w : Life) (a : Result Bool ClientEnd) (l m : L) → v.parts.outgoing.others ≤ length v.parts.outgoing.pending → EndedBy hears says o v l a w m → MayBe (turn_of a) (counts l) (counts m) w
    turn_may (Some e) v w a l m le f = ended_may w a e (counts l) (counts m) f.0
    turn_may None v w a l m le f = send_may (is_nil v.parts.outgoing.pending) v w a l m refl le f

-- ---- what it leaves

pub stands_by : (o : Option ClientEnd) (c : Core) → IsClient o c → StandsBy o c
stands_by None c l = record { read = read_here c l.sound; stands = l.sound.stands }
stands_by (Some e) c l = record { more = l.more; over = l.over; all = l.all }

pub within_by : (o : Option ClientEnd) (c : Core) → IsClient o c → c.outgoing.others ≤ length c.outgoing.pending
within_by None c l = l.small.within
within_by (Some e) c l = l.small.within

pub client_by : (a : Result Bool ClientEnd) (o : Option ClientEnd) (c : Core) → o ≡ end_of a → LivesOn c a → IsClient o c
client_by (Ok b) o c e l = subst (λ (x : Option ClientEnd). IsClient x c) (sym e) l
client_by (Err f) o c e l = subst (λ (x : Option ClientEnd). IsClient x c) (sym e) l
