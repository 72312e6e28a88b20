-- A turn keeps a session's name, and ties its bytes to those of its link
use Rattle.std.proofs.Common.{◌≡◌, ◌≢◌, inl, inr, ℕ, zero, suc, ◌<◌, ◌≤◌, Bool, true, false, List, [], ◌∷◌, ◌++◌, length, take, refl, sym, ap, ◌∙◌, subst, arith, append_assoc, append-nil, Option, Some, None}
use Rattle.std.proofs.lemmas.List.Elements.{All-cons}
use Rattle.std.specs.Option.{option_map}
use Rattle.turn_gate.specs.Histories.{Begins}
use Rattle.relay_outside.specs.Counts.{Rose}
use Rattle.relay_outside.specs.Heard.{Came, CameBytes, CameCounts, CameEnd, CameNotYet, CameFailed, HearStep, CameTold}
use Rattle.relay_outside.specs.Said.{SayStep}
use Rattle.relay_outside.specs.Told.{LinkTold, LinkCounts, with_given, with_taken}
use Rattle.relay_outside.specs.declared.link.Said.{Said}
use Rattle.relay_outside.specs.declared.link.Said.TheVariants as said
use Rattle.command_dialog.specs.declared.types.Ask.{Ask}
use Rattle.command_dialog.specs.declared.types.Grant.{Grant}
use Rattle.command_dialog.specs.declared.types.Playing.{Playing}
use Rattle.stream_model.specs.declared.calls.Call.{Call}
use Rattle.stream_model.specs.declared.calls.Entry.{Entry}
use Rattle.stream_model.specs.declared.replies.Reply.{Reply}
use Rattle.session_owed.specs.Standing.{Past}
use Rattle.session_owed.specs.Talk.{Own as Calls}
use Rattle.chunk_wire.specs.declared.message.Message.{Message}
use Rattle.relay_session.specs.Decided.{IsDecided}
use Rattle.relay_session.specs.Feeding.{Firm, Fixed, Heard, Hears, IsCalled, IsFed, IsStopped, firm_of, fixed_of, heard_of}
use Rattle.relay_session.specs.Keeping.{IsOver}
use Rattle.relay_session.specs.Owing.{pending}
use Rattle.relay_session.specs.SessionState.{ended_by}
use Rattle.relay_session.specs.Turns.{AfterCall, AfterKept, CallAsked, CallMade, CalledBy, CameAs, EmptyBy, EndedBy, Fed, FedAs, FedBy, Gone, Input, InputBy, IsEnded, IsFilled, KeptBy, Life, Loudly, Quietly, QuitBy, SendBy, Sent, SentAs, Stopping, TakeMade, Taken, TakenBy, answer, gone_of, is_hungry, is_nil, life, take_entry, takes}
use Rattle.relay_session.specs.declared.core_fields.Core.{Core}
use Rattle.relay_session.specs.SeatState.{Makes}
use Rattle.relay_session.specs.SeatVisits.{Visit}
use Rattle.relay_session.specs.Session.{does, entry_by}
use Rattle.relay_session.specs.declared.end.End.{End}
use Rattle.relay_session.specs.declared.end.End.TheVariants as end
use Rattle.relay_session.specs.declared.seat_answers.Made.{Made}
use Rattle.relay_session.specs.declared.seat_answers.Made.TheVariants as made
use Rattle.relay_session.specs.declared.turn.Turn.{Turn}
use Rattle.relay_session.specs.declared.turn.Turn.TheVariants as turn
use Rattle.relay_worker.specs.Books.{IsCause, Owns, TiesBy}

-- what no step of a turn changes
pub record Firmly (c d : Core) : Type 0 where
  pub who : d.who ≡ c.who
  pub window : d.window ≡ c.window
  pub max : d.reader.max ≡ c.reader.max

firmly_refl : (c : Core) → Firmly c c
firmly_refl c = record { who = refl; window = refl; max = refl }

firmly_is : (c d : Core) → d ≡ c → Firmly c d
firmly_is c d e = subst (Firmly c) (sym e) (firmly_refl c)

firmly_then : (b c d : Core) → Firmly b c → Firmly c d → Firmly b d
firmly_then b c d f g = record { who = g.who ∙ f.who; window = g.window ∙ f.window; max = g.max ∙ f.max }

firmly_firm : (c d : Core) → firm_of d ≡ firm_of c → Firmly c d
firmly_firm c d e = record { who = ap (λ (f : Firm). f.who) e; window = ap (λ (f : Firm). f.window) e; max = ap (λ (f : Firm). f.max) e }

firmly_fixed : (c d : Core) → fixed_of d ≡ fixed_of c → Firmly c d
firmly_fixed c d e = record { who = ap (λ (f : Fixed). f.who) e; window = ap (λ (f : Fixed). f.window) e; max = ap (λ (f : Fixed). f.max) e }

firmly_gone : (c d : Core) → gone_of d ≡ gone_of c → Firmly c d
firmly_gone c d e = record { who = ap (λ (g : Gone). g.who) e; window = ap (λ (g : Gone). g.window) e; max = ap (λ (g : Gone). g.max) e }

firmly_filled : (c d : Core) → IsFilled c d → Firmly c d
firmly_filled c d f = record { who = ap (λ (x : Core). x.who) f.rest; window = ap (λ (x : Core). x.window) f.rest; max = ap (λ (x : Core). x.reader.max) f.rest }

-- the bytes fed and sent are the same
pub record Even (c d : Core) : Type 0 where
  pub x : d.x ≡ c.x
  pub sent : d.sent ≡ c.sent

even_is : (c d : Core) → d ≡ c → Even c d
even_is c d e = record { x = ap (λ (k : Core). k.x) e; sent = ap (λ (k : Core). k.sent) e }

even_filled : (c d : Core) → IsFilled c d → Even c d
even_filled c d f = record { x = ap (λ (k : Core). k.x) f.rest; sent = ap (λ (k : Core). k.sent) f.rest }

even_gone : (c d : Core) → gone_of d ≡ gone_of c → Even c d
even_gone c d e = record { x = ap (λ (k : Gone). k.x) e; sent = ap (λ (k : Gone). k.sent) e }

even_called : (c d : Core) (e : Entry) (r : _) → IsCalled c e r d → Even c d
even_called c d e r i = record { x = ap (λ (p : Past). p.x) i.past; sent = ap (λ (p : Past). p.sent) i.past }

-- WHY ONE HAS ENDED so whose link tells this: its bytes, what it has read and its calls are the cause
pub record Ends (desk : Ask → Grant) (e : End) (t : Option LinkTold) (n : LinkCounts) (c : Core) : Type 0 where
  pub y : List ℕ
  pub fed : Begins c.x y
  pub cause : (over : IsOver desk e c) → IsCause (IsDecided c.who c.window desk over.ms c.calls c.reader.max) n y (length c.x) e
  pub told_is : (u : LinkTold) → t ≡ Some u → (u.gave ≡ y) × (u.took ≡ c.sent)

-- the law of relay_session of a byte that ends a session
abbrev pub Deciding : Type 0
Deciding = (desk : Ask → Grant) (old stopped left : Core) (input : List ℕ) (e : End) → IsStopped old input e stopped → gone_of left ≡ gone_of stopped
    → (over : IsOver desk e left) → IsDecided left.who left.window desk over.ms left.calls left.reader.max (old.x ++ input) (length left.x) e

-- what a link's bytes are to those of its session
abbrev pub Tied : (Ask → Grant) → Option End → Option LinkTold → LinkCounts → Core → List ℕ → Type 0
Tied desk None t n c input = TiesBy None t c.x input c.sent
Tied desk (Some e) t n c input = Ends desk e t n c

ties_even : (t : Option LinkTold) (c d : Core) (input input' : List ℕ) → input' ≡ input → Even c d → TiesBy None t c.x input c.sent → TiesBy None t d.x input' d.sent
ties_even t c d input input' i e k = λ u is. let p = k u is in (p.0 ∙ (ap (λ (y : List ℕ). y ++ input) (sym e.x) ∙ ap (λ (y : List ℕ). d.x ++ y) (sym i)), p.1 ∙ sym e.sent)

-- an end that no byte decides keeps what the link gave
ties_end : (desk : Ask → Grant) (e : End) (t : Option LinkTold) (n : LinkCounts) (c d : Core) (input : List ℕ)
    → ((Decided : List ℕ → ℕ → End → Type 0) → IsCause Decided n (c.x ++ input) (length c.x) e) → Even c d → TiesBy None t c.x input c.sent → Ends desk e t n d
ties_end desk e t n c d input cause same k = record {
  y = c.x ++ input;
  fed = subst (λ (x : List ℕ). Begins x (c.x ++ input)) (sym same.x) (input, refl);
  cause = λ over. subst (λ (x : List ℕ). IsCause (IsDecided d.who d.window desk over.ms d.calls d.reader.max) n (c.x ++ input) (length x) e) (sym same.x)
      (cause (IsDecided d.who d.window desk over.ms d.calls d.reader.max));
  told_is = λ u is. let p = k u is in (p.0, p.1 ∙ sym same.sent);
}

-- what a recv leaves of it, where no input was left
ties_came : (t t' : Option LinkTold) (x input sent b : List ℕ) → input ≡ [] → t' ≡ option_map (with_given b) t → TiesBy None t x input sent → TiesBy None t' x b sent
ties_came None t' x input sent b none is k = λ u e. absurd (let f : None ≡ Some u = sym is ∙ e in cc)
ties_came (Some t) t' x input sent b none is k = λ u e.
    let same : with_given b t ≡ u = let f : Some (with_given b t) ≡ Some u = sym is ∙ e in cc in
    let p = k t refl in
    (sym (ap (λ (v : LinkTold). v.gave) same) ∙ (ap (λ (g : List ℕ). g ++ b) (p.0 ∙ (ap (λ (y : List ℕ). x ++ y) none ∙ append-nil x))), sym (ap (λ (v : LinkTold). v.took) same) ∙ p.1)

-- what a send leaves of it
ties_said : (t t' : Option LinkTold) (x input sent sent' b : List ℕ) → sent' ≡ sent ++ b → t' ≡ option_map (with_taken b) t → TiesBy None t x input sent → TiesBy None t' x input sent'
ties_said None t' x input sent sent' b more is k = λ u e. absurd (let f : None ≡ Some u = sym is ∙ e in cc)
ties_said (Some t) t' x input sent sent' b more is k = λ u e.
    let same : with_taken b t ≡ u = let f : Some (with_taken b t) ≡ Some u = sym is ∙ e in cc in
    let p = k t refl in
    (sym (ap (λ (v : LinkTold). v.gave) same) ∙ p.0, sym (ap (λ (v : LinkTold). v.took) same) ∙ (ap (λ (y : List ℕ). y ++ b) p.1 ∙ sym more))

-- one that lives, whose link tells the same
ties_told : (t t' : Option LinkTold) (x input sent : List ℕ) → t' ≡ t → TiesBy None t x input sent → TiesBy None t' x input sent
ties_told t t' x input sent is k = λ u e. k u (sym is ∙ e)

pub some_nil : (l : List ℕ) → is_nil l ≡ false → 0 < length (take 16384 l)
some_nil [] e = absurd (let n : true ≡ false = e in cc)
some_nil (b ∷ l) e = omega arith

nil_is : (l : List ℕ) → is_nil l ≡ true → l ≡ []
nil_is [] e = refl
nil_is (b ∷ l) e = absurd (let n : false ≡ true = e in cc)

pub take_less : (n k : ℕ) (l : List ℕ) → n ≤ length (take k l) → take n (take k l) ≡ take n l
take_less zero k l le = refl
take_less (suc n) zero l le = absurd (omega (arith, le))
take_less (suc n) (suc k) [] le = absurd (omega (arith, le))
take_less (suc n) (suc k) (x ∷ l) le = ap (λ (y : List ℕ). x ∷ y) (take_less n k l (omega (arith, le)))

-- ---- names

abbrev Own : ℕ → List Visit → Option Entry → Type 0
Own who visits kept = Owns who visits kept

pub owns_same : (who who' : ℕ) (v v' : List Visit) (k k' : Option Entry) → who' ≡ who → v' ≡ v → k' ≡ k → Owns who v k → Owns who' v' k'
owns_same who who' v v' k k' a b c o =
    subst (λ (w : ℕ). Owns w v' k') (sym a) (subst (λ (l : List Visit). Owns who l k') (sym b) (subst (λ (e : Option Entry). Owns who v e) (sym c) o))

-- a call that was made, and none waits
pub owns_made : (who who' : ℕ) (v v' : List Visit) (k k' : Option Entry) (place : ℕ) (e : Entry) (r : Reply) → who' ≡ who → v' ≡ (place, (e, r)) ∷ v → k' ≡ None → e.who ≡ who → Owns who v k → Owns who' v' k'
owns_made who who' v v' k k' place e r a b c named o =
    owns_same who who' ((place, (e, r)) ∷ v) v' None k' a b c
    (record { made = All-cons (λ (x : Visit). x.1.0.who ≡ who) (place, (e, r)) v named o.made; waits = λ f n. absurd (cc) })

entry_who : (who n : ℕ) (o : Option Call) (e : Entry) → entry_by who n o ≡ Some e → e.who ≡ who
entry_who who n None e is = absurd (let n : None ≡ Some e = is in cc)
entry_who who n (Some c) e is = let n : Some (record { who = who; at = n; call = c }) ≡ Some e = is in cc

-- a call that a message asks for
owns_asked : (who who' n : ℕ) (v : List Visit) (k k' : Option Entry) (o : Option Call) → who' ≡ who → k' ≡ entry_by who n o → Owns who v k → Owns who' v k'
owns_asked who who' n v k k' o a b w = subst (λ (x : ℕ). Owns x v k') (sym a) (record { made = w.made; waits = λ e is. entry_who who n o e (sym b ∙ is) })

-- ---- ends

pub rose_some : (before now : ℕ) → Rose before now → now ≢ 0
rose_some before now r = λ z. let h = r.higher in omega (arith, h, z)

-- nothing received is left to be fed
all_fed : (x input : List ℕ) → input ≡ [] → length x ≡ length (x ++ input)
all_fed x input none = ap length (sym (ap (λ (y : List ℕ). x ++ y) none ∙ append-nil x))

-- the byte decides, and want of memory has no cause
decides_causes : (who window : ℕ) (desk : Ask → Grant) (ms : List (ℕ × Message)) (calls : List Calls) (max : ℕ) (counts : LinkCounts) (y : List ℕ) (n : ℕ) (e : End) → IsDecided who window desk ms calls max y n e
    → IsCause (IsDecided who window desk ms calls max) counts y n e
decides_causes who window desk ms calls max counts y n (end.BadVersion at) d = d
decides_causes who window desk ms calls max counts y n (end.BadChunk cause at) d = d
decides_causes who window desk ms calls max counts y n (end.BadControl at) d = d
decides_causes who window desk ms calls max counts y n (end.BadCommand at) d = d
decides_causes who window desk ms calls max counts y n (end.TooManyStreams at) d = d
decides_causes who window desk ms calls max counts y n end.OutOfMemory d = tt
decides_causes who window desk ms calls max counts y n end.PeerClosed d = absurd d.decides
decides_causes who window desk ms calls max counts y n end.LinkFault d = absurd d.decides
decides_causes who window desk ms calls max counts y n end.Quit d = absurd d.decides
decides_causes who window desk ms calls max counts y n end.Worn d = absurd d.decides

leaves_idle : (moved : Bool) → ended_by (answer moved) ≡ None
leaves_idle true = refl
leaves_idle false = refl

module _ {P S L : Type 0} (told : L → Option LinkTold) (counts : L → LinkCounts) (visits : S → List Visit) (quit : Bool) (desk : Ask → Grant) (decided : Deciding) where
  -- WHAT A TURN LEAVES
  pub record Leaves (v : Life P S) (l : L) (a : Turn) (w : Life P S) (m : L) : Type 0 where
    pub firm : Firmly v.parts w.parts
    pub ties : quit ≡ false → TiesBy None (told l) v.parts.x v.input v.parts.sent → Tied desk (ended_by a) (told m) (counts m) w.parts w.input
    pub owns : Owns v.parts.who (visits v.seat) v.parts.kept → Owns w.parts.who (visits w.seat) w.parts.kept

  -- something before its end
  record Passes (v : Life P S) (l : L) (k : Life P S) (n : L) : Type 0 where
    pub firm : Firmly v.parts k.parts
    pub ties : TiesBy None (told l) v.parts.x v.input v.parts.sent → TiesBy None (told n) k.parts.x k.input k.parts.sent
    pub owns : Owns v.parts.who (visits v.seat) v.parts.kept → Owns k.parts.who (visits k.seat) k.parts.kept

  after : (v : Life P S) (l : L) (k : Life P S) (n : L) (a : Turn) (w : Life P S) (m : L) → Passes v l k n → Leaves k n a w m → Leaves v l a w m
  after v l k n a w m p q = record {
    firm = firmly_then v.parts k.parts w.parts p.firm q.firm;
    ties = λ u t. q.ties u (p.ties t);
    owns = λ o. q.owns (p.owns o);
  }

  passes_even : (v k : Life P S) (l : L) → Firmly v.parts k.parts → Even v.parts k.parts → k.input ≡ v.input → (Owns v.parts.who (visits v.seat) v.parts.kept → Owns k.parts.who (visits k.seat) k.parts.kept) → Passes v l k l
  passes_even v k l f e i o = record { firm = f; ties = ties_even (told l) v.parts k.parts v.input k.input i e; owns = o }

  -- it goes on
  leaves_as : (a : Turn) (v w : Life P S) (l : L) → ended_by a ≡ None → Passes v l w l → Leaves v l a w l
  leaves_as a v w l e p = record {
    firm = p.firm;
    ties = λ u t. subst (λ (o : Option End). Tied desk o (told l) (counts l) w.parts w.input) (sym e) (p.ties t);
    owns = p.owns;
  }

  leaves_on : (moved : Bool) (a : Turn) (v w : Life P S) (l : L) → a ≡ answer moved → Passes v l w l → Leaves v l a w l
  leaves_on moved a v w l is p = leaves_as a v w l (ap ended_by is ∙ leaves_idle moved) p

  -- it ends
  leaves_end : (e : End) (a : Turn) (v w : Life P S) (l : L) → ((Decided : List ℕ → ℕ → End → Type 0) → IsCause Decided (counts l) (v.parts.x ++ v.input) (length v.parts.x) e) → a ≡ turn.Ended e → Firmly v.parts w.parts → Even v.parts w.parts
      → (Owns v.parts.who (visits v.seat) v.parts.kept → Owns w.parts.who (visits w.seat) w.parts.kept) → Leaves v l a w l
  leaves_end e a v w l cause is f k o = record {
    firm = f;
    ties = λ u t. subst (λ (b : Turn). Tied desk (ended_by b) (told l) (counts l) w.parts w.input) (sym is) (ties_end desk e (told l) (counts l) v.parts w.parts v.input cause k t);
    owns = o;
  }

  gone_owns : (e : End) (v : Life P S) (a : Turn) (w : Life P S) → IsEnded e v a w → Owns v.parts.who (visits v.seat) v.parts.kept → Owns w.parts.who (visits w.seat) w.parts.kept
  gone_owns e v a w i = owns_same v.parts.who w.parts.who (visits v.seat) (visits w.seat) v.parts.kept w.parts.kept (ap (λ (g : Gone). g.who) i.gone) (ap visits i.seat) (ap (λ (g : Gone). g.kept) i.gone)

  leaves_ended : (e : End) (v : Life P S) (a : Turn) (w : Life P S) (l : L) → ((Decided : List ℕ → ℕ → End → Type 0) → IsCause Decided (counts l) (v.parts.x ++ v.input) (length v.parts.x) e) → IsEnded e v a w → Leaves v l a w l
  leaves_ended e v a w l cause i = leaves_end e a v w l cause i.ended (firmly_gone v.parts w.parts i.gone) (even_gone v.parts w.parts i.gone) (gone_owns e v a w i)

  -- the same where the link is another that tells the same
  leaves_at : (v : Life P S) (l n : L) (a : Turn) (w : Life P S) (m : L) → told n ≡ told l → Leaves v n a w m → Leaves v l a w m
  leaves_at v l n a w m is q = record { firm = q.firm; ties = λ u t. q.ties u (ties_told (told l) (told n) v.parts.x v.input v.parts.sent is t); owns = q.owns }

  leaves_to : (v : Life P S) (l : L) (a : Turn) (w : Life P S) (m : L) → m ≡ l → Leaves v l a w l → Leaves v l a w m
  leaves_to v l a w m is q = subst (λ (n : L). Leaves v l a w n) (sym is) q

  module _ (asks : P → S → ℕ → Entry → Made → P → S → Type 0) (makes : (x : P) (s : S) (place : ℕ) (e : Entry) (r : Made) (y : P) (t : S) → asks x s place e r y t → Makes place e r (visits s) (visits t)) where
    -- ---- step 6

    -- where nothing was made
    still : (v w : Life P S) → w.parts ≡ v.parts → visits w.seat ≡ visits v.seat → Owns v.parts.who (visits v.seat) v.parts.kept → Owns w.parts.who (visits w.seat) w.parts.kept
    still v w p s = owns_same v.parts.who w.parts.who (visits v.seat) (visits w.seat) v.parts.kept w.parts.kept (ap (λ (c : Core). c.who) p) s (ap (λ (c : Core). c.kept) p)

    made_owns : (v w : Life P S) (place : ℕ) (e : Entry) (r : Reply) → e.who ≡ v.parts.who → IsCalled v.parts e r w.parts → Makes place e (made.Answer r) (visits v.seat) (visits w.seat)
        → Owns v.parts.who (visits v.seat) v.parts.kept → Owns w.parts.who (visits w.seat) w.parts.kept
    made_owns v w place e r named c m = owns_made v.parts.who w.parts.who (visits v.seat) (visits w.seat) v.parts.kept w.parts.kept place e r (ap (λ (f : Firm). f.who) c.firm) m (ap (λ (p : Past). p.kept) c.past) named

    take_made : (v : Life P S) (place : ℕ) (e : Entry) (moved : Bool) (came : Made) (w : Life P S) (a : Turn) (l : L) → e.who ≡ v.parts.who → Makes place e came (visits v.seat) (visits w.seat)
        → w.input ≡ v.input → TakeMade v e moved came w a → Leaves v l a w l
    take_made v place e moved (made.Answer r) w a l named m i (c, inl t) =
        leaves_on _ a v w l t.0 (passes_even v w l (firmly_firm v.parts w.parts c.firm) (even_called v.parts w.parts e r c) i (made_owns v w place e r named c m))
    take_made v place e moved (made.Answer r) w a l named m i (c, inr t) =
        leaves_end end.OutOfMemory a v w l (λ d. tt) t (firmly_firm v.parts w.parts c.firm) (even_called v.parts w.parts e r c) (made_owns v w place e r named c m)
    take_made v place e moved (made.Busy f) w a l named m i t = leaves_on moved a v w l t.1 (passes_even v w l (firmly_is v.parts w.parts t.0) (even_is v.parts w.parts t.0) i (still v w t.0 m.1))
    take_made v place e moved (made.Worn f) w a l named m i t = leaves_end end.Worn a v w l (λ d. tt) t.1 (firmly_is v.parts w.parts t.0) (even_is v.parts w.parts t.0) (still v w t.0 m.1)
    take_made v place e moved (made.OutOfMemory f) w a l named m i t = leaves_end end.OutOfMemory a v w l (λ d. tt) t.1 (firmly_is v.parts w.parts t.0) (even_is v.parts w.parts t.0) (still v w t.0 m.1)

    same_life : (v w : Life P S) (l : L) → w ≡ v → Passes v l w l
    same_life v w l e = subst (λ (k : Life P S). Passes v l k l) (sym e) (record { firm = firmly_refl v.parts; ties = λ t. t; owns = λ o. o })

    taken_by : (o : Option Playing) (v : Life P S) (moved : Bool) (a : Turn) (w : Life P S) (l : L) → TakenBy asks o v moved a w → Leaves v l a w l
    taken_by None v moved a w l t = leaves_on moved a v w l t.0 (same_life v w l t.1)
    taken_by (Some p) v moved a w l t = take_made v t.place (take_entry v.parts p) moved t.came w a l refl (makes v.port v.seat t.place (take_entry v.parts p) t.came w.port w.seat t.asked) t.input t.taken

    filled : (v : Life P S) (c : Core) (l : L) → IsFilled v.parts c → Passes v l (life c v.input v.port v.seat) l
    filled v c l f = passes_even v (life c v.input v.port v.seat) l (firmly_filled v.parts c f) (even_filled v.parts c f) refl
        (owns_same v.parts.who c.who (visits v.seat) (visits v.seat) v.parts.kept c.kept (ap (λ (x : Core). x.who) f.rest) refl (ap (λ (x : Core). x.kept) f.rest))

    taken : (v : Life P S) (moved : Bool) (a : Turn) (w : Life P S) (l : L) → Taken asks v moved a w → Leaves v l a w l
    taken v moved a w l (inl t) = after v l (life t.0 v.input v.port v.seat) l a w l (filled v t.0 l t.1) (taken_by (takes t.0) (life t.0 v.input v.port v.seat) moved a w l t.2)
    taken v moved a w l (inr t) = leaves_ended end.OutOfMemory v a w l (λ d. tt) t

    -- ---- a call that waited

    call_made : (v : Life P S) (place : ℕ) (e : Entry) (came : Made) (w : Life P S) (l : L) → v.parts.kept ≡ Some e → Makes place e came (visits v.seat) (visits w.seat) → w.input ≡ v.input → CallMade v e came w → Passes v l w l
    call_made v place e (made.Answer r) w l k m i c =
        passes_even v w l (firmly_firm v.parts w.parts c.firm) (even_called v.parts w.parts e r c) i (λ o. made_owns v w place e r (o.waits e k) c m o)
    call_made v place e (made.Busy f) w l k m i t = passes_even v w l (firmly_is v.parts w.parts t) (even_is v.parts w.parts t) i (still v w t m.1)
    call_made v place e (made.Worn f) w l k m i t = passes_even v w l (firmly_is v.parts w.parts t) (even_is v.parts w.parts t) i (still v w t m.1)
    call_made v place e (made.OutOfMemory f) w l k m i t = passes_even v w l (firmly_is v.parts w.parts t) (even_is v.parts w.parts t) i (still v w t m.1)

    asked : (v : Life P S) (e : Entry) (came : Made) (w : Life P S) (l : L) → v.parts.kept ≡ Some e → CallAsked asks v e came w → Passes v l w l
    asked v e came w l k c = call_made v c.place e came w l k (makes v.port v.seat c.place e came w.port w.seat c.asked) c.input c.called

    after_call : (v m : Life P S) (came : Made) (a : Turn) (w : Life P S) (l : L) → AfterCall asks v came m a w → Leaves m l a w l
    after_call v m (made.Answer r) a w l (inl t) = taken m true a w l t.1
    after_call v m (made.Answer r) a w l (inr t) = leaves_ended end.OutOfMemory m a w l (λ d. tt) t
    after_call v m (made.Busy f) a w l t = taken m true a w l t
    after_call v m (made.Worn f) a w l t = leaves_ended end.Worn m a w l (λ d. tt) t
    after_call v m (made.OutOfMemory f) a w l t = leaves_ended end.OutOfMemory m a w l (λ d. tt) t

    called : (o : Option Entry) (v : Life P S) (a : Turn) (w : Life P S) (l : L) → v.parts.kept ≡ o → CalledBy asks o v a w → Leaves v l a w l
    called None v a w l k t = taken v true a w l t
    called (Some e) v a w l k t = after v l t.1.0 l a w l (asked v e t.0 t.1.0 l k t.1.1.0) (after_call v t.1.0 t.0 a w l t.1.1.1)

    -- ---- step 5

    fed_on : (v : Life P S) (c : Core) (left : List ℕ) (l : L) → IsFed v.parts v.input c left → (Owns v.parts.who (visits v.seat) v.parts.kept → Owns c.who (visits v.seat) c.kept) → Passes v l (life c left v.port v.seat) l
    fed_on v c left l f o = record {
      firm = firmly_fixed v.parts c f.fixed;
      ties = λ t. λ u is. let p = t u is in (
        p.0 ∙ (ap (λ (y : List ℕ). v.parts.x ++ y) (sym f.split) ∙ (sym (append_assoc v.parts.x f.fed left) ∙ ap (λ (y : List ℕ). y ++ left) (sym f.x))),
        p.1 ∙ sym (ap (λ (k : Fixed). k.sent) f.fixed),
      );
      owns = o;
    }

    quiet_owns : (v : Life P S) (c : Core) (left : List ℕ) → IsFed v.parts v.input c left → heard_of c ≡ heard_of v.parts → Owns v.parts.who (visits v.seat) v.parts.kept → Owns c.who (visits v.seat) c.kept
    quiet_owns v c left f h = owns_same v.parts.who c.who (visits v.seat) (visits v.seat) v.parts.kept c.kept (ap (λ (k : Fixed). k.who) f.fixed) refl (ap (λ (k : Heard). k.kept) h)

    stopped : (v : Life P S) (e : End) (c : Core) (a : Turn) (w : Life P S) (l : L) → IsStopped v.parts v.input e c → IsEnded e (life c v.input v.port v.seat) a w → Leaves v l a w l
    stopped v e c a w l s i = record {
      firm = firmly_then v.parts c w.parts (firmly_fixed v.parts c s.fixed) (firmly_gone c w.parts i.gone);
      ties = λ q t.
          let x_is : w.parts.x ≡ c.x = ap (λ (g : Gone). g.x) i.gone in
          let ends : Ends desk e (told l) (counts l) w.parts = record {
            y = v.parts.x ++ v.input;
            fed = subst (λ (x : List ℕ). Begins x (v.parts.x ++ v.input)) (sym x_is)
                (s.left, ap (λ (y : List ℕ). y ++ s.left) s.x ∙ (append_assoc v.parts.x s.fed s.left ∙ ap (λ (y : List ℕ). v.parts.x ++ y) s.split));
            cause = λ over. decides_causes w.parts.who w.parts.window desk over.ms w.parts.calls w.parts.reader.max (counts l) (v.parts.x ++ v.input) (length w.parts.x) e
                (decided desk v.parts c w.parts v.input e s i.gone over);
            told_is = λ u is. let p = t u is in (p.0, p.1 ∙ sym (ap (λ (g : Gone). g.sent) i.gone ∙ ap (λ (k : Fixed). k.sent) s.fixed));
          } in
          subst (λ (b : Turn). Tied desk (ended_by b) (told l) (counts l) w.parts w.input) (sym i.ended) ends;
      owns = λ o. gone_owns e (life c v.input v.port v.seat) a w i
          (owns_same v.parts.who c.who (visits v.seat) (visits v.seat) v.parts.kept c.kept (ap (λ (k : Fixed). k.who) s.fixed) refl s.kept o);
    }

    loud_owns : (v : Life P S) (c : Core) (left : List ℕ) → IsFed v.parts v.input c left → Hears desk v.parts c true → Owns v.parts.who (visits v.seat) v.parts.kept → Owns c.who (visits v.seat) c.kept
    loud_owns v c left f h = owns_asked v.parts.who c.who (length c.x) (visits v.seat) v.parts.kept c.kept (does desk v.parts.dialog h.0).makes (ap (λ (k : Fixed). k.who) f.fixed) (ap (λ (k : Heard). k.kept) h.1)

    fed_as : (by : FedBy) (v : Life P S) (moved : Bool) (a : Turn) (w : Life P S) (l : L) → FedAs asks desk by v moved a w → Leaves v l a w l
    fed_as Quietly v moved a w l t = after v l (life t.0 [] v.port v.seat) l a w l (fed_on v t.0 [] l t.1.0 (quiet_owns v t.0 [] t.1.0 t.1.1)) (taken (life t.0 [] v.port v.seat) _ a w l t.1.2)
    fed_as Loudly v moved a w l t = after v l (life t.0 t.1.0 v.port v.seat) l a w l (fed_on v t.0 t.1.0 l t.1.1.0 (loud_owns v t.0 t.1.0 t.1.1.0 t.1.1.1)) (called _ (life t.0 t.1.0 v.port v.seat) a w l refl t.1.1.2)
    fed_as (Stopping e) v moved a w l t = stopped v e t.0 a w l t.1.0 t.1.1

    fed : (v : Life P S) (moved : Bool) (a : Turn) (w : Life P S) (l : L) → Fed asks desk v moved a w → Leaves v l a w l
    fed v moved a w l t = fed_as t.0 v moved a w l t.1

    came_as : (came : Came) (v : Life P S) (moved : Bool) (a : Turn) (w : Life P S) (l m : L) → v.input ≡ [] → CameTold (told l) (told m) came → CameCounts (counts l) (counts m) came → CameAs asks desk came v moved a w → Leaves v l a w m
    came_as (CameBytes b) v moved a w l m none c r (inl t) =
        after v l (life v.parts b v.port v.seat) m a w m
        (record { firm = firmly_refl v.parts; ties = ties_came (told l) (told m) v.parts.x v.input v.parts.sent b none c.1; owns = λ o. o })
        (fed (life v.parts b v.port v.seat) true a w m t)
    came_as (CameBytes b) v moved a w l m none c r (inr t) =
        let g = even_gone v.parts w.parts t.gone in
        record {
          firm = firmly_gone v.parts w.parts t.gone;
          ties = λ n u. subst (λ (q : Turn). Tied desk (ended_by q) (told m) (counts m) w.parts w.input) (sym t.ended)
              (ties_end desk end.OutOfMemory (told m) (counts m) v.parts w.parts b (λ d. tt) g (ties_came (told l) (told m) v.parts.x v.input v.parts.sent b none c.1 u));
          owns = gone_owns end.OutOfMemory v a w t;
        }
    came_as CameNotYet v moved a w l m none c r t = leaves_at v l m a w m c (taken v moved a w m t)
    came_as CameEnd v moved a w l m none c r t = leaves_at v l m a w m c
        (leaves_ended end.PeerClosed v a w m (λ d. (rose_some (counts l).ends (counts m).ends r.2, all_fed v.parts.x v.input none)) t)
    came_as CameFailed v moved a w l m none c r t = leaves_at v l m a w m c (leaves_ended end.LinkFault v a w m (λ d. rose_some (counts l).faults (counts m).faults r.0) t)

    module _ (hears : L → ℕ → Came → L → Type 0) (hears_mean : (l : L) (room : ℕ) (answer : Came) (m : L) → 0 < room → hears l room answer m → HearStep room (told l) (told m) (counts l) (counts m) answer) where
      empty_by : (b : Bool) (v : Life P S) (l : L) (moved : Bool) (a : Turn) (w : Life P S) (m : L) → is_nil v.input ≡ b → EmptyBy asks desk hears b v l moved a w m → Leaves v l a w m
      empty_by true v l moved a w m e t =
          let step = hears_mean l 4096 t.0 m (omega arith) t.1.0 in
          came_as t.0 v moved a w l m (nil_is v.input e) step.told step.counts t.1.1
      empty_by false v l moved a w m e t = leaves_to v l a w m t.1 (fed v moved a w l t.0)

      input_by : (b : Bool) (v : Life P S) (l : L) (moved : Bool) (a : Turn) (w : Life P S) (m : L) → InputBy asks desk hears b v l moved a w m → Leaves v l a w m
      input_by true v l moved a w m t = empty_by (is_nil v.input) v l moved a w m refl t
      input_by false v l moved a w m t = leaves_to v l a w m t.1 (taken v moved a w l t.0)

      input : (v : Life P S) (l : L) (moved : Bool) (a : Turn) (w : Life P S) (m : L) → Input asks desk hears v l moved a w m → Leaves v l a w m
      input v l moved a w m t = input_by (is_hungry v.parts) v l moved a w m t

      module _ (says : L → List ℕ → Said → L → Type 0) (says_mean : (l : L) (piece : List ℕ) (answer : Said) (m : L) → 0 < length piece → says l piece answer m → SayStep piece (told l) (told m) (counts l) (counts m) answer) where
        -- ---- step 4

        sent_as : (q : Said) (v : Life P S) (l k : L) (moved : Bool) (a : Turn) (w : Life P S) (m : L) → SayStep (take 16384 (pending v.parts.outgoing)) (told l) (told k) (counts l) (counts k) q
            → SentAs asks desk hears says q v k moved a w m → Leaves v l a w m
        sent_as (said.Took n) v l k moved a w m s t =
            let c : Core = t.0 in
            let i = t.1.0 in
            let same : take n (take 16384 (pending v.parts.outgoing)) ≡ take n (pending v.parts.outgoing) = take_less n 16384 (pending v.parts.outgoing) s.count.1 in
            after v l (life c v.input v.port v.seat) k a w m
            (record {
              firm = firmly_firm v.parts c i.firm;
              ties = λ u. let x = ap (λ (p : Past). p.x) i.past in
                  subst (λ (y : List ℕ). TiesBy None (told k) y v.input c.sent) (sym x)
                  (ties_said (told l) (told k) v.parts.x v.input v.parts.sent c.sent (take n (take 16384 (pending v.parts.outgoing)))
                  (ap (λ (p : Past). p.sent) i.past ∙ ap (λ (y : List ℕ). v.parts.sent ++ y) (sym same)) s.told u);
              owns = owns_same v.parts.who c.who (visits v.seat) (visits v.seat) v.parts.kept c.kept (ap (λ (f : Firm). f.who) i.firm) refl (ap (λ (p : Past). p.kept) i.past);
            })
            (input (life c v.input v.port v.seat) k true a w m t.1.1)
        sent_as said.NotYet v l k moved a w m s t = leaves_at v l k a w m s.told (input v k moved a w m t)
        sent_as said.Failed v l k moved a w m s t = leaves_at v l k a w m s.told (leaves_to v k a w m t.1 (leaves_ended end.LinkFault v a w k (λ d. rose_some (counts l).faults (counts k).faults s.counts.0) t.0))
        sent_as said.OutOfMemory v l k moved a w m s t = leaves_at v l k a w m s.told (leaves_to v k a w m t.1 (leaves_ended end.OutOfMemory v a w k (λ d. tt) t.0))

        send_by : (b : Bool) (v : Life P S) (l : L) (moved : Bool) (a : Turn) (w : Life P S) (m : L) → is_nil (pending v.parts.outgoing) ≡ b → SendBy asks desk hears says b v l moved a w m → Leaves v l a w m
        send_by true v l moved a w m e t = input v l moved a w m t
        send_by false v l moved a w m e t =
            sent_as t.0 v l t.1.0 moved a w m (says_mean l (take 16384 (pending v.parts.outgoing)) t.0 t.1.0 (some_nil (pending v.parts.outgoing) e) t.1.1.0) t.1.1.1

        sent : (v : Life P S) (l : L) (moved : Bool) (a : Turn) (w : Life P S) (m : L) → Sent asks desk hears says v l moved a w m → Leaves v l a w m
        sent v l moved a w m (inl t) =
            after v l (life t.0 v.input v.port v.seat) l a w m (filled v t.0 l t.1.0) (send_by (is_nil (pending t.0.outgoing)) (life t.0 v.input v.port v.seat) l moved a w m refl t.1.1)
        sent v l moved a w m (inr t) = leaves_to v l a w m t.1 (leaves_ended end.OutOfMemory v a w l (λ d. tt) t.0)

        -- ---- steps 3, 2 and 1

        quit_by : (q : Bool) (v : Life P S) (l : L) (moved : Bool) (a : Turn) (w : Life P S) (m : L) → quit ≡ q → QuitBy asks desk hears says q v l moved a w m → Leaves v l a w m
        quit_by true v l moved a w m is t =
            let i = t.0 in
            leaves_to v l a w m t.1
            (record { firm = firmly_gone v.parts w.parts i.gone; ties = λ n. absurd (let e : true ≡ false = sym is ∙ n in cc); owns = gone_owns end.Quit v a w i })
        quit_by false v l moved a w m is t = sent v l moved a w m t

        after_kept : (q : Bool) (v k : Life P S) (came : Made) (l : L) (a : Turn) (w : Life P S) (m : L) → quit ≡ q → AfterKept asks desk hears says q v came k l a w m → Leaves k l a w m
        after_kept q v k (made.Answer r) l a w m is (inl t) = quit_by q k l true a w m is t.1
        after_kept q v k (made.Answer r) l a w m is (inr t) = leaves_to k l a w m t.1 (leaves_ended end.OutOfMemory k a w l (λ d. tt) t.0)
        after_kept q v k (made.Busy f) l a w m is t = leaves_to k l a w m t.2 (leaves_on false a k w l t.0 (same_life k w l t.1))
        after_kept q v k (made.Worn f) l a w m is t = leaves_to k l a w m t.1 (leaves_ended end.Worn k a w l (λ d. tt) t.0)
        after_kept q v k (made.OutOfMemory f) l a w m is t = leaves_to k l a w m t.1 (leaves_ended end.OutOfMemory k a w l (λ d. tt) t.0)

        kept_by : (o : Option Entry) (v : Life P S) (l : L) (a : Turn) (w : Life P S) (m : L) → v.parts.kept ≡ o → KeptBy asks desk hears says o quit v l a w m → Leaves v l a w m
        kept_by None v l a w m k t = quit_by quit v l false a w m refl t
        kept_by (Some e) v l a w m k t = after v l t.1.0 l a w m (asked v e t.0 t.1.0 l k t.1.1.0) (after_kept quit v t.1.0 t.0 l a w m refl t.1.1.1)

        -- A TURN of one that lives
        pub leaves : (o : Option End) (v : Life P S) (l : L) (a : Turn) (w : Life P S) (m : L) → o ≡ None → EndedBy asks desk hears says o quit v l a w m → Leaves v l a w m
        leaves None v l a w m n t = kept_by v.parts.kept v l a w m refl t
        leaves (Some e) v l a w m n t = absurd (let f : Some e ≡ None = n in cc)
