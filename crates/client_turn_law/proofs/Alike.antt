-- What makes two clients alike, and what keeps them so
use Rattle.std.proofs.Common.{◌≡◌, ℕ, min, Bool, not, ◌&&◌, nat_le, List, [], ◌∷◌, ◌++◌, length, take, drop, Option, Some, None, refl, sym, ap, ◌∙◌, subst}
use Rattle.std.proofs.Common.{arith}
use Rattle.std.specs.Option.{is_some}
use Rattle.std.proofs.lemmas.List.{append_cancel_left}
use Rattle.chunk_wire.specs.declared.message.Message.{Message}
use Rattle.chunk_reader.specs.ReaderKnown.{ReaderKnown}
use Rattle.chunk_writer.specs.WriterKnown.{WriterKnown}
use Rattle.ack_window.specs.Inbound.{InWindow}
use Rattle.client_owed.specs.declared.types.Asked.{Asked}
use Rattle.client_owed.specs.declared.types.Gave.{Gave}
use Rattle.client_owed.specs.declared.types.Gift.{Gift}
use Rattle.client_owed.specs.declared.types.Given.{Given}
use Rattle.client_owed.specs.declared.types.Given.TheVariants.{Finish, Send}
use Rattle.client_owed.specs.declared.types.Phase.{Phase}
use Rattle.client_owed.specs.Standing.{Keeps, Past, Stands, gave_more, gift_now, listed, pending_now, sent_more, with_given}
use Rattle.rtmp_client.specs.ClientState.{ClientState, Untouched, has_started, life_of}
use Rattle.rtmp_client.specs.Feeding.{Fixed, IsSent, fixed_of}
use Rattle.rtmp_client.specs.Keeping.{StandsNow, keeps_of, past_of}
use Rattle.rtmp_client.specs.Owing.{Apart, Counts, Owing}
use Rattle.rtmp_client.specs.Turns.{Gone, Life, gone_of, is_nil, life}
use Rattle.rtmp_client.specs.declared.core_fields.Core.{Core}
use Rattle.rtmp_client.specs.declared.end.ClientEnd.{ClientEnd}
use Rattle.client_turn_law.specs.Twins.{Alike, AreAlike, IsBegun, Left, SameBy, Seen, TellTheSame, WasGiven, gift_taken, left_of, seen_of}

-- ---- a client that lives

abbrev seen_with : Asked → ℕ → Past → Keeps → ℕ → List ℕ → Seen
seen_with k max p q others input = record { asked = k; max = max; past = p; keeps = q; others = others; input = input }

-- the same parts make it the same
pub seen_same : (k k' : Asked) (max max' : ℕ) (p p' : Past) (q q' : Keeps) (others others' : ℕ) (input input' : List ℕ) → k' ≡ k → max' ≡ max → p' ≡ p → q' ≡ q
    → others' ≡ others → input' ≡ input → seen_with k' max' p' q' others' input' ≡ seen_with k max p q others input
seen_same k k' max max' p p' q q' others others' input input' ke me pe qe oe ie =
    ap (λ (z : Asked). seen_with z max' p' q' others' input') ke
    ∙ (ap (λ (z : ℕ). seen_with k z p' q' others' input') me
    ∙ (ap (λ (z : Past). seen_with k max z q' others' input') pe
    ∙ (ap (λ (z : Keeps). seen_with k max p z others' input') qe
    ∙ (ap (λ (z : ℕ). seen_with k max p q z input') oe
    ∙ ap (λ (z : List ℕ). seen_with k max p q others z) ie))))

pub alike_by : (v w : Life) → w.parts.asked ≡ v.parts.asked → w.parts.reader.max ≡ v.parts.reader.max → past_of w.parts ≡ past_of v.parts
    → keeps_of w.parts ≡ keeps_of v.parts → w.parts.outgoing.others ≡ v.parts.outgoing.others → w.input ≡ v.input → Alike v w
alike_by v w ke me pe qe oe ie =
    seen_same v.parts.asked w.parts.asked v.parts.reader.max w.parts.reader.max (past_of v.parts) (past_of w.parts) (keeps_of v.parts) (keeps_of w.parts)
    v.parts.outgoing.others w.parts.outgoing.others v.input w.input ke me pe qe oe ie

-- what a step asks of it
abbrev pub hungry_in : Seen → Bool
hungry_in s = not (is_some s.keeps.gift) && nat_le s.others 8192

abbrev pub done_in : Seen → Bool
done_in s = s.keeps.finished && is_nil s.keeps.pending

-- ---- what it keeps follows from its past

listed_one : (g h : Option Gift) → listed h ≡ listed g → h ≡ g
listed_one None None e = refl
listed_one None (Some h) e = absurd (cc)
listed_one (Some g) None e = absurd (cc)
listed_one (Some g) (Some h) e = ap (first_or g) e
  where
    first_or : Gift → List Gift → Option Gift
    first_or d [] = Some d
    first_or d (x ∷ l) = Some x

abbrev keeps_with : List ℕ → WriterKnown → InWindow → Phase → Bool → Option Gift → Keeps
keeps_with pending writer window phase finished gift =
    record { pending = pending; writer = writer; window = window; phase = phase; finished = finished; gift = gift }

keeps_once : (k : Asked) (max : ℕ) (p : Past) (q r : Keeps) → Stands k max p q → Stands k max p r → r ≡ q
keeps_once k max p q r s t =
    ap (λ (z : List ℕ). keeps_with z r.writer r.window r.phase r.finished r.gift) (append_cancel_left p.sent r.pending q.pending (t.owes ∙ sym s.owes))
    ∙ (ap (λ (z : WriterKnown). keeps_with q.pending z r.window r.phase r.finished r.gift) (t.writer ∙ sym s.writer)
    ∙ (ap (λ (z : InWindow). keeps_with q.pending q.writer z r.phase r.finished r.gift) (t.window ∙ sym s.window)
    ∙ (ap (λ (z : Phase). keeps_with q.pending q.writer q.window z r.finished r.gift) (t.phase ∙ sym s.phase)
    ∙ (ap (λ (z : Bool). keeps_with q.pending q.writer q.window q.phase z r.gift) (t.finished ∙ sym s.finished)
    ∙ ap (λ (z : Option Gift). keeps_with q.pending q.writer q.window q.phase q.finished z)
    (listed_one q.gift r.gift (append_cancel_left p.taken (listed r.gift) (listed q.gift) (t.told ∙ sym s.told)))))))

pub keeps_same : (c d : Core) → d.asked ≡ c.asked → d.reader.max ≡ c.reader.max → past_of d ≡ past_of c → StandsNow c → StandsNow d → keeps_of d ≡ keeps_of c
keeps_same c d ke me pe s t =
    keeps_once c.asked c.reader.max (past_of c) (keeps_of c) (keeps_of d) s
    (subst (λ (k : Asked). Stands k c.reader.max (past_of c) (keeps_of d)) ke
    (subst (λ (m : ℕ). Stands d.asked m (past_of c) (keeps_of d)) me
    (subst (λ (p : Past). Stands d.asked d.reader.max p (keeps_of d)) pe t)))

-- ---- feeding

abbrev past_with : List ℕ → List (ℕ × Message) → List Gave → List ℕ → List Gift → Past
past_with y ms gave sent taken = record { y = y; ms = ms; gave = gave; sent = sent; taken = taken }

past_is : (c d : Core) → d.y ≡ c.y → d.reader.given ≡ c.reader.given → d.gave ≡ c.gave → d.sent ≡ c.sent → d.taken ≡ c.taken → past_of d ≡ past_of c
past_is c d y ms gave sent taken =
    ap (λ (z : List ℕ). past_with z d.reader.given d.gave d.sent d.taken) y
    ∙ (ap (λ (z : List (ℕ × Message)). past_with c.y z d.gave d.sent d.taken) ms
    ∙ (ap (λ (z : List Gave). past_with c.y c.reader.given z d.sent d.taken) gave
    ∙ (ap (λ (z : List ℕ). past_with c.y c.reader.given c.gave z d.taken) sent
    ∙ ap (λ (z : List Gift). past_with c.y c.reader.given c.gave c.sent z) taken)))

abbrev fixed_in : Seen → Fixed
fixed_in s = record { asked = s.asked; max = s.max; gave = s.past.gave; sent = s.past.sent; taken = s.past.taken; finished = s.keeps.finished }

others_same : (o o' p p' : Owing) → o'.pending ≡ o.pending → p'.pending ≡ p.pending → o'.others ≡ o.others → Apart o p → Apart o' p' → p'.others ≡ p.others
others_same o o' p p' oe pe ne a b = omega (arith, ap length oe, ap length pe, ne, a, b)

-- two that were fed the same and heard the same
pub fed_alike : (v v' w w' : Life) → Alike v v' → w'.parts.y ≡ w.parts.y → w'.parts.reader.given ≡ w.parts.reader.given → w'.input ≡ w.input
    → fixed_of w.parts ≡ fixed_of v.parts → fixed_of w'.parts ≡ fixed_of v'.parts → Apart v.parts.outgoing w.parts.outgoing
    → Apart v'.parts.outgoing w'.parts.outgoing → StandsNow w.parts → StandsNow w'.parts → Alike w w'
fed_alike v v' w w' h y given input f f' o o' s s' =
    let fixed : fixed_of w'.parts ≡ fixed_of w.parts = f' ∙ (ap fixed_in h ∙ sym f) in
    let asked : w'.parts.asked ≡ w.parts.asked = ap (λ (x : Fixed). x.asked) fixed in
    let max : w'.parts.reader.max ≡ w.parts.reader.max = ap (λ (x : Fixed). x.max) fixed in
    let past : past_of w'.parts ≡ past_of w.parts =
    past_is w.parts w'.parts y given (ap (λ (x : Fixed). x.gave) fixed) (ap (λ (x : Fixed). x.sent) fixed) (ap (λ (x : Fixed). x.taken) fixed) in
    let keeps : keeps_of w'.parts ≡ keeps_of w.parts = keeps_same w.parts w'.parts asked max past s s' in
    let others : w'.parts.outgoing.others ≡ w.parts.outgoing.others =
    others_same v.parts.outgoing v'.parts.outgoing w.parts.outgoing w'.parts.outgoing (ap (λ (x : Seen). x.keeps.pending) h)
    (ap (λ (x : Keeps). x.pending) keeps) (ap (λ (x : Seen). x.others) h) o o' in
    alike_by w w' asked max past keeps others input

-- ---- sending

abbrev sent_in : ℕ → Seen → Seen
sent_in n s = record s {
  past = sent_more s.past (take n s.keeps.pending);
  keeps = pending_now s.keeps (drop n s.keeps.pending);
  others = min s.others (length (drop n s.keeps.pending));
}

sent_seen : (v : Life) (n : ℕ) (c : Core) → IsSent v.parts n c → seen_of (life c v.input) ≡ sent_in n (seen_of v)
sent_seen v n c i =
    let left : c.outgoing.pending ≡ drop n v.parts.outgoing.pending = ap (λ (x : Keeps). x.pending) i.keeps in
    seen_same v.parts.asked c.asked v.parts.reader.max c.reader.max (sent_more (past_of v.parts) (take n v.parts.outgoing.pending)) (past_of c)
    (pending_now (keeps_of v.parts) (drop n v.parts.outgoing.pending)) (keeps_of c) (min v.parts.outgoing.others (length (drop n v.parts.outgoing.pending)))
    c.outgoing.others v.input v.input i.fixed.0 (ap (λ (x : ReaderKnown). x.max) i.fixed.1) i.past i.keeps
    (i.others ∙ ap (λ (l : List ℕ). min v.parts.outgoing.others (length l)) left) refl

pub sent_alike : (v v' : Life) (n : ℕ) (c c' : Core) → IsSent v.parts n c → IsSent v'.parts n c' → Alike v v' → Alike (life c v.input) (life c' v'.input)
sent_alike v v' n c c' i i' h = sent_seen v' n c' i' ∙ (ap (sent_in n) h ∙ sym (sent_seen v n c i))

-- ---- what is left of one that has ended

abbrev pub left_in : Seen → Left
left_in s = record {
  asked = s.asked;
  max = s.max;
  y = s.past.y;
  gave = s.past.gave;
  sent = s.past.sent;
  taken = s.past.taken;
  gift = s.keeps.gift;
  finished = s.keeps.finished;
  phase = s.keeps.phase;
}

abbrev gone_left : Gone → Left
gone_left g = record {
  asked = g.asked;
  max = g.max;
  y = g.y;
  gave = g.gave;
  sent = g.sent;
  taken = g.taken;
  gift = g.gift;
  finished = g.finished;
  phase = g.phase;
}

pub gone_same : (v v' w w' : Life) → gone_of w.parts ≡ gone_of v.parts → gone_of w'.parts ≡ gone_of v'.parts → Alike v v' → left_of w'.parts ≡ left_of w.parts
gone_same v v' w w' g g' h = ap gone_left g' ∙ (ap left_in h ∙ sym (ap gone_left g))

abbrev left_with : Fixed → List ℕ → Option Gift → Phase → Left
left_with f y gift phase =
    record { asked = f.asked; max = f.max; y = y; gave = f.gave; sent = f.sent; taken = f.taken; gift = gift; finished = f.finished; phase = phase }

-- two that a byte ended, which were fed the same
pub stopped_same : (v v' : Life) (c d : Core) → Alike v v' → d.y ≡ c.y → fixed_of c ≡ fixed_of v.parts → fixed_of d ≡ fixed_of v'.parts → c.gift ≡ v.parts.gift
    → d.gift ≡ v'.parts.gift → c.phase ≡ v.parts.phase → d.phase ≡ v'.parts.phase → left_of d ≡ left_of c
stopped_same v v' c d h y f f' g g' p p' =
    ap (λ (z : Fixed). left_with z d.y d.gift d.phase) (f' ∙ (ap fixed_in h ∙ sym f))
    ∙ (ap (λ (z : List ℕ). left_with (fixed_of c) z d.gift d.phase) y
    ∙ (ap (λ (z : Option Gift). left_with (fixed_of c) c.y z d.phase) (g' ∙ (ap (λ (x : Seen). x.keeps.gift) h ∙ sym g))
    ∙ ap (λ (z : Phase). left_with (fixed_of c) c.y c.gift z) (p' ∙ (ap (λ (x : Seen). x.keeps.phase) h ∙ sym p))))

-- ---- what else is done with it

-- the same by an equal end
pub same_by : (o p : Option ClientEnd) (s t : ClientState) → o ≡ p → SameBy p s t → SameBy o s t
same_by o p s t e h = subst (λ (x : Option ClientEnd). SameBy x s t) (sym e) h

pub begun_alike : (k : Asked) (max : ℕ) (s t : ClientState) → IsBegun k max s → IsBegun k max t → AreAlike s t
begun_alike k max s t b d =
    let keeps : keeps_of t.parts ≡ keeps_of s.parts = d.keeps ∙ sym b.keeps in
    record {
      ended = d.lives ∙ sym b.lives;
      same = same_by s.ended None s t b.lives (alike_by (life_of s) (life_of t) (d.asked ∙ sym b.asked) (d.max_is ∙ sym b.max_is) (d.past ∙ sym b.past) keeps
          (d.others ∙ (ap (λ (q : Keeps). length q.pending) keeps ∙ sym b.others)) (d.input ∙ sym b.input));
    }

abbrev given_past : Given → Seen → Past
given_past g s = with_given s.past (record { at = length s.past.y; given = g })

counted_same : (g : Given) (o o' p p' : Owing) → o'.pending ≡ o.pending → p'.pending ≡ p.pending → o'.others ≡ o.others → Counts g o p → Counts g o' p'
    → p'.others ≡ p.others
counted_same (Send t) o o' p p' oe pe ne a b = b ∙ sym a
counted_same Finish o o' p p' oe pe ne a b = others_same o o' p p' oe pe ne a b

pub given_alike : (g : Given) (s s' t t' : ClientState) → Alike (life_of s) (life_of s') → WasGiven g s t → WasGiven g s' t' → Alike (life_of t) (life_of t')
given_alike g s s' t t' h a b =
    let keeps : keeps_of t'.parts ≡ keeps_of t.parts = b.keeps ∙ (ap (λ (x : Seen). gave_more x.keeps g) h ∙ sym a.keeps) in
    alike_by (life_of t) (life_of t')
    (ap (λ (u : Untouched). u.asked) b.untouched ∙ (ap (λ (x : Seen). x.asked) h ∙ sym (ap (λ (u : Untouched). u.asked) a.untouched)))
    (ap (λ (u : Untouched). u.reader.max) b.untouched ∙ (ap (λ (x : Seen). x.max) h ∙ sym (ap (λ (u : Untouched). u.reader.max) a.untouched)))
    (b.past ∙ (ap (given_past g) h ∙ sym a.past)) keeps
    (counted_same g s.parts.outgoing s'.parts.outgoing t.parts.outgoing t'.parts.outgoing (ap (λ (x : Seen). x.keeps.pending) h)
    (ap (λ (q : Keeps). q.pending) keeps) (ap (λ (x : Seen). x.others) h) a.counts b.counts)
    (ap (λ (u : Untouched). u.input) b.untouched ∙ (ap (λ (x : Seen). x.input) h ∙ sym (ap (λ (u : Untouched). u.input) a.untouched)))

pub are_given_alike : (g : Given) (s s' t t' : ClientState) → AreAlike s s' → WasGiven g s t → WasGiven g s' t' → AreAlike t t'
are_given_alike g s s' t t' h a b =
    let lives : t.ended ≡ None = ap (λ (u : Untouched). u.ended) a.untouched ∙ a.lives in
    record {
      ended = ap (λ (u : Untouched). u.ended) b.untouched ∙ (b.lives ∙ sym lives);
      same = same_by t.ended None t t' lives (given_alike g s s' t t' (same_by None s.ended s s' (sym a.lives) h.same) a b);
    }

abbrev taken_in : Seen → Seen
taken_in s = record s { past = record s.past { taken = s.past.taken ++ listed s.keeps.gift }; keeps = gift_now s.keeps None }

abbrev taken_left : Left → Left
taken_left l = record l { taken = l.taken ++ listed l.gift; gift = None }

taken_by : (o : Option ClientEnd) (s t : ClientState) → SameBy o s t → SameBy o (gift_taken s) (gift_taken t)
taken_by None s t h = ap taken_in h
taken_by (Some e) s t h = ap taken_left h

pub taken_alike : (s t : ClientState) → AreAlike s t → AreAlike (gift_taken s) (gift_taken t)
taken_alike s t h = record { ended = h.ended; same = taken_by s.ended s t h.same }

-- ---- what it tells

module _ (s t : ClientState) (e : t.ended ≡ s.ended) where
  some_lives : (x : ClientEnd) → s.ended ≡ Some x → s.ended ≡ None → ⊥
  some_lives x a b = (let n : None ≡ Some x = sym b ∙ a in absurd (cc))

  told_by : (o : Option ClientEnd) → s.ended ≡ o → SameBy o s t → TellTheSame s t
  told_by None is h = record {
    ended = e;
    started = ap (λ (x : Seen). has_started x.keeps.phase) h;
    gift = ap (λ (x : Seen). x.keeps.gift) h;
    pending = λ l. ap (λ (x : Seen). length x.keeps.pending) h;
  }
  told_by (Some x) is h = record {
    ended = e;
    started = ap (λ (l : Left). has_started l.phase) h;
    gift = ap (λ (l : Left). l.gift) h;
    pending = λ l. absurd (some_lives x is l);
  }

pub told_alike : (s t : ClientState) → AreAlike s t → TellTheSame s t
told_alike s t h = told_by s t h.ended s.ended refl h.same
