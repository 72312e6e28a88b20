-- What is small stays so through the steps of a turn
use Rattle.std.proofs.Common.{◌≡◌, ◌≤◌, ℕ, ◌-◌, ◌*◌, Bool, true, false, not, ◌&&◌, nat_le, is_some, List, [], ◌∷◌, ◌++◌, length, take, drop, append-nil, Option, Some, None, Result, refl, sym, ap, ◌∙◌, subst, arith, length-drop}
use Rattle.std.proofs.lemmas.Bool.Decides.{nat_tests}
use Rattle.client_owed.specs.declared.types.Asked.{Asked}
use Rattle.client_owed.specs.declared.types.Gave.{Gave}
use Rattle.client_owed.specs.declared.types.Gift.{Gift}
use Rattle.client_owed.specs.declared.types.Wish.{Wish}
use Rattle.client_owed.specs.declared.types.Wish.TheVariants as wish
use Rattle.client_owed.specs.Pulled.{pulled}
use Rattle.client_owed.specs.Standing.{Stands, gift_now, is_finished, listed}
use Rattle.client_owed.proofs.Standing.{stands_taken}
use Rattle.relay_outside.specs.Heard.{Came}
use Rattle.relay_outside.specs.declared.link.Said.{Said}
use Rattle.rtmp_client.specs.Bounds.{IsLight, IsSmall, Parts, gift_bytes}
use Rattle.rtmp_client.specs.ClientState.{HasEnded, IsClient, IsLiving, without_gift}
use Rattle.rtmp_client.specs.Feeding.{Fixed, Heard, Hears, IsSent, IsStopped, fixed_of}
use Rattle.rtmp_client.specs.Keeping.{Begun, IsAll, IsSound, StandsNow, keeps_of, past_of}
use Rattle.rtmp_client.specs.Owing.{Apart}
use Rattle.rtmp_client.specs.Turns.{Finish, Life, SendBy, Sent, SentAs, StandsFed, is_done, is_hungry, is_nil}
use Rattle.rtmp_client.specs.declared.core_fields.Core.{Core}
use Rattle.rtmp_client.specs.declared.end.ClientEnd.{ClientEnd}
use Rattle.rtmp_client.specs.declared.end.ClientEnd.TheVariants as end
use Rattle.rtmp_client.proofs.Living.{begun_now, read_here}
use Rattle.rtmp_client.proofs.Stopping.{all_stopped}
use Rattle.rtmp_client.proofs.Telling.{push_none}

-- ---- what a hungry client is

hungry_case : (g : Option Gift) (b : Bool) → (not (is_some g) && b) ≡ true → (g ≡ None) × (b ≡ true)
hungry_case None true e = (refl, refl)
hungry_case None false e = absurd (cc)
hungry_case (Some x) b e = absurd (cc)

pub hungry_open : (c : Core) → is_hungry c ≡ true → c.gift ≡ None
hungry_open c e = (hungry_case c.gift (nat_le c.outgoing.others 8192) e).0

pub hungry_few : (c : Core) → is_hungry c ≡ true → c.outgoing.others ≤ 8192
hungry_few c e = let h = (hungry_case c.gift (nat_le c.outgoing.others 8192) e).1 in grind (arith, nat_tests, h)

-- ---- what a sound client stands for

pub stands_by_sound : (c : Core) → IsSound c → StandsFed c
stands_by_sound c l = record { version = l.version; counted = l.counted; read = read_here c l; stands = l.stands }

-- ---- bounds

parts_by : (w : Wish) (max tag new : ℕ) (g h : Option Gift) → new ≤ tag → (w ≡ wish.Push → h ≡ None) → gift_bytes h ≤ max → Parts w max tag g → Parts w max new h
parts_by wish.Push max tag new g h le n b p = (n refl, omega (arith, le, p.1))
parts_by wish.Pull max tag new g h le n b p = (omega (arith, le, p.0), b)

light_by : (n : ℕ) (f : Bool) → 16 * n ≤ 194000 → IsLight n f
light_by n true le = omega (arith, le)
light_by n false le = omega (arith, le)

-- after input was fed
small_fed : (c d : Core) → IsSmall c → Apart c.outgoing d.outgoing → fixed_of d ≡ fixed_of c → 16 * d.outgoing.others ≤ 194000 → (c.asked.wish ≡ wish.Push → d.gift ≡ None) → gift_bytes d.gift ≤ c.reader.max → IsSmall d
small_fed c d s a f li still b =
    let asked : d.asked ≡ c.asked = ap (λ (x : Fixed). x.asked) f in
    let max : d.reader.max ≡ c.reader.max = ap (λ (x : Fixed). x.max) f in
    let p = parts_by c.asked.wish c.reader.max (length c.outgoing.pending - c.outgoing.others) (length d.outgoing.pending - d.outgoing.others) c.gift d.gift (omega (arith, a, s.within)) still b s.parts in
    let q : Parts d.asked.wish c.reader.max (length d.outgoing.pending - d.outgoing.others) d.gift = subst (λ (k : Asked). Parts k.wish c.reader.max (length d.outgoing.pending - d.outgoing.others) d.gift) (sym asked) p in
    record {
      short = omega (arith, max, s.short);
      within = omega (arith, a, s.within);
      light = light_by d.outgoing.others d.finished li;
      parts = subst (λ (n : ℕ). Parts d.asked.wish n (length d.outgoing.pending - d.outgoing.others) d.gift) (sym max) q;
    }

still_none : (c d : Core) (b : Bool) → c.gift ≡ None → Hears c d b → c.asked.wish ≡ wish.Push → d.gift ≡ None
still_none c d false e h w = ap (λ (x : Heard). x.gift) h ∙ e
still_none c d true e h w = push_none c.asked.wish c.phase h.0 d.gift w h.1.gift

pub living_fed : (c d : Core) (b : Bool) → IsLiving c → c.gift ≡ None → IsSound d → Apart c.outgoing d.outgoing → fixed_of d ≡ fixed_of c → 16 * d.outgoing.others ≤ 194000 → Hears c d b → gift_bytes d.gift ≤ c.reader.max → IsLiving d
living_fed c d b l e s a f li h g = record { sound = s; small = small_fed c d l.small a f li (still_none c d b e h) g }

pub ended_fed : (c d : Core) (input : List ℕ) (e : ClientEnd) → IsLiving c → c.gift ≡ None → Begun d → Apart c.outgoing d.outgoing → fixed_of d ≡ fixed_of c → 16 * d.outgoing.others ≤ 194000 → IsStopped c input e d → HasEnded e d
ended_fed c d input e l none o a f li s = record {
  more = o.0;
  over = o.1;
  all = all_stopped c.reader.max c.reader.given (c.y ++ input) (length d.y) e d.gave o.0 s.cause;
  small = small_fed c d l.small a f li (λ w. s.gift ∙ none) (omega (arith, ap gift_bytes (s.gift ∙ none)));
}

-- it ends and nothing has changed
pub ended_here : (c : Core) (e : ClientEnd) → IsLiving c → ((T : List Gave) (more : List ℕ) → IsAll e T more) → HasEnded e c
ended_here c e l a = let b = begun_now c l.sound in record { more = b.0; over = b.1; all = a c.gave b.0; small = l.small }

and_both : (a b : Bool) → (a && b) ≡ true → (a ≡ true) × (b ≡ true)
and_both true true e = (refl, refl)
and_both true false e = absurd (cc)
and_both false b e = absurd (cc)

nil_is : (l : List ℕ) → is_nil l ≡ true → l ≡ []
nil_is [] e = refl
nil_is (x ∷ l) e = absurd (cc)

pub ended_done : (c : Core) → IsLiving c → is_done c ≡ true → HasEnded end.Done c
ended_done c l e =
    let p = and_both c.finished (is_nil c.outgoing.pending) e in
    let s = l.sound in
    record {
      more = c.outgoing.pending;
      over = record { ms = c.reader.given; read = read_here c s; owes = s.stands.owes; given = s.stands.given; told = s.stands.told };
      all = (sym s.stands.finished ∙ p.0, nil_is c.outgoing.pending p.1);
      small = l.small;
    }

-- bytes were sent
pub small_sent : (c d : Core) (n : ℕ) → IsSmall c → IsSent c n d → n ≤ length c.outgoing.pending → IsSmall d
small_sent c d n s t le =
    let pending : d.outgoing.pending ≡ drop n c.outgoing.pending = ap (λ (x : Rattle.client_owed.specs.Standing.Keeps). x.pending) t.keeps in
    let gift : d.gift ≡ c.gift = ap (λ (x : Rattle.client_owed.specs.Standing.Keeps). x.gift) t.keeps in
    let fin : d.finished ≡ c.finished = ap (λ (x : Rattle.client_owed.specs.Standing.Keeps). x.finished) t.keeps in
    let lp : length d.outgoing.pending ≡ length c.outgoing.pending - n = ap length pending ∙ length-drop n c.outgoing.pending in
    let few : d.outgoing.others ≤ c.outgoing.others = omega (arith, t.others) in
    let light : IsLight d.outgoing.others c.finished = omega (arith, few, s.light) in
    let less : length d.outgoing.pending - d.outgoing.others ≤ length c.outgoing.pending - c.outgoing.others = omega (arith, t.others, lp, le, s.within) in
    let P : (k : Asked) → ℕ → Option Gift → Type 0 = λ k m g. Parts k.wish m (length d.outgoing.pending - d.outgoing.others) g in
    let p : P c.asked c.reader.max c.gift = parts_less c.asked.wish c.reader.max (length c.outgoing.pending - c.outgoing.others) (length d.outgoing.pending - d.outgoing.others) c.gift less s.parts in
    record {
      short = subst (λ (r : Rattle.chunk_reader.specs.ReaderKnown.ReaderKnown). r.max ≤ 4194304) (sym t.fixed.1) s.short;
      within = omega (arith, t.others);
      light = subst (λ (b : Bool). IsLight d.outgoing.others b) (sym fin) light;
      parts = subst (λ (g : Option Gift). P d.asked d.reader.max g) (sym gift) (subst (λ (r : Rattle.chunk_reader.specs.ReaderKnown.ReaderKnown). P d.asked r.max c.gift) (sym t.fixed.1) (subst (λ (k : Asked). P k c.reader.max c.gift) (sym t.fixed.0) p));
    }
  where
    parts_less : (w : Wish) (max tag new : ℕ) (g : Option Gift) → new ≤ tag → Parts w max tag g → Parts w max new g
    parts_less wish.Push max tag new g le p = (p.0, omega (arith, le, p.1))
    parts_less wish.Pull max tag new g le p = (omega (arith, le, p.0), p.1)

-- ---- the relation of a turn

pub sent_none : {L : Type 0} (hears : L → ℕ → Came → L → Type 0) (says : L → List ℕ → Said → L → Type 0) (v w : Life) (a : Result Bool ClientEnd) (l m : L) → is_nil v.parts.outgoing.pending ≡ true → Finish hears v l false a w m → Sent hears says v l a w m
sent_none {L} hears says v w a l m e f = subst (λ (b : Bool). SendBy hears says b v l a w m) (sym e) f

pub sent_some : {L : Type 0} (hears : L → ℕ → Came → L → Type 0) (says : L → List ℕ → Said → L → Type 0) (v w : Life) (a : Result Bool ClientEnd) (l k m : L) (piece : List ℕ) (q : Said) → is_nil v.parts.outgoing.pending ≡ false → piece ≡ take 16384 v.parts.outgoing.pending → says l piece q k
    → SentAs hears says q v k a w m → Sent hears says v l a w m
sent_some {L} hears says v w a l k m piece q e pe h f = subst (λ (b : Bool). SendBy hears says b v l a w m) (sym e) (q, (k, (subst (λ (x : List ℕ). says l x q k) pe h, f)))

-- ---- a gift is taken

small_taken : (c : Core) (taken : List Gift) → IsSmall c → IsSmall (record c { gift = None; taken = taken })
small_taken c taken s = record { short = s.short; within = s.within; light = s.light; parts = parts_none c.asked.wish c.reader.max (length c.outgoing.pending - c.outgoing.others) c.gift s.parts }
  where
    parts_none : (w : Wish) (max tag : ℕ) (g : Option Gift) → Parts w max tag g → Parts w max tag None
    parts_none wish.Push max tag g p = (refl, p.1)
    parts_none wish.Pull max tag g p = (p.0, omega arith)

told_taken : (taken : List Gift) (g : Option Gift) (l : List Gift) → taken ++ listed g ≡ l → (taken ++ listed g) ++ [] ≡ l
told_taken taken g l e = append-nil (taken ++ listed g) ∙ e

stands_without : (c : Core) (g : Option Gift) → c.gift ≡ g → StandsNow c → StandsNow (without_gift c)
stands_without c (Some x) e s =
    let t = stands_taken c.asked c.reader.max (past_of c) (keeps_of c) x e s in
    subst (λ (l : List Gift). Stands c.asked c.reader.max (record { y = c.y; ms = c.reader.given; gave = c.gave; sent = c.sent; taken = c.taken ++ l }) (gift_now (keeps_of c) None)) (sym (ap listed e)) t
stands_without c None e s = record {
  early = λ l. let y = s.early l in record { messages = y.messages; gave = y.gave };
  reaches = s.reaches;
  owes = s.owes;
  writer = s.writer;
  window = s.window;
  phase = s.phase;
  given = s.given;
  finished = s.finished;
  told = told_taken c.taken c.gift (pulled c.asked c.reader.given) s.told;
}

sound_without : (c : Core) → IsSound c → IsSound (without_gift c)
sound_without c l = record {
  named = l.named;
  first = l.first;
  version = l.version;
  fed = l.fed;
  counted = l.counted;
  taken = l.taken;
  reads = l.reads;
  read = l.read;
  short = l.short;
  wide = l.wide;
  stands = stands_without c c.gift refl l.stands;
}

pub client_without : (o : Option ClientEnd) (c d : Core) → d ≡ without_gift c → IsClient o c → IsClient o d
client_without None c d e l = rw e (record { sound = sound_without c l.sound; small = small_taken c (c.taken ++ listed c.gift) l.small })
client_without (Some f) c d e l = rw e (record {
  more = l.more;
  over = record { ms = l.over.ms; read = l.over.read; owes = l.over.owes; given = l.over.given; told = told_taken c.taken c.gift (pulled c.asked l.over.ms) l.over.told };
  all = l.all;
  small = small_taken c (c.taken ++ listed c.gift) l.small;
})
