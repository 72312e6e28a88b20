-- Feeding a buffer, piece by piece
use Rattle.std.proofs.Common.{◌≡◌, ◌≤◌, ◌<◌, ◌+◌, ◌*◌, ◌-◌, ℕ, length-append, length-drop, Option, Some, None, List, ◌++◌, length, drop, Bool, true, false, if◌then◌else◌, sym, ap, ◌∙◌, subst, arith, append_assoc}
use Rattle.chunk_wire.specs.declared.message.Message.{Message}
use Rattle.chunk_reader.specs.Sound.{IsRead}
use Rattle.session_owed.specs.Talk.{hand_bytes}
use Rattle.rtmp_client.specs.Bounds.{IsLight, IsSmall, Parts, gift_bytes, weight}
use Rattle.rtmp_client.specs.Feeding.{Decides, Fixed, Heard, Hears, IsFed, IsStopped, heard_of}
use Rattle.rtmp_client.specs.Keeping.{IsSound}
use Rattle.rtmp_client.specs.Owing.{Apart}
use Rattle.rtmp_client.specs.declared.core_fields.Core.{Core}
use Rattle.rtmp_client.specs.declared.end.ClientEnd.{ClientEnd}

-- what the loop keeps: bytes were fed that ended no message
pub record IsFeeding (old : Core) (input : List ℕ) (now : Core) (left : List ℕ) : Type 0 where
  pub sound : IsSound now
  pub fed : IsFed old input now left
  pub heard : heard_of now ≡ heard_of old
  pub idle : now.gift ≡ None
  pub light : weight now.outgoing.others (length now.y) now.inbound + 356 * length left ≤ weight old.outgoing.others (length old.y) old.inbound + 356 * length input
  pub apart : Apart old.outgoing now.outgoing

pub fed_then : (a b c : Core) (i j k : List ℕ) → IsFed a i b j → IsFed b j c k → IsFed a i c k
fed_then a b c i j k f g = record {
  fed = f.fed ++ g.fed;
  split = append_assoc f.fed g.fed k ∙ ap (λ (l : List ℕ). f.fed ++ l) g.split ∙ f.split;
  y = g.y ∙ ap (λ (l : List ℕ). l ++ g.fed) f.y ∙ append_assoc a.y f.fed g.fed;
  fixed = g.fixed ∙ f.fixed;
  others = omega (arith, f.others, g.others);
}

-- a piece of what is left, which is all of it
pub fed_left : (now next : Core) (piece left rest : List ℕ) (used : ℕ) → piece ≡ left → rest ≡ drop used left → IsFed now piece next (drop used piece) → IsFed now left next rest
fed_left now next piece left rest used pe re f = rw re (subst (λ (l : List ℕ). IsFed now l next (drop used l)) pe f)

pub feeding_step : (old now next : Core) (input left piece rest : List ℕ) (used : ℕ) (ended : Bool) → piece ≡ left → rest ≡ drop used left → ended ≡ false → IsFeeding old input now left
    → IsFed now piece next (drop used piece) → Hears now next ended → IsSound next → used ≤ length piece
    → (ended ≡ false → weight next.outgoing.others (length next.y) next.inbound ≤ weight now.outgoing.others (length now.y) now.inbound + 356 * used) → Apart now.outgoing next.outgoing → IsFeeding old input next rest
feeding_step old now next input left piece rest used ended pe re ee f g h l le q a =
    let quiet : heard_of next ≡ heard_of now = subst (Hears now next) ee h in
    record {
      sound = l;
      fed = fed_then old now next input left rest f.fed (fed_left now next piece left rest used pe re g);
      heard = quiet ∙ f.heard;
      idle = ap (λ (x : Heard). x.gift) quiet ∙ f.idle;
      light = omega (arith, q ee, f.light, ap length re, length-drop used left, le, ap length pe);
      apart = omega (arith, f.apart, a);
    }

-- a piece was fed, so there are more bytes
pub grows_then : (old now next : Core) (input left piece : List ℕ) (used : ℕ) → IsFed old input now left → IsFed now piece next (drop used piece) → 0 < used → used ≤ length piece → length old.y < length next.y
grows_then old now next input left piece used f g some le =
    omega (arith, ap length f.y, length-append old.y f.fed, ap length g.y, length-append now.y g.fed, ap length g.split, length-append g.fed (drop used piece), length-drop used piece, some, le)

-- and then at most a message more is answered: of a buffer where not many answers wait, not many do then
pub fed_light : (old now next : Core) (input left : List ℕ) (n : ℕ) → IsFeeding old input now left → old.outgoing.others ≤ 8192 → length input ≤ 4096 → n ≡ length left
    → 16000 * next.outgoing.others ≤ weight now.outgoing.others (length now.y) now.inbound + (356 * n + 5600000) → 16 * next.outgoing.others ≤ 194000
fed_light old now next input left n f few short ne le = omega (arith, f.light, few, short, ne, le, greet_most (length old.y))
  where
    greet_most : (k : ℕ) → Rattle.rtmp_client.specs.Bounds.to_greet k ≤ 2463
    greet_most k = by_case (Rattle.std.proofs.Common.nat_lt k Rattle.session_owed.specs.Talk.hand_bytes)
      where
        by_case : (t : Bool) → (if t then 2463 else 0) ≤ 2463
        by_case true = omega arith
        by_case false = omega arith

decides_same : (n max : ℕ) (h k : List (ℕ × Message)) (y z : List ℕ) (e : ClientEnd) (other : ℕ) → max ≡ other → h ≡ k → y ≡ z → Decides max h y n e → Decides other k z n e
decides_same n max h k y z e other me he ye d =
    subst (λ (m : ℕ). Decides m k z n e) me (subst (λ (x : List (ℕ × Message)). Decides max x z n e) he (subst (λ (l : List ℕ). Decides max h l n e) ye d))

read_same : (max other : ℕ) (b : List ℕ) (h k : List (ℕ × Message)) → max ≡ other → h ≡ k → IsRead max b h → IsRead other b k
read_same max other b h k me he r = subst (λ (m : ℕ). IsRead m b k) me (subst (λ (x : List (ℕ × Message)). IsRead max b x) he r)

pub stopped_then : (old now next : Core) (input left : List ℕ) (e : ClientEnd) → IsFeeding old input now left → IsStopped now left e next → IsStopped old input e next
stopped_then old now next input left e f s =
    let whole : now.y ++ left ≡ old.y ++ input = ap (λ (l : List ℕ). l ++ left) f.fed.y ∙ append_assoc old.y f.fed.fed left ∙ ap (λ (l : List ℕ). old.y ++ l) f.fed.split in
    record {
      fed = f.fed.fed ++ s.fed;
      left = s.left;
      split = append_assoc f.fed.fed s.fed s.left ∙ ap (λ (l : List ℕ). f.fed.fed ++ l) s.split ∙ f.fed.split;
      y = s.y ∙ ap (λ (l : List ℕ). l ++ s.fed) f.fed.y ∙ append_assoc old.y f.fed.fed s.fed;
      version = s.version;
      counted = s.counted;
      fixed = s.fixed ∙ f.fed.fixed;
      gift = s.gift ∙ ap (λ (x : Heard). x.gift) f.heard;
      phase = s.phase ∙ ap (λ (x : Heard). x.phase) f.heard;
      read = read_same now.reader.max old.reader.max (drop hand_bytes next.y) now.reader.given old.reader.given (ap (λ (x : Fixed). x.max) f.fed.fixed)
          (ap (λ (x : Heard). x.given) f.heard) s.read;
      cause = decides_same (length next.y) now.reader.max now.reader.given old.reader.given (now.y ++ left) (old.y ++ input) e old.reader.max (ap (λ (x : Fixed). x.max) f.fed.fixed) (ap (λ (x : Heard). x.given) f.heard) whole s.cause;
    }
