-- Feeding a buffer, piece by piece
use Rattle.std.proofs.Common.{◌≡◌, ◌≤◌, ◌<◌, ◌+◌, ◌*◌, ℕ, length-append, length-drop, Option, Some, List, ◌++◌, length, drop, Bool, false, ap, ◌∙◌, subst, arith, append_assoc, None}
use Rattle.chunk_wire.specs.declared.message.Message.{Message}
use Rattle.chunk_reader.specs.Sound.{IsRead}
use Rattle.command_dialog.specs.declared.types.Ask.{Ask}
use Rattle.command_dialog.specs.declared.types.Grant.{Grant}
use Rattle.relay_session.specs.Feeding.{Decides, Fixed, Heard, Hears, IsFed, IsStopped, heard_of}
use Rattle.session_owed.specs.Talk.{hand_bytes}
use Rattle.stream_model.specs.declared.calls.Entry.{Entry}
use Rattle.relay_session.specs.Bounds.{IsLight, weight}
use Rattle.relay_session.specs.Holding.{HandFits}
use Rattle.relay_session.specs.Keeping.{IsSound, StandsBefore}
use Rattle.relay_session.specs.declared.core_fields.Core.{Core}
use Rattle.relay_session.specs.declared.end.End.{End}

-- what the loop keeps: bytes were fed that ended no message
pub record IsFeeding (desk : Ask → Grant) (old : Core) (input : List ℕ) (now : Core) (left : List ℕ) : Type 0 where
  pub sound : IsSound now
  pub stands : StandsBefore desk old → StandsBefore desk now
  pub fed : IsFed old input now left
  pub heard : heard_of now ≡ heard_of old
  pub idle : now.kept ≡ None
  pub light : weight now.outgoing.others now.x now.inbound + 356 * length left ≤ weight old.outgoing.others old.x old.inbound + 356 * length input
  pub fits : HandFits old → HandFits now

pub fed_then : (a b c : Core) (i j k : List ℕ) → IsFed a i b j → IsFed b j c k → IsFed a i c k
fed_then a b c i j k f g = record {
  fed = f.fed ++ g.fed;
  split = append_assoc f.fed g.fed k ∙ ap (λ (l : List ℕ). f.fed ++ l) g.split ∙ f.split;
  x = g.x ∙ ap (λ (l : List ℕ). l ++ g.fed) f.x ∙ append_assoc a.x f.fed g.fed;
  fixed = g.fixed ∙ f.fixed;
  others = omega (arith, f.others, g.others);
}

pub feeding_more : (desk : Ask → Grant) (old now next : Core) (input left rest : List ℕ) → IsFeeding desk old input now left → IsFed now left next rest → Hears desk now next false → IsSound next
    → (StandsBefore desk now → StandsBefore desk next)
    → weight next.outgoing.others next.x next.inbound + 356 * length rest ≤ weight now.outgoing.others now.x now.inbound + 356 * length left → (HandFits now → HandFits next) → IsFeeding desk old input next rest
feeding_more desk old now next input left rest f g h l st li fi = record {
  sound = l;
  stands = λ s. st (f.stands s);
  fed = fed_then old now next input left rest f.fed g;
  heard = h ∙ f.heard;
  idle = ap (λ (x : Heard). x.kept) h ∙ f.idle;
  light = omega (arith, li, f.light);
  fits = λ u. fi (f.fits u);
}

-- a piece of what is left, which is all of it
pub fed_left : (now next : Core) (piece left rest : List ℕ) (used : ℕ) → piece ≡ left → rest ≡ drop used left → IsFed now piece next (drop used piece) → IsFed now left next rest
fed_left now next piece left rest used pe re f = rw re (subst (λ (l : List ℕ). IsFed now l next (drop used l)) pe f)

pub feeding_step : (desk : Ask → Grant) (old now next : Core) (input left piece rest : List ℕ) (used : ℕ) (ended : Bool) → piece ≡ left → rest ≡ drop used left → ended ≡ false → IsFeeding desk old input now left
    → IsFed now piece next (drop used piece) → Hears desk now next ended → IsSound next → (StandsBefore desk now → StandsBefore desk next)
    → used ≤ length piece → (ended ≡ false → weight next.outgoing.others next.x next.inbound ≤ weight now.outgoing.others now.x now.inbound + 356 * used) → (HandFits now → HandFits next) → IsFeeding desk old input next rest
feeding_step desk old now next input left piece rest used ended pe re ee f g h l st le q fi =
    feeding_more desk old now next input left rest f (fed_left now next piece left rest used pe re g) (subst (Hears desk now next) ee h) l st
    (omega (arith, q ee, ap length re, length-drop used left, le, ap length pe)) fi

-- a piece was fed, so there are more bytes
pub grows_then : (old now next : Core) (input left piece : List ℕ) (used : ℕ) → IsFed old input now left → IsFed now piece next (drop used piece) → 0 < used → used ≤ length piece → length old.x < length next.x
grows_then old now next input left piece used f g some le =
    omega (arith, ap length f.x, length-append old.x f.fed, ap length g.x, length-append now.x g.fed, ap length g.split, length-append g.fed (drop used piece), length-drop used piece, some, le)

-- and then at most a message more is answered: of a buffer where not many answers wait, not many do then
pub fed_light : (desk : Ask → Grant) (old now next : Core) (input left : List ℕ) (n : ℕ) → IsFeeding desk old input now left → old.outgoing.others ≤ 8192 → length input ≤ 4096 → n ≡ length left
    → 16000 * next.outgoing.others ≤ weight now.outgoing.others now.x now.inbound + (356 * n + 4640000) → 16 * next.outgoing.others ≤ 186694
fed_light desk old now next input left n f few short ne le = omega (arith, f.light, few, short, ne, le)

-- what waits then leaves room for the answers to a call
pub light_fed : (n : ℕ) (kept : Option Entry) → 16 * n ≤ 186694 → IsLight n kept
light_fed n None le = omega (arith, le)
light_fed n (Some e) le = omega (arith, le)

decides_same : (n max : ℕ) (h k : Heard) (y z : List ℕ) (e : End) (other : ℕ) → max ≡ other → h ≡ k → y ≡ z → Decides max h y n e → Decides other k z n e
decides_same n max h k y z e other me he ye d =
    subst (λ (m : ℕ). Decides m k z n e) me (subst (λ (x : Heard). Decides max x z n e) he (subst (λ (l : List ℕ). Decides max h l n e) ye d))

pub stopped_then : (desk : Ask → Grant) (old now next : Core) (input left : List ℕ) (e : End) → IsFeeding desk old input now left → IsStopped now left e next → IsStopped old input e next
stopped_then desk old now next input left e f s =
    let whole : now.x ++ left ≡ old.x ++ input = ap (λ (l : List ℕ). l ++ left) f.fed.x ∙ append_assoc old.x f.fed.fed left ∙ ap (λ (l : List ℕ). old.x ++ l) f.fed.split in
    record {
      fed = f.fed.fed ++ s.fed;
      left = s.left;
      split = append_assoc f.fed.fed s.fed s.left ∙ ap (λ (l : List ℕ). f.fed.fed ++ l) s.split ∙ f.fed.split;
      x = s.x ∙ ap (λ (l : List ℕ). l ++ s.fed) f.fed.x ∙ append_assoc old.x f.fed.fed s.fed;
      version = s.version;
      counted = s.counted;
      fixed = s.fixed ∙ f.fed.fixed;
      kept = s.kept ∙ ap (λ (x : Heard). x.kept) f.heard;
      place = s.place ∙ ap (λ (x : Heard). x.place) f.heard;
      read = subst (λ (m : ℕ). IsRead m (drop hand_bytes next.x) old.reader.given) (ap (λ (x : Fixed). x.max) f.fed.fixed) (subst (λ (g : List (ℕ × Message)). IsRead now.reader.max (drop hand_bytes next.x) g) (ap (λ (x : Heard). x.given) f.heard) s.read);
      state = λ ne. s.state ne ∙ ap (λ (x : Heard). x.state) f.heard;
      cause = decides_same (length next.x) now.reader.max (heard_of now) (heard_of old) (now.x ++ left) (old.x ++ input) e old.reader.max (ap (λ (x : Fixed). x.max) f.fed.fixed) f.heard whole s.cause;
    }
