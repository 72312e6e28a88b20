-- Why a session ended at a byte, by where it stood before that byte
use Rattle.std.proofs.Common.{◌≡◌, ◌≢◌, ◌++◌, ℕ, List, length, drop, refl, sym, ap, ◌∙◌, subst}
use Rattle.chunk_wire.specs.declared.message.Message.{Message}
use Rattle.chunk_reader.specs.Sound.{IsRead}
use Rattle.chunk_reader.proofs.Once.{one_reading}
use Rattle.command_dialog.specs.State.{State}
use Rattle.command_dialog.specs.declared.types.Ask.{Ask}
use Rattle.command_dialog.specs.declared.types.Grant.{Grant}
use Rattle.session_owed.specs.Talk.{hand_bytes, talk}
use Rattle.relay_session.specs.Decided.{IsDecided}
use Rattle.relay_session.specs.Feeding.{Decides, Fixed, Heard, IsStopped, heard_of}
use Rattle.relay_session.specs.Keeping.{IsOver}
use Rattle.relay_session.specs.Session.{session}
use Rattle.relay_session.specs.Turns.{Gone, gone_of}
use Rattle.relay_session.specs.declared.core_fields.Core.{Core}
use Rattle.relay_session.specs.declared.end.End.{End}
use Rattle.relay_session.specs.declared.end.End.TheVariants as end

-- with other messages and another state
at : Heard → List (ℕ × Message) → State → Heard
at h ms s = record { given = ms; state = s; kept = h.kept; outbound = h.outbound; place = h.place }

at_same : (h : Heard) (ms : List (ℕ × Message)) (s : State) → h.given ≡ ms → h.state ≡ s → h ≡ at h ms s
unfolding at
at_same h ms s g e = rw (← g, ← e) refl

moves : (max : ℕ) (h : Heard) (ms : List (ℕ × Message)) (s : State) (y : List ℕ) (n : ℕ) (e : End) → h.given ≡ ms → (e ≢ end.OutOfMemory → h.state ≡ s) → Decides max h y n e → Decides max (at h ms s) y n e
moves max h ms s y n (end.BadVersion k) g f d = d
moves max h ms s y n (end.BadChunk c k) g f d = d
moves max h ms s y n (end.BadControl k) g f d = subst (λ (x : Heard). Decides max x y n (end.BadControl k)) (at_same h ms s g (f (λ q. absurd cc))) d
moves max h ms s y n (end.BadCommand k) g f d = subst (λ (x : Heard). Decides max x y n (end.BadCommand k)) (at_same h ms s g (f (λ q. absurd cc))) d
moves max h ms s y n (end.TooManyStreams k) g f d = subst (λ (x : Heard). Decides max x y n (end.TooManyStreams k)) (at_same h ms s g (f (λ q. absurd cc))) d
moves max h ms s y n end.OutOfMemory g f d = d
moves max h ms s y n end.PeerClosed g f d = absurd d
moves max h ms s y n end.LinkFault g f d = absurd d
moves max h ms s y n end.Quit g f d = absurd d
moves max h ms s y n end.Worn g f d = absurd d

pub decided : (desk : Ask → Grant) (old stopped left : Core) (input : List ℕ) (e : End) → IsStopped old input e stopped → gone_of left ≡ gone_of stopped → (over : IsOver desk e left)
    → IsDecided left.who left.window desk over.ms left.calls left.reader.max (old.x ++ input) (length left.x) e
unfolding at
decided desk old stopped left input e s g over =
    let max : left.reader.max ≡ old.reader.max = ap (λ (k : Gone). k.max) g ∙ ap (λ (k : Fixed). k.max) s.fixed in
    let x : left.x ≡ stopped.x = ap (λ (k : Gone). k.x) g in
    let read : IsRead left.reader.max (drop hand_bytes left.x) old.reader.given =
    subst (λ (m : ℕ). IsRead m (drop hand_bytes left.x) old.reader.given) (sym max) (subst (λ (b : List ℕ). IsRead old.reader.max (drop hand_bytes b) old.reader.given) (sym x) s.read) in
    let given : old.reader.given ≡ over.ms = (one_reading left.reader.max (drop hand_bytes left.x) old.reader.given over.ms read.s over.read.s read.r over.read.r read.reads over.read.reads).messages_same in
    let state : e ≢ end.OutOfMemory → old.dialog ≡ (talk (session left.who left.window desk) left.calls over.ms).state =
    λ ne. (sym (s.state ne) ∙ sym (ap (λ (k : Gone). k.state) g) ∙ over.state ne) in
    let there : Decides left.reader.max (heard_of old) (old.x ++ input) (length left.x) e =
    subst (λ (m : ℕ). Decides m (heard_of old) (old.x ++ input) (length left.x) e) (sym max) (subst (λ (b : List ℕ). Decides old.reader.max (heard_of old) (old.x ++ input) (length b) e) (sym x) s.cause) in
    let t : State = (talk (session left.who left.window desk) left.calls over.ms).state in
    record { heard = at (heard_of old) over.ms t; given = refl; state = refl; decides = moves left.reader.max (heard_of old) over.ms t (old.x ++ input) (length left.x) e given state there }
