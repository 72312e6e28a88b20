-- A new cast.
use Rattle.std.proofs.Common.{◌≡◌, ◌<◌, ◌≤◌, ◌+◌, ◌^◌, ◌++◌, ℕ, zero, suc, List, [], ◌∷◌, length, take, map, get_or, All}
use Rattle.std.proofs.Common.{None, refl, ap, sym, ◌∙◌, subst, arith}
use Rattle.std.proofs.lemmas.List.{length-map}
use Rattle.std.proofs.lemmas.List.Elements.{All-nil, All-cons, All-head, All-tail}
use Rattle.relay_config.specs.declared.config.PlaceRule.{PlaceRule}
use Rattle.relay_config.specs.declared.config.OpenRule.{OpenRule}
use Rattle.relay_config.specs.Sum.{names_of}
use Rattle.stream_registry.specs.Names.{AreFew, HaveSlots, slots_sum}
use Rattle.stream_registry.specs.Books.{SoleState, SeenState, FitsSole, sole_rules}
use Rattle.media_recorder.specs.Ports.{FitsIf}
use Rattle.media_recorder.specs.Seats.{SeatState}
use Rattle.relay_replay.specs.declared.recording.Plan.{Plan}
use Rattle.relay_replay.specs.Stand.{no_plan}
use Rattle.relay_replay.specs.Cast.{RecState}
use Rattle.relay_replay.specs.Scenes.{AreNamed, AreNew, Fits, IsNewRecorder, IsPortOf, ReadyGuest, Sits, name_of, open_name}

-- ---- one recorder more

zero_more : (n : ℕ) → n + 0 ≡ n
zero_more n = omega arith

one_later : (n i : ℕ) → n + suc i ≡ n + 1 + i
one_later n i = omega arith

more_from : (n : ℕ) (ps : List Plan) (i : ℕ) (rs : List RecState) (r : RecState) → i < length ps → AreNew n (take i ps) rs
    → IsNewRecorder (2 ^ 60 + (n + i)) (get_or ps i no_plan) r → AreNew n (take (suc i) ps) (rs ++ r ∷ [])
more_from n [] i rs r h a new = absurd (omega (arith, h))
more_from n (p ∷ ps) zero [] r h a new = (subst (λ (k : ℕ). IsNewRecorder (2 ^ 60 + k) p r) (zero_more n) new, tt)
more_from n (p ∷ ps) zero (x ∷ xs) r h a new = absurd a
more_from n (p ∷ ps) (suc i) [] r h a new = absurd a
more_from n (p ∷ ps) (suc i) (x ∷ xs) r h a new = (
  a.0,
  more_from (n + 1) ps i xs r (omega (arith, h)) a.1 (subst (λ (k : ℕ). IsNewRecorder (2 ^ 60 + k) (get_or ps i no_plan) r) (one_later n i) new),
)

zero_and : (n : ℕ) → n ≡ 0 + n
zero_and n = omega arith

one_more : (n : ℕ) → suc n ≡ n + 1
one_more n = omega arith

pub more : (ps : List Plan) (i : ℕ) (rs : List RecState) (r : RecState) → i < length ps → AreNew 0 (take i ps) rs
    → IsNewRecorder (2 ^ 60 + i) (get_or ps i no_plan) r → AreNew 0 (take (i + 1) ps) (rs ++ r ∷ [])
more ps i rs r h a new =
    subst (λ (k : ℕ). AreNew 0 (take k ps) (rs ++ r ∷ [])) (one_more i)
    (more_from 0 ps i rs r h a (subst (λ (k : ℕ). IsNewRecorder (2 ^ 60 + k) (get_or ps i no_plan) r) (zero_and i) new))

-- ---- recorders fit

seat_fits : (port : SoleState) (count who place : ℕ) (seat : SeatState SeenState) → seat ≡ record { who = who; place = place; pass = None; calls = [] }
    → place < count → (seat.place < count) × FitsIf (FitsSole port seat.place) seat.pass
seat_fits port count who place seat e h = rw e (h, tt)

all_fit : (port : SoleState) (n : ℕ) (ps : List Plan) (rs : List RecState) → AreNew n ps rs → All (λ p. p.stream < length (sole_rules port.rules).names) ps
    → All (Fits port) rs
all_fit port n [] [] a h = All-nil (Fits port)
all_fit port n [] (r ∷ rs) a h = absurd a
all_fit port n (p ∷ ps) [] a h = absurd a
all_fit port n (p ∷ ps) (r ∷ rs) a h =
    All-cons (Fits port) r rs
    (seat_fits port (length (sole_rules port.rules).names) (2 ^ 60 + n) p.stream r.recorder.seat a.0.seat
    (All-head (λ (q : Plan). q.stream < length (sole_rules port.rules).names) p ps h))
    (all_fit port (n + 1) ps rs a.1 (All-tail (λ (q : Plan). q.stream < length (sole_rules port.rules).names) p ps h))

as_many : (n : ℕ) (ps : List Plan) (rs : List RecState) → AreNew n ps rs → length rs ≡ length ps
as_many n [] [] a = refl
as_many n [] (r ∷ rs) a = absurd a
as_many n (p ∷ ps) [] a = absurd a
as_many n (p ∷ ps) (r ∷ rs) a = ap suc (as_many (n + 1) ps rs a.1)

pub new_sits : (streams : List PlaceRule) (opens : List OpenRule) (ps : List Plan) (port : SoleState) (rs : List RecState)
    → IsPortOf streams opens port → AreNew 0 ps rs → All (λ p. p.stream < length streams) ps
    → Sits streams opens (length ps) (record { port = port; sessions = []; recorders = rs })
new_sits streams opens ps port rs p a spots =
    let many : length (sole_rules port.rules).names ≡ length streams = ap length p.names ∙ length-map streams name_of in
    record {
      port = p;
      few = omega arith;
      sessions = All-nil (ReadyGuest port);
      count = as_many 0 ps rs a;
      recorders = all_fit port 0 ps rs a (subst (λ (k : ℕ). All (λ p. p.stream < k) ps) (sym many) spots);
    }

-- ---- the names of a new port

slots_are : (opens : List OpenRule) → slots_sum (map open_name opens) ≡ names_of opens
slots_are [] = refl
slots_are (o ∷ opens) = ap (λ (n : ℕ). o.names + n) (slots_are opens)

have_slots : (opens : List OpenRule) → All (λ o. 1 ≤ o.names) opens → HaveSlots (map open_name opens)
have_slots [] a = tt
have_slots (o ∷ opens) a =
    (All-head (λ (x : OpenRule). 1 ≤ x.names) o opens a, have_slots opens (All-tail (λ (x : OpenRule). 1 ≤ x.names) o opens a))

pub are_few : (streams : List PlaceRule) (opens : List OpenRule) → AreNamed streams opens → AreFew (map name_of streams) (map open_name opens)
are_few streams opens n = record {
  some = have_slots opens n.some;
  most = omega (arith, n.few, slots_are opens, length-map streams name_of);
}

pub many_names : (streams : List PlaceRule) (opens : List OpenRule) (port : SoleState) → IsPortOf streams opens port → length port.rules.names ≡ length streams
many_names streams opens port p = ap length p.names ∙ length-map streams name_of

pub many_tables : (streams : List PlaceRule) (opens : List OpenRule) (port : SoleState) → IsPortOf streams opens port → length port.rules.opens ≡ length opens
many_tables streams opens port p = ap length p.tables ∙ length-map opens open_name

pub many_slots : (streams : List PlaceRule) (opens : List OpenRule) (port : SoleState) → IsPortOf streams opens port
    → slots_sum port.rules.opens ≡ names_of opens
many_slots streams opens port p = ap slots_sum p.tables ∙ slots_are opens
