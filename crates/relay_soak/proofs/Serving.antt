-- What the sessions of a soak were sent begins what they owe
use Rattle.std.proofs.Common.{◌≡◌, ℕ, zero, suc, ◌%◌, ◌==◌, Bool, true, false, List, [], ◌∷◌, ◌++◌, refl, sym, subst}
use Rattle.std.specs.Prelude.{codes}
use Rattle.relay_script.specs.declared.replay.ReplayLine.TheVariants.{Limits, Stream, Session, Piece, Turn}
use Rattle.relay_replay.specs.Scenes.{Does, SceneState, start}
use Rattle.relay_replay.specs.Served.{AreServed, IsServedIn}
use Rattle.relay_replay.specs.Stand.{Stand, allows}
use Rattle.relay_replay.proofs.Serving.{acts_served, cast_served, does_served, settled_served, stand_desk}
use Rattle.relay_soak.specs.Clients.{first_input, play, publish}
use Rattle.relay_soak.specs.Runs.{Act, Printed, Runs, given, joining, most_turns, opening, plays, turn_by, turn_if, unit_acts, units}
use Rattle.relay_soak.specs.Units.{piece}

-- some acts, and those after them
runs_apart : (xs ys : List Act) (s t : SceneState) → Runs (xs ++ ys) s t → (m : SceneState) × (Runs xs s m × Runs ys m t)
runs_apart [] ys s t r = (s, (refl, r))
runs_apart (x ∷ xs) ys s t r = let rest = runs_apart xs ys r.0 t r.1.1 in (rest.0, ((r.0, (r.1.0, rest.1.0)), rest.1.1))

-- acts after which what was sent still begins what is owed
abbrev Keeps : List Act → Type 0
Keeps acts = (s t : SceneState) → Runs acts s t → AreServed s → AreServed t

both_keep : (xs ys : List Act) → Keeps xs → Keeps ys → Keeps (xs ++ ys)
both_keep xs ys f g s t r k = let m = runs_apart xs ys s t r in g m.0 t m.1.1 (f s m.0 m.1.0 k)

given_keep : (n : ℕ) (bytes : List ℕ) → Keeps (given n bytes)
given_keep n bytes s t r k =
    let told = acts_served (Piece n bytes) s r.0 (stand_desk s r.0 _ r.1.0.stand (refl, refl)) r.1.0.cast k in
    subst AreServed (sym r.1.1.1.1) (settled_served true most_turns n r.0 r.1.1.0 r.1.1.1.0 told)

turn_keeps : (b : Bool) (p : ℕ) → Keeps (turn_by b p)
turn_keeps true p s t r k = subst AreServed (sym r.1.1) (acts_served (Turn p 1) s r.0 (stand_desk s r.0 _ r.1.0.stand (refl, refl)) r.1.0.cast k)
turn_keeps false p s t r k = subst AreServed (sym r) k

unit_keeps : (i : ℕ) → Keeps (unit_acts i)
unit_keeps i =
    both_keep (given 0 (piece i)) (turn_if 1 i ++ (turn_if 2 i ++ turn_if 3 i)) (given_keep 0 (piece i))
    (both_keep (turn_if 1 i) (turn_if 2 i ++ turn_if 3 i) (turn_keeps (i % 1 == 0) 1)
    (both_keep (turn_if 2 i) (turn_if 3 i) (turn_keeps (i % 2 == 0) 2) (turn_keeps (i % 3 == 0) 3)))

units_keep : (n : ℕ) → Keeps (units n)
units_keep zero s t r k = subst AreServed (sym r) k
units_keep (suc n) s t r k = both_keep (units n) (unit_acts n) (units_keep n) (unit_keeps n) s t r k

joining_keeps : Keeps joining
joining_keeps =
    both_keep (given 0 (first_input publish)) (plays 1 ++ (plays 2 ++ plays 3)) (given_keep 0 (first_input publish))
    (both_keep (plays 1) (plays 2 ++ plays 3) (given_keep 1 (first_input play))
    (both_keep (plays 2) (plays 3) (given_keep 2 (first_input play)) (given_keep 3 (first_input play))))

session_served : (s t : SceneState) → Does Session s t → AreServed s → AreServed t
session_served s t d k = acts_served Session s t (stand_desk s t _ d.stand (refl, refl)) d.cast k

opening_served : (t : SceneState) → Runs opening start t → AreServed t
opening_served t r =
    let second = r.1.1 in
    let one = second.1.1 in
    let two = one.1.1 in
    let three = two.1.1 in
    let four = three.1.1 in
    let limits = does_served (Limits 4096 1048576 4096 4 2500000) start r.0 refl r.1.0 tt in
    let stream = does_served (Stream (codes "live") (codes "soak")) r.0 second.0
    (subst (λ (x : Stand). allows (Stream (codes "live") (codes "soak")) x ≡ true) (sym r.1.0.stand) refl) second.1.0 limits in
    subst AreServed (sym four.1.1)
    (session_served three.0 four.0 four.1.0 (session_served two.0 three.0 three.1.0 (session_served one.0 two.0 two.1.0 (session_served second.0 one.0 one.1.0 stream))))

pub soak_served : (n : ℕ) (text : List ℕ) (p : Printed n text) → IsServedIn p.state p.summary.cast
soak_served n text p =
    let m = runs_apart opening (joining ++ units n) start p.state p.run in
    let rest = both_keep joining (units n) joining_keeps (units_keep n) in
    cast_served p.state p.summary.cast p.summary.opened (rest m.0 p.state m.1.1 (opening_served m.0 m.1.0))
