-- What holds after each line of a replay holds of what is printed
use Rattle.std.proofs.Common.{◌≡◌, ℕ, ◌+◌, Bool, true, false, if◌then◌else◌, List, [], ◌∷◌, Option, None, Some, refl, sym, ap, ◌∙◌, subst}
use Rattle.relay_script.specs.declared.replay.ReplayLine.{ReplayLine}
use Rattle.relay_script.specs.ReplayLines.{meaning}
use Rattle.relay_script.specs.Script.{Line, line_says, lines}
use Rattle.relay_replay.specs.Scenes.{SceneState, desk_of, stand_of, start}
use Rattle.relay_replay.specs.Recorded.{AreRecorded, RecordedIn}
use Rattle.relay_replay.specs.Served.{AreServed, IsServedIn}
use Rattle.relay_replay.specs.Stand.{Stand, after, after_line, allows}
use Rattle.relay_replay.specs.Whole.{RunOf, Runs}
use Rattle.relay_replay.proofs.Recorders.{cast_recorded, does_recorded}
use Rattle.relay_replay.proofs.Runs.{cast_runs, does_runs}
use Rattle.relay_replay.proofs.Serving.{cast_served, does_served}
use Rattle.relay_program.specs.Replay.{DoesLine, Goes, Printed, given_in, given_line, given_then, outside_from, outside_line, outside_then}

-- a line that isn't outside may stand where it does, and the lines after it aren't outside either
allowed_by : (b : Bool) (n : ℕ) (after : Stand) (more : Stand → Option ℕ) → outside_then n (if b then Some after else None) more ≡ None → (b ≡ true) × (more after ≡ None)
allowed_by true n after more e = (refl, e)
allowed_by false n after more e = absurd (cc)

line_served : (line : Option ReplayLine) (n : ℕ) (more : Stand → Option ℕ) (s m : SceneState) → DoesLine line s m → outside_then n (after_line line (stand_of s)) more ≡ None → AreServed s
    → AreServed m × (more (stand_of m) ≡ None)
line_served None n more s m d e k = absurd d
line_served (Some line) n more s m d e k =
    let a = allowed_by (allows line (stand_of s)) n (after line (stand_of s)) more e in
    (does_served line s m a.0 d k, ap more d.stand ∙ a.1)

run_served : (l : List Line) (n : ℕ) (s t : SceneState) → Goes l s t → outside_from n l (stand_of s) ≡ None → AreServed s → AreServed t
run_served [] n s t g e k = subst AreServed (sym g) k
run_served (line ∷ l) n s t g e k =
    let m = g.0 in
    let one = line_served (line_says meaning line) n (λ u. outside_from (n + 1) l u) s m g.1.0 e k in
    run_served l (n + 1) m t g.1.1 one.1 one.0

pub printed_served : (script text : List ℕ) (p : Printed script text) → outside_line script ≡ None → IsServedIn p.state p.prints.cast
printed_served script text p e = cast_served p.state p.prints.cast p.prints.opened (run_served (lines script) 1 start p.state p.run e tt)

line_whole : (line : Option ReplayLine) (n : ℕ) (more : Stand → Option ℕ) (s m : SceneState) (given : ℕ → List ℕ) → DoesLine line s m → outside_then n (after_line line (stand_of s)) more ≡ None → Runs given s
    → Runs (given_line line given) m × (more (stand_of m) ≡ None)
line_whole None n more s m given d e k = absurd d
line_whole (Some line) n more s m given d e k =
    let a = allowed_by (allows line (stand_of s)) n (after line (stand_of s)) more e in
    (does_runs line s m given a.0 d k, ap more d.stand ∙ a.1)

run_whole : (l : List Line) (n : ℕ) (s t : SceneState) (given : ℕ → List ℕ) → Goes l s t → outside_from n l (stand_of s) ≡ None → Runs given s → Runs (given_then l given) t
run_whole [] n s t given g e k = subst (Runs given) (sym g) k
run_whole (line ∷ l) n s t given g e k =
    let m = g.0 in
    let one = line_whole (line_says meaning line) n (λ u. outside_from (n + 1) l u) s m given g.1.0 e k in
    run_whole l (n + 1) m t (given_line (line_says meaning line) given) g.1.1 one.1 one.0

pub printed_whole : (script text : List ℕ) (p : Printed script text) → outside_line script ≡ None → RunOf (desk_of p.state) (given_in script) p.prints.cast
printed_whole script text p e = cast_runs p.state p.prints.cast (given_in script) p.prints.opened (run_whole (lines script) 1 start p.state (λ (q : ℕ). []) p.run e (λ n. refl))

line_recorded : (line : Option ReplayLine) (s m : SceneState) → DoesLine line s m → AreRecorded s → AreRecorded m
line_recorded None s m d k = absurd d
line_recorded (Some line) s m d k = does_recorded line s m d k

run_recorded : (l : List Line) (s t : SceneState) → Goes l s t → AreRecorded s → AreRecorded t
run_recorded [] s t g k = subst AreRecorded (sym g) k
run_recorded (line ∷ l) s t g k = run_recorded l g.0 t g.1.1 (line_recorded (line_says meaning line) s g.0 g.1.0 k)

pub printed_recorded : (script text : List ℕ) (p : Printed script text) → RecordedIn p.prints.cast
printed_recorded script text p = cast_recorded p.state p.prints.cast p.prints.opened (run_recorded (lines script) start p.state p.run tt)
