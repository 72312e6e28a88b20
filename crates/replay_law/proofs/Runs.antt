-- The lines of a script in two runs
use Rattle.std.proofs.Common.{◌≡◌, ℕ, ◌+◌, Bool, true, false, if◌then◌else◌, List, [], ◌∷◌, All, Option, None, Some, refl, sym, ap, ◌∙◌, subst}
use Rattle.std.proofs.lemmas.List.Elements.{All-head, All-tail}
use Rattle.relay_script.specs.ReplayLines.{meaning}
use Rattle.relay_script.specs.Script.{Line, line_says, lines}
use Rattle.relay_script.specs.declared.replay.ReplayLine.{ReplayLine}
use Rattle.relay_replay.specs.Scenes.{SceneState, stand_of, start}
use Rattle.relay_replay.specs.Stand.{Stand, after, after_line, allows}
use Rattle.relay_program.specs.Replay.{DoesLine, Goes, outside_from, outside_line, outside_then}
use Rattle.replay_law.specs.Outputs.{DifferInTotal, IsOutput, OpensNoOtherBy, OpensNoOtherIf, OpensSessionsAlone}
use Rattle.replay_law.proofs.Alike.{SameScene}
use Rattle.replay_law.proofs.Lines.{line_same}
use Rattle.replay_law.proofs.Printing.{prints_same}

-- a line that isn't outside may stand where it does, and the lines after it aren't outside either
allowed_by : (b : Bool) (n : ℕ) (then_so : Stand) (more : Stand → Option ℕ) → outside_then n (if b then Some then_so else None) more ≡ None
    → (b ≡ true) × (more then_so ≡ None)
allowed_by true n then_so more e = (refl, e)
allowed_by false n then_so more e = absurd (cc)

line_alike : (line : Option ReplayLine) (n : ℕ) (more : Stand → Option ℕ) (s s' m m' : SceneState) → OpensNoOtherIf line → DoesLine line s m
    → DoesLine line s' m' → outside_then n (after_line line (stand_of s)) more ≡ None → SameScene s s' → SameScene m m' × (more (stand_of m) ≡ None)
line_alike None n more s s' m m' o d d' e h = absurd d
line_alike (Some line) n more s s' m m' o d d' e h =
    let a = allowed_by (allows line (stand_of s)) n (after line (stand_of s)) more e in
    (line_same line s s' m m' a.0 o d d' h, ap more d.stand ∙ a.1)

run_alike : (l : List Line) (n : ℕ) (s s' t t' : SceneState) → All OpensNoOtherBy l → Goes l s t → Goes l s' t' → outside_from n l (stand_of s) ≡ None
    → SameScene s s' → SameScene t t'
run_alike [] n s s' t t' o g g' e h = subst (λ (z : SceneState). SameScene z t') (sym g) (subst (λ (z : SceneState). SameScene s z) (sym g') h)
run_alike (line ∷ l) n s s' t t' o g g' e h =
    let one = line_alike (line_says meaning line) n (λ u. outside_from (n + 1) l u) s s' g.0 g'.0 (All-head OpensNoOtherBy line l o) g.1.0 g'.1.0 e h in
    run_alike l (n + 1) g.0 g'.0 t t' (All-tail OpensNoOtherBy line l o) g.1.1 g'.1.1 one.1 one.0

-- TWO OUTPUTS of one script
pub outputs_same : (script text text' : List ℕ) → outside_line script ≡ None → OpensSessionsAlone script → IsOutput script text → IsOutput script text'
    → DifferInTotal text text'
outputs_same script text text' e o a b =
    let p = a.printed in
    let p' = b.printed in
    let first : SameScene start start = record { stand = refl; casts = tt } in
    let last : SameScene p.state p'.state = run_alike (lines script) 1 start start p.state p'.state o p.run p'.run e first in
    prints_same p.state p'.state text text' last a.room b.room p.prints p'.prints
