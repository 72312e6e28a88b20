-- No step of a port loses a pass
use Rattle.std.proofs.Common.{◌≡◌, ℕ, ◌+◌, ◌<◌, List, [], ◌∷◌, ◌++◌, length, All, refl, sym, ap, ◌∙◌, subst, arith}
use Rattle.std.proofs.lemmas.List.Elements.{All-head, All-tail}
use Rattle.std.specs.declared.result.Result.{Result}
use Rattle.std.specs.declared.result.Result.TheVariants.{Ok, Err}
use Rattle.stream_model.specs.declared.replies.Reply.{Reply}
use Rattle.turn_gate.specs.declared.view.Branch.{Branch}
use Rattle.turn_gate.specs.Branches.{branch, trunk, cut_off, offshoot, Kindred}
use Rattle.turn_gate.proofs.Kindreds.{kindred_same, kindred_then, kindred_both, kindred_swap, kindred_split, kindred_handed}
use Rattle.stream_registry.specs.declared.port.PortFail.{PortFail}
use Rattle.stream_registry.specs.declared.port.PortFail.TheVariants.{Busy, Worn, OutOfMemory}
use Rattle.stream_registry.specs.Roots.{kin_at}
use Rattle.stream_registry.specs.SharedState.{Streams, HasKin, AreSplit, all_kin}
use Rattle.stream_registry.specs.Splits.{Kin, SplitsOff, TakesIn, TakesAll, Forks, SplitBy, CallSplits}

both_are : (root pass root' pass' a b : List Branch) → root' ≡ a → pass' ≡ b → Kindred (root ++ pass) (a ++ b) → Kindred (root ++ pass) (root' ++ pass')
both_are root pass root' pass' a b x y k = subst (λ (l : List Branch). Kindred (root ++ pass) l) (λ i. sym x i ++ sym y i) k

pub called_kindred : (root pass root' pass' : List Branch) (result : Result Reply PortFail) → SplitBy root pass result root' pass' → Kindred (root ++ pass) (root' ++ pass')
called_kindred root pass root' pass' (Ok r) s = both_are root pass root' pass' (cut_off root) (pass ++ offshoot root) s.0 s.1 (kindred_handed root pass)
called_kindred root pass root' pass' (Err (Busy e)) s = both_are root pass root' pass' root pass s.0 s.1 (kindred_same (root ++ pass) (root ++ pass) refl)
called_kindred root pass root' pass' (Err (Worn e)) s = both_are root pass root' pass' (cut_off root) (pass ++ offshoot root) s.0 s.1 (kindred_handed root pass)
called_kindred root pass root' pass' (Err (OutOfMemory e)) s = both_are root pass root' pass' (cut_off root) (pass ++ offshoot root) s.0 s.1 (kindred_handed root pass)

pub attached_kindred : (kin kin' : Kin) (place : ℕ) (pass : List Branch) → SplitsOff kin kin' place → pass ≡ offshoot (kin place) → Kindred (kin place) (kin' place ++ pass)
attached_kindred kin kin' place pass s e = subst (λ (l : List Branch). Kindred (kin place) l) (λ i. sym s.here i ++ sym e i) (kindred_split (kin place))

pub detached_kindred : (kin kin' : Kin) (place : ℕ) (pass : List Branch) → TakesIn kin pass kin' place → Kindred (kin place ++ pass) (kin' place)
detached_kindred kin kin' place pass t = kindred_same (kin place ++ pass) (kin' place) t.here

pub gathered_kindred : (kin other kin' : Kin) → TakesAll kin other kin' → (q : ℕ) → Kindred (kin q ++ other q) (kin' q)
gathered_kindred kin other kin' t q = kindred_same (kin q ++ other q) (kin' q) (t.at_each q)

pub forked_kindred : (kin kin' other : Kin) → Forks kin kin' other → (q : ℕ) → Kindred (kin q) (kin' q ++ other q)
forked_kindred kin kin' other f q = subst (λ (l : List Branch). Kindred (kin q) l) (λ i. sym (f.split q) i ++ sym (f.shoots q) i) (kindred_split (kin q))

-- the branches of one that was split off so often, with those that were split off from it
shot_kindred : (n : ℕ) (q : ℕ) → q < n → (others : List Streams) → All (HasKin n (branch 1 0 ∷ [])) others → (last : Streams) (c : ℕ) → kin_at last.roots q ≡ branch 0 (length others + c) ∷ []
    → Kindred (branch 0 c ∷ []) (all_kin (others ++ last ∷ []) q)
shot_kindred n q l [] a last c is =
    let count : length {A = Streams} [] + c ≡ c = omega arith in
    kindred_same (branch 0 c ∷ []) (all_kin (last ∷ []) q) (ap (λ (x : List Branch). x ++ []) is ∙ ap (λ (m : ℕ). branch 0 m ∷ []) count)
shot_kindred n q l (p ∷ ps) a last c is =
    let here : kin_at p.roots q ≡ branch 1 0 ∷ [] = All-head (HasKin n (branch 1 0 ∷ [])) p ps a q l in
    let count : length (p ∷ ps) + c ≡ length ps + (c + 1) = omega arith in
    let rest : Kindred (branch 0 (c + 1) ∷ []) (all_kin (ps ++ last ∷ []) q) = shot_kindred n q l ps (All-tail (HasKin n (branch 1 0 ∷ [])) p ps a) last (c + 1) (is ∙ ap (λ (m : ℕ). branch 0 m ∷ []) count) in
    let one : Kindred (branch 0 c ∷ []) (branch 0 (c + 1) ∷ branch 1 0 ∷ []) = kindred_split (branch 0 c ∷ []) in
    let two : Kindred (branch 0 (c + 1) ∷ branch 1 0 ∷ []) (branch 1 0 ∷ branch 0 (c + 1) ∷ []) = kindred_swap (branch 0 (c + 1) ∷ []) (branch 1 0 ∷ []) in
    let three : Kindred (branch 1 0 ∷ branch 0 (c + 1) ∷ []) (branch 1 0 ∷ all_kin (ps ++ last ∷ []) q) =
    kindred_both (branch 1 0 ∷ []) (branch 1 0 ∷ []) (branch 0 (c + 1) ∷ []) (all_kin (ps ++ last ∷ []) q) (kindred_same (branch 1 0 ∷ []) (branch 1 0 ∷ []) refl) rest in
    subst (λ (x : List Branch). Kindred (branch 0 c ∷ []) (x ++ all_kin (ps ++ last ∷ []) q)) (sym here)
    (kindred_then (branch 0 c ∷ []) (branch 0 (c + 1) ∷ branch 1 0 ∷ []) (branch 1 0 ∷ all_kin (ps ++ last ∷ []) q) one
    (kindred_then (branch 0 (c + 1) ∷ branch 1 0 ∷ []) (branch 1 0 ∷ branch 0 (c + 1) ∷ []) (branch 1 0 ∷ all_kin (ps ++ last ∷ []) q) two three))

-- new ports have all passes of their gates
pub ports_kindred : (n : ℕ) (ports : List Streams) → AreSplit n ports → (q : ℕ) → q < n → Kindred trunk (all_kin ports q)
ports_kindred n ports s q l =
    let is : kin_at s.last.roots q ≡ branch 0 (length s.others + 0) ∷ [] = s.last_is q l ∙ ap (λ (m : ℕ). branch 0 m ∷ []) (omega arith) in
    subst (λ (x : List Streams). Kindred trunk (all_kin x q)) (sym s.are) (shot_kindred n q l s.others s.each s.last 0 is)
