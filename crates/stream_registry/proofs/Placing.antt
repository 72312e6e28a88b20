-- A call at a gate, as a caller sees it
use Rattle.std.proofs.Common.{◌≡◌, ◌≢◌, ℕ, zero, suc, refl, ◌≤◌, ◌^◌, List, [], ◌∷◌, ◌++◌, length, sym, ap, ◌∙◌, subst, append-nil, arith, length-append, slice_get, Option, Some, None, ◌⊎◌, inl, inr}
use Rattle.std.specs.Prelude.{reverse, All}
use Rattle.std.proofs.lemmas.List.Elements.{All-head, All-tail, All-nil, All-cons}
use Rattle.std.specs.declared.result.Result.{Result}
use Rattle.std.specs.declared.result.Result.TheVariants.{Ok, Err}
use Rattle.av_unit.specs.declared.bytes.OutOfMemory.{OutOfMemory}
use Rattle.stream_model.specs.declared.calls.Entry.{Entry}
use Rattle.stream_model.specs.declared.calls.Shape.{Shape}
use Rattle.stream_model.specs.declared.replies.Reply.{Reply}
use Rattle.stream_model.specs.History.{History}
use Rattle.stream_model.specs.Shape.{shape_reply, IsShapeLawful, IsLegalAt}
use Rattle.turn_gate.specs.Histories.{Begins, AreOwn, longer}
use Rattle.turn_gate.specs.Known.{IsWorn, PassKnown, GateId, RepliedAfter}
use Rattle.stream_registry.specs.Pasts.{Attempt, past_of, IsLawfulAt}
use Rattle.stream_registry.specs.Roots.{Root, Later, Remembers, Unlearned, seen_of, seen_at, kin_at, gates}
use Rattle.stream_registry.specs.Splits.{SplitBy, CallSplits}
use Rattle.stream_registry.specs.declared.port.PortFail.{PortFail}
use Rattle.turn_gate.specs.declared.view.Branch.{Branch}
use Rattle.stream_registry.specs.Told.{Keeps}
use Rattle.stream_registry.specs.declared.place_table.Site.{Site}
use Rattle.stream_registry.specs.declared.names.Name.{Name}
use Rattle.stream_registry.specs.declared.names.OpenName.{OpenName}
use Rattle.stream_registry.specs.Names.{shape_at}
use Rattle.stream_registry.specs.SharedState.{Streams, IsFork, IsAsBefore, IsNewPort}
use Rattle.stream_registry.specs.Placed.{Placed, IsAlone}
use Rattle.stream_registry.proofs.Alone.{TakesAlone, TakesAloneAtPools, alone_at}
use Rattle.stream_registry.specs.Sites.{site, AreSites, AreApart, AreNewRoots}
use Rattle.stream_registry.specs.Gates.{told, told_at, numbers}
use Rattle.stream_registry.specs.Wants.{IsTake}
use Rattle.stream_registry.specs.Refusals.{IsFull, IsRefusedMemory}
use Rattle.stream_registry.proofs.Wanting.{refused_take, refused_sent, last_lawful}
use Rattle.stream_registry.proofs.Tells.{begins_told, told_more, told_back, past_more, numbers_placed, numbers_begin, told_longer}

abbrev pub Known : Type 0
Known = PassKnown Site Attempt

abbrev pub At : Type 0
At = Root Site Attempt

-- an answered call stands in what is told
pub placed : TakesAlone → TakesAloneAtPools → (limits : Shape) (entry : Entry) (a : Result Reply OutOfMemory) (r : Reply) (root : List Attempt) (v w : Known) → a ≡ Ok r → RepliedAfter (IsLawfulAt limits) root v (entry, a) w → AreOwn v.mine (length v.seen)
    → Placed limits (told root) (told v.seen) (numbers v.seen v.mine) (entry, r) (told w.seen) (numbers w.seen w.mine)
placed streams pools limits entry a r root v w is p own =
    let q = p.replied in
    let seen : w.seen ≡ q.before ++ (entry, Ok r) ∷ [] = q.seen ∙ ap (λ (x : Result Reply OutOfMemory). q.before ++ (entry, x) ∷ []) is in
    let law : IsShapeLawful limits ((entry, r) ∷ past_of q.before) = subst (λ (h : History). IsShapeLawful limits h) (ap past_of seen ∙ past_more q.before entry (Ok r)) q.lawful_seen.0 in
    let reply_is : r ≡ shape_reply limits (past_of q.before) entry = last_lawful limits (past_of q.before) entry r law in
    record {
      before = told q.before;
      root_first = begins_told root q.before p.root_begins;
      pass_first = begins_told v.seen q.before q.begins;
      reply_is = subst (λ (h : History). r ≡ shape_reply limits h entry) (sym (told_back q.before)) reply_is;
      alone = subst (λ (h : History). IsAlone limits h entry r) (sym (told_back q.before)) (alone_at streams pools limits (past_of q.before) entry r q.lawful_before.0 reply_is);
      seen_is = ap told seen ∙ told_more q.before entry r;
      mine_is = ap (λ (h : List Attempt). numbers h w.mine) seen ∙ (ap (numbers (q.before ++ (entry, Ok r) ∷ [])) q.mine ∙ numbers_placed v.seen q.before (entry, Ok r) v.mine q.begins (λ n. (own n).1));
    }

-- what the pass has then seen keeps the rules and the viewer's law
pub keeps : (limits : Shape) (seen : List Attempt) → IsLawfulAt limits seen → ((slot player : ℕ) → IsLegalAt limits (past_of seen) slot player) → Keeps limits (told seen)
keeps limits seen law legal =
    let back : past_of seen ≡ reverse (told seen) = sym (told_back seen) in
    record { rules = subst (λ (h : History). IsShapeLawful limits h) back law.0; viewers = λ slot player. subst (λ (h : History). IsLegalAt limits h slot player) back (legal slot player) }

-- at most 2^62 calls
pub room : (limits : Shape) (root : List Attempt) (v w : Known) (e : Attempt) → RepliedAfter (IsLawfulAt limits) root v e w → length w.seen ≤ 2 ^ 62
room limits root v w e p = let q = p.replied in omega (arith, ap length q.seen, length-append q.before (e ∷ []), q.room)

-- a call that memory refused isn't one of the pass's own
pub unmade : (limits : Shape) (entry : Entry) (a : Result Reply OutOfMemory) (x : OutOfMemory) (root : List Attempt) (v w : Known) → a ≡ Err x → RepliedAfter (IsLawfulAt limits) root v (entry, a) w → AreOwn v.mine (length v.seen)
    → numbers w.seen w.mine ≡ numbers v.seen v.mine
unmade limits entry a x root v w is p own =
    let q = p.replied in
    let seen : w.seen ≡ q.before ++ (entry, Err x) ∷ [] = q.seen ∙ ap (λ (y : Result Reply OutOfMemory). q.before ++ (entry, y) ∷ []) is in
    ap (λ (h : List Attempt). numbers h w.mine) seen
    ∙ (ap (numbers (q.before ++ (entry, Err x) ∷ [])) q.mine
    ∙ (numbers_placed v.seen q.before (entry, Err x) v.mine q.begins (λ n. (own n).1) ∙ append-nil (numbers v.seen v.mine)))

-- it was a Take
pub refused : (limits : Shape) (entry : Entry) (a : Result Reply OutOfMemory) (x : OutOfMemory) (root : List Attempt) (v w : Known) → a ≡ Err x → RepliedAfter (IsLawfulAt limits) root v (entry, a) w → IsTake entry.call
refused limits entry a x root v w is p =
    let q = p.replied in
    let seen : w.seen ≡ q.before ++ (entry, Err x) ∷ [] = q.seen ∙ ap (λ (y : Result Reply OutOfMemory). q.before ++ (entry, y) ∷ []) is in
    refused_take limits q.before entry x (subst (λ (h : List Attempt). IsLawfulAt limits h) seen q.lawful_seen)

-- and the rules answer it with an item
pub refused_memory : (entry : Entry) (a : Result Reply OutOfMemory) (x : OutOfMemory) (root : List Attempt) (v w : Known) → a ≡ Err x → RepliedAfter (IsLawfulAt v.gate.about.limits) root v (entry, a) w → IsRefusedMemory v entry w
refused_memory entry a x root v w is p =
    let limits = v.gate.about.limits in
    let q = p.replied in
    let seen : w.seen ≡ q.before ++ (entry, Err x) ∷ [] = q.seen ∙ ap (λ (y : Result Reply OutOfMemory). q.before ++ (entry, y) ∷ []) is in
    record {
      free = q.same.met;
      before = q.before;
      begins = q.begins;
      room = q.room;
      sent = refused_sent limits q.before entry x (subst (λ (h : List Attempt). IsLawfulAt limits h) seen q.lawful_seen);
      refusal = x;
      seen_is = seen;
    }

-- the history is full
pub worn : (v w : Known) → IsWorn (IsLawfulAt v.gate.about.limits) v w → (w.met ≡ v.met) × IsFull v.gate.about.limits w.seen
worn v w n = (n.same.met, record { all = n.full; lawful = n.lawful_seen })

pub same_own : (v w : Known) → Remembers v w → w.mine ≡ v.mine → AreOwn v.mine (length v.seen) → numbers w.seen w.mine ≡ numbers v.seen v.mine
same_own v w s e own = ap (numbers w.seen) e ∙ numbers_begin v.seen w.seen v.mine s.1 (λ n. (own n).1)

pub passes : (ids ids' : List (GateId Site)) (place : ℕ) (v w : Known) → ids' ≡ ids → slice_get ids place ≡ Some v.gate → Remembers v w
    → (slice_get ids' place ≡ Some w.gate) × (w.gate.about.limits ≡ v.gate.about.limits) × Begins (told v.seen) (told w.seen)
passes ids ids' place v w same at s =
    (ap (λ (l : List (GateId Site)). slice_get l place) same ∙ (at ∙ ap Some (sym s.0)), ap (λ (g : GateId Site). g.about.limits) s.0, begins_told v.seen w.seen s.1)

pub unlearned_told : (roots roots' : List At) → Unlearned roots roots' → (q : ℕ) → told_at roots' q ≡ told_at roots q
unlearned_told roots roots' u q = ap told (u.seen q)

pub kept : (roots roots' : List At) (v w : Known) → Unlearned roots roots' → numbers w.seen w.mine ≡ numbers v.seen v.mine
    → (numbers w.seen w.mine ≡ numbers v.seen v.mine) × ((q : ℕ) → told_at roots' q ≡ told_at roots q)
kept roots roots' v w u e = (e, unlearned_told roots roots' u)

pub call_splits : (roots roots' : List At) (place : ℕ) (kin kin' : List Branch) (result : Result Reply PortFail) → SplitBy (kin_at roots place) kin result (kin_at roots' place) kin' → ((q : ℕ) → q ≢ place → kin_at roots' q ≡ kin_at roots q)
    → CallSplits (kin_at roots) kin result (kin_at roots') kin' place
call_splits roots roots' place kin kin' result h o = record { here = h; others = o }

pub later_told : (a b : List At) → Later (seen_at a) (seen_at b) → Later (told_at a) (told_at b)
later_told a b l = record { at = λ p. begins_told (seen_at a p) (seen_at b p) (l.at p) }

-- of two of which each begins a third, the longer tells what the third does
pub longest_told : (a b c : List At) → Later (seen_at a) (seen_at c) → Later (seen_at b) (seen_at c) → ((q : ℕ) → seen_at c q ≡ longer (seen_at a q) (seen_at b q)) → (q : ℕ) → told_at c q ≡ longer (told_at a q) (told_at b q)
longest_told a b c l m h q = ap told (h q) ∙ told_longer (seen_at a q) (seen_at b q) (subst (λ (x : List Attempt). Begins (seen_at a q) x) (h q) (l.at q)) (subst (λ (x : List Attempt). Begins (seen_at b q) x) (h q) (m.at q))

-- what stands in a list with one more stood there before, or is that one
get_either : (roots : List At) (x : At) (q : ℕ) (k : At) → slice_get (roots ++ x ∷ []) q ≡ Some k → (slice_get roots q ≡ Some k) ⊎ ((q ≡ length roots) × (x ≡ k))
get_either [] x zero k at = inr (refl, cc)
get_either [] x (suc q) k at = absurd (cc)
get_either (r ∷ roots) x zero k at = inl at
get_either (r ∷ roots) x (suc q) k at = elim (get_either roots x q k at) [
  | inl old ↦ inl old
  | inr last ↦ inr (ap suc last.0, last.1)
]

-- the root that has a gate
root_of : (roots : List At) (q : ℕ) (g : GateId Site) → slice_get (gates roots) q ≡ Some g → (k : At) × (slice_get roots q ≡ Some k) × (k.gate ≡ g)
root_of [] q g at = absurd (cc)
root_of (r ∷ roots) zero g at = (r, refl, cc)
root_of (r ∷ roots) (suc q) g at = root_of roots q g at

seen_one : (shapes : List Shape) (q : ℕ) (o : Option At) → ((k : At) → o ≡ Some k → (k.seen ≡ []) × (k.gate.about ≡ site q (shape_at shapes q))) → told (seen_of o) ≡ []
seen_one shapes q None a = refl
seen_one shapes q (Some k) a = ap told (a k refl).0

-- no place yet
pub no_roots : (shapes : List Shape) → AreNewRoots shapes []
no_roots shapes = λ q k at. absurd (cc)

-- one place more
pub root_more : (shapes : List Shape) (roots roots' : List At) (x : At) (n : ℕ) → AreNewRoots shapes roots → length roots ≡ n → (x.seen ≡ []) × (x.gate.about ≡ site n (shape_at shapes n)) → roots' ≡ roots ++ x ∷ [] → AreNewRoots shapes roots'
root_more shapes roots roots' x n all count new is q k at =
    let here : slice_get (roots ++ x ∷ []) q ≡ Some k = subst (λ (l : List At). slice_get l q ≡ Some k) is at in
    elim (get_either roots x q k here) [
      | inl old ↦ all q k old
      | inr last ↦ subst (λ (r : At). (r.seen ≡ []) × (r.gate.about ≡ site q (shape_at shapes q))) last.1 (new.0, new.1 ∙ ap (λ m. site m (shape_at shapes m)) (sym count ∙ sym last.0))
    ]

pub seen_all : (shapes : List Shape) (roots : List At) → AreNewRoots shapes roots → (q : ℕ) → told_at roots q ≡ []
seen_all shapes roots a q = seen_one shapes q (slice_get roots q) (a q)

pub sites_all : (shapes : List Shape) (roots : List At) → AreNewRoots shapes roots → AreSites shapes (gates roots)
sites_all shapes roots a = λ q g at. let k = root_of roots q g at in subst (λ (h : GateId Site). h.about ≡ site q (shape_at shapes q)) k.2 (a q k.0 k.1).1

-- gates whose places differ
pub apart : (shapes : List Shape) (ids : List (GateId Site)) → AreSites shapes ids → AreApart ids
apart shapes ids s = λ p q g h at there other same. other (ap (λ (z : Site). z.place) (sym (s p g at) ∙ (ap (λ (k : GateId Site). k.about) same ∙ s q h there)))

pub new_first : (names : List Name) (opens : List OpenName) (ids : List (GateId Site)) (s p : Streams) → IsNewPort names opens ids s → IsAsBefore s p → IsNewPort names opens ids p
new_first names opens ids s p n a = record {
  names_are = a.0 ∙ n.names_are;
  opens_are = a.1 ∙ n.opens_are;
  gates_are = a.2.gates ∙ n.gates_are;
  unseen = λ q. ap told (a.2.seen q) ∙ n.unseen q;
  no_busies = a.3 ∙ n.no_busies;
}

pub new_each : (names : List Name) (opens : List OpenName) (first : Streams) (list : List Streams) → IsNewPort names opens (gates first.roots) first → All (IsFork first) list → All (IsNewPort names opens (gates first.roots)) list
new_each names opens first [] n a = All-nil (IsNewPort names opens (gates first.roots))
new_each names opens first (p ∷ ps) n a =
    let f = All-head (IsFork first) p ps a in
    let new : IsNewPort names opens (gates first.roots) p =
    record {
      names_are = f.0 ∙ n.names_are;
      opens_are = f.1 ∙ n.opens_are;
      gates_are = f.2.gates;
      unseen = λ q. ap told (f.2.seen q) ∙ n.unseen q;
      no_busies = f.3;
    } in
    All-cons (IsNewPort names opens (gates first.roots)) p ps new (new_each names opens first ps n (All-tail (IsFork first) p ps a))
