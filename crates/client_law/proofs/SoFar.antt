-- What a session has said so far, and since when it plays
use Rattle.std.proofs.Common.{◌≡◌, ℕ, ◌<◌, ◌≤◌, Bool, true, false, ◌==◌, nat_le, List, [], ◌∷◌, ◌++◌, Option, Some, None, refl, sym, ap, ◌∙◌, subst, arith, append_assoc, append-nil}
use Rattle.std.proofs.lemmas.Bool.Decides.{nat_tests}
use Rattle.av_unit.specs.declared.item.Item.{Item}
use Rattle.chunk_wire.specs.declared.message.Message.{Message}
use Rattle.command_dialog.specs.State.{State}
use Rattle.command_dialog.specs.Dialog.{shown, shows}
use Rattle.session_owed.specs.Talk.{said_if, says_at, state_at, state_if}
use Rattle.session_owed.proofs.Counting.{says_more}
use Rattle.client_law.specs.Loud.{Rise, flat, loud, louds}
use Rattle.client_law.specs.Pull.{Plays}
use Rattle.client_law.proofs.Uptos.{says_above}

-- where a play is granted in this state, its Play.Start was said at this place, which isn't later, and it plays on message stream 1
abbrev pub PlaysFrom : Option ℕ → ℕ → State → Type 0
PlaysFrom None o s = Plays s → ⊥
PlaysFrom (Some f) o s = Plays s → (f ≤ o) × ((i : Item) → shows s i ≡ shown 1 i)

abbrev pub EachPlays : Option ℕ → List (ℕ × State) → Type 0
EachPlays f [] = Unit {0}
EachPlays f (e ∷ es) = PlaysFrom f e.0 e.1 × EachPlays f es

-- nothing is said behind that place
abbrev pub Ceases : Option ℕ → List (ℕ × List Message) → Type 0
Ceases None es = Unit {0}
Ceases (Some f) es = (j : ℕ) → f < j → says_at j es ≡ []

-- but for control messages these were said, up to a count
pub record SoFar (F : List Message) (f : Option ℕ) (lo : ℕ) (said : List (ℕ × List Message)) (states : List (ℕ × State)) (s : State) : Type 0 where
  pub answers : flat (louds said) ≡ F
  pub rise : Rise 0 lo (louds said)
  pub ceases : Ceases f (louds said)
  pub states_play : EachPlays f states
  pub now : PlaysFrom f lo s

-- ---- of lists

flat_more : (es : List (ℕ × List Message)) (e : ℕ × List Message) → flat (es ++ e ∷ []) ≡ flat es ++ e.1
unfolding flat
flat_more [] e = append-nil e.1
flat_more (d ∷ es) e = ap (λ t. d.1 ++ t) (flat_more es e) ∙ sym (append_assoc d.1 (flat es) e.1)

louds_more : (es : List (ℕ × List Message)) (e : ℕ × List Message) → louds (es ++ e ∷ []) ≡ louds es ++ (e.0, loud e.1) ∷ []
unfolding louds
louds_more [] e = refl
louds_more (d ∷ es) e = ap (λ t. (d.0, loud d.1) ∷ t) (louds_more es e)

rise_more : (lo hi o : ℕ) (es : List (ℕ × List Message)) (l : List Message) → lo ≤ o → hi ≤ o → Rise lo hi es → Rise lo o (es ++ (o, l) ∷ [])
rise_more lo hi o [] l a b r = (a, omega arith, tt)
rise_more lo hi o (e ∷ es) l a b r = (r.0, omega (arith, r.1, b), rise_more e.0 hi o es l (omega (arith, r.1, b)) b r.2)

rise_wide : (lo hi o : ℕ) (es : List (ℕ × List Message)) → hi ≤ o → Rise lo hi es → Rise lo o es
rise_wide lo hi o [] b r = tt
rise_wide lo hi o (e ∷ es) b r = (r.0, omega (arith, r.1, b), rise_wide e.0 hi o es b r.2)

each_more : (f : Option ℕ) (es : List (ℕ × State)) (e : ℕ × State) → EachPlays f es → PlaysFrom f e.0 e.1 → EachPlays f (es ++ e ∷ [])
each_more f [] e h p = (p, tt)
each_more f (d ∷ es) e h p = (h.0, each_more f es e h.1 p)

plays_later : (f : Option ℕ) (lo o : ℕ) (s : State) → lo ≤ o → PlaysFrom f lo s → PlaysFrom f o s
plays_later None lo o s l h = h
plays_later (Some f) lo o s l h = λ p. (omega (arith, l, (h p).0), (h p).1)

none_said : (b : Bool) → said_if b [] ≡ []
none_said true = refl
none_said false = refl

ceases_more : (f : Option ℕ) (o : ℕ) (es : List (ℕ × List Message)) → Ceases f es → Ceases f (es ++ (o, []) ∷ [])
ceases_more None o es h = tt
ceases_more (Some f) o es h = λ j l. says_more j es (o, []) ∙ ap (λ t. says_at j es ++ t) (none_said (o == j)) ∙ append-nil (says_at j es) ∙ h j l

-- ---- steps

-- nothing more
pub so_later : (F : List Message) (f : Option ℕ) (lo o : ℕ) (said : List (ℕ × List Message)) (states : List (ℕ × State)) (s : State) → lo ≤ o → SoFar F f lo said states s → SoFar F f o said states s
so_later F f lo o said states s l h = record {
  answers = h.answers;
  rise = rise_wide 0 lo o (louds said) l h.rise;
  ceases = h.ceases;
  states_play = h.states_play;
  now = plays_later f lo o s l h.now;
}

-- control messages at most
pub so_quiet : (F : List Message) (f : Option ℕ) (lo o : ℕ) (said : List (ℕ × List Message)) (states : List (ℕ × State)) (s t : State) (l : List Message) → lo ≤ o → loud l ≡ [] → PlaysFrom f o t → SoFar F f lo said states s
    → SoFar F f o (said ++ (o, l) ∷ []) (states ++ (o, t) ∷ []) t
so_quiet F f lo o said states s t l le q p h =
    let e : louds (said ++ (o, l) ∷ []) ≡ louds said ++ (o, []) ∷ [] = louds_more said (o, l) ∙ ap (λ (x : List Message). louds said ++ (o, x) ∷ []) q in
    record {
      answers = ap flat e ∙ flat_more (louds said) (o, []) ∙ append-nil (flat (louds said)) ∙ h.answers;
      rise = subst (Rise 0 o) (sym e) (rise_more 0 lo o (louds said) [] (omega arith) le h.rise);
      ceases = subst (Ceases f) (sym e) (ceases_more f o (louds said) h.ceases);
      states_play = each_more f states (o, t) h.states_play p;
      now = p;
    }

-- an answer before it plays
pub so_said : (F G : List Message) (lo o : ℕ) (said : List (ℕ × List Message)) (states : List (ℕ × State)) (s t : State) (l : List Message) → lo ≤ o → loud l ≡ G → (Plays t → ⊥) → SoFar F None lo said states s
    → SoFar (F ++ G) None o (said ++ (o, l) ∷ []) (states ++ (o, t) ∷ []) t
so_said F G lo o said states s t l le q p h =
    let e : louds (said ++ (o, l) ∷ []) ≡ louds said ++ (o, G) ∷ [] = louds_more said (o, l) ∙ ap (λ (x : List Message). louds said ++ (o, x) ∷ []) q in
    record {
      answers = ap flat e ∙ flat_more (louds said) (o, G) ∙ ap (λ x. x ++ G) h.answers;
      rise = subst (Rise 0 o) (sym e) (rise_more 0 lo o (louds said) G (omega arith) le h.rise);
      ceases = tt;
      states_play = each_more None states (o, t) h.states_play p;
      now = p;
    }

each_from : (f : ℕ) (es : List (ℕ × State)) → EachPlays None es → EachPlays (Some f) es
each_from f [] h = tt
each_from f (e ∷ es) h = (λ p. absurd (h.0 p), each_from f es h.1)

-- the answer by which it plays
pub so_starts : (F G : List Message) (lo o : ℕ) (said : List (ℕ × List Message)) (states : List (ℕ × State)) (s t : State) (l : List Message) → lo ≤ o → loud l ≡ G → ((i : Item) → shows t i ≡ shown 1 i) → SoFar F None lo said states s
    → SoFar (F ++ G) (Some o) o (said ++ (o, l) ∷ []) (states ++ (o, t) ∷ []) t
so_starts F G lo o said states s t l le q p h =
    let e : louds (said ++ (o, l) ∷ []) ≡ louds said ++ (o, G) ∷ [] = louds_more said (o, l) ∙ ap (λ (x : List Message). louds said ++ (o, x) ∷ []) q in
    let r : Rise 0 o (louds (said ++ (o, l) ∷ [])) = subst (Rise 0 o) (sym e) (rise_more 0 lo o (louds said) G (omega arith) le h.rise) in
    record {
      answers = ap flat e ∙ flat_more (louds said) (o, G) ∙ ap (λ x. x ++ G) h.answers;
      rise = r;
      ceases = λ j m. says_above 0 o j (louds (said ++ (o, l) ∷ [])) r m;
      states_play = each_more (Some o) states (o, t) (each_from o states h.states_play) (λ x. (omega arith, p));
      now = λ x. (omega arith, p);
    }

-- ---- the state at a count

came_plays : (f : Option ℕ) (o j : ℕ) (s t : State) (b : Bool) → nat_le o j ≡ b → PlaysFrom f j s → PlaysFrom f o t → PlaysFrom f j (state_if b t s)
came_plays f o j s t true e h p = plays_later f o j t (grind (arith, nat_tests)) p
came_plays f o j s t false e h p = h

pub plays_at : (f : Option ℕ) (j : ℕ) (s : State) (es : List (ℕ × State)) → PlaysFrom f j s → EachPlays f es → PlaysFrom f j (state_at j s es)
unfolding state_at
plays_at f j s [] h e = h
plays_at f j s (d ∷ es) h e = plays_at f j (state_if (nat_le d.0 j) d.1 s) es (came_plays f d.0 j s d.1 (nat_le d.0 j) refl h e.0) e.1
