-- Calls that stand in a history, as it grows
use Rattle.std.proofs.Common.{◌≡◌, ℕ, ◌+◌, ◌<◌, ◌≤◌, List, [], ◌∷◌, ◌++◌, length, refl, sym, ap, ◌∙◌, subst, arith, length-append, append_assoc, Option, Some, None, slice_get}
use Rattle.std.specs.Prelude.{map, zero, suc}
use Rattle.std.proofs.lemmas.List.{append-nil, map-append}
use Rattle.std.proofs.lemmas.List.Elements.{All-push}
use Rattle.std.proofs.lemmas.Option.{slice_get_within}
use Rattle.stream_model.specs.declared.calls.Shape.{Shape}
use Rattle.turn_gate.specs.Histories.{Begins}
use Rattle.stream_registry.specs.Told.{Step, Keeps}
use Rattle.stream_registry.specs.Placed.{Placed}
use Rattle.media_recorder.specs.Calls.{RiseFrom, Stand}
use Rattle.media_recorder.specs.Ports.{FitsIf, seen_of, mine_of}
use Rattle.media_recorder.specs.Seats.{StandIf}
use Rattle.media_recorder.proofs.Fresh.{keeps_none}

pub begins_same : {E : Type 0} (xs ys : List E) → ys ≡ xs → Begins xs ys
begins_same xs ys e = ([], append-nil xs ∙ sym e)

pub begins_trans : {E : Type 0} (xs ys zs : List E) → Begins xs ys → Begins ys zs → Begins xs zs
begins_trans xs ys zs a b =
    (a.0 ++ b.0, sym (append_assoc xs a.0 b.0) ∙ (ap (λ (l : List _). l ++ b.0) a.1 ∙ b.1))

pub begins_length : {E : Type 0} (xs ys : List E) → Begins xs ys → length xs ≤ length ys
begins_length xs ys b = omega (arith, length-append xs b.0, ap length b.1)

at_later : {A : Type 0} (xs ys : List A) (n : ℕ) (x : A) → slice_get xs n ≡ Some x → slice_get (xs ++ ys) n ≡ Some x
at_later [] ys n x e = cc
at_later (y ∷ xs) ys zero x e = e
at_later (y ∷ xs) ys (suc n) x e = at_later xs ys n x e

at_last : {A : Type 0} (xs : List A) (x : A) → slice_get (xs ++ x ∷ []) (length xs) ≡ Some x
at_last [] x = refl
at_last (y ∷ ys) x = at_last ys x

mapped_later : {A : Type 0} (xs ys : List A) (ns : List ℕ) (cs : List A) → map (slice_get xs) ns ≡ map Some cs → map (slice_get (xs ++ ys)) ns ≡ map Some cs
mapped_later xs ys [] [] e = refl
mapped_later xs ys [] (c ∷ cs) e = cc
mapped_later xs ys (n ∷ ns) [] e = cc
mapped_later xs ys (n ∷ ns) (c ∷ cs) e =
    let head : slice_get xs n ≡ Some c = cc in
    let tail : map (slice_get xs) ns ≡ map Some cs = cc in
    let h : slice_get (xs ++ ys) n ≡ Some c = at_later xs ys n c head in
    let t : map (slice_get (xs ++ ys)) ns ≡ map Some cs = mapped_later xs ys ns cs tail in
    cc

mapped_begins : {A : Type 0} (xs ys : List A) (ns : List ℕ) (cs : List A) → Begins xs ys → map (slice_get xs) ns ≡ map Some cs → map (slice_get ys) ns ≡ map Some cs
mapped_begins xs ys ns cs b e = subst (λ (l : List _). map (slice_get l) ns ≡ map Some cs) b.1 (mapped_later xs b.0 ns cs e)

mapped_more : {A : Type 0} (xs : List A) (x : A) (ns : List ℕ) (cs : List A) → map (slice_get xs) ns ≡ map Some cs → map (slice_get (xs ++ x ∷ [])) (ns ++ length xs ∷ []) ≡ map Some (cs ++ x ∷ [])
mapped_more xs x ns cs e =
    let h : map (slice_get (xs ++ x ∷ [])) ns ≡ map Some cs = mapped_later xs (x ∷ []) ns cs e in
    let l : slice_get (xs ++ x ∷ []) (length xs) ≡ Some x = at_last xs x in
    map-append (slice_get (xs ++ x ∷ [])) ns (length xs ∷ []) ∙ (ap (λ (o : Option _). map (slice_get (xs ++ x ∷ [])) ns ++ o ∷ []) l ∙ (ap (λ (os : List (Option _)). os ++ Some x ∷ []) h ∙ sym (map-append Some cs (x ∷ []))))

Below : ℕ → List ℕ → Type 0
Below n [] = Unit {0}
Below n (m ∷ ms) = (m < n) × Below n ms

below_more : (n k : ℕ) (ns : List ℕ) → n ≤ k → Below n ns → Below k ns
unfolding Below
below_more n k [] l b = tt
below_more n k (m ∷ ms) l b = (omega (arith, b.0, l), below_more n k ms l b.1)

below_known : {A : Type 0} (xs : List A) (ns : List ℕ) (cs : List A) → map (slice_get xs) ns ≡ map Some cs → Below (length xs) ns
unfolding Below
below_known xs [] cs e = tt
below_known xs (n ∷ ns) [] e = cc
below_known xs (n ∷ ns) (c ∷ cs) e =
    let head : slice_get xs n ≡ Some c = cc in
    let tail : map (slice_get xs) ns ≡ map Some cs = cc in
    (slice_get_within xs n c head, below_known xs ns cs tail)

rise_more : (k n : ℕ) (ns : List ℕ) → k ≤ n → Below n ns → RiseFrom k ns → RiseFrom k (ns ++ n ∷ [])
unfolding Below
rise_more k n [] l b r = (l, tt)
rise_more k n (m ∷ ms) l b r = (r.0, rise_more (m + 1) n ms (omega (arith, b.0)) b.1 r.1)

-- no calls stand in any history
pub stand_none : (limits : Shape) (who : ℕ) (seen : List Step) → Stand limits who seen [] []
stand_none limits who seen = record {
  known = [];
  first = (seen, refl);
  keeps = keeps_none limits;
  rise = tt;
  calls_are = refl;
  own = λ k d l. absurd (omega (arith, l));
}

-- more was seen
pub stand_later : (limits : Shape) (who : ℕ) (seen seen' : List Step) (mine : List ℕ) (calls : List Step) → Begins seen seen' → Stand limits who seen mine calls → Stand limits who seen' mine calls
stand_later limits who seen seen' mine calls b s = record {
  known = s.known;
  first = begins_trans s.known seen seen' s.first b;
  keeps = s.keeps;
  rise = s.rise;
  calls_are = s.calls_are;
  own = s.own;
}

-- one call more
pub stand_more : (limits : Shape) (who : ℕ) (root seen seen' : List Step) (mine mine' : List ℕ) (calls : List Step) (step : Step) → step.0.who ≡ who → Placed limits root seen mine step seen' mine' → Keeps limits seen' → Stand limits who seen mine calls → Stand limits who seen' mine' (calls ++ step ∷ [])
stand_more limits who root seen seen' mine mine' calls step me p keeps s =
    let known = begins_trans s.known seen p.before s.first p.pass_first in
    let here : map (slice_get p.before) mine ≡ map Some calls = mapped_begins s.known p.before mine calls known s.calls_are in
    let rise : RiseFrom 0 (mine ++ length p.before ∷ []) = rise_more 0 (length p.before) mine (omega arith) (below_known p.before mine calls here) s.rise in
    let are : map (slice_get (p.before ++ step ∷ [])) (mine ++ length p.before ∷ []) ≡ map Some (calls ++ step ∷ []) = mapped_more p.before step mine calls here in
    record {
      known = seen';
      first = begins_same seen' seen' refl;
      keeps = keeps;
      rise = subst (λ (ns : List ℕ). RiseFrom 0 ns) (sym p.mine_is) rise;
      calls_are = subst (λ (ns : List ℕ). map (slice_get seen') ns ≡ map Some (calls ++ step ∷ [])) (sym p.mine_is) (subst (λ (h : List Step). map (slice_get h) (mine ++ length p.before ∷ []) ≡ map Some (calls ++ step ∷ [])) (sym p.seen_is) are);
      own = All-push (λ (c : Step). c.0.who ≡ who) calls step s.own me;
    }

module _ {Q : Type 0} (limits : Q → Shape) (seen : Q → List Step) (mine : Q → List ℕ) (fits : Q → Type 0) (lim : Shape) (ruled : (p : Q) → fits p → limits p ≡ lim) where
  -- a caller's calls stand in what its pass has seen, or in any history
  pub stand_if : (who : ℕ) (root : List Step) (pass : Option Q) (calls : List Step) → FitsIf fits pass → StandIf limits seen mine who pass calls → Stand lim who (seen_of seen root pass) (mine_of mine pass) calls
  stand_if who root None calls f s = subst (λ (c : List Step). Stand lim who root [] c) (sym s) (stand_none lim who root)
  stand_if who root (Some p) calls f s = subst (λ (l : Shape). Stand l who (seen p) (mine p) calls) (ruled p f) s

  -- an answered call of a caller, whose pass was there or was just attached
  pub seat_made : (who : ℕ) (root root' : List Step) (pass : Option Q) (calls calls' : List Step) (step : Step) (l l' : Shape) (entered seen' : List Step) (numbers mine' : List ℕ)
      → FitsIf fits pass → StandIf limits seen mine who pass calls → l ≡ lim → l' ≡ l → entered ≡ seen_of seen root pass → numbers ≡ mine_of mine pass → step.0.who ≡ who → calls' ≡ calls ++ step ∷ []
      → Placed l root' entered numbers step seen' mine' → Keeps l' seen' → Stand l' who seen' mine' calls'
  seat_made who root root' pass calls calls' step l l' entered seen' numbers mine' f s ruled_l same entered_is numbers_are me calls_are p keeps =
      let old : Stand lim who (seen_of seen root pass) (mine_of mine pass) calls = stand_if who root pass calls f s in
      let here : Stand l who (seen_of seen root pass) (mine_of mine pass) calls = subst (λ (x : Shape). Stand x who (seen_of seen root pass) (mine_of mine pass) calls) (sym ruled_l) old in
      let there : Stand l who entered (mine_of mine pass) calls = subst (λ (h : List Step). Stand l who h (mine_of mine pass) calls) (sym entered_is) here in
      let now : Stand l who entered numbers calls = subst (λ (ns : List ℕ). Stand l who entered ns calls) (sym numbers_are) there in
      let kept : Keeps l seen' = subst (λ (x : Shape). Keeps x seen') same keeps in
      let more : Stand l who seen' mine' (calls ++ step ∷ []) = stand_more l who root' entered seen' numbers mine' calls step me p kept now in
      subst (λ (x : Shape). Stand x who seen' mine' calls') (sym same) (subst (λ (c : List Step). Stand l who seen' mine' c) (sym calls_are) more)

  -- a call that wasn't made
  pub seat_unmade : (who : ℕ) (root : List Step) (pass : Option Q) (calls : List Step) (l l' : Shape) (entered seen' : List Step) (numbers mine' : List ℕ)
      → FitsIf fits pass → StandIf limits seen mine who pass calls → l ≡ lim → l' ≡ l → entered ≡ seen_of seen root pass → numbers ≡ mine_of mine pass
      → Begins entered seen' → mine' ≡ numbers → Stand l' who seen' mine' calls
  seat_unmade who root pass calls l l' entered seen' numbers mine' f s ruled_l same entered_is numbers_are later none =
      let old : Stand lim who (seen_of seen root pass) (mine_of mine pass) calls = stand_if who root pass calls f s in
      let here : Stand l' who (seen_of seen root pass) (mine_of mine pass) calls = subst (λ (x : Shape). Stand x who (seen_of seen root pass) (mine_of mine pass) calls) (sym (same ∙ ruled_l)) old in
      let there : Stand l' who entered (mine_of mine pass) calls = subst (λ (h : List Step). Stand l' who h (mine_of mine pass) calls) (sym entered_is) here in
      let now : Stand l' who entered mine' calls = subst (λ (ns : List ℕ). Stand l' who entered ns calls) (sym (none ∙ numbers_are)) there in
      stand_later l' who entered seen' mine' calls later now
