-- What a feed and the end leave
use Rattle.std.proofs.Common.{◌≡◌, ℕ, Bool, ◌+◌, ◌-◌, ◌<◌, ◌≤◌, ◌⊎◌, inl, inr, true, false, List, [], ◌++◌, length, take, drop}
use Rattle.std.proofs.Common.{Option, Some, None, IfSome, is_some, refl, sym, ap, ◌∙◌, subst, arith, append_assoc, append-nil, length-append, length-drop}
use Rattle.std.specs.Option.{option_to_list}
use Rattle.std.proofs.lemmas.List.{length-take-le, take-append-drop, take_all}
use Rattle.std.proofs.Math.Seq.{take-add}
use Rattle.ts_reader.specs.declared.unit.TsUnit.{TsUnit}
use Rattle.ts_reader.specs.declared.fail.TsFail.{TsFail}
use Rattle.ts_reader.specs.declared.fail.TsFail.TheVariants.{NoSync, OutOfMemory}
use Rattle.ts_reader.specs.declared.state.State.{State}
use Rattle.ts_reader.specs.Mux.{start}
use Rattle.ts_reader.specs.Reads.{EndFails, Ends, Gives, Stops}
use Rattle.ts_reader.specs.Known.{Known}
use Rattle.ts_reader.specs.Feeds.{IsFedTo, IsRefused, IsRefusedAtEnd, IsTakenTo, Stands, after_bytes}
use Rattle.ts_reader.specs.Sound.{Fails, IsLast, IsSound, IsStanding, LastFails, Takes, mux_of}
use Rattle.ts_reader.proofs.Standing.{before_last, nothing_stands, stands_of, stopped, taken_gives, taken_stood}

two_ways : (b : Bool) → b ≡ false → b ≡ true → ⊥
two_ways b f t = cc

-- a reader that was fed nothing
pub sound_new : (state : State) (part fed : List ℕ) (given : List TsUnit) → mux_of state ≡ start → part ≡ [] → fed ≡ [] → given ≡ []
    → IsSound state part 0 None fed given
sound_new state part fed given s p f g =
    let standing : IsStanding fed given 0 (mux_of state) part = rw (s, p, f, g) nothing_stands in
    record { read = stands_of fed given 0 (mux_of state) part None standing; standing = λ _. standing; dropped = λ l. absurd (cc) }

-- bytes that were taken
pub record AdvancedOk (fed : List ℕ) (given : List TsUnit) (piece : List ℕ) (used : ℕ) (u : Option TsUnit) (state : State) (part : List ℕ) (at : ℕ)
    (failed : Option TsFail) (fed_now : List ℕ) (given_now : List TsUnit) : Type 0 where
  pub sound : IsSound state part at failed fed_now given_now
  pub taken : IsTakenTo (record { fed = fed; given = given; failed = failed }) piece used u (record { fed = fed_now; given = given_now; failed = failed })

pub advance_ok : (old new : State) (part rest : List ℕ) (at later : ℕ) (failed : Option TsFail) (fed fed_now : List ℕ) (given given_now : List TsUnit)
    (piece : List ℕ) (used : ℕ) (u : Option TsUnit)
    → IsSound old part at failed fed given → failed ≡ None → 0 < used → used ≤ length piece
    → Takes at (mux_of old) part (take used piece) u (mux_of new) rest → (rest ≡ [] → later ≡ at + 188) → ((rest ≡ [] → ⊥) → later ≡ at)
    → fed_now ≡ fed ++ take used piece → given_now ≡ given ++ option_to_list u
    → AdvancedOk fed given piece used u new rest later failed fed_now given_now
advance_ok old new part rest at later failed fed fed_now given given_now piece used u s lives some within takes ends goes f g =
    let live : is_some failed ≡ false = ap (λ (o : Option TsFail). is_some o) lives in
    let standing = s.standing live in
    let n = length-take-le used piece within in
    let stood = taken_stood fed given at later (mux_of old) (mux_of new) part (take used piece) rest u standing (omega arith) takes ends goes in
    let gives = taken_gives fed given at (mux_of old) (mux_of new) part (take used piece) rest u standing takes in
    let read = stands_of (fed ++ take used piece) (given ++ option_to_list u) later (mux_of new) rest failed stood in
    let P : List ℕ → List TsUnit → Type 0 = λ b us. AdvancedOk fed given piece used u new rest later failed b us in
    let whole : P (fed ++ take used piece) (given ++ option_to_list u) = record {
      sound = record { read = read; standing = λ _. stood; dropped = λ d. absurd (two_ways (is_some failed) live d) };
      taken = record {
        within = within;
        some = some;
        now = ap (λ (e : Option TsFail). record { fed = fed ++ take used piece; given = given ++ option_to_list u; failed = e }) lives;
        read = read;
        at_end = gives;
      };
    } in
    let P1 : List TsUnit → Type 0 = λ us. P (fed ++ take used piece) us in
    let P2 : List ℕ → Type 0 = λ b. P b given_now in
    subst P2 (sym f) (subst P1 (sym g) whole)

-- a byte that was refused
pub record AdvancedErr (fed : List ℕ) (given : List TsUnit) (piece : List ℕ) (e : TsFail) (state : State) (part : List ℕ) (at : ℕ)
    (failed : Option TsFail) (fed_now : List ℕ) : Type 0 where
  pub sound : IsSound state part at (Some e) fed_now given
  pub refused : IsRefused (record { fed = fed; given = given; failed = failed }) piece e (record { fed = fed_now; given = given; failed = Some e })

pub advance_err : (old new : State) (part rest : List ℕ) (at : ℕ) (failed : Option TsFail) (fed fed_now : List ℕ) (given : List TsUnit) (piece : List ℕ)
    (used : ℕ) (e : TsFail)
    → IsSound old part at failed fed given → failed ≡ None → 0 < used → used ≤ length piece → length part + used ≤ 188
    → (e ≡ OutOfMemory) ⊎ Fails at (mux_of old) part (take used piece) e → fed_now ≡ fed ++ take (used - 1) piece → mux_of new ≡ start → rest ≡ []
    → AdvancedErr fed given piece e new rest at failed fed_now
advance_err old new part rest at failed fed fed_now given piece used e s lives some within room fails f state none =
    let live : is_some failed ≡ false = ap (λ (o : Option TsFail). is_some o) lives in
    let standing = s.standing live in
    let stood = before_last fed given at (mux_of old) part piece used standing some room in
    let read = stands_of (fed ++ take (used - 1) piece) given at (mux_of old) (part ++ take (used - 1) piece) (Some e) stood in
    let n = length-take-le (used - 1) piece (omega arith) in
    let cause : (e ≡ OutOfMemory) ⊎ Stops (fed ++ piece) (length (fed ++ take (used - 1) piece)) given e = elim fails [
      | inl m ↦ inl m
      | inr x ↦ inr (stopped fed given at (mux_of old) part piece used e standing some within x)
    ] in
    let P : List ℕ → Type 0 = λ b. AdvancedErr fed given piece e new rest at failed b in
    let whole : P (fed ++ take (used - 1) piece) = record {
      sound = record { read = read; standing = λ l. absurd (cc); dropped = λ _. record { state = state; none = none } };
      refused = record {
        after = used - 1;
        within = omega arith;
        now = refl;
        read = read;
        count = length-append fed (take (used - 1) piece) ∙ ap (λ (k : ℕ). length fed + k) n;
        cause = cause;
      };
    } in
    subst P (sym f) whole

-- the packet that has begun
pub part_is : (state : State) (part : List ℕ) (at : ℕ) (failed : Option TsFail) (fed : List ℕ) (given : List TsUnit) → IsSound state part at failed fed given
    → failed ≡ None → IsStanding fed given at (mux_of state) part
part_is state part at failed fed given s lives = s.standing (ap (λ (o : Option TsFail). is_some o) lives)

pub part_short : (state : State) (part : List ℕ) (at : ℕ) (failed : Option TsFail) (fed : List ℕ) (given : List TsUnit) → IsSound state part at failed fed given
    → failed ≡ None → length part < 188
part_short state part at failed fed given s lives = (part_is state part at failed fed given s lives).short

pub part_place : (state : State) (part : List ℕ) (at : ℕ) (failed : Option TsFail) (fed : List ℕ) (given : List TsUnit) → IsSound state part at failed fed given
    → failed ≡ None → at ≤ length fed
part_place state part at failed fed given s lives =
    let i = part_is state part at failed fed given s lives in
    let n = ap length i.bytes ∙ length-append i.whole part in
    let p = i.place in
    omega arith

-- a feed, from its steps
abbrev pub fed_to : Known → List ℕ → ℕ → Known
fed_to old piece used = record { fed = old.fed ++ take used piece; given = old.given; failed = None }

pub rest_is : (piece : List ℕ) (used : ℕ) → take (length piece - used) (drop used piece) ≡ drop used piece
rest_is piece used = take_all (length piece - used) (drop used piece) (omega (arith, length-drop used piece))

pub feed_more : (old mid new : Known) (piece : List ℕ) (used more : ℕ) (u : Option TsUnit) → mid ≡ fed_to old piece used
    → IsTakenTo mid (drop used piece) more u new → new ≡ after_bytes old piece (used + more) u
feed_more old mid new piece used more u e k =
    let P : Known → Type 0 = λ m. new ≡ after_bytes m (drop used piece) more u in
    let n : new ≡ after_bytes (fed_to old piece used) (drop used piece) more u = subst P e k.now in
    let f : (old.fed ++ take used piece) ++ take more (drop used piece) ≡ old.fed ++ take (used + more) piece =
    append_assoc old.fed (take used piece) (take more (drop used piece)) ∙ ap (λ (b : List ℕ). old.fed ++ b) (sym (take-add used more piece)) in
    n ∙ ap (λ (b : List ℕ). record { fed = b; given = old.given ++ option_to_list u; failed = None }) f

pub feed_none : (old : Known) (piece : List ℕ) (used : ℕ) → after_bytes old piece used None ≡ fed_to old piece used
feed_none old piece used = ap (λ (us : List TsUnit). record { fed = old.fed ++ take used piece; given = us; failed = None }) (append-nil old.given)

pub feed_refused : (old mid new : Known) (piece : List ℕ) (used : ℕ) (e : TsFail) → used ≤ length piece → mid ≡ fed_to old piece used
    → IsRefused mid (drop used piece) e new → IsRefused old piece e new
feed_refused old mid new piece used e within m r =
    let P : Known → Type 0 = λ k. new ≡ record { fed = k.fed ++ take r.after (drop used piece); given = k.given; failed = Some e } in
    let n = subst P m r.now in
    let f : (old.fed ++ take used piece) ++ take r.after (drop used piece) ≡ old.fed ++ take (used + r.after) piece =
    append_assoc old.fed (take used piece) (take r.after (drop used piece)) ∙ ap (λ (b : List ℕ). old.fed ++ b) (sym (take-add used r.after piece)) in
    let all : (old.fed ++ take used piece) ++ drop used piece ≡ old.fed ++ piece = append_assoc old.fed (take used piece) (drop used piece)
    ∙ ap (λ (b : List ℕ). old.fed ++ b) (take-append-drop used piece) in
    let Q : Known → Type 0 = λ k. (e ≡ OutOfMemory) ⊎ Stops (k.fed ++ drop used piece) (length new.fed) new.given e in
    let c = subst Q m r.cause in
    let R : List ℕ → Type 0 = λ b. (e ≡ OutOfMemory) ⊎ Stops b (length new.fed) new.given e in
    record {
      after = used + r.after;
      within = omega (arith, r.within, length-drop used piece);
      now = n ∙ ap (λ (b : List ℕ). record { fed = b; given = old.given; failed = Some e }) f;
      read = r.read;
      count = omega (arith, r.count, ap (λ (k : Known). length k.fed) m, length-append old.fed (take used piece), length-take-le used piece within);
      cause = subst R all c;
    }

pub feed_goes : (old mid new : Known) (piece : List ℕ) (used more : ℕ) (u : Option TsUnit) → mid ≡ fed_to old piece used
    → IsTakenTo mid (drop used piece) more u new → is_some u ≡ false → new ≡ fed_to old piece (used + more)
feed_goes old mid new piece used more None e k n = feed_more old mid new piece used more None e k ∙ feed_none old piece (used + more)
feed_goes old mid new piece used more (Some x) e k n = absurd (cc)

pub feed_ends : (old mid new : Known) (piece : List ℕ) (used more : ℕ) (u : Option TsUnit) → used ≤ length piece → mid ≡ fed_to old piece used
    → IsTakenTo mid (drop used piece) more u new → is_some u ≡ true → IsFedTo old piece (used + more) u new
feed_ends old mid new piece used more u within e k n =
    let P : Known → Type 0 = λ x. IfSome u (λ y. Gives new.fed x.given y) in
    record {
      within = omega (arith, k.within, length-drop used piece);
      some = λ _. omega (arith, k.some);
      all = λ f. absurd (cc);
      now = feed_more old mid new piece used more u e k;
      read = k.read;
      at_end = subst P e k.at_end;
      count = ap (λ (m : Known). length m.fed) (feed_more old mid new piece used more u e k) ∙ length-append old.fed (take (used + more) piece)
          ∙ ap (λ (n : ℕ). length old.fed + n) (length-take-le (used + more) piece (omega (arith, k.within, length-drop used piece)));
    }

-- a feed to the end of the piece
pub feed_all : (old new : Known) (piece : List ℕ) (used : ℕ) → length piece ≤ used → used ≤ length piece → new ≡ fed_to old piece used → Stands new
    → IsFedTo old piece used None new
feed_all old new piece used low high n r = record {
  within = high;
  some = λ e. absurd (cc);
  all = λ _. omega (arith, low, high);
  now = n ∙ sym (feed_none old piece used);
  read = r;
  at_end = tt;
  count = ap (λ (m : Known). length m.fed) n ∙ length-append old.fed (take used piece) ∙ ap (λ (k : ℕ). length old.fed + k) (length-take-le used piece high);
}

-- the end
pub ended : (state : State) (part : List ℕ) (at : ℕ) (failed : Option TsFail) (fed : List ℕ) (given : List TsUnit) (u : Option TsUnit)
    → IsSound state part at failed fed given → failed ≡ None → IsLast (mux_of state) part u → Ends fed given u
ended state part at failed fed given u s lives l =
    let i = part_is state part at failed fed given s lives in
    let b : fed ≡ i.whole = i.bytes ∙ ap (λ (x : List ℕ). i.whole ++ x) l.none ∙ append-nil i.whole in
    let P : List ℕ → Type 0 = λ x. Ends x given u in
    subst P (sym b) (record { m = mux_of state; packets = i.packets; last = l.last })

pub end_fails : (state : State) (part : List ℕ) (at : ℕ) (failed : Option TsFail) (fed : List ℕ) (given : List TsUnit) (e : TsFail)
    → IsSound state part at failed fed given → failed ≡ None → LastFails at (mux_of state) part e → EndFails fed given e
end_fails state part at failed fed given e s lives (inl c) =
    let i = part_is state part at failed fed given s lives in
    let P : ℕ → Type 0 = λ n. e ≡ NoSync n in
    inl
    (record {
      m = mux_of state;
      r = part;
      read = record { whole = i.whole; packets = i.packets; bytes = i.bytes; short = i.short };
      some = c.0;
      cause = subst P i.place c.1;
    })
end_fails state part at failed fed given e s lives (inr c) =
    let i = part_is state part at failed fed given s lives in
    let b : fed ≡ i.whole = i.bytes ∙ ap (λ (x : List ℕ). i.whole ++ x) c.0 ∙ append-nil i.whole in
    let P : List ℕ → Type 0 = λ x. EndFails x given e in
    subst P (sym b) (inr (record { m = mux_of state; packets = i.packets; last = c.1 }))

pub end_refused : (state : State) (part : List ℕ) (at : ℕ) (failed : Option TsFail) (fed : List ℕ) (given : List TsUnit) (e : TsFail)
    → IsSound state part at failed fed given → failed ≡ None → LastFails at (mux_of state) part e
    → IsRefusedAtEnd (record { fed = fed; given = given; failed = failed }) e (record { fed = fed; given = given; failed = Some e })
end_refused state part at failed fed given e s lives l = record { cause = end_fails state part at failed fed given e s lives l; now = refl }
