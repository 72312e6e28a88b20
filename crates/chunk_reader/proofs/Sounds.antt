-- What a reader's fields keep true
use Rattle.std.proofs.Common.{◌≡◌, ℕ, ◌+◌, ◌<◌, ◌≤◌, ◌^◌, inl, false, List, ◌++◌, [], length, take, Option, Some, None, is_some, refl, sym, ap, ◌∙◌, subst, arith, length-append}
use Rattle.std.proofs.lemmas.List.{length-take}
use Rattle.chunk_wire.specs.declared.message.Message.{Message}
use Rattle.chunk_wire.specs.State.{State, fresh_state, part_bytes}
use Rattle.chunk_reader.specs.declared.fields.Core.{Core}
use Rattle.chunk_reader.specs.declared.fail.ReadFail.{ReadFail}
use Rattle.chunk_reader.specs.declared.fail.ReadCause.{ReadCause}
use Rattle.chunk_reader.specs.ReaderKnown.{ReaderKnown}
use Rattle.chunk_reader.specs.Reads.{Reads, ended}
use Rattle.chunk_reader.specs.Core.{IsStanding, the_state}
use Rattle.chunk_reader.specs.Sound.{IsRead, IsSound}
use Rattle.chunk_reader.specs.Feeds.{IsRefused, IsTakenTo}
use Rattle.chunk_reader.specs.Steps.{IsTaken, TakeFails}
use Rattle.chunk_reader.proofs.Reading.{header_some, held_short, reads_nothing}
use Rattle.chunk_reader.proofs.Stopping.{halts_stops, take_halts, taken_stands}

pub sound_new : (core : Core) (fed : List ℕ) (given : List (ℕ × Message)) → core.size ≡ 128 → core.slots.items ≡ [] → core.head.items ≡ [] → core.need ≡ 0 → core.held ≡ 0 → fed ≡ [] → given ≡ [] → IsSound core 0 None fed given
sound_new core fed given size slots head need held f g =
    let some = header_some fresh_state [] in
    let state : fresh_state ≡ the_state core = rw (size, slots) refl in
    let reads : Reads core.max fed given fresh_state [] = rw (f, g) (reads_nothing core.max) in
    record {
      counted = sym (ap length f);
      read = record { s = fresh_state; r = []; reads = reads };
      standing = λ _. record {
        s = fresh_state;
        r = [];
        reads = reads;
        max_is = refl;
        fields = inl (record { state = state; head = sym head; need = need; short = some });
        held = held ∙ sym (held_short fresh_state [] some);
        counted = held ∙ sym (ap part_bytes slots);
      };
      empty = λ e. absurd (cc);
      dropped = λ e. absurd (cc);
    }

known : ℕ → List ℕ → List (ℕ × Message) → Option ReadFail → ReaderKnown
known max fed given failed = record { max = max; fed = fed; given = given; failed = failed }

end_by : (max max' : ℕ) (b b' : List ℕ) (g g' : List (ℕ × Message)) → max' ≡ max → b' ≡ b → g' ≡ g → ((s : State) × Reads max b g s []) → (s : State) × Reads max' b' g' s []
end_by max max' b b' g g' a e f q = rw (a, e, f) q

-- what some bytes leave
pub record Advanced (old new : Core) (count : ℕ) (failed : Option ReadFail) (fed fed' : List ℕ) (given given' : List (ℕ × Message)) (piece : List ℕ) (used : ℕ) (m : Option Message) : Type 0 where
  pub sound : IsSound new (count + used) failed fed' given'
  pub taken : IsTakenTo (record { max = old.max; fed = fed; given = given; failed = failed }) piece used m (record { max = new.max; fed = fed'; given = given'; failed = failed })

pub advance_ok : (old new : Core) (count : ℕ) (failed : Option ReadFail) (fed fed' : List ℕ) (given given' : List (ℕ × Message)) (piece : List ℕ) (most used : ℕ) (m : Option Message) → IsSound old count failed fed given → failed ≡ None → new.max ≡ old.max
    → IsTaken old piece most used m new → most ≤ length piece → count + used ≤ 2 ^ 62 → fed' ≡ fed ++ take used piece → given' ≡ given ++ ended (count + used) m → Advanced old new count failed fed fed' given given' piece used m
advance_ok old new count failed fed fed' given given' piece most used m sound none max t le near f g =
    let lives : is_some failed ≡ false = rw none refl in
    let st = sound.standing lives in
    let len : length (fed ++ take used piece) ≡ count + used = omega (arith, length-append fed (take used piece), length-take used piece, t.within, sound.counted) in
    let stood = taken_stands old.max fed given piece old most used m new st le (omega (arith, sound.counted)) t in
    let given_is : given' ≡ given ++ ended (length (fed ++ take used piece)) m = g ∙ ap (λ (n : ℕ). given ++ ended n m) (sym len) in
    let stands : IsStanding new.max fed' given' new = let P : ℕ → Type 0 = λ n. IsStanding n fed' given' new in subst P (sym max) (rw (f, given_is) stood.standing) in
    record {
      sound = record {
        counted = sym len ∙ sym (ap length f);
        read = record { s = stands.s; r = stands.r; reads = stands.reads };
        standing = λ _. stands;
        empty = λ e. absurd (cc);
        dropped = λ e. absurd (cc);
      };
      taken = record {
        within = omega (arith, t.within);
        some = t.some;
        now = rw (max, f, given_is, none) refl;
        read = record { s = stands.s; r = stands.r; reads = stands.reads };
        at_end = λ e. end_by old.max new.max (fed ++ take used piece) fed' (given ++ ended (length (fed ++ take used piece)) m) given' max f given_is (stood.whole e);
      };
    }

-- what a refusal leaves
pub record Refused (old new : Core) (count after : ℕ) (e : ReadFail) (failed : Option ReadFail) (fed fed' : List ℕ) (given : List (ℕ × Message)) (piece : List ℕ) : Type 0 where
  pub sound : IsSound new (count + after) (Some e) fed' given
  pub refused : IsRefused (record { max = old.max; fed = fed; given = given; failed = failed }) piece e (record { max = new.max; fed = fed'; given = given; failed = Some e })

pub advance_err : (old new : Core) (count after : ℕ) (cause : ReadCause) (failed : Option ReadFail) (fed fed' : List ℕ) (given : List (ℕ × Message)) (piece : List ℕ) → IsSound old count failed fed given → failed ≡ None → new.max ≡ old.max → new.held ≡ 0 → new.slots.items ≡ []
    → TakeFails old piece count cause after → after < length piece → count + after ≤ 2 ^ 62 → fed' ≡ fed ++ take after piece → Refused old new count after (record { cause = cause; at = count + after }) failed fed fed' given piece
advance_err old new count after cause failed fed fed' given piece sound none max held slots t within near f =
    let lives : is_some failed ≡ false = rw none refl in
    let st = sound.standing lives in
    let len : length (fed ++ take after piece) ≡ count + after = omega (arith, length-append fed (take after piece), length-take after piece, sound.counted) in
    let t1 : TakeFails old piece (length fed) cause after = rw (← sound.counted) t in
    let h = take_halts old.max fed given piece old cause after st (omega arith) (omega (arith, sound.counted)) t1 in
    let read : IsRead new.max fed' given = record { s = h.s; r = h.r; reads = rw (max, f) h.reads } in
    record {
      sound = record {
        counted = sym len ∙ sym (ap length f);
        read = read;
        standing = λ e. absurd (cc);
        empty = λ _. held;
        dropped = λ _. slots;
      };
      refused = record {
        after = after;
        within = within;
        now = rw (max, f) refl;
        at = sym len ∙ sym (ap length f);
        read = read;
        cause = rw sound.counted (halts_stops old.max fed given piece cause after within h);
      };
    }
