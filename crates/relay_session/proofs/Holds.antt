-- What a session holds has its bounds
use Rattle.std.proofs.Common.{◌≡◌, ◌≤◌, ◌+◌, ◌*◌, ◌∙◌, ℕ, Bool, true, false, Option, Some, None, length, refl, sym, ap, subst, arith}
use Rattle.std.specs.Prelude.{is_some}
use Rattle.chunk_reader.specs.ReaderKnown.{ReaderKnown}
use Rattle.chunk_reader.specs.Reads.{part_limit}
use Rattle.rtmp_handshake.specs.Handshake.{Handshake, held_of}
use Rattle.stream_model.specs.declared.calls.Entry.{Entry}
use Rattle.session_owed.specs.Standing.{Past}
use Rattle.relay_session.specs.Bounds.{HasRoom, IsLight, kept_bytes, kept_name, reply_cost}
use Rattle.relay_session.specs.Feeding.{IsSent}
use Rattle.relay_session.specs.Holding.{HandFits, IsParts}
use Rattle.relay_session.specs.Keeping.{HasEnded, IsSound, IsSteady}
use Rattle.relay_session.specs.Turns.{Gone, gone_of}
use Rattle.relay_session.specs.declared.core_fields.Core.{Core}

parts_by : (t : Bool) (h : Handshake) (k : ReaderKnown) (n : ℕ) (kept : Option Entry) → is_some k.failed ≡ t → IsParts k n → HasRoom h k kept → held_of h + (n + kept_bytes kept) ≤ part_limit k.max
parts_by true g k n kept e p r = omega (arith, p.failed e, r.alone)
parts_by false g k n kept e p r = let h = p.lives e in omega (arith, r.together h.0 h.1.0 h.1.1, h.1.2)

pub parts_room : (h : Handshake) (k : ReaderKnown) (n : ℕ) (kept : Option Entry) → IsParts k n → HasRoom h k kept → held_of h + (n + kept_bytes kept) ≤ part_limit k.max
parts_room h k n kept p r = parts_by (is_some k.failed) h k n kept refl p r

light_others : (n : ℕ) (kept : Option Entry) → IsLight n kept → n ≤ 12206
light_others n None l = omega (arith, l)
light_others n (Some e) l = omega (arith, l)

-- each of the sums is far from the end of its type
pub record AreFew (app kept unit later ready parts input : ℕ) : Type 0 where
  pub app_few : app ≤ 64
  pub parts_few : parts + kept ≤ 4259840
  pub unit_few : unit ≤ 4194304
  pub encoded_few : ready + later ≤ 32704
  pub input_few : input ≤ 4096

-- answers wait for the call that waits, so its name has room among them
pub name_few : (n : ℕ) (kept : Option Entry) → IsLight n kept → kept_name kept ≤ 64 → n + kept_name kept ≤ 12206
name_few n None l m = omega (arith, l)
name_few n (Some e) l m = omega (arith, l, m)

pub others_few : (n : ℕ) (kept : Option Entry) → IsLight n kept → n ≤ 12206
others_few n kept l = light_others n kept l

-- ---- through a step

pub light_none : (n : ℕ) (kept : Option Entry) → kept ≡ None → 16 * n ≤ 195296 → IsLight n kept
light_none n kept e le = omega (arith, le, ap reply_cost e)

-- one that ends where no more was encoded
pub ended_filled : (old new : Core) → IsSteady old → gone_of new ≡ gone_of old → new.hand ≡ old.hand → new.reader ≡ old.reader → new.outgoing.others ≤ old.outgoing.others → (HandFits old → HandFits new) → HasEnded new
ended_filled old new s g h r o f =
    let kept : new.kept ≡ old.kept = ap (λ (k : Gone). k.kept) g in
    record {
      counted = ap (λ (k : Gone). k.fed) g ∙ s.sound.counted ∙ ap (λ (k : Gone). length k.x) (sym g);
      room = subst (λ (k : Handshake). HasRoom k new.reader new.kept) (sym h)
          (subst (λ (k : ReaderKnown). HasRoom old.hand k new.kept) (sym r) (subst (λ (k : Option Entry). HasRoom old.hand old.reader k) (sym kept) s.sound.room));
      light = omega (arith, o, ap reply_cost kept, s.light);
      fits = f s.fits;
    }

-- and one that sent
pub steady_sent : (old mid new : Core) (n : ℕ) → IsSteady old → gone_of mid ≡ gone_of old → mid.outgoing.others ≤ old.outgoing.others → (HandFits old → HandFits mid) → IsSent mid n new → IsSound new → (HandFits mid → HandFits new) → IsSteady new
steady_sent old mid new n s g o f i l h =
    let kept : new.kept ≡ old.kept = ap (λ (p : Past). p.kept) i.past ∙ ap (λ (k : Gone). k.kept) g in
    record { sound = l; light = omega (arith, o, i.others, ap reply_cost kept, s.light); fits = h (f s.fits) }
