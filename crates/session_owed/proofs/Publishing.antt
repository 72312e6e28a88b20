-- The units published are those of the session's own calls
use Rattle.std.proofs.Common.{◌≡◌, ℕ, Bool, true, false, List, [], ◌∷◌, ◌++◌, Option, Some, None, if◌then◌else◌, refl, sym, ap, ◌∙◌, append-nil, append_assoc}
use Rattle.av_unit.specs.Media.{Media}
use Rattle.chunk_wire.specs.declared.message.Message.{Message}
use Rattle.stream_model.specs.declared.calls.Call.{Call}
use Rattle.stream_model.specs.declared.calls.Call.TheVariants as call
use Rattle.stream_model.specs.declared.calls.Entry.{Entry}
use Rattle.session_owed.specs.Dialogue.{Dialogue}
use Rattle.session_owed.specs.Talk.{Own, is_take, makes}
use Rattle.session_owed.specs.Talks.{Talks, entries_of}
use Rattle.session_owed.specs.Published.{published, pushed, pushed_by, pushed_in, unit_of}

pushed_joined : (es fs : List Entry) → pushed (es ++ fs) ≡ pushed es ++ pushed fs
unfolding pushed
pushed_joined [] fs = refl
pushed_joined (e ∷ es) fs = ap (λ (l : List Media). unit_of e.call ++ l) (pushed_joined es fs) ∙ sym (append_assoc (unit_of e.call) (pushed es) (pushed fs))

-- a Take publishes nothing
take_none : (c : Call) → is_take c ≡ true → unit_of c ≡ []
take_none (call.Take player want) e = refl
take_none call.Begin e = absurd (cc)
take_none (call.Push unit) e = absurd (cc)
take_none call.End e = absurd (cc)
take_none call.Join e = absurd (cc)
take_none (call.Leave player) e = absurd (cc)
take_none call.Count e = absurd (cc)
take_none (call.BeginAs name) e = absurd (cc)
take_none (call.JoinAs name) e = absurd (cc)

makes_case : (t : Bool) (c : Own) (es : List Entry) (l : List Media) → is_take c.0.call ≡ t → pushed es ≡ l → pushed (if t then es else c.0 ∷ es) ≡ unit_of c.0.call ++ l
unfolding pushed
makes_case true c es l e ih = ih ∙ ap (λ (u : List Media). u ++ l) (sym (take_none c.0.call e))
makes_case false c es l e ih = ap (λ (k : List Media). unit_of c.0.call ++ k) ih

pushed_makes : (C : List Own) → pushed (makes C) ≡ pushed_by C
unfolding pushed pushed_by makes
pushed_makes [] = refl
pushed_makes (c ∷ C) = makes_case (is_take c.0.call) c (makes C) (pushed_by C) refl (pushed_makes C)

pushed_entries : (kept : Option Entry) → pushed (entries_of kept) ≡ pushed_in kept
unfolding pushed
pushed_entries None = refl
pushed_entries (Some e) = append-nil (unit_of e.call)

module _ {S : Type 0} (d : Dialogue S) where
  pub published_are : (n : ℕ) (ms : List (ℕ × Message)) (C : List Own) (kept : Option Entry) → Talks d n ms C kept → pushed_by C ++ pushed_in kept ≡ published d ms C
  published_are n ms C kept t =
      sym (ap pushed t.made ∙ pushed_joined (makes C) (entries_of kept) ∙ ap (λ (l : List Media). l ++ pushed (entries_of kept)) (pushed_makes C) ∙ ap (λ (l : List Media). pushed_by C ++ l) (pushed_entries kept))
