-- The steps of a turn, over plain values
use Rattle.std.proofs.Common.{inl, inr, ◌≡◌, ℕ, Bool, true, false, length, refl, sym, ◌∙◌, subst, Option, Some, Result, Ok, Err}
use Rattle.command_dialog.specs.declared.types.Playing.{Playing}
use Rattle.stream_model.specs.declared.calls.Call.TheVariants as call
use Rattle.stream_model.specs.declared.calls.Entry.{Entry}
use Rattle.stream_model.specs.declared.replies.Reply.{Reply}
use Rattle.stream_registry.specs.Names.{PortRules, places}
use Rattle.relay_session.specs.Feeding.{IsCalled, IsOthers}
use Rattle.relay_session.specs.Places.{IsAt, IsThere}
use Rattle.relay_session.specs.SeatState.{SeatState, HasFit}
use Rattle.relay_session.specs.SeatVisits.{calls_of}
use Rattle.relay_session.specs.Turns.{IsTried, Life, StandsOn, TakeAsked, TakeMade}
use Rattle.relay_session.specs.declared.core_fields.Core.{Core}
use Rattle.relay_session.specs.declared.end.End.{End}
use Rattle.relay_session.specs.declared.end.End.TheVariants as end
use Rattle.relay_session.specs.declared.seat_answers.Made.{Made}
use Rattle.relay_session.specs.declared.seat_answers.Made.TheVariants as made
use Rattle.relay_session.specs.declared.turn.Turn.{Turn}

-- ---- where it is

pub at_same : {Q : Type 0} (fits now : ℕ → Q → Type 0) (rules later : PortRules) (c d : Core) (s t : SeatState Q) → IsAt fits (places rules) c s → HasFit now t.spot → later ≡ rules
    → calls_of t.visits ≡ calls_of s.visits → d.place ≡ c.place → d.calls ≡ c.calls → IsAt now (places later) d t
at_same fits now rules later c d s t a f fixed k place calls = record {
  fit = f;
  there = subst (λ (p : Option ℕ). IsThere (places later) p) (sym place) (subst (λ (x : PortRules). IsThere (places x) c.place) (sym fixed) a.there);
  calls = calls ∙ a.calls ∙ sym k;
}

-- ---- a call that waited

module _ {P S : Type 0} (asks : P → S → ℕ → Entry → Made → P → S → Type 0) where
  -- it was made, and heard
  pub tried_heard : (v m : Life P S) (e : Entry) (r : Reply) (place : ℕ) → v.parts.place ≡ Some place → asks v.port v.seat place e (made.Answer r) m.port m.seat → IsCalled v.parts e r m.parts
      → IsOthers v.parts m.parts → StandsOn v.parts m.parts → m.input ≡ v.input → IsTried asks v e (Ok true) m
  tried_heard v m e r place there a i o s n = (made.Answer r, (record { place = place; there = there; asked = a; called = i; input = n }, inl (refl, o, s)))

  -- it was made, and memory was wanting to hear it
  pub tried_unheard : (v m : Life P S) (e : Entry) (r : Reply) (place : ℕ) → v.parts.place ≡ Some place → asks v.port v.seat place e (made.Answer r) m.port m.seat → IsCalled v.parts e r m.parts
      → m.input ≡ v.input → IsTried asks v e (Err end.OutOfMemory) m
  tried_unheard v m e r place there a i n = (made.Answer r, (record { place = place; there = there; asked = a; called = i; input = n }, inr refl))

  -- it wasn't made, and waits on
  pub tried_busy : (v m : Life P S) (e : Entry) (came : Made) (f : Entry) (result : Result Bool End) (place : ℕ) → came ≡ made.Busy f → v.parts.place ≡ Some place → asks v.port v.seat place e came m.port m.seat
      → m.parts ≡ v.parts → m.input ≡ v.input → result ≡ Ok false → IsTried asks v e result m
  tried_busy v m e came f result place is there a i n t =
      (made.Busy f, (record { place = place; there = there; asked = subst (λ (k : Made). asks v.port v.seat place e k m.port m.seat) is a; called = i; input = n }, t))

  pub tried_worn : (v m : Life P S) (e : Entry) (came : Made) (f : Entry) (result : Result Bool End) (place : ℕ) → came ≡ made.Worn f → v.parts.place ≡ Some place → asks v.port v.seat place e came m.port m.seat
      → m.parts ≡ v.parts → m.input ≡ v.input → result ≡ Err end.Worn → IsTried asks v e result m
  tried_worn v m e came f result place is there a i n t =
      (made.Worn f, (record { place = place; there = there; asked = subst (λ (k : Made). asks v.port v.seat place e k m.port m.seat) is a; called = i; input = n }, t))

  pub tried_memory : (v m : Life P S) (e : Entry) (came : Made) (f : Entry) (result : Result Bool End) (place : ℕ) → came ≡ made.OutOfMemory f → v.parts.place ≡ Some place → asks v.port v.seat place e came m.port m.seat
      → m.parts ≡ v.parts → m.input ≡ v.input → result ≡ Err end.OutOfMemory → IsTried asks v e result m
  tried_memory v m e came f result place is there a i n t =
      (made.OutOfMemory f, (record { place = place; there = there; asked = subst (λ (k : Made). asks v.port v.seat place e k m.port m.seat) is a; called = i; input = n }, t))

  -- ---- a Take, at so many bytes fed

  pub take_tried : (v w : Life P S) (p : Playing) (place n : ℕ) (moved : Bool) (a : Turn) (came : Made) → n ≡ length v.parts.x → v.parts.place ≡ Some place
      → asks v.port v.seat place (record { who = v.parts.who; at = n; call = call.Take p.player p.want }) came w.port w.seat
      → TakeMade v (record { who = v.parts.who; at = n; call = call.Take p.player p.want }) moved came w a → w.input ≡ v.input → TakeAsked asks v p moved a w
  take_tried v w p place n moved a came e there k t i = record {
    place = place;
    there = there;
    came = came;
    asked = subst (λ (m : ℕ). asks v.port v.seat place (record { who = v.parts.who; at = m; call = call.Take p.player p.want }) came w.port w.seat) e k;
    taken = subst (λ (m : ℕ). TakeMade v (record { who = v.parts.who; at = m; call = call.Take p.player p.want }) moved came w a) e t;
    input = i;
  }
