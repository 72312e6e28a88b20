-- What is answered is what the dialogue says
use Rattle.std.proofs.Common.{◌≡◌, ◌≤◌, ◌⊎◌, inl, inr, ℕ, true, Bool, nat_eq, nat_le, ◌&&◌, List, [], ◌∷◌, length, Option, Some, Result, Ok, Err, refl, sym, ap, ◌∙◌, arith, append-nil}
use Rattle.std.specs.Prelude.{All}
use Rattle.std.proofs.lemmas.List.Elements.{All-head, All-tail}
use Rattle.std.proofs.lemmas.Bool.Decides.{nat_tests}
use Rattle.chunk_wire.specs.declared.message.Message.{Message}
use Rattle.ack_window.specs.Controls.{message_of}
use Rattle.ack_window.specs.declared.control.Control.TheVariants as control
use Rattle.av_unit.specs.declared.item.Item.TheVariants as item
use Rattle.rtmp_command.specs.declared.answer.Answer.{Answer}
use Rattle.rtmp_command.proofs.Lengths.{body_of_short}
use Rattle.command_dialog.specs.Dialog.{answers, shown}
use Rattle.chunk_writer.specs.Rule.{is_written}
use Rattle.rtmp_command.specs.declared.answer.Answer.TheVariants as answer
use Rattle.chunk_writer.specs.Written.{after_all, written}
use Rattle.command_dialog.specs.declared.types.Ask.{Ask}
use Rattle.command_dialog.specs.declared.types.Grant.{Grant}
use Rattle.command_dialog.specs.declared.types.Meant.{Meant}
use Rattle.command_dialog.specs.declared.types.DialogFail.{DialogFail}
use Rattle.command_dialog.specs.declared.types.DialogFail.TheVariants as fail
use Rattle.command_dialog.specs.Dialog as dialog
use Rattle.command_dialog.specs.Dialog.{does}
use Rattle.command_dialog.specs.Meaning.{meaning}
use Rattle.command_dialog.specs.State.{State}
use Rattle.command_dialog.specs.Writable.{IsSaid}
use Rattle.relay_session.specs.declared.end.End.{End}
use Rattle.relay_session.specs.declared.end.End.TheVariants as end
use Rattle.relay_session.specs.Owing.{AreWritable, IsSayable, Owing, Says, Takes, costs_of, pending}
use Rattle.relay_session.specs.Session.{ended_by}

-- nothing is said
pub says_none : (o : Owing) → Says o [] o
unfolding written after_all
says_none o = record { bytes = sym (append-nil (pending o)); writer = refl; others = omega arith }

kind_written : (k : ℕ) → (k ≡ 1) ⊎ ((k ≡ 4) ⊎ ((k ≡ 5) ⊎ ((k ≡ 6) ⊎ (k ≡ 20)))) → is_written k ≡ true
kind_written k (inl e) = rw e refl
kind_written k (inr (inl e)) = rw e refl
kind_written k (inr (inr (inl e))) = rw e refl
kind_written k (inr (inr (inr (inl e)))) = rw e refl
kind_written k (inr (inr (inr (inr e)))) = rw e refl

size_kind : (k : ℕ) (b : Bool) → (nat_eq k 1 && b) ≡ true → k ≡ 1
size_kind k b e = grind (arith, nat_tests, e)

can : (m : Message) → IsSaid m → IsSayable m
can m s = record {
  can = record {
    kind = kind_written m.kind s.kind;
    short = omega (arith, s.short);
    some = λ e. (omega (arith, s.size (size_kind m.kind (nat_le 4 (length m.body)) e)));
    most = λ e. (omega (arith, s.size (size_kind m.kind (nat_le 4 (length m.body)) e)));
  };
  sized = λ e. (let is = s.size (size_kind m.kind (nat_le 4 (length m.body)) e) in record { least = omega (arith, is); most = omega (arith, is) });
}

-- what the dialogue says can be written
pub all_can : (l : List Message) → All IsSaid l → AreWritable l
all_can [] a = tt
all_can (m ∷ l) a = (can m (All-head IsSaid m l a), all_can l (All-tail IsSaid m l a))

-- a message with this meaning and its grant
pub does_is : (desk : Ask → Grant) (s : State) (m : Message) (meant : Meant) (g : Option Grant) → meaning s m ≡ Ok meant → g ≡ dialog.granted desk meant → dialog.does desk s m ≡ dialog.stepped s m g meant
unfolding does
does_is desk s m meant g e is = rw (e, is) refl

-- a message without one
pub end_by : (last : ℕ) (mm : Result Meant DialogFail) (e : DialogFail) (r : End) → Some r ≡ ended_by last (Err e) → (e ≡ fail.OutOfMemory) ⊎ (mm ≡ Err e) → (r ≡ end.OutOfMemory) ⊎ (ended_by last mm ≡ Some r)
end_by last mm e r is (inl o) = inl (let h : Some r ≡ Some end.OutOfMemory = is ∙ ap (λ (x : DialogFail). ended_by last (Err x)) o in cc)
end_by last mm e r is (inr o) = inr (ap (ended_by last) o ∙ sym is)

-- what is shown of a marker can be written
event_can : (event id : ℕ) → IsSayable (message_of (control.User event id))
event_can event id = record { can = record { kind = refl; short = omega arith; some = λ e. absurd (cc); most = λ e. absurd (cc) }; sized = λ e. absurd (cc) }

answer_can : (id : ℕ) (a : Answer) → IsSayable (answers id a)
answer_can id a = record { can = record { kind = refl; short = omega (arith, body_of_short a); some = λ e. absurd (cc); most = λ e. absurd (cc) }; sized = λ e. absurd (cc) }

pub shown_can_begin : (id : ℕ) → AreWritable (shown id item.Begin)
shown_can_begin id = (event_can 0 id, (answer_can id _, tt))

-- and is short
pub shown_few_begin : (id : ℕ) → costs_of (shown id item.Begin) ≤ 8000
shown_few_begin id = omega (arith, body_of_short answer.PublishNotify)

pub shown_few_end : (id : ℕ) → costs_of (shown id item.End) ≤ 8000
shown_few_end id = omega (arith, body_of_short answer.UnpublishNotify)

pub shown_can_end : (id : ℕ) → AreWritable (shown id item.End)
shown_can_end id = (event_can 1 id, (answer_can id _, tt))

-- nothing is shown
pub takes_none : (o : Owing) → Takes o [] o
unfolding written after_all
takes_none o = record { bytes = sym (append-nil (pending o)); writer = refl; others = omega arith }
