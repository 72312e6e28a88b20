-- A session as a whole
use Rattle.std.proofs.Common.{◌≡◌, ◌⊎◌, inl, inr, arith, ℕ, Bool, length, List, Option, Some, None, refl, sym, subst}
use Rattle.relay_outside.specs.Heard.{Came}
use Rattle.relay_outside.specs.declared.link.Said.{Said}
use Rattle.command_dialog.specs.declared.types.Ask.{Ask}
use Rattle.command_dialog.specs.declared.types.Grant.{Grant}
use Rattle.stream_model.specs.declared.calls.Entry.{Entry}
use Rattle.session_owed.specs.Owed.{count_of}
use Rattle.session_owed.proofs.Publishing.{published_are}
use Rattle.relay_session.proofs.Stopping.{read_here}
use Rattle.relay_session.proofs.Room.{room_let}
use Rattle.relay_session.specs.Bounds.{HasRoom, IsLight}
use Rattle.relay_session.specs.Holding.{HandFits}
use Rattle.relay_session.specs.Keeping.{IsSteady, StandsBefore}
use Rattle.relay_session.specs.SeatState.{KeptOrMade, LeavesFrom}
use Rattle.relay_session.specs.SeatVisits.{Visit}
use Rattle.relay_session.specs.declared.seat_answers.Active.{Active}
use Rattle.relay_session.specs.declared.seat_answers.Leaving.{Leaving}
use Rattle.relay_session.specs.declared.seat_answers.Leaving.TheVariants as leaving
use Rattle.relay_session.specs.Session.{session}
use Rattle.relay_session.specs.Owing.{pending}
use Rattle.relay_session.specs.SessionState.{IsLiving, IsWhole, Publishes, Rises, StandsBy, ended_by}
use Rattle.relay_session.specs.Turns.{EndedBy, KeptBy, Leaves, Life, Lives}
use Rattle.relay_session.specs.declared.core_fields.Core.{Core}
use Rattle.relay_session.specs.declared.end.End.{End}
use Rattle.relay_session.specs.declared.seat_answers.Made.{Made}
use Rattle.relay_session.specs.declared.turn.Turn.{Turn}
use Rattle.relay_session.specs.declared.turn.Turn.TheVariants.{Moved, Idle, Ended}

pub living_by : (a : Turn) (o : Option End) (c : Core) → o ≡ ended_by a → Lives c a → IsLiving o c
living_by Moved o c e l = subst (λ (x : Option End). IsLiving x c) (sym e) l
living_by Idle o c e l = subst (λ (x : Option End). IsLiving x c) (sym e) l
living_by (Ended f) o c e l = subst (λ (x : Option End). IsLiving x c) (sym e) l

pub leaves_by : (desk : Ask → Grant) (a : Turn) (o : Option End) (c : Core) → o ≡ ended_by a → Leaves desk c a → StandsBy o desk c
leaves_by desk Moved o c e l = subst (λ (x : Option End). StandsBy x desk c) (sym e) l
leaves_by desk Idle o c e l = subst (λ (x : Option End). StandsBy x desk c) (sym e) l
leaves_by desk (Ended f) o c e l = subst (λ (x : Option End). StandsBy x desk c) (sym e) l

pub sound_if : (o : Option End) (c : Core) → o ≡ None → IsLiving o c → IsSteady c
sound_if o c e l = subst (λ (x : Option End). IsLiving x c) e l

pub stood_if : (desk : Ask → Grant) (o : Option End) (c : Core) → o ≡ None → StandsBy o desk c → StandsBefore desk c
stood_if desk o c e l = subst (λ (x : Option End). StandsBy x desk c) e l

pub living_counted : (o : Option End) (c : Core) → IsLiving o c → c.fed ≡ length c.x
living_counted None c l = l.sound.counted
living_counted (Some e) c l = l.counted

pub living_room : (o : Option End) (c : Core) → IsLiving o c → HasRoom c.hand c.reader c.kept
living_room None c l = l.sound.room
living_room (Some e) c l = l.room

pub living_light : (o : Option End) (c : Core) → IsLiving o c → IsLight c.outgoing.others c.kept
living_light None c l = l.light
living_light (Some e) c l = l.light

pub living_fits : (o : Option End) (c : Core) → IsLiving o c → HandFits c
living_fits None c l = l.fits
living_fits (Some e) c l = l.fits

-- closed, where the call that waited may have been made
pub living_closed : (o : Option End) (e : End) (c : Core) (kept : Option Entry) → IsLiving o c → (kept ≡ c.kept) ⊎ (kept ≡ None) → IsLiving (Some e) (record c { kept = kept })
living_closed o e c kept l (inl k) = rw k (record { counted = living_counted o c l; room = living_room o c l; light = living_light o c l; fits = living_fits o c l })
living_closed o e c kept l (inr k) = rw k (record { counted = living_counted o c l; room = room_let c.hand c.reader c.kept (living_room o c l); light = light_none c.outgoing.others c.kept (living_light o c l); fits = living_fits o c l })
  where
    light_none : (n : ℕ) (k : Option Entry) → IsLight n k → IsLight n None
    light_none n None li = li
    light_none n (Some x) li = omega (arith, li)

-- the call that waited is still kept, or none is
or_made : (place : ℕ) (kept : Option Entry) (a : Active) (visits : List Visit) (b : Active) (later : List Visit) (now : Option Entry) → KeptOrMade place kept a visits b later now → (now ≡ kept) ⊎ (now ≡ None)
or_made place kept a visits b later now (inl h) = inl h.2
or_made place kept a visits b later now (inr h) = inr h.1

pub left_kept : (place : Option ℕ) (who fed : ℕ) (kept : Option Entry) (a : Active) (visits : List Visit) (r : Leaving) (now : Option Entry) (b : Active) (later : List Visit) → LeavesFrom place who fed kept a visits r now b later
    → (now ≡ kept) ⊎ (now ≡ None)
left_kept None who fed kept a visits r now b later h = inl h.2
left_kept (Some place) who fed kept a visits leaving.Done now b later h = inr h.1
left_kept (Some place) who fed kept a visits leaving.Worn now b later h = or_made place kept a visits h.0 later now h.1
left_kept (Some place) who fed kept a visits leaving.Busy now b later h = or_made place kept a visits b later now h
left_kept (Some place) who fed kept a visits leaving.OutOfMemory now b later h = or_made place kept a visits b later now h

-- ---- the units published

pub published_by : (o : Option End) (desk : Ask → Grant) (c : Core) → IsLiving o c → StandsBy o desk c → Publishes desk c
published_by None desk c l s = record {
  ms = c.reader.given;
  read = read_here c l.sound;
  units = published_are (session c.who c.window desk) (count_of (session c.who c.window desk) c.x) c.reader.given c.calls c.kept s.talks;
}
published_by (Some e) desk c l s = record {
  ms = s.ms;
  read = s.read;
  units = published_are (session c.who c.window desk) (count_of (session c.who c.window desk) c.x) s.ms c.calls c.kept s.talks;
}

-- ---- all together

pub whole_by : (o : Option End) (desk : Ask → Grant) (c : Core) → IsLiving o c → StandsBy o desk c → IsWhole desk c
whole_by None desk c l s = record {
  ms = c.reader.given;
  read = read_here c l.sound;
  more = pending c.outgoing;
  owes = s.owes;
  talks = s.talks;
  units = published_are (session c.who c.window desk) (count_of (session c.who c.window desk) c.x) c.reader.given c.calls c.kept s.talks;
}
whole_by (Some e) desk c l s = record {
  ms = s.ms;
  read = s.read;
  more = s.more;
  owes = s.owes;
  talks = s.talks;
  units = published_are (session c.who c.window desk) (count_of (session c.who c.window desk) c.x) s.ms c.calls c.kept s.talks;
}

-- ---- the order of its calls

pub risen_by : (o : Option End) (desk : Ask → Grant) (c : Core) → IsLiving o c → StandsBy o desk c → Rises desk c
risen_by None desk c l s = record { ms = c.reader.given; read = read_here c l.sound; rise = s.talks.rise }
risen_by (Some e) desk c l s = record { ms = s.ms; read = s.read; rise = s.talks.rise }

module _ {P S : Type 0} (asks : P → S → ℕ → Entry → Made → P → S → Type 0) (desk : Ask → Grant) {L : Type 0} (hears : L → ℕ → Came → L → Type 0) (says : L → List ℕ → Said → L → Type 0) where
  pub turned : (o : Option End) (quit : Bool) (v w : Life P S) (l m : L) (a : Turn) → o ≡ None → KeptBy asks desk hears says v.parts.kept quit v l a w m → EndedBy asks desk hears says o quit v l a w m
  turned o quit v w l m a e k = subst (λ (x : Option End). EndedBy asks desk hears says x quit v l a w m) (sym e) k
