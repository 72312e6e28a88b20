-- What an edge keeps says what its calls are
use Rattle.std.proofs.Common.{◌≡◌, ◌⊎◌, ◌≤◌, inl, inr, ℕ, ◌+◌, false, List, [], ◌∷◌, ◌++◌, Option, Some, None, refl, sym, ap, ◌∙◌, subst, arith, append-nil}
use Rattle.client_owed.specs.Pulled.{pulled}
use Rattle.client_owed.specs.Standing.{Keeps, Past}
use Rattle.client_owed.specs.Standing as client_owed
use Rattle.client_owed.specs.declared.types.Gift.{Gift}
use Rattle.rtmp_client.specs.ClientState.{ClientState}
use Rattle.stream_model.specs.declared.calls.Entry.{Entry}
use Rattle.session_owed.specs.Talk.{Own}
use Rattle.relay_session.specs.SeatState.{KeptOrMade, Leaves, LeavesFrom}
use Rattle.relay_session.specs.SeatVisits.{Visit}
use Rattle.relay_session.specs.declared.seat_answers.Active.{Active}
use Rattle.relay_session.specs.declared.seat_answers.Leaving.{Leaving}
use Rattle.relay_session.specs.declared.seat_answers.Leaving.TheVariants as leaving
use Rattle.origin_calls.specs.Calls.{edge_calls, entries, live_after}
use Rattle.origin_pull.specs.EdgeState.{EndsSo, IsLiving, IsNew, LivesOn, Stands, StandsBy, end_or_closed, ended_by}
use Rattle.origin_pull.specs.Keeping.{AreEdgeCalls, Begun, HasEnded, HasRoom, IsQuiet, IsSound, OverBy, bytes_in, calls_due, listed, made, waiting}
use Rattle.origin_pull.specs.Keeping.{waiting_bytes}
use Rattle.origin_pull.specs.declared.core_fields.Core.{Core}
use Rattle.origin_pull.specs.declared.due.Due.TheVariants.{Nothing}
use Rattle.origin_pull.specs.declared.end.EdgeEnd.{EdgeEnd}
use Rattle.origin_pull.specs.declared.end.EdgeEnd.TheVariants as end
use Rattle.origin_pull.specs.declared.turn.EdgeTurn.{EdgeTurn}
use Rattle.origin_pull.specs.declared.turn.EdgeTurn.TheVariants.{Moved, Idle, Ended}
use Rattle.origin_pull.proofs.Owing.{free_waits}
use Rattle.origin_pull.proofs.Room.{room_less}
use Rattle.origin_pull.proofs.Short.{is_told}

-- ---- all that a client was told was taken

are_calls : (who : ℕ) (k : ClientState) (es : List Entry) → IsQuiet k → es ≡ entries who (edge_calls false k.parts.taken) → AreEdgeCalls who k.parts es
are_calls who k es q e =
    let t = is_told k q.stands in
    let all : k.parts.taken ≡ pulled k.parts.asked t.ms =
    sym (append-nil k.parts.taken) ∙ ap (λ (o : Option Gift). k.parts.taken ++ client_owed.listed o) (sym q.gift) ∙ t.told in
    record { ms = t.ms; read = t.read; calls = e ∙ ap (λ (gs : List Gift). entries who (edge_calls false gs)) all }

sound_stands : (c : Core) (k : ClientState) → IsSound c k → Stands c k
sound_stands c k s = record { client = s.client.stands; lives = s.lives; calls = are_calls c.who k (made c.calls ++ waiting c) s.client s.owes.calls }

begun_calls : (c : Core) (k : ClientState) → IsQuiet k → Begun c k.parts.taken → (more : List Entry) × AreEdgeCalls c.who k.parts (made c.calls ++ more)
begun_calls c k q b = (b.0, are_calls c.who k (made c.calls ++ b.0) q b.1)

ended_so : (e : EdgeEnd) (c : Core) (k : ClientState) → IsQuiet k → OverBy e c k → EndsSo e c k
ended_so end.Client c k q o = record { none = o.none; calls = are_calls c.who k (made c.calls) q o.all; own = o.own }
ended_so (end.InUse by) c k q o = begun_calls c k q o
ended_so end.Worn c k q o = begun_calls c k q o
ended_so end.OutOfMemory c k q o = begun_calls c k q o
ended_so end.NoSlot c k q o = begun_calls c k q o
ended_so end.Closed c k q o = begun_calls c k q o

pub living_stands : (o : Option EdgeEnd) (c : Core) (k : ClientState) → IsLiving o c k → StandsBy o c k
living_stands None c k s = sound_stands c k s
living_stands (Some e) c k h = (h.client.stands, ended_so e c k h.client h.over)

pub living_room : (o : Option EdgeEnd) (c : Core) (k : ClientState) → IsLiving o c k → HasRoom (waiting_bytes c) k
living_room None c k s = s.room
living_room (Some e) c k h = h.room

pub living_sound : (o : Option EdgeEnd) (c : Core) (k : ClientState) → o ≡ None → IsLiving o c k → IsSound c k
living_sound o c k e i = subst (λ (x : Option EdgeEnd). IsLiving x c k) e i

pub living_then : (a : EdgeTurn) (o : Option EdgeEnd) (c : Core) (k : ClientState) → o ≡ ended_by a → LivesOn c k a → IsLiving o c k
living_then Moved o c k e l = subst (λ (x : Option EdgeEnd). IsLiving x c k) (sym e) l
living_then Idle o c k e l = subst (λ (x : Option EdgeEnd). IsLiving x c k) (sym e) l
living_then (Ended f) o c k e l = subst (λ (x : Option EdgeEnd). IsLiving x c k) (sym e) l

-- ---- a new edge

nothing_called : (l : List Gift) → l ≡ [] → edge_calls false l ≡ []
unfolding edge_calls
nothing_called [] e = refl
nothing_called (g ∷ l) e = absurd (cc)

nothing_live : (l : List Gift) → l ≡ [] → live_after false l ≡ false
unfolding live_after
nothing_live [] e = refl
nothing_live (g ∷ l) e = absurd (cc)

pub new_sound : (c : Core) (k : ClientState) → IsNew k → c.live ≡ false → c.kept ≡ None → c.due ≡ Nothing → c.calls ≡ [] → IsSound c k
new_sound c k n live kept due calls =
    let taken : k.parts.taken ≡ [] = ap (λ (p : Past). p.taken) n.past in
    let none : waiting c ≡ [] = free_waits c (record { kept = kept; due = due }) in
    record {
      client = record { gift = ap (λ (q : Keeps). q.gift) n.keeps; gave = ap (λ (p : Past). p.gave) n.past; short = n.short; stands = n.stands };
      lives = n.lives;
      owes = record {
        live = live ∙ sym (nothing_live k.parts.taken taken);
        calls = ap (λ (C : List Own). made C ++ waiting c) calls ∙ none ∙ sym (ap (entries c.who) (nothing_called k.parts.taken taken));
      };
      room = inl (ap bytes_in none);
    }

-- ---- an edge is closed

first_less : (o : Option Entry) (l : List Entry) → bytes_in l ≤ bytes_in (listed o ++ l)
first_less None l = omega arith
first_less (Some e) l = omega arith

-- the kept call is the same, or none is kept any more
abbrev Left : Option Entry → Option Entry → Type 0
Left o p = (p ≡ o) ⊎ (p ≡ None)

left_by : (place : ℕ) (o p : Option Entry) (a b : Active) (V W : List Visit) → KeptOrMade place o a V b W p → Left o p
left_by place o p a b V W (inl e) = inl e.2
left_by place o p a b V W (inr e) = inr e.1

left_here : (r : Leaving) (place who fed : ℕ) (o p : Option Entry) (a b : Active) (V W : List Visit) → Leaves place who fed o a V r p b W → Left o p
left_here leaving.Done place who fed o p a b V W l = inr l.1
left_here leaving.Worn place who fed o p a b V W l = left_by place o p a l.0 V W l.1
left_here leaving.Busy place who fed o p a b V W l = left_by place o p a b V W l
left_here leaving.OutOfMemory place who fed o p a b V W l = left_by place o p a b V W l

left_from : (at : Option ℕ) (r : Leaving) (who fed : ℕ) (o p : Option Entry) (a b : Active) (V W : List Visit) → LeavesFrom at who fed o a V r p b W → Left o p
left_from None r who fed o p a b V W l = inl l.2
left_from (Some place) r who fed o p a b V W l = left_here r place who fed o p a b V W l

left_bytes : (c : Core) (p : Option Entry) → Left c.kept p → waiting_bytes (record c { kept = p }) ≤ waiting_bytes c
left_bytes c p (inl e) = omega (arith, ap (λ (o : Option Entry). bytes_in (listed o ++ entries c.who (calls_due c.due))) e)
left_bytes c p (inr e) =
    omega (arith, ap (λ (o : Option Entry). bytes_in (listed o ++ entries c.who (calls_due c.due))) e, first_less c.kept (entries c.who (calls_due c.due)))

-- where none waited none does
none_kept : (o : Option Entry) (l : List Entry) → listed o ++ l ≡ [] → l ≡ []
none_kept None l e = e
none_kept (Some x) l e = absurd (cc)

none_left : (c : Core) (p : Option Entry) → Left c.kept p → waiting c ≡ [] → waiting (record c { kept = p }) ≡ []
none_left c p (inl e) n = ap (λ (o : Option Entry). listed o ++ entries c.who (calls_due c.due)) e ∙ n
none_left c p (inr e) n = ap (λ (o : Option Entry). listed o ++ entries c.who (calls_due c.due)) e ∙ none_kept c.kept (entries c.who (calls_due c.due)) n

over_left : (e : EdgeEnd) (c : Core) (p : Option Entry) (k : ClientState) → Left c.kept p → OverBy e c k → OverBy e (record c { kept = p }) k
over_left end.Client c p k l o = record { none = none_left c p l o.none; all = o.all; own = o.own }
over_left (end.InUse by) c p k l o = o
over_left end.Worn c p k l o = o
over_left end.OutOfMemory c p k l o = o
over_left end.NoSlot c p k l o = o
over_left end.Closed c p k l o = o

closed_by : (o : Option EdgeEnd) (c : Core) (p : Option Entry) (k : ClientState) → Left c.kept p → IsLiving o c k
    → HasEnded (end_or_closed o) (record c { kept = p }) k
closed_by None c p k l s = record {
  client = s.client;
  over = (waiting c, s.owes.calls);
  room = room_less (waiting_bytes (record c { kept = p })) (waiting_bytes c) k (left_bytes c p l) s.room;
}
closed_by (Some e) c p k l h = record {
  client = h.client;
  over = over_left e c p k l h.over;
  room = room_less (waiting_bytes (record c { kept = p })) (waiting_bytes c) k (left_bytes c p l) h.room;
}

pub closed : (o : Option EdgeEnd) (c : Core) (p : Option Entry) (k : ClientState) (at : Option ℕ) (r : Leaving) (who fed : ℕ) (a b : Active) (V W : List Visit)
    → LeavesFrom at who fed c.kept a V r p b W → IsLiving o c k → HasEnded (end_or_closed o) (record c { kept = p }) k
closed o c p k at r who fed a b V W l i = closed_by o c p k (left_from at r who fed c.kept p a b V W l) i
