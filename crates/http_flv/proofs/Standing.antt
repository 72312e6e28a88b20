-- What was sent and what is pending stays what is owed, step by step
use Rattle.std.proofs.Common.{◌≡◌, inl, inr, ℕ, Bool, true, false, Option, Some, List, [], ◌∷◌, ◌++◌, take, drop, refl, sym, ap, ◌∙◌, subst, append_assoc, append-nil}
use Rattle.std.specs.List.{flat_map}
use Rattle.std.proofs.lemmas.List.{take-append-drop}
use Rattle.std.proofs.lemmas.List.Concat.{flat_map-append}
use Rattle.av_unit.specs.declared.item.Item.{Item}
use Rattle.command_dialog.specs.declared.types.Ask.{Ask}
use Rattle.command_dialog.specs.declared.types.Grant.{Grant}
use Rattle.flv_tags.specs.Text.{flv_text, item_bytes}
use Rattle.flv_tags.specs.Written.{header}
use Rattle.http_request.specs.Heads.{IsRead, Verdict}
use Rattle.http_request.specs.Texts.{code_of, granted_text, text_of}
use Rattle.http_request.specs.declared.answer.Refusal.{Refusal}
use Rattle.http_request.specs.declared.answer.Refusal.TheVariants.{ServiceUnavailable}
use Rattle.relay_session.specs.Turns.{is_nil}
use Rattle.stream_model.specs.declared.calls.Entry.{Entry}
use Rattle.stream_model.specs.declared.replies.Reply.{Reply}
use Rattle.stream_model.specs.declared.replies.Reply.TheVariants as reply
use Rattle.session_owed.specs.Talk.{Own}
use Rattle.relay_session.specs.SeatState.{SeatState}
use Rattle.relay_session.proofs.SeatStanding.{still_fits}
use Rattle.http_flv.specs.Keeping.{CallsBy, IsAt, IsOver, IsSound, IsThere, IsTold, StandsBefore, after_join, stage_by}
use Rattle.http_flv.specs.Out.{Decision, JoinAt, Later, Tell, decide, item_in, owed_after, owed_by, taken}
use Rattle.http_flv.specs.Turns.{Gone, IsDone, IsHeard, IsJoined, IsPlaying, IsSent, IsTaken, IsUnheard, PlaceBy, noted, reply_bytes, told, told_at, unheard}
use Rattle.http_flv.specs.declared.core_fields.Core.{Core}
use Rattle.http_flv.specs.declared.stage.Stage.{Stage}
use Rattle.http_flv.specs.declared.stage.Stage.TheVariants as stage

-- ---- lists

app_eq : (a b c d : List ℕ) → a ≡ c → b ≡ d → a ++ b ≡ c ++ d
app_eq a b c d e f = ap (λ (l : List ℕ). l ++ b) e ∙ ap (λ (l : List ℕ). c ++ l) f

nil_first : (a b : List ℕ) → a ++ b ≡ [] → a ≡ []
nil_first [] b e = refl
nil_first (x ∷ a) b e = absurd (cc)

nil_second : (a b : List ℕ) → a ++ b ≡ [] → b ≡ []
nil_second [] b e = e
nil_second (x ∷ a) b e = absurd (cc)

-- ---- nothing else than what was sent and is left changes

pub stands_if : (desk : Ask → Grant) (c d : Core) → d.x ≡ c.x → d.stage ≡ c.stage → d.calls ≡ c.calls → d.sent ++ d.out.left ≡ c.sent ++ c.out.left → StandsBefore desk c → StandsBefore desk d
stands_if desk c d ex es ec eo s = record {
  verdict = s.verdict;
  read = subst (λ (l : List ℕ). IsRead l s.verdict) (sym ex) s.read;
  stage = es ∙ s.stage ∙ ap (λ (k : List Own). stage_by (decide desk s.verdict) k) (sym ec);
  owes = eo ∙ s.owes ∙ ap (λ (k : List Own). owed_by (decide desk s.verdict) k) (sym ec);
}

pub over_if : (desk : Ask → Grant) (c d : Core) → d.x ≡ c.x → d.calls ≡ c.calls → d.sent ≡ c.sent → StandsBefore desk c → IsOver desk d
over_if desk c d ex ec eo s = record {
  verdict = s.verdict;
  read = subst (λ (l : List ℕ). IsRead l s.verdict) (sym ex) s.read;
  more = c.out.left;
  owes = ap (λ (l : List ℕ). l ++ c.out.left) eo ∙ s.owes ∙ ap (λ (k : List Own). owed_by (decide desk s.verdict) k) (sym ec);
}

pub over_same : (desk : Ask → Grant) (c : Core) → StandsBefore desk c → IsOver desk c
over_same desk c s = over_if desk c c refl refl refl s

-- where nothing was sent, that begins whatever is owed
pub over_nothing : (desk : Ask → Grant) (d : Core) (v : Verdict) → IsRead d.x v → d.sent ≡ [] → IsOver desk d
over_nothing desk d v r e = record { verdict = v; read = r; more = owed_by (decide desk v) d.calls; owes = ap (λ (l : List ℕ). l ++ owed_by (decide desk v) d.calls) e }

-- ---- bytes were sent

pub sent_stands : (desk : Ask → Grant) (c d : Core) (n : ℕ) → IsSent c n d → StandsBefore desk c → StandsBefore desk d
sent_stands desk c d n i s =
    stands_if desk c d (ap (λ (k : Core). k.x) i.rest) (ap (λ (k : Core). k.stage) i.rest) (ap (λ (k : Core). k.calls) i.rest)
    (app_eq d.sent d.out.left (c.sent ++ take n c.out.left) (drop n c.out.left) (ap (λ (k : Core). k.sent) i.rest) i.left
    ∙ append_assoc c.sent (take n c.out.left) (drop n c.out.left)
    ∙ ap (λ (l : List ℕ). c.sent ++ l) (take-append-drop n c.out.left)) s

-- ---- a head was read

quiet_owed : (d : Decision) → stage_by d [] ≡ stage.Reading → owed_by d [] ≡ []
quiet_owed Later e = refl
quiet_owed (Tell r) e = absurd (cc)
quiet_owed (JoinAt p name) e = refl

-- before anything is decided nothing is owed
pub reading_owes : (desk : Ask → Grant) (c : Core) → c.stage ≡ stage.Reading → c.calls ≡ [] → StandsBefore desk c → c.sent ++ c.out.left ≡ []
reading_owes desk c es ec s =
    let d = decide desk s.verdict in
    let now : stage_by d [] ≡ stage.Reading = ap (λ (k : List Own). stage_by d k) (sym ec) ∙ sym s.stage ∙ es in
    s.owes ∙ ap (λ (k : List Own). owed_by d k) ec ∙ quiet_owed d now

done_stage : (dec : Decision) (c d : Core) → c.stage ≡ stage.Reading → IsDone dec c d → d.stage ≡ stage_by dec []
done_stage Later c d e t = t.0 ∙ e
done_stage (Tell r) c d e t = t.0
done_stage (JoinAt p name) c d e t = t.0

done_owes : (dec : Decision) (c d : Core) → d.sent ≡ [] → c.out.left ≡ [] → IsDone dec c d → d.sent ++ d.out.left ≡ owed_by dec []
done_owes Later c d e f t = app_eq d.sent d.out.left [] [] e (ap (λ o. o.left) t.2 ∙ f)
done_owes (Tell r) c d e f t = app_eq d.sent d.out.left [] _ e t.2
done_owes (JoinAt p name) c d e f t = app_eq d.sent d.out.left [] [] e (ap (λ o. o.left) t.2 ∙ f)

pub heard_stands : (desk : Ask → Grant) (c d : Core) (b : List ℕ) → c.stage ≡ stage.Reading → c.calls ≡ [] → IsHeard desk c b d → StandsBefore desk c → StandsBefore desk d
heard_stands desk c d b es ec h s =
    let dec = decide desk h.verdict in
    let none = reading_owes desk c es ec s in
    let calls : d.calls ≡ [] = ap (λ (k : Core). k.calls) h.rest ∙ ec in
    let sent : d.sent ≡ [] = ap (λ (k : Core). k.sent) h.rest ∙ nil_first c.sent c.out.left none in
    record {
      verdict = h.verdict;
      read = h.read;
      stage = done_stage dec c d es h.done ∙ ap (λ (k : List Own). stage_by dec k) (sym calls);
      owes = done_owes dec c d sent (nil_second c.sent c.out.left none) h.done ∙ ap (λ (k : List Own). owed_by dec k) (sym calls);
    }

-- ---- the Join was answered

joining_is : (st : Stage) (dec : Decision) (place : ℕ) → PlaceBy st place → st ≡ stage_by dec [] → (name : List ℕ) × (dec ≡ JoinAt place name)
joining_is st Later place p e = absurd (subst (λ (s : Stage). PlaceBy s place) e p)
joining_is st (Tell r) place p e = absurd (subst (λ (s : Stage). PlaceBy s place) e p)
joining_is st (JoinAt q name) place p e = let same : q ≡ place = subst (λ (s : Stage). PlaceBy s place) e p in (name, ap (λ (k : ℕ). JoinAt k name) same)

-- it is joining as was decided, and nothing was sent
pub record Joins (desk : Ask → Grant) (c : Core) (place : ℕ) (s : StandsBefore desk c) : Type 0 where
  pub name : List ℕ
  pub decision : decide desk s.verdict ≡ JoinAt place name
  pub sent : c.sent ≡ []

pub joins : (desk : Ask → Grant) (c : Core) (place : ℕ) → PlaceBy c.stage place → c.calls ≡ [] → (s : StandsBefore desk c) → Joins desk c place s
joins desk c place p ec s =
    let d = decide desk s.verdict in
    let e = joining_is c.stage d place p (s.stage ∙ ap (λ (k : List Own). stage_by d k) ec) in
    let none : c.sent ++ c.out.left ≡ [] = s.owes ∙ ap (λ (k : List Own). owed_by d k) ec ∙ ap (λ (x : Decision). owed_by x []) e.1 in
    record { name = e.0; decision = e.1; sent = nil_first c.sent c.out.left none }

pub joined_stands : (desk : Ask → Grant) (c d : Core) (place : ℕ) (e : Entry) (r : Reply) → PlaceBy c.stage place → c.calls ≡ [] → IsJoined place c e r d → StandsBefore desk c → StandsBefore desk d
joined_stands desk c d place e r p ec i s =
    let j = joins desk c place p ec s in
    let dec = decide desk s.verdict in
    let calls : d.calls ≡ (e, r) ∷ [] = ap (λ (k : Core). k.calls) i.rest ∙ ap (λ (k : List Own). k ++ (e, r) ∷ []) ec in
    let sent : d.sent ≡ [] = ap (λ (k : Core). k.sent) i.rest ∙ j.sent in
    record {
      verdict = s.verdict;
      read = subst (λ (l : List ℕ). IsRead l s.verdict) (sym (ap (λ (k : Core). k.x) i.rest)) s.read;
      stage = ap (λ (k : Core). k.stage) i.rest ∙ ap (λ (x : Decision). stage_by x ((e, r) ∷ [])) (sym j.decision) ∙ ap (λ (k : List Own). stage_by dec k) (sym calls);
      owes = app_eq d.sent d.out.left [] (owed_after r []) sent i.left ∙ ap (λ (x : Decision). owed_by x ((e, r) ∷ [])) (sym j.decision) ∙ ap (λ (k : List Own). owed_by dec k) (sym calls);
    }

pub unheard_over : (desk : Ask → Grant) (c d : Core) (place : ℕ) (e : Entry) (r : Reply) → PlaceBy c.stage place → c.calls ≡ [] → d ≡ unheard c e r → StandsBefore desk c → IsOver desk d
unheard_over desk c d place e r p ec i s =
    let j = joins desk c place p ec s in
    over_nothing desk d s.verdict (subst (λ (l : List ℕ). IsRead l s.verdict) (sym (ap (λ (k : Core). k.x) i)) s.read) (ap (λ (k : Core). k.sent) i ∙ j.sent)

-- ---- a Take was answered

flv_more : (items more : List Item) → flv_text (items ++ more) ≡ flv_text items ++ flat_map item_bytes more
flv_more items more = sym (
    append_assoc header (flat_map item_bytes items) (flat_map item_bytes more)
    ∙ ap (λ (l : List ℕ). header ++ l) (sym (flat_map-append item_bytes items more)))

reply_items : (r : Reply) → flat_map item_bytes (item_in r) ≡ reply_bytes r
reply_items (reply.Sent from n item) = append-nil (item_bytes item)
reply_items (reply.Began n) = refl
reply_items (reply.InUse by) = refl
reply_items (reply.Pushed n) = refl
reply_items (reply.NotPublisher live) = refl
reply_items (reply.Ended n) = refl
reply_items (reply.Joined player from) = refl
reply_items reply.Full = refl
reply_items (reply.NoSlot slots) = refl
reply_items reply.NotPlayer = refl
reply_items (reply.Skip from to) = refl
reply_items (reply.NotYet end) = refl
reply_items (reply.Left player) = refl
reply_items (reply.Counts began pushed ended joined skips) = refl

taken_more : (takes : List Own) (e : Entry) (r : Reply) → taken (takes ++ (e, r) ∷ []) ≡ taken takes ++ item_in r
taken_more takes e r = flat_map-append (λ (c : Own). item_in c.1) takes ((e, r) ∷ []) ∙ ap (λ (l : List Item). taken takes ++ l) (append-nil (item_in r))

text_more : (takes : List Own) (e : Entry) (r : Reply) → flv_text (taken (takes ++ (e, r) ∷ [])) ≡ flv_text (taken takes) ++ reply_bytes r
text_more takes e r =
    ap flv_text (taken_more takes e r) ∙ flv_more (taken takes) (item_in r) ∙ ap (λ (l : List ℕ). flv_text (taken takes) ++ l) (reply_items r)

after_more : (p : ℕ) (first : Reply) (takes : List Own) (e : Entry) (r : Reply) → IsPlaying (after_join p first) → owed_after first (takes ++ (e, r) ∷ []) ≡ owed_after first takes ++ reply_bytes r
after_more p (reply.Joined player from) takes e r i =
    ap (λ (l : List ℕ). granted_text ++ l) (text_more takes e r) ∙ sym (append_assoc granted_text (flv_text (taken takes)) (reply_bytes r))
after_more p (reply.Sent from n item) takes e r i = absurd i
after_more p (reply.Began n) takes e r i = absurd i
after_more p (reply.InUse by) takes e r i = absurd i
after_more p (reply.Pushed n) takes e r i = absurd i
after_more p (reply.NotPublisher live) takes e r i = absurd i
after_more p (reply.Ended n) takes e r i = absurd i
after_more p reply.Full takes e r i = absurd i
after_more p (reply.NoSlot slots) takes e r i = absurd i
after_more p reply.NotPlayer takes e r i = absurd i
after_more p (reply.Skip from to) takes e r i = absurd i
after_more p (reply.NotYet end) takes e r i = absurd i
after_more p (reply.Left player) takes e r i = absurd i
after_more p (reply.Counts began pushed ended joined skips) takes e r i = absurd i

-- where it plays, one call more changes nothing of where it stands, and what is owed grows by the bytes of its reply
pub record Grows (dec : Decision) (calls : List Own) (e : Entry) (r : Reply) : Type 0 where
  pub stage : stage_by dec (calls ++ (e, r) ∷ []) ≡ stage_by dec calls
  pub owed : owed_by dec (calls ++ (e, r) ∷ []) ≡ owed_by dec calls ++ reply_bytes r

pub grows : (dec : Decision) (calls : List Own) (e : Entry) (r : Reply) → IsPlaying (stage_by dec calls) → Grows dec calls e r
grows Later calls e r i = absurd i
grows (Tell f) calls e r i = absurd i
grows (JoinAt p name) [] e r i = absurd i
grows (JoinAt p name) (c ∷ takes) e r i = record { stage = refl; owed = after_more p c.1 takes e r i }

playing_by : (desk : Ask → Grant) (c : Core) (s : StandsBefore desk c) → IsPlaying c.stage → IsPlaying (stage_by (decide desk s.verdict) c.calls)
playing_by desk c s i = subst IsPlaying s.stage i

all_sent : (desk : Ask → Grant) (c : Core) (s : StandsBefore desk c) → c.out.left ≡ [] → c.sent ≡ owed_by (decide desk s.verdict) c.calls
all_sent desk c s e = sym (append-nil c.sent) ∙ ap (λ (l : List ℕ). c.sent ++ l) (sym e) ∙ s.owes

pub taken_stands : (desk : Ask → Grant) (c d : Core) (e : Entry) (r : Reply) → IsPlaying c.stage → c.out.left ≡ [] → IsTaken c e r d → StandsBefore desk c → StandsBefore desk d
taken_stands desk c d e r p n i s =
    let dec = decide desk s.verdict in
    let g = grows dec c.calls e r (playing_by desk c s p) in
    let calls : d.calls ≡ c.calls ++ (e, r) ∷ [] = ap (λ (k : Core). k.calls) i.rest in
    record {
      verdict = s.verdict;
      read = subst (λ (l : List ℕ). IsRead l s.verdict) (sym (ap (λ (k : Core). k.x) i.rest)) s.read;
      stage = ap (λ (k : Core). k.stage) i.rest ∙ s.stage ∙ sym g.stage ∙ ap (λ (k : List Own). stage_by dec k) (sym calls);
      owes = app_eq d.sent d.out.left (owed_by dec c.calls) (reply_bytes r) (ap (λ (k : Core). k.sent) i.rest ∙ all_sent desk c s n) i.left ∙ sym g.owed ∙ ap (λ (k : List Own). owed_by dec k) (sym calls);
    }

pub noted_over : (desk : Ask → Grant) (c d : Core) (e : Entry) (r : Reply) → IsPlaying c.stage → c.out.left ≡ [] → d ≡ noted c e r → StandsBefore desk c → IsOver desk d
noted_over desk c d e r p n i s =
    let dec = decide desk s.verdict in
    let g = grows dec c.calls e r (playing_by desk c s p) in
    record {
      verdict = s.verdict;
      read = subst (λ (l : List ℕ). IsRead l s.verdict) (sym (ap (λ (k : Core). k.x) i)) s.read;
      more = reply_bytes r;
      owes = app_eq d.sent (reply_bytes r) (owed_by dec c.calls) (reply_bytes r) (ap (λ (k : Core). k.sent) i ∙ all_sent desk c s n) refl ∙ sym g.owed ∙ ap (λ (k : List Own). owed_by dec k) (sym (ap (λ (k : Core). k.calls) i));
    }

-- ---- there was no memory for bytes of a head

pub unread_over : (desk : Ask → Grant) (c d : Core) (b : List ℕ) → c.stage ≡ stage.Reading → c.calls ≡ [] → IsUnheard c b d → StandsBefore desk c → IsOver desk d
unread_over desk c d b es ec (inl g) s = over_if desk c d (ap (λ (x : Gone). x.x) g) (ap (λ (x : Gone). x.calls) g) (ap (λ (x : Gone). x.sent) g) s
unread_over desk c d b es ec (inr t) s = over_nothing desk d t.0 t.1.0 (ap (λ (x : Gone). x.sent) t.1.1 ∙ nil_first c.sent c.out.left (reading_owes desk c es ec s))

-- ---- a call that waits changes nothing of it

pub stands_kept : (desk : Ask → Grant) (c : Core) (o : Option Entry) → StandsBefore desk c → StandsBefore desk (record c { kept = o })
stands_kept desk c o s = record { verdict = s.verdict; read = s.read; stage = s.stage; owes = s.owes }

-- ---- a text other than that of 200 was sent whole

told_is : (st : Stage) (b : Bool) (code : ℕ) → told_at st b ≡ Some code → (r : Refusal) × ((st ≡ stage.Telling r) × ((b ≡ true) × (code ≡ code_of r)))
told_is (stage.Telling r) true code e = let same : code_of r ≡ code = cc in (r, (refl, (refl, sym same)))
told_is (stage.Telling r) false code e = absurd (cc)
told_is stage.Reading b code e = absurd (cc)
told_is (stage.Joining place) b code e = absurd (cc)
told_is (stage.Playing place player) b code e = absurd (cc)

nil_is : (l : List ℕ) → is_nil l ≡ true → l ≡ []
nil_is [] e = refl
nil_is (b ∷ l) e = absurd (cc)

abbrev no_of : Stage → Refusal
no_of (stage.Telling r) = r
no_of stage.Reading = ServiceUnavailable
no_of (stage.Joining place) = ServiceUnavailable
no_of (stage.Playing place player) = ServiceUnavailable

told_after : (p : ℕ) (first : Reply) (takes : List Own) (r : Refusal) → after_join p first ≡ stage.Telling r → owed_after first takes ≡ text_of r
told_after p (reply.Joined player from) takes r e = absurd (cc)
told_after p (reply.Sent from n item) takes r e = ap (λ (s : Stage). text_of (no_of s)) e
told_after p (reply.Began n) takes r e = ap (λ (s : Stage). text_of (no_of s)) e
told_after p (reply.InUse by) takes r e = ap (λ (s : Stage). text_of (no_of s)) e
told_after p (reply.Pushed n) takes r e = ap (λ (s : Stage). text_of (no_of s)) e
told_after p (reply.NotPublisher live) takes r e = ap (λ (s : Stage). text_of (no_of s)) e
told_after p (reply.Ended n) takes r e = ap (λ (s : Stage). text_of (no_of s)) e
told_after p (reply.NoSlot slots) takes r e = ap (λ (s : Stage). text_of (no_of s)) e
told_after p reply.Full takes r e = ap (λ (s : Stage). text_of (no_of s)) e
told_after p reply.NotPlayer takes r e = ap (λ (s : Stage). text_of (no_of s)) e
told_after p (reply.Skip from to) takes r e = ap (λ (s : Stage). text_of (no_of s)) e
told_after p (reply.NotYet end) takes r e = ap (λ (s : Stage). text_of (no_of s)) e
told_after p (reply.Left player) takes r e = ap (λ (s : Stage). text_of (no_of s)) e
told_after p (reply.Counts began pushed ended joined skips) takes r e = ap (λ (s : Stage). text_of (no_of s)) e

told_owed : (dec : Decision) (calls : List Own) (r : Refusal) → stage_by dec calls ≡ stage.Telling r → owed_by dec calls ≡ text_of r
told_owed Later calls r e = absurd (cc)
told_owed (Tell f) calls r e = ap (λ (s : Stage). text_of (no_of s)) e
told_owed (JoinAt p name) [] r e = absurd (cc)
told_owed (JoinAt p name) (c ∷ takes) r e = told_after p c.1 takes r e

pub told_stands : (desk : Ask → Grant) (c : Core) (code : ℕ) → told c ≡ Some code → StandsBefore desk c → IsTold desk code c
told_stands desk c code e s =
    let t = told_is c.stage (is_nil c.out.left) code e in
    let dec = decide desk s.verdict in
    let whole : c.sent ≡ owed_by dec c.calls = all_sent desk c s (nil_is c.out.left t.1.1.0) in
    record {
      verdict = s.verdict;
      read = s.read;
      refusal = t.0;
      code_is = t.1.1.1;
      sent_is = whole ∙ told_owed dec c.calls t.0 (sym s.stage ∙ t.1.0);
      owes = whole;
    }

-- ---- before its Join is answered it has made no call

pub joining_calls : (c : Core) (place : ℕ) → PlaceBy c.stage place → IsSound c → c.calls ≡ []
joining_calls c place p s = by_stage c.stage p s.calls
  where
    by_stage : (st : Stage) → PlaceBy st place → CallsBy st c.calls → c.calls ≡ []
    by_stage (stage.Joining q) p k = k
    by_stage stage.Reading p k = absurd p
    by_stage (stage.Telling r) p k = absurd p
    by_stage (stage.Playing q player) p k = absurd p

pub reading_calls : (c : Core) → c.stage ≡ stage.Reading → IsSound c → c.calls ≡ []
reading_calls c e s = subst (λ (st : Stage). CallsBy st c.calls) e s.calls

-- ---- at a port, where a head couldn't be read

unread_calls : (c d : Core) (b : List ℕ) → IsUnheard c b d → d.calls ≡ c.calls
unread_calls c d b (inl g) = ap (λ (x : Gone). x.calls) g
unread_calls c d b (inr t) = ap (λ (x : Gone). x.calls) t.1.1

pub unread_at : {Q : Type 0} (fits : ℕ → Q → Type 0) (count : ℕ) (c d : Core) (b : List ℕ) (s : SeatState Q) → IsUnheard c b d → d.stage ≡ c.stage → IsAt fits count c s → IsAt fits count d s
unread_at fits count c d b s u e a = record { fit = a.fit; there = subst (IsThere count) (sym e) a.there; calls = unread_calls c d b u ∙ a.calls }

-- where others have made calls there
pub others_at : {Q : Type 0} (fits later : ℕ → Q → Type 0) (count count' : ℕ) (c : Core) (s : SeatState Q) → count' ≡ count → ((q : ℕ) (p : Q) → fits q p → later q p) → IsAt fits count c s → IsAt later count' c s
others_at fits later count count' c s e more a = record { fit = still_fits fits later s.spot more a.fit; there = subst (λ (n : ℕ). IsThere n c.stage) (sym e) a.there; calls = a.calls }
