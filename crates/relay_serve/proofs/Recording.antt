-- What a recorder that has left has recorded
use Rattle.std.proofs.Common.{◌≡◌, ◌≢◌, ◌⊎◌, inl, inr, ◌<◌, ℕ, List, [], ◌∷◌, ◌++◌, length, length-append, append_assoc, append-nil, true, false, Option, None, Some, refl, sym, ap, subst, ◌∙◌, arith}
use Rattle.std.specs.Prelude.{All, map, slice_get}
use Rattle.std.specs.declared.result.Result.{Result}
use Rattle.std.specs.declared.result.Result.TheVariants.{Ok, Err}
use Rattle.std.proofs.lemmas.List.{length-map}
use Rattle.std.proofs.lemmas.List.Concat.{flat_map-append}
use Rattle.std.proofs.lemmas.Option.{slice_get_within}
use Rattle.std.specs.Option.{option_and_then, option_or}
use Rattle.std.proofs.lemmas.List.Elements.{All-head, All-nil, All-push, All-tail}
use Rattle.turn_gate.specs.Histories.{Begins}
use Rattle.stream_model.specs.declared.calls.Call.{Call}
use Rattle.stream_model.specs.declared.calls.Call.TheVariants as call
use Rattle.stream_model.specs.declared.calls.Entry.{Entry}
use Rattle.stream_model.specs.declared.calls.Shape.{Shape}
use Rattle.stream_model.specs.declared.replies.Reply.{Reply}
use Rattle.stream_model.specs.declared.replies.Reply.TheVariants as reply
use Rattle.stream_registry.specs.declared.port.PortFail.{PortFail}
use Rattle.stream_registry.specs.declared.port.PortFail.TheVariants as fail
use Rattle.stream_registry.specs.Names.{PortRules}
use Rattle.stream_registry.specs.Roots.{Later}
use Rattle.stream_registry.specs.Told.{Step, Histories}
use Rattle.media_recorder.proofs.Standing.{begins_length, begins_trans, stand_later}
use Rattle.media_recorder.specs.Calls.{Stand}
use Rattle.media_recorder.specs.Joined.{from_at, joined_from}
use Rattle.media_recorder.specs.Leaves.{Goes, LeaveEnds}
use Rattle.media_recorder.specs.Ports.{mine_of}
use Rattle.media_recorder.specs.Says.{Rests, Says}
use Rattle.media_recorder.specs.Seats.{AskedIf, SeatState, entry_of}
use Rattle.media_recorder.specs.Taken.{item_at, taken}
use Rattle.media_recorder.specs.Tallied.{IsTurnedAway, Tallied}
use Rattle.media_recorder.specs.Turns.{AsksAt, RecorderState, all}
use Rattle.media_recorder.specs.declared.turn.Leaving.TheVariants as leaving
use Rattle.media_recorder.specs.declared.turn.RecEnd.{RecEnd}
use Rattle.media_recorder.specs.declared.turn.RecEnd.TheVariants as rec
use Rattle.media_recorder.specs.declared.turn.RecTurn.{RecTurn}
use Rattle.media_recorder.specs.declared.turn.RecTurn.TheVariants as turn
use Rattle.relay_worker.specs.Filed.{Tallies, form_of, sink_of, state_of, text_in, text_of}
use Rattle.relay_worker.specs.Running.{Label, label_of}
use Rattle.relay_worker.specs.declared.recorder.Recorder.{Recorder}
use Rattle.relay_worker.specs.declared.recorder.RecordingForm.{RecordingForm}
use Rattle.relay_config.specs.declared.config.PlaceRule.{PlaceRule}
use Rattle.relay_outside.specs.Houses.{KeptFile, kept_file}
use Rattle.relay_serve.specs.Recorded.{HasLeft, IsLeave, IsRecorded, IsSettled, IsWhole, Records, starved, worn_out}
use Rattle.relay_serve.specs.Recordings.{file_in, file_name}
use Rattle.relay_serve.specs.Settling.{TellsMore}
use Rattle.relay_serve.proofs.Counted.{later_same}
use Rattle.relay_serve.proofs.Telling.{more_then, more_weaker}

-- ---- a Leave takes nothing

leaves_take : (leaves : List Step) → All IsLeave leaves → taken leaves ≡ []
leaves_take [] a = refl
leaves_take (s ∷ leaves) a =
    let h = All-head IsLeave s leaves a in
    ap (λ (c : Call). item_at c s.1 ++ taken leaves) h.1 ∙ leaves_take leaves (All-tail IsLeave s leaves a)

taken_on : (calls leaves : List Step) → All IsLeave leaves → taken (calls ++ leaves) ≡ taken calls
taken_on calls leaves a =
    flat_map-append (λ (step : Step). item_at step.0.call step.1) calls leaves
    ∙ (ap (λ (l : List _). taken calls ++ l) (leaves_take leaves a) ∙ append-nil (taken calls))

-- ---- its Leave

module _ {P Q : Type 0} (rules : P → PortRules) (root : P → Histories) (busies : P → ℕ) (seen : Q → List Step) (mine : Q → List ℕ) (count : Q → ℕ) where
  made_mine : (limits : Shape) (h : List Step) (b b' : ℕ) (entry : Entry) (before : Option Q) (x : Reply) (after : Option Q)
      → AskedIf seen mine count limits h b b' entry before (Ok x) after → (n : ℕ) × (mine_of mine after ≡ mine_of mine before ++ n ∷ [])
  made_mine limits h b b' entry before x None a = absurd a
  made_mine limits h b b' entry before x (Some p) a = (length a.made.before, a.made.mine_is)

  unmade_mine : (limits : Shape) (h : List Step) (b b' : ℕ) (entry : Entry) (before : Option Q) (f : PortFail) (after : Option Q)
      → AskedIf seen mine count limits h b b' entry before (Err f) after → mine_of mine after ≡ mine_of mine before
  unmade_mine limits h b b' entry before f None a = absurd a
  unmade_mine limits h b b' entry before f (Some p) a = a.unmade

  stand_as : (limits : ℕ → Shape) (h : Histories) (s s' : SeatState Q) (numbers : List ℕ) (calls : List Step) → s'.who ≡ s.who → s'.place ≡ s.place
      → mine_of mine s'.pass ≡ numbers → s'.calls ≡ calls → Stand (limits s'.place) s'.who (h s'.place) (mine_of mine s'.pass) s'.calls
      → Stand (limits s.place) s.who (h s.place) numbers calls
  stand_as limits h s s' numbers calls who place ns cs stand =
      subst (λ (q : ℕ). Stand (limits q) s.who (h q) numbers calls) place
      (subst (λ (w : ℕ). Stand (limits s'.place) w (h s'.place) numbers calls) who
      (subst (λ (l : List ℕ). Stand (limits s'.place) s'.who (h s'.place) l calls) ns
      (subst (λ (l : List Step). Stand (limits s'.place) s'.who (h s'.place) (mine_of mine s'.pass) l) cs stand)))

  left_after : (player : ℕ) (port port' : P) (r : RecorderState Q) (answer : Result Reply PortFail) (s : SeatState Q) → r.player ≡ Some player
      → AsksAt rules root busies seen mine count port port' r.seat (call.Leave player) answer s
      → LeaveEnds rules root busies seen mine count answer port port' r s leaving.Done
      → HasLeft mine ((rules port).limits r.seat.place) (root port' r.seat.place) r
  left_after player port port' r (Ok x) s is a e =
      let made = made_mine ((rules port).limits r.seat.place) (root port r.seat.place) (busies port) (busies port') (entry_of r.seat.who (call.Leave player))
      r.seat.pass x s.pass a.asked in
      record {
        leaves = (entry_of r.seat.who (call.Leave player), x) ∷ [];
        numbers = made.0 ∷ [];
        only_leaves = All-push IsLeave [] (entry_of r.seat.who (call.Leave player), x) (All-nil IsLeave) (player, refl);
        unjoined = λ n. absurd (let f : Some player ≡ None = sym is ∙ n in cc);
        a_number_each = refl;
        stand = stand_as (rules port).limits (root port') r.seat s (mine_of mine r.seat.pass ++ made.0 ∷ [])
            (r.seat.calls ++ (entry_of r.seat.who (call.Leave player), x) ∷ []) a.who a.place made.1 a.calls e.calls_stand;
      }
  left_after player port port' r (Err (fail.Worn w)) s is a e =
      let none = unmade_mine ((rules port).limits r.seat.place) (root port r.seat.place) (busies port) (busies port') (entry_of r.seat.who (call.Leave player))
      r.seat.pass (fail.Worn w) s.pass a.asked in
      record {
        leaves = [];
        numbers = [];
        only_leaves = All-nil IsLeave;
        unjoined = λ n. refl;
        a_number_each = refl;
        stand = stand_as (rules port).limits (root port') r.seat s (mine_of mine r.seat.pass ++ []) (r.seat.calls ++ []) a.who a.place
            (none ∙ sym (append-nil (mine_of mine r.seat.pass))) (a.calls ∙ sym (append-nil r.seat.calls)) e.calls_stand;
      }
  left_after player port port' r (Err (fail.Busy w)) s is a e = absurd e
  left_after player port port' r (Err (fail.OutOfMemory w)) s is a e = absurd e

  -- it has left
  pub left_done : (port port' : P) (r : RecorderState Q) (player : Option ℕ) → r.player ≡ player
      → Goes rules root busies seen mine count player port port' r leaving.Done
      → HasLeft mine ((rules port).limits r.seat.place) (root port' r.seat.place) r
  left_done port port' r None is g = record {
    leaves = [];
    numbers = [];
    only_leaves = All-nil IsLeave;
    unjoined = λ n. refl;
    a_number_each = refl;
    stand = stand_as (rules port).limits (root port') r.seat r.seat (mine_of mine r.seat.pass ++ []) (r.seat.calls ++ []) refl refl
        (sym (append-nil (mine_of mine r.seat.pass))) (sym (append-nil r.seat.calls)) g.calls_stand;
  }
  left_done port port' r (Some player) is g = left_after player port port' r g.answer g.seat is g.asks g.ends

-- ---- its last turn

-- what came after all of a longer history came after all of a beginning of it
pub rests_earlier : {Q : Type 0} (mine : Q → List ℕ) (root history : List Step) (r : RecorderState Q) → Begins root history → Rests mine history r → Rests mine root r
rests_earlier mine root history r b t = record {
  drained = t.drained;
  earlier = t.earlier;
  player = t.player;
  last = t.last;
  calls_are = t.calls_are;
  numbers = t.numbers;
  number = t.number;
  mine_are = t.mine_are;
  after_all = omega (arith, begins_length root history b, t.after_all);
}

-- ---- what its file holds

-- one that joined from there has
joined_or : (o p q : Option ℕ) (n : ℕ) → (p ≡ Some n → q ≡ Some n) → option_or o p ≡ Some n → option_or o q ≡ Some n
joined_or None p q n f e = f e
joined_or (Some m) p q n f e = e

joined_on : (calls more : List Step) (n : ℕ) → joined_from calls ≡ Some n → joined_from (calls ++ more) ≡ Some n
joined_on [] more n e = absurd (let f : None ≡ Some n = e in cc)
joined_on (step ∷ calls) more n e = joined_or (from_at step.0.call step.1) (joined_from calls) (joined_from (calls ++ more)) n (joined_on calls more n) e

as_many : (numbers : List ℕ) (calls : List Step) (history : List Step) → map (slice_get history) numbers ≡ map Some calls → length numbers ≡ length calls
as_many numbers calls history e =
    sym (length-map numbers (slice_get history)) ∙ (ap length e ∙ length-map calls Some)

module _ {Q : Type 0} (mine : Q → List ℕ) (streams : ℕ → Shape) (joined histories : Histories) (worn : ℕ → Type 0) (form : RecordingForm) (r : RecorderState Q)
    (bytes : List ℕ) (left : HasLeft mine (streams r.seat.place) (histories r.seat.place) r) (sent : bytes ≡ r.tape.sent) where
  abbrev Label_is : Label
  Label_is = record { who = r.seat.who; place = r.seat.place; form = form; longest = r.tape.longest }

  whole_from : r.tape.sent ++ r.tape.pending ≡ text_in form (taken r.seat.calls) → joined_from r.seat.calls ≡ Some 0 → Rests mine (joined r.seat.place) r
      → IsWhole Label_is bytes (joined r.seat.place) (mine_of mine r.seat.pass ++ left.numbers) (r.seat.calls ++ left.leaves)
  whole_from text from t =
      let take : Step = (entry_of r.seat.who (call.Take t.player all), reply.NotYet t.last) in
      let numbers_are : mine_of mine r.seat.pass ++ left.numbers ≡ t.numbers ++ t.number ∷ left.numbers =
      ap (λ (l : List ℕ). l ++ left.numbers) t.mine_are ∙ append_assoc t.numbers (t.number ∷ []) left.numbers in
      let calls_are : r.seat.calls ++ left.leaves ≡ t.earlier ++ take ∷ left.leaves =
      ap (λ (l : List Step). l ++ left.leaves) t.calls_are ∙ append_assoc t.earlier (take ∷ []) left.leaves in
      let counts = as_many (mine_of mine r.seat.pass ++ left.numbers) (r.seat.calls ++ left.leaves) left.stand.known left.stand.calls_are in
      record {
        from_first = joined_on r.seat.calls left.leaves 0 from;
        text = sent ∙ (sym (append-nil r.tape.sent) ∙ (ap (λ (l : List ℕ). r.tape.sent ++ l) (sym t.drained)
            ∙ (text ∙ ap (text_in form) (sym (taken_on r.seat.calls left.leaves left.only_leaves)))));
        earlier = t.earlier;
        player = t.player;
        last = t.last;
        leaves = left.leaves;
        calls_are = calls_are;
        only_leaves = left.only_leaves;
        before = t.numbers;
        number = t.number;
        after = left.numbers;
        numbers_are = numbers_are;
        same_place = omega (
          arith,
          counts,
          ap length numbers_are,
          ap length calls_are,
          length-append t.numbers (t.number ∷ left.numbers),
          length-append t.earlier (take ∷ left.leaves),
          left.a_number_each,
        );
        after_joined = t.after_all;
      }

  turned_away : (r.player ≡ None) × IsTurnedAway r.seat.who r.seat.calls → IsTurnedAway r.seat.who (r.seat.calls ++ left.leaves)
  turned_away t =
      subst (IsTurnedAway r.seat.who) (sym (ap (λ (l : List Step). r.seat.calls ++ l) (left.unjoined t.0) ∙ append-nil r.seat.calls)) t.1

  whole_by : (end : Option RecEnd) (faults : ℕ) → IsSettled mine (joined r.seat.place) end r → starved end ≡ false → (r.end ≡ Some rec.SinkFault → faults ≢ 0)
      → (r.end ≡ Some rec.Full → (r.player ≡ None) × IsTurnedAway r.seat.who r.seat.calls) → (worn_out end ≡ true → worn r.seat.place) → (end ≡ None → joined_from r.seat.calls ≡ Some 0)
      → (r.end ≢ Some rec.OutOfMemory → r.tape.sent ++ r.tape.pending ≡ text_in form (taken r.seat.calls)) → faults ≡ 0
      → IsWhole Label_is bytes (joined r.seat.place) (mine_of mine r.seat.pass ++ left.numbers) (r.seat.calls ++ left.leaves)
      ⊎ (IsTurnedAway r.seat.who (r.seat.calls ++ left.leaves) ⊎ worn r.seat.place)
  whole_by None faults s spared blamed full out from text f =
      inl (whole_from (text (λ e. let g : None ≡ Some rec.OutOfMemory = sym s.ended ∙ e in cc)) (from refl) (s.rests refl))
  whole_by (Some rec.SinkFault) faults s spared blamed full out from text f = absurd (blamed s.ended f)
  whole_by (Some rec.Full) faults s spared blamed full out from text f = inr (inl (turned_away (full s.ended)))
  whole_by (Some rec.Worn) faults s spared blamed full out from text f = inr (inr (out refl))
  whole_by (Some rec.OutOfMemory) faults s spared blamed full out from text f = absurd (let g : true ≡ false = spared in cc)

  records_by : (end : Option RecEnd) (faults : ℕ) → IsSettled mine (joined r.seat.place) end r → starved end ≡ false → (r.end ≡ Some rec.SinkFault → faults ≢ 0)
      → (r.end ≡ Some rec.Full → (r.player ≡ None) × IsTurnedAway r.seat.who r.seat.calls) → (worn_out end ≡ true → worn r.seat.place) → (end ≡ None → joined_from r.seat.calls ≡ Some 0)
      → (r.end ≢ Some rec.OutOfMemory → r.tape.sent ++ r.tape.pending ≡ text_in form (taken r.seat.calls))
      → Begins (r.tape.sent ++ r.tape.pending) (text_in form (taken r.seat.calls)) → Records streams joined histories worn Label_is bytes faults
  records_by end faults s spared blamed full out from text prefix = record {
    calls = r.seat.calls ++ left.leaves;
    numbers = mine_of mine r.seat.pass ++ left.numbers;
    stand = left.stand;
    prefix = subst (λ (l : List _). Begins bytes (text_in form l)) (sym (taken_on r.seat.calls left.leaves left.only_leaves))
        (begins_trans bytes (r.tape.sent ++ r.tape.pending) (text_in form (taken r.seat.calls)) (r.tape.pending, ap (λ (l : List ℕ). l ++ r.tape.pending) sent) prefix);
    whole = λ f. whole_by end faults s spared blamed full out from text f;
  }

-- WHAT ITS FILE HOLDS once it has left
pub records_from : {Q : Type 0} (mine : Q → List ℕ) (count : Q → ℕ) (streams : ℕ → Shape) (joined histories : Histories) (worn : ℕ → Type 0) (form : RecordingForm)
    (r : RecorderState Q) (end : Option RecEnd) (held : Option (List ℕ)) (faults : ℕ) (bytes : List ℕ) → IsSettled mine (joined r.seat.place) end r → starved end ≡ false
    → (worn_out end ≡ true → worn r.seat.place) → (end ≡ None → joined_from r.seat.calls ≡ Some 0) → Tallied count held faults r → held ≡ Some bytes → (r.end ≢ Some rec.OutOfMemory → r.tape.sent ++ r.tape.pending ≡ text_in form (taken r.seat.calls))
    → Begins (r.tape.sent ++ r.tape.pending) (text_in form (taken r.seat.calls)) → HasLeft mine (streams r.seat.place) (histories r.seat.place) r
    → Records streams joined histories worn (record { who = r.seat.who; place = r.seat.place; form = form; longest = r.tape.longest }) bytes faults
records_from mine count streams joined histories worn form r end held faults bytes s spared out from t told text prefix left =
    records_by mine streams joined histories worn form r bytes left (t.told bytes told) end faults s spared t.blamed t.full out from text prefix

-- ---- in histories that went on

module _ (streams : ℕ → Shape) (joined joined' histories histories' : Histories) (a : Later joined joined') (b : Later histories histories') (worn worn' : ℕ → Type 0) where
  whole_later : (r : Label) (bytes : List ℕ) (numbers : List ℕ) (calls : List Step) → IsWhole r bytes (joined' r.place) numbers calls
      → IsWhole r bytes (joined r.place) numbers calls
  whole_later r bytes numbers calls w = record {
    from_first = w.from_first;
    text = w.text;
    earlier = w.earlier;
    player = w.player;
    last = w.last;
    leaves = w.leaves;
    calls_are = w.calls_are;
    only_leaves = w.only_leaves;
    before = w.before;
    number = w.number;
    after = w.after;
    numbers_are = w.numbers_are;
    same_place = w.same_place;
    after_joined = omega (arith, begins_length (joined r.place) (joined' r.place) (a.at r.place), w.after_joined);
  }

  ends_later : (r : Label) (bytes : List ℕ) (numbers : List ℕ) (calls : List Step) → (worn r.place → worn' r.place)
      → IsWhole r bytes (joined' r.place) numbers calls ⊎ (IsTurnedAway r.who calls ⊎ worn r.place)
      → IsWhole r bytes (joined r.place) numbers calls ⊎ (IsTurnedAway r.who calls ⊎ worn' r.place)
  ends_later r bytes numbers calls on (inl w) = inl (whole_later r bytes numbers calls w)
  ends_later r bytes numbers calls on (inr (inl t)) = inr (inl t)
  ends_later r bytes numbers calls on (inr (inr w)) = inr (inr (on w))

  -- sessions' calls before and all calls after
  pub records_later : (r : Label) (bytes : List ℕ) (faults : ℕ) → (worn r.place → worn' r.place) → Records streams joined' histories worn r bytes faults
      → Records streams joined histories' worn' r bytes faults
  records_later r bytes faults on h = record {
    calls = h.calls;
    numbers = h.numbers;
    stand = stand_later (streams r.place) r.who (histories r.place) (histories' r.place) h.numbers h.calls (b.at r.place) h.stand;
    prefix = h.prefix;
    whole = λ f. ends_later r bytes h.numbers h.calls on (h.whole f);
  }

-- ---- what the answer of a turn settles

module _ {Q : Type 0} (mine : Q → List ℕ) (root history : List Step) (busies busies' : ℕ) (answer : RecTurn) (r : RecorderState Q) (b : Begins root history)
    (says : Says mine history busies busies' answer r) where
  pub settled_idle : answer ≡ turn.Idle → IsSettled mine root None r
  settled_idle e =
      let s : (r.end ≡ None) × Rests mine history r = subst (λ (a : RecTurn). Says mine history busies busies' a r) e says in
      record { ended = s.0; rests = λ n. rests_earlier mine root history r b s.1 }

  pub settled_ended : (end : RecEnd) → answer ≡ turn.Ended end → IsSettled mine root (Some end) r
  settled_ended end e =
      let s : r.end ≡ Some end = subst (λ (a : RecTurn). Says mine history busies busies' a r) e says in
      record { ended = s; rests = λ n. absurd (let f : Some end ≡ None = n in cc) }

-- ---- all of it, of a recorder with its file

pub records_of : {P K Q : Type 0} (holds : K → Option (List ℕ)) (faults : K → ℕ) (mine : Q → List ℕ) (count : Q → ℕ) (streams : ℕ → Shape) (joined histories : Histories)
    (worn : ℕ → Type 0) (old r : Recorder P K Q) (end : Option RecEnd) (file : K) → label_of r ≡ label_of old
    → IsSettled mine (joined (state_of old).seat.place) end (state_of r) → starved end ≡ false → (worn_out end ≡ true → worn (state_of r).seat.place)
    → (end ≡ None → joined_from (state_of r).seat.calls ≡ Some 0) → Tallies count holds faults r → file ≡ sink_of r
    → ((state_of r).end ≢ Some rec.OutOfMemory → (state_of r).tape.sent ++ (state_of r).tape.pending ≡ text_of r (taken (state_of r).seat.calls))
    → Begins ((state_of r).tape.sent ++ (state_of r).tape.pending) (text_of r (taken (state_of r).seat.calls))
    → HasLeft mine (streams (state_of r).seat.place) (histories (state_of r).seat.place) (state_of r)
    → (bytes : List ℕ) → holds file ≡ Some bytes → Records streams joined histories worn (label_of old) bytes (faults file)
records_of holds faults mine count streams joined histories worn old r end file same settled spared out from tally is text prefix left = λ bytes told.
    subst (λ (l : Label). Records streams joined histories worn l bytes (faults file)) same
    (subst (λ (n : ℕ). Records streams joined histories worn (label_of r) bytes n) (ap faults (sym is))
    (records_from mine count streams joined histories worn (form_of r) (state_of r) end (holds (sink_of r)) (faults (sink_of r)) bytes
    (subst (λ (l : Label). IsSettled mine (joined l.place) end (state_of r)) (sym same) settled) spared out from tally (ap holds (sym is) ∙ told) text prefix left))

-- the file that is kept of it
pub recorded_by : (streams : ℕ → Shape) (joined histories : Histories) (worn worn' : ℕ → Type 0) (places : List PlaceRule) (r : Label) (name : List ℕ)
    (held : Option (List ℕ)) (faults : ℕ) → file_name places r.place r.form ≡ Some name → (worn r.place → worn' r.place)
    → ((bytes : List ℕ) → held ≡ Some bytes → Records streams joined histories worn r bytes faults)
    → (file : KeptFile) → kept_file name held faults ≡ Some file → IsRecorded streams joined histories worn' places r file
recorded_by streams joined histories worn worn' places r name None faults named on records file e = absurd (let f : None ≡ Some file = e in cc)
recorded_by streams joined histories worn worn' places r name (Some bytes) faults named on records file e =
    let kept : KeptFile = record { name = name; bytes = bytes; faults = faults } in
    let is : kept ≡ file = let f : Some kept ≡ Some file = e in cc in
    let there = records_later streams joined joined histories histories (later_same joined) (later_same histories) worn worn' r bytes faults on (records bytes refl) in
    subst (λ (f : KeptFile). IsRecorded streams joined histories worn' places r f) is (record { named = named; records = there })

place_within : (places : List PlaceRule) (place : ℕ) (form : RecordingForm) (name : List ℕ) (o : Option PlaceRule) → slice_get places place ≡ o
    → option_and_then (file_in form) o ≡ Some name → place < length places
place_within places place form name None e n = absurd (let f : None ≡ Some name = n in cc)
place_within places place form name (Some rule) e n = slice_get_within places place rule e

-- in histories that went on, and by full histories at the places that there are
pub recorded_later : (streams : ℕ → Shape) (joined joined' histories histories' : Histories) → Later joined joined' → Later histories histories'
    → (worn worn' : ℕ → Type 0) (places : List PlaceRule) → ((q : ℕ) → q < length places → worn q → worn' q) → (r : Label) (file : KeptFile)
    → IsRecorded streams joined' histories worn places r file → IsRecorded streams joined histories' worn' places r file
recorded_later streams joined joined' histories histories' a b worn worn' places on r file f = record {
  named = f.named;
  records = records_later streams joined joined' histories histories' a b worn worn' r file.bytes file.faults
      (on r.place (place_within places r.place r.form file.name (slice_get places r.place) refl f.named)) f.records;
}

-- these recordings, and then the others
pub recorded_then : (q q' : PortRules) (h j k : Histories) (worn worn' : ℕ → Type 0) (places : List PlaceRule) (recordings others : List Label)
    (before mid now : Option (List KeptFile)) → q' ≡ q → Later h j → Later j k → ((place : ℕ) → worn place → worn' place)
    → TellsMore (IsRecorded q.limits h j worn places) recordings before mid → TellsMore (IsRecorded q'.limits j k worn' places) others mid now
    → TellsMore (IsRecorded q.limits h k worn' places) (recordings ++ others) before now
recorded_then q q' h j k worn worn' places recordings others before mid now e a b on m n =
    let first = more_weaker (IsRecorded q.limits h j worn places) (IsRecorded q.limits h k worn' places)
    (recorded_later q.limits h h j k (later_same h) b worn worn' places (λ place l. on place)) recordings before mid m in
    let there = subst (λ (x : PortRules). TellsMore (IsRecorded x.limits j k worn' places) others mid now) e n in
    let then_more = more_weaker (IsRecorded q.limits j k worn' places) (IsRecorded q.limits h k worn' places)
    (recorded_later q.limits h j k k a (later_same k) worn' worn' places (λ place l w. w)) others mid now there in
    more_then (IsRecorded q.limits h k worn' places) recordings others before mid now first then_more
