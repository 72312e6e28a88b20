-- What holds of each message that a client says holds of all that it owes
use Rattle.std.proofs.Common.{◌≡◌, ℕ, ◌+◌, ◌<◌, ◌^◌, Bool, true, false, ◌==◌, nat_lt, if◌then◌else◌, List, [], ◌∷◌, ◌++◌, map, Option, Some, None, Result}
use Rattle.std.proofs.Common.{Ok, Err, refl, arith}
use Rattle.amf0_value.specs.Pattern.{pattern}
use Rattle.ack_window.specs.Controls.{control_in, message_of, ping_answer_of}
use Rattle.ack_window.specs.declared.control.BadControl.{BadControl}
use Rattle.ack_window.specs.declared.control.Control.{Control}
use Rattle.ack_window.specs.declared.control.Control.TheVariants.{ChunkSize, Abort, Acknowledgement, User, Window, Bandwidth}
use Rattle.chunk_wire.specs.declared.message.Message.{Message}
use Rattle.client_law.proofs.Alike.{every_join}
use Rattle.client_law.proofs.Push.{after_small, every_acks, every_says, every_upto, id_small}
use Rattle.client_law.specs.Loud.{Every, EverySaid}
use Rattle.client_owed.specs.Client.{ask, chunk_size, connect, create_stream, created, does, does_by, is_id, learns, learns_by, pongs, start_code, stays, whole}
use Rattle.client_owed.specs.News.{is_text, news_in}
use Rattle.client_owed.specs.Owed.{AreGiven, Follow, MayGive, at_count, first_window, gave_on, id_of, owed, phase_of, said_after, sent_on}
use Rattle.client_owed.specs.declared.types.Asked.{Asked}
use Rattle.client_owed.specs.declared.types.Gave.{Gave}
use Rattle.client_owed.specs.declared.types.Given.{Given}
use Rattle.client_owed.specs.declared.types.News.{News}
use Rattle.client_owed.specs.declared.types.News.TheVariants.{Done, Refused, Status, Other}
use Rattle.client_owed.specs.declared.types.Phase.{Phase}
use Rattle.client_owed.specs.declared.types.Phase.TheVariants.{Connecting, Creating, Asking, Started}
use Rattle.client_owed.specs.declared.types.Wish.{Wish}
use Rattle.rtmp_command.specs.declared.command.CommandFail.{CommandFail}
use Rattle.session_owed.specs.Acks.{acks_at}
use Rattle.session_owed.specs.Talk.{hand_bytes, says_at}

module _ (Q : Message → Type 0) (k : Asked) (max : ℕ) (control : (c : Control) → Q (message_of c)) (connects : Q (connect k)) (creates : Q create_stream)
    (asks : (id : ℕ) → id < 2 ^ 32 → Q (ask k id)) (gives : (w : Wish) (id : ℕ) (g : Given) → id < 2 ^ 32 → MayGive w max g → Q (sent_on id g)) where
  every_gave : (w : Wish) (id from to : ℕ) (T : List Gave) → id < 2 ^ 32 → Follow w max from to T → EverySaid Q (map (gave_on id) T)
  every_gave w id from to [] s f = tt
  every_gave w id from to (g ∷ T) s f = ((gives w id g.given s f.1, tt), every_gave w id g.at to T s f.3)

  every_given : (id n : ℕ) (ms : List (ℕ × Message)) (T : List Gave) → id < 2 ^ 32 → AreGiven k max n ms T → EverySaid Q (map (gave_on id) T)
  every_given id n ms [] s g = tt
  every_given id n ms (x ∷ T) s g = every_gave k.wish id (hand_bytes + g.0) (hand_bytes + n) (x ∷ T) s g.2

  -- ---- what is said

  pongs_so : (c : Control) → Every Q (pongs (ping_answer_of c))
  pongs_so (ChunkSize size) = tt
  pongs_so (Abort id) = tt
  pongs_so (Acknowledgement count) = tt
  pongs_so (User event value) = by_event (event == 6)
    where
      by_event : (b : Bool) → Every Q (pongs (if b then Some (User 7 value) else None))
      by_event true = (control (User 7 value), tt)
      by_event false = tt
  pongs_so (Window size) = tt
  pongs_so (Bandwidth size limit) = tt

  id_so : (b : Bool) (bits : ℕ) → is_id bits ≡ b → Every Q (if b then record { phase = Asking (whole bits); says = ask k (whole bits) ∷ [] } else stays
      Creating).says
  id_so true bits e = (
    asks (whole bits) (id_small (pattern (whole bits) == bits) (nat_lt 0 (whole bits)) (nat_lt (whole bits) (2 ^ 32)) (whole bits) e
        refl),
    tt,
  )
  id_so false bits e = tt

  created_so : (v : Option ℕ) → Every Q (created k v).says
  created_so None = tt
  created_so (Some bits) = id_so (is_id bits) bits refl

  connected_so : (b : Bool) → Every Q (if b then record { phase = Creating; says = chunk_size ∷ create_stream ∷ [] } else stays Connecting).says
  connected_so true = (control (ChunkSize 4096), (creates, tt))
  connected_so false = tt

  then_so : (b : Bool) (v : Option ℕ) → Every Q (if b then created k v else stays Creating).says
  then_so true v = created_so v
  then_so false v = tt

  started_so : (id : ℕ) (b : Bool) → Every Q (if b then stays (Started id) else stays (Asking id)).says
  started_so id true = tt
  started_so id false = tt

  news_so : (p : Phase) (n : News) → Every Q (learns k p n).says
  news_so Connecting (Done n v) = connected_so (n == pattern 1)
  news_so Connecting (Refused code description) = tt
  news_so Connecting (Status code) = tt
  news_so Connecting Other = tt
  news_so Creating (Done n v) = then_so (n == pattern 2) v
  news_so Creating (Refused code description) = tt
  news_so Creating (Status code) = tt
  news_so Creating Other = tt
  news_so (Asking id) (Done n v) = tt
  news_so (Asking id) (Refused code description) = tt
  news_so (Asking id) (Status code) = started_so id (is_text code (start_code k.wish))
  news_so (Asking id) Other = tt
  news_so (Started id) n = tt

  read_so : (p : Phase) (r : Result News CommandFail) → Every Q (learns_by k p r).says
  read_so p (Ok n) = news_so p n
  read_so p (Err e) = tt

  kind_so : (p : Phase) (b : Bool) (r : Result News CommandFail) → Every Q (if b then learns_by k p r else stays p).says
  kind_so p true r = read_so p r
  kind_so p false r = tt

  by_so : (p : Phase) (m : Message) (r : Result (Option Control) BadControl) → Every Q (does_by k p m r).says
  by_so p m (Ok None) = kind_so p (m.kind == 20) (news_in m.body)
  by_so p m (Ok (Some c)) = pongs_so c
  by_so p m (Err e) = tt

  every_said : (p : Phase) (ms : List (ℕ × Message)) → EverySaid Q (said_after k p ms)
  unfolding said_after does
  every_said p [] = tt
  every_said p (m ∷ ms) = (by_so p m.1 (control_in m.1), every_said (does k p m.1).phase ms)

  -- ---- all that is owed

  every_at : (n j : ℕ) (ms : List (ℕ × Message)) (T : List Gave) → AreGiven k max n ms T → Every Q (at_count k ms T j)
  unfolding at_count
  every_at n j ms T g =
      let id = id_of (phase_of k ms) in
      let says = said_after k Connecting ms in
      let gave = map (gave_on id) T in
      every_join Q (acks_at first_window ms j) (says_at j says ++ says_at j gave) (every_acks Q first_window j ms (λ n. control (Acknowledgement n)))
      (every_join Q (says_at j says) (says_at j gave) (every_says Q j says (every_said Connecting ms))
      (every_says Q j gave (every_given id n ms T (after_small k Connecting ms (omega arith)) g)))

  pub every_owed : (n : ℕ) (ms : List (ℕ × Message)) (T : List Gave) → AreGiven k max n ms T → Every Q (owed k n ms T)
  unfolding owed
  every_owed n ms T g = (connects, every_upto Q (at_count k ms T) n (λ j. every_at n j ms T g))
