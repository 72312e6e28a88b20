-- The chunk size of what a client says
use Rattle.std.proofs.Common.{◌≡◌, ℕ, Bool, true, false, ◌==◌, if◌then◌else◌, [], ◌∷◌, Option, Some, None, Result, Ok, Err, refl, sym, subst}
use Rattle.amf0_value.specs.Pattern.{pattern}
use Rattle.rtmp_command.specs.declared.command.CommandFail.{CommandFail}
use Rattle.relay_base.specs.Numbers.{be32_of}
use Rattle.chunk_wire.specs.declared.message.Message.{Message}
use Rattle.chunk_writer.specs.WriterKnown.{WriterKnown}
use Rattle.chunk_writer.specs.Written.{after_all, resized_by}
use Rattle.ack_window.specs.Controls.{control_in, ping_answer_of}
use Rattle.ack_window.specs.declared.control.Control.{Control}
use Rattle.ack_window.specs.declared.control.Control.TheVariants.{ChunkSize, Abort, Acknowledgement, User, Window, Bandwidth}
use Rattle.ack_window.specs.declared.control.BadControl.{BadControl}
use Rattle.client_owed.specs.declared.types.Asked.{Asked}
use Rattle.client_owed.specs.declared.types.News.{News}
use Rattle.client_owed.specs.declared.types.News.TheVariants.{Done, Refused, Status, Other}
use Rattle.client_owed.specs.declared.types.Phase.{Phase}
use Rattle.client_owed.specs.declared.types.Phase.TheVariants.{Connecting, Creating, Asking, Started}
use Rattle.client_owed.specs.News.{is_text, news_in}
use Rattle.client_owed.specs.Client.{Did, ask, chunk_size, create_stream, created, does, does_by, is_id, learns, learns_by, pongs, start_code, stays, whole}
use Rattle.rtmp_client.specs.Keeping.{IsWide}
use Rattle.rtmp_client.specs.Owing.{Owing, Says}

abbrev Wide : WriterKnown → Did → Type 0
Wide w d = IsWide d.phase (after_all w d.says).size

stays_wide : (w : WriterKnown) (p : Phase) → IsWide p w.size → Wide w (stays p)
unfolding after_all
stays_wide w p h = h

create_wide : (w : WriterKnown) (b : Bool) → Wide w (if b then record { phase = Creating; says = chunk_size ∷ create_stream ∷ [] } else stays Connecting)
unfolding after_all resized_by be32_of
create_wide w true = refl
create_wide w false = tt

id_wide : (k : Asked) (id : ℕ) (w : WriterKnown) (b : Bool) → IsWide Creating w.size → Wide w (if b then record { phase = Asking id; says = ask k id ∷ [] } else stays Creating)
unfolding after_all resized_by
id_wide k id w true h = h
id_wide k id w false h = h

created_wide : (k : Asked) (v : Option ℕ) (w : WriterKnown) → IsWide Creating w.size → Wide w (created k v)
created_wide k None w h = stays_wide w Creating h
created_wide k (Some bits) w h = id_wide k (whole bits) w (is_id bits) h

then_wide : (k : Asked) (v : Option ℕ) (w : WriterKnown) (b : Bool) → IsWide Creating w.size → Wide w (if b then created k v else stays Creating)
then_wide k v w true h = created_wide k v w h
then_wide k v w false h = stays_wide w Creating h

started_wide : (id : ℕ) (w : WriterKnown) (b : Bool) → IsWide (Asking id) w.size → Wide w (if b then stays (Started id) else stays (Asking id))
unfolding after_all
started_wide id w true h = h
started_wide id w false h = h

learns_wide : (k : Asked) (p : Phase) (n : News) (w : WriterKnown) → IsWide p w.size → Wide w (learns k p n)
learns_wide k Connecting (Done t v) w h = create_wide w (t == pattern 1)
learns_wide k Connecting (Refused code description) w h = stays_wide w Connecting h
learns_wide k Connecting (Status code) w h = stays_wide w Connecting h
learns_wide k Connecting Other w h = stays_wide w Connecting h
learns_wide k Creating (Done t v) w h = then_wide k v w (t == pattern 2) h
learns_wide k Creating (Refused code description) w h = stays_wide w Creating h
learns_wide k Creating (Status code) w h = stays_wide w Creating h
learns_wide k Creating Other w h = stays_wide w Creating h
learns_wide k (Asking id) (Done t v) w h = stays_wide w (Asking id) h
learns_wide k (Asking id) (Refused code description) w h = stays_wide w (Asking id) h
learns_wide k (Asking id) (Status code) w h = started_wide id w (is_text code (start_code k.wish)) h
learns_wide k (Asking id) Other w h = stays_wide w (Asking id) h
learns_wide k (Started id) n w h = stays_wide w (Started id) h

kind_wide : (k : Asked) (p : Phase) (b : Bool) (r : Result News CommandFail) (w : WriterKnown) → IsWide p w.size → Wide w (if b then learns_by k p r else stays p)
kind_wide k p true (Ok n) w h = learns_wide k p n w h
kind_wide k p true (Err e) w h = stays_wide w p h
kind_wide k p false r w h = stays_wide w p h

event_wide : (p : Phase) (value : ℕ) (b : Bool) (w : WriterKnown) → IsWide p w.size → IsWide p (after_all w (pongs (if b then Some (User 7 value) else None))).size
unfolding after_all resized_by
event_wide p value true w h = h
event_wide p value false w h = h

pong_wide : (p : Phase) (c : Control) (w : WriterKnown) → IsWide p w.size → IsWide p (after_all w (pongs (ping_answer_of c))).size
unfolding after_all
pong_wide p (ChunkSize size) w h = h
pong_wide p (Abort id) w h = h
pong_wide p (Acknowledgement count) w h = h
pong_wide p (User event value) w h = event_wide p value (event == 6) w h
pong_wide p (Window size) w h = h
pong_wide p (Bandwidth size limit) w h = h

by_wide : (k : Asked) (p : Phase) (m : Message) (r : Result (Option Control) BadControl) (w : WriterKnown) → IsWide p w.size → Wide w (does_by k p m r)
by_wide k p m (Ok None) w h = kind_wide k p (m.kind == 20) (news_in m.body) w h
by_wide k p m (Ok (Some c)) w h = pong_wide p c w h
by_wide k p m (Err e) w h = stays_wide w p h

does_wide : (k : Asked) (p : Phase) (m : Message) (w : WriterKnown) → IsWide p w.size → Wide w (does k p m)
unfolding does
does_wide k p m w h = by_wide k p m (control_in m) w h

pub loud_wide : (k : Asked) (p q : Phase) (m : Message) (n : ℕ) (o u : Owing) → IsWide p n → o.writer.size ≡ n → Says o (does k p m).says u → q ≡ (does k p m).phase → IsWide q u.writer.size
loud_wide k p q m n o u h e s qe =
    rw (qe, s.writer) (does_wide k p m o.writer (subst (IsWide p) (sym e) h))
