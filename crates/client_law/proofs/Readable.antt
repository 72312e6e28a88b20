-- What a client owes can be written and read
use Rattle.std.proofs.Common.{◌≡◌, ℕ, ◌+◌, ◌*◌, ◌<◌, ◌≤◌, ◌^◌, Bool, true, false, ◌==◌, ◌&&◌, ◌||◌, nat_le, nat_lt, nat_eq, if◌then◌else◌, List, [], ◌∷◌, ◌++◌, length, map, Option, Some, None, Result, Ok, Err, refl, ap, arith, length-append}
use Rattle.std.specs.Prelude.{codes}
use Rattle.std.specs.Int.{w16}
use Rattle.std.proofs.lemmas.Bool.Decides.{nat_tests}
use Rattle.relay_base.specs.Numbers.{be32_of}
use Rattle.amf0_value.specs.Tree.{Tree, number, text, object, null, Items, item, no_items, Members, member, no_members}
use Rattle.amf0_value.specs.Pattern.{pattern}
use Rattle.amf0_value.specs.Spelling.{be}
use Rattle.amf0_value.specs.Encoding.{items_spelling, members_spelling, spelling}
use Rattle.rtmp_command.specs.declared.command.CommandFail.{CommandFail}
use Rattle.chunk_wire.specs.declared.message.Message.{Message}
use Rattle.chunk_reader.specs.Control.{refused_size}
use Rattle.chunk_writer.specs.Rule.{is_written}
use Rattle.chunk_law.specs.ReadBack.{AreReadable, IsReadable}
use Rattle.ack_window.specs.declared.control.Control.{Control}
use Rattle.ack_window.specs.declared.control.Control.TheVariants.{ChunkSize, Abort, Acknowledgement, User, Window, Bandwidth}
use Rattle.ack_window.specs.declared.control.BadControl.{BadControl}
use Rattle.ack_window.specs.Controls.{control_in, message_of, ping_answer_of}
use Rattle.flv_tags.specs.Layout.{is_kind}
use Rattle.session_owed.specs.Acks.{acks_at, ack_message}
use Rattle.session_owed.specs.Owed.{upto}
use Rattle.session_owed.specs.Talk.{hand_bytes, says_at}
use Rattle.client_owed.specs.declared.types.Wish.{Wish}
use Rattle.client_owed.specs.declared.types.Wish.TheVariants as wish
use Rattle.client_owed.specs.declared.types.Asked.{Asked}
use Rattle.client_owed.specs.declared.types.Gave.{Gave}
use Rattle.client_owed.specs.declared.types.Given.{Given}
use Rattle.client_owed.specs.declared.types.News.{News}
use Rattle.client_owed.specs.declared.types.Phase.{Phase}
use Rattle.client_owed.specs.declared.types.Given.TheVariants.{Finish, Send}
use Rattle.client_owed.specs.declared.types.News.TheVariants.{Done, Refused, Status, Other}
use Rattle.client_owed.specs.declared.types.Phase.TheVariants.{Connecting, Creating, Asking, Started}
use Rattle.client_owed.specs.News.{is_text, news_in}
use Rattle.client_owed.specs.Client.{Did, ask, asks, chunk_size, connect, connects, create_stream, created, creates, delete_stream, deletes, described, does, does_by, flash_ver, is_id, learns, learns_by, pongs, start_code, stays, tc_url, whole}
use Rattle.client_owed.specs.Owed.{AreGiven, Follow, MayGive, at_count, first_window, gave_on, id_of, owed, phase_of, said_after, sent_on}
use Rattle.client_law.specs.Laws.{IsNamed}
use Rattle.client_law.specs.Loud.{Every, EverySaid}
use Rattle.client_law.proofs.Alike.{every_join}
use Rattle.client_law.proofs.Push.{after_small, every_acks, every_says, every_upto, id_small}

-- ---- how long the commands are

text_length : (t : List ℕ) → length (spelling (text t)) ≡ 3 + length t
unfolding be
text_length t = omega (arith, length-append (be w16 (length t)) t)

number_length : (n : ℕ) → length (spelling (number n)) ≡ 9
unfolding be
number_length n = refl

item_length : (v : Tree) (vs : Items) → length (items_spelling (item v vs)) ≡ length (spelling v) + length (items_spelling vs)
item_length v vs = length-append (spelling v) (items_spelling vs)

member_length : (key t : List ℕ) (ms : Members) → length (members_spelling (member key (text t) ms)) ≡ 5 + length key + length t + length (members_spelling ms)
unfolding be
member_length key t ms = omega (arith, text_length t, length-append key (spelling (text t) ++ members_spelling ms), length-append (spelling (text t)) (members_spelling ms))

object_length : (ms : Members) → length (spelling (object ms)) ≡ 4 + length (members_spelling ms)
object_length ms = omega (arith, length-append (members_spelling ms) (0 ∷ 0 ∷ 9 ∷ []))

url_length : (k : Asked) → length (tc_url k) ≡ 8 + length k.address + length k.app
url_length k = omega (arith, length-append k.address (0x2F ∷ k.app))

described_length : (k : Asked) → length (spelling (described k)) ≡ 71 + length k.address + 2 * length k.app
described_length k =
    let url = member (codes "tcUrl") (text (tc_url k)) no_members in
    let ver = member (codes "flashVer") (text flash_ver) url in
    omega (arith, object_length (member (codes "app") (text k.app) ver), member_length (codes "app") k.app ver, member_length (codes "flashVer") flash_ver url, member_length (codes "tcUrl") (tc_url k) no_members, url_length k)

called_length : (name : List ℕ) (n : ℕ) (more : Items) → length (items_spelling (Rattle.client_owed.specs.Client.called name n more)) ≡ 12 + length name + length (items_spelling more)
called_length name n more =
    omega (arith, item_length (text name) (item (number (pattern n)) more), item_length (number (pattern n)) more, text_length name, number_length (pattern n))

connects_length : (k : Asked) → length (items_spelling (connects k)) ≡ 90 + length k.address + 2 * length k.app
connects_length k = omega (arith, called_length (codes "connect") 1 (item (described k) no_items), item_length (described k) no_items, described_length k)

asks_short : (w : Wish) (name : List ℕ) → length (items_spelling (asks w name)) ≤ 40 + length name
asks_short wish.Push name =
    let c = item (text (codes "live")) no_items in
    let b = item (text name) c in
    omega (arith, called_length (codes "publish") 3 (item null b), item_length null b, item_length (text name) c, item_length (text (codes "live")) no_items, text_length name, text_length (codes "live"))
asks_short wish.Pull name =
    let b = item (text name) no_items in
    omega (arith, called_length (codes "play") 3 (item null b), item_length null b, item_length (text name) no_items, text_length name)

creates_length : length (items_spelling creates) ≤ 40
creates_length = omega (arith, called_length (codes "createStream") 2 (item null no_items), item_length null no_items)

deletes_length : (id : ℕ) → length (items_spelling (deletes id)) ≤ 40
deletes_length id =
    let n = item (number (pattern id)) no_items in
    omega (arith, called_length (codes "deleteStream") 4 (item null n), item_length null n, item_length (number (pattern id)) no_items, number_length (pattern id))

-- ---- each message

pub not_one : (kind : ℕ) → is_kind kind ≡ true → nat_eq kind 1 ≡ false
not_one kind e = grind (arith, nat_tests)

kind_written : (kind : ℕ) → is_kind kind ≡ true → is_written kind ≡ true
kind_written kind e = grind (arith, nat_tests)

pub sizes_nothing : (m : Message) → nat_eq m.kind 1 ≡ false → refused_size m ≡ None
unfolding refused_size
sizes_nothing m e = ap (λ b. if b && (nat_le 4 (length m.body) && (nat_eq (be32_of m.body) 0 || nat_le (2 ^ 31) (be32_of m.body))) then Some (be32_of m.body) else None) e

module _ (max : ℕ) (least : 4096 ≤ max) (most : max ≤ 4194304) where
  abbrev Q : Message → Type 0
  Q = IsReadable max

  command_fits : (stream : ℕ) (vs : Items) → stream < 2 ^ 32 → length (items_spelling vs) ≤ 4096 → Q (Rattle.client_owed.specs.Client.command stream vs)
  command_fits stream vs s l = record { kind = refl; stream = s; time = omega arith; short = omega (arith, l); fits = omega (arith, l, least); sized = sizes_nothing (Rattle.client_owed.specs.Client.command stream vs) refl }

  pub ack_fits : (n : ℕ) → IsReadable max (ack_message n)
  ack_fits n = record { kind = refl; stream = omega arith; time = omega arith; short = omega arith; fits = omega (arith, least); sized = sizes_nothing (ack_message n) refl }

  pub user_fits : (value : ℕ) → IsReadable max (message_of (User 7 value))
  user_fits value = record { kind = refl; stream = omega arith; time = omega arith; short = omega arith; fits = omega (arith, least); sized = sizes_nothing (message_of (User 7 value)) refl }

  size_fits : Q chunk_size
  unfolding refused_size be32_of
  size_fits = record { kind = refl; stream = omega arith; time = omega arith; short = omega arith; fits = omega (arith, least); sized = refl }

  given_fits : (w : Wish) (id : ℕ) (g : Given) → id < 2 ^ 32 → MayGive w max g → Q (sent_on id g)
  given_fits w id (Send t) s m = record { kind = kind_written t.kind m.1; stream = s; time = m.3; short = omega (arith, m.2, most); fits = m.2; sized = sizes_nothing (sent_on id (Send t)) (not_one t.kind m.1) }
  given_fits w id Finish s m = command_fits 0 (deletes id) (omega arith) (omega (arith, deletes_length id))

  every_gave : (w : Wish) (id from to : ℕ) (T : List Gave) → id < 2 ^ 32 → Follow w max from to T → EverySaid Q (map (gave_on id) T)
  every_gave w id from to [] s f = tt
  every_gave w id from to (g ∷ T) s f = ((given_fits w id g.given s f.1, tt), every_gave w id g.at to T s f.3)

  every_given : (k : Asked) (id n : ℕ) (ms : List (ℕ × Message)) (T : List Gave) → id < 2 ^ 32 → AreGiven k max n ms T → EverySaid Q (map (gave_on id) T)
  every_given k id n ms [] s g = tt
  every_given k id n ms (x ∷ T) s g = every_gave k.wish id (hand_bytes + g.0) (hand_bytes + n) (x ∷ T) s g.2

  -- ---- what is said

  module _ (k : Asked) (named : IsNamed k) where
    asks_fit : (id : ℕ) → id < 2 ^ 32 → Q (ask k id)
    asks_fit id s = command_fits id (asks k.wish k.name) s (omega (arith, asks_short k.wish k.name, named.name))

    connect_fits : Q (connect k)
    connect_fits = command_fits 0 (connects k) (omega arith) (omega (arith, connects_length k, named.address, named.app))

    create_fits : Q create_stream
    create_fits = command_fits 0 creates (omega arith) (omega (arith, creates_length))

    pong_fits : (c : Control) → Every Q (pongs (ping_answer_of c))
    pong_fits (ChunkSize size) = tt
    pong_fits (Abort id) = tt
    pong_fits (Acknowledgement count) = tt
    pong_fits (User event value) = by_event (event == 6)
      where
        by_event : (b : Bool) → Every Q (pongs (if b then Some (User 7 value) else None))
        by_event true = (user_fits value, tt)
        by_event false = tt
    pong_fits (Window size) = tt
    pong_fits (Bandwidth size limit) = tt

    id_says : (b : Bool) (bits : ℕ) → is_id bits ≡ b → Every Q (if b then record { phase = Asking (whole bits); says = ask k (whole bits) ∷ [] } else stays Creating).says
    id_says true bits e = (asks_fit (whole bits) (id_small (pattern (whole bits) == bits) (nat_lt 0 (whole bits)) (nat_lt (whole bits) (2 ^ 32)) (whole bits) e refl), tt)
    id_says false bits e = tt

    created_says : (v : Option ℕ) → Every Q (created k v).says
    created_says None = tt
    created_says (Some bits) = id_says (is_id bits) bits refl

    connected_says : (b : Bool) → Every Q (if b then record { phase = Creating; says = chunk_size ∷ create_stream ∷ [] } else stays Connecting).says
    connected_says true = (size_fits, (create_fits, tt))
    connected_says false = tt

    then_says : (b : Bool) (v : Option ℕ) → Every Q (if b then created k v else stays Creating).says
    then_says true v = created_says v
    then_says false v = tt

    started_says : (id : ℕ) (b : Bool) → Every Q (if b then stays (Started id) else stays (Asking id)).says
    started_says id true = tt
    started_says id false = tt

    news_says : (p : Phase) (n : News) → Every Q (learns k p n).says
    news_says Connecting (Done n v) = connected_says (n == pattern 1)
    news_says Connecting (Refused code description) = tt
    news_says Connecting (Status code) = tt
    news_says Connecting Other = tt
    news_says Creating (Done n v) = then_says (n == pattern 2) v
    news_says Creating (Refused code description) = tt
    news_says Creating (Status code) = tt
    news_says Creating Other = tt
    news_says (Asking id) (Done n v) = tt
    news_says (Asking id) (Refused code description) = tt
    news_says (Asking id) (Status code) = started_says id (is_text code (start_code k.wish))
    news_says (Asking id) Other = tt
    news_says (Started id) n = tt

    read_says : (p : Phase) (r : Result News CommandFail) → Every Q (learns_by k p r).says
    read_says p (Ok n) = news_says p n
    read_says p (Err e) = tt

    kind_says : (p : Phase) (b : Bool) (r : Result News CommandFail) → Every Q (if b then learns_by k p r else stays p).says
    kind_says p true r = read_says p r
    kind_says p false r = tt

    by_says : (p : Phase) (m : Message) (r : Result (Option Control) BadControl) → Every Q (does_by k p m r).says
    by_says p m (Ok None) = kind_says p (m.kind == 20) (news_in m.body)
    by_says p m (Ok (Some c)) = pong_fits c
    by_says p m (Err e) = tt

    every_said : (p : Phase) (ms : List (ℕ × Message)) → EverySaid Q (said_after k p ms)
    unfolding said_after does
    every_said p [] = tt
    every_said p (m ∷ ms) = (by_says p m.1 (control_in m.1), every_said (does k p m.1).phase ms)

    -- ---- all that is owed

    are_readable : (ms : List Message) → Every Q ms → AreReadable max ms
    are_readable [] h = tt
    are_readable (m ∷ ms) h = (h.0, are_readable ms h.1)

    every_at : (n j : ℕ) (ms : List (ℕ × Message)) (T : List Gave) → AreGiven k max n ms T → Every Q (at_count k ms T j)
    unfolding at_count
    every_at n j ms T g =
        let id = id_of (phase_of k ms) in
        every_join Q (acks_at first_window ms j) (says_at j (said_after k Connecting ms) ++ says_at j (map (gave_on id) T)) (every_acks Q first_window j ms ack_fits)
        (every_join Q (says_at j (said_after k Connecting ms)) (says_at j (map (gave_on id) T)) (every_says Q j (said_after k Connecting ms) (every_said Connecting ms))
        (every_says Q j (map (gave_on id) T) (every_given k id n ms T (after_small k Connecting ms (omega arith)) g)))

    pub owed_readable : (n : ℕ) (ms : List (ℕ × Message)) (T : List Gave) → AreGiven k max n ms T → AreReadable max (owed k n ms T)
    unfolding owed
    owed_readable n ms T g = (connect_fits, are_readable (upto (at_count k ms T) n) (every_upto Q (at_count k ms T) n (λ j. every_at n j ms T g)))
