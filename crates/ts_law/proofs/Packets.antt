-- A packet, read back
use Rattle.std.proofs.Common.{◌≡◌, ℕ, zero, suc, ◌+◌, ◌-◌, ◌*◌, ◌/◌, ◌%◌, ◌<◌, ◌≤◌, Bool, true, false, nat_lt, List, [], ◌∷◌, ◌++◌, length, take, drop, replicate, Option, Some, None, is_some, refl, sym, ap, ◌∙◌, subst, arith, length-append}
use Rattle.std.specs.Prelude.{◌==◌, ◌||◌, if◌then◌else◌}
use Rattle.std.specs.List.{list_all}
use Rattle.std.proofs.lemmas.Bool.Decides.{nat_tests}
use Rattle.std.proofs.lemmas.List.{drop_at, take_at, length-replicate}
use Rattle.pes_packets.specs.declared.flags.PesFlags.{PesFlags}
use Rattle.pes_packets.specs.Packet.{adaptation, bit, control_of, head_bytes, packet, room, told}
use Rattle.pes_packets.proofs.Bits.{head_is, room_most, told_fits, told_length, told_size}
use Rattle.ts_reader.specs.Fields.{control_in, counter_in, field_length, is_plain, is_stuffed, is_synced, passed_over, payload_at, pid_in, starts}
use Rattle.ts_law.specs.Packets.{IsPacket}

-- the four bytes before adaptation field and payload
abbrev front : Bool → ℕ → ℕ → ℕ → List ℕ → List ℕ
front start pid control counter rest = 71 ∷ (bit start * 64 + pid / 256 % 256) ∷ (pid % 256) ∷ (control * 16 + counter) ∷ rest

pub front_is : (start : Bool) (pid control counter : ℕ) (rest : List ℕ) → pid < 8192 → control < 4 → counter < 16
    → head_bytes start pid control counter ++ rest ≡ front start pid control counter rest
front_is start pid control counter rest p c n =
    ap (λ (h : List ℕ). h ++ rest) (sym (head_is start pid control counter (bit start * 64) (pid / 256 % 256) (pid % 256) p c n refl refl refl))

-- what its fields are
pub record Fronts (start : Bool) (pid control counter : ℕ) (p : List ℕ) : Type 0 where
  pub synced : is_synced p ≡ true
  pub plain : is_plain p ≡ true
  pub start_is : starts p ≡ start
  pub pid_is : pid_in p ≡ pid
  pub control_is : control_in p ≡ control
  pub counter_is : counter_in p ≡ counter

pub fronts : (start : Bool) (pid control counter : ℕ) (rest : List ℕ) → pid < 8192 → control < 4 → counter < 16
    → Fronts start pid control counter (front start pid control counter rest)
fronts true pid control counter rest p c n =
    let high : pid / 256 % 256 < 32 = omega arith in
    record {
      synced = refl;
      plain = grind (arith, nat_tests);
      start_is = grind (arith, nat_tests);
      pid_is = omega arith;
      control_is = omega arith;
      counter_is = omega arith;
    }
fronts false pid control counter rest p c n =
    let high : pid / 256 % 256 < 32 = omega arith in
    record {
      synced = refl;
      plain = grind (arith, nat_tests);
      start_is = grind (arith, nat_tests);
      pid_is = omega arith;
      control_is = omega arith;
      counter_is = omega arith;
    }

-- the place of a payload alone
alone_at : (p : List ℕ) → control_in p ≡ 1 → payload_at false p ≡ Some 4
unfolding payload_at
alone_at p e = rw e refl

-- the place of one behind a field
behind_at : (clock : Bool) (p : List ℕ) → control_in p ≡ 3 → field_length p ≤ 182 → (clock ≡ true → 7 ≤ field_length p) → is_stuffed clock p ≡ true
    → payload_at clock p ≡ Some (5 + field_length p)
unfolding payload_at
behind_at true p e most long stuffed =
    let l = long refl in
    let t1 : nat_lt 182 (field_length p) ≡ false = grind (arith, nat_tests) in
    let t2 : nat_lt (field_length p) 7 ≡ false = grind (arith, nat_tests) in
    rw (e, t1, t2, stuffed) refl
behind_at false p e most long stuffed =
    let t1 : nat_lt 182 (field_length p) ≡ false = grind (arith, nat_tests) in
    rw (e, t1, stuffed) refl

all_stuffed : (n : ℕ) → list_all (λ b. b == 255) (replicate n 255) ≡ true
all_stuffed zero = refl
all_stuffed (suc n) = all_stuffed n

-- a field whose flags, and clock reference where there is one, are before its stuffing
stuffed_is : (clock : Bool) (h0 h1 h2 h3 n k : ℕ) (t payload : List ℕ) → length t ≡ passed_over clock → n ≡ length t + k
    → is_stuffed clock (h0 ∷ h1 ∷ h2 ∷ h3 ∷ n ∷ ((t ++ replicate k 255) ++ payload)) ≡ true
stuffed_is clock h0 h1 h2 h3 n k t payload l e =
    let field : List ℕ = t ++ replicate k 255 in
    let size : length field ≡ n = length-append t (replicate k 255) ∙ omega (arith, length-replicate {A = ℕ} k 255) in
    let front : take n (field ++ payload) ≡ field = take_at field payload n size in
    let behind : drop (passed_over clock) field ≡ replicate k 255 = drop_at t (replicate k 255) (passed_over clock) l in
    ap (λ (b : List ℕ). list_all (λ x. x == 255) (drop (passed_over clock) b)) front ∙ ap (λ (b : List ℕ). list_all (λ x. x == 255) b) behind ∙ all_stuffed k

-- a packet from its parts
made : (pid counter control : ℕ) (start clock : Bool) (a payload p : List ℕ) → pid < 8192 → control < 4 → counter < 16
    → p ≡ front start pid control counter (a ++ payload) → length a + length payload ≡ 184 → payload_at clock p ≡ Some (4 + length a)
    → IsPacket pid counter start clock payload p
made pid counter control start clock a payload p small c n is size at =
    let f = fronts start pid control counter (a ++ payload) small c n in
    let l = length-append a payload in
    let place : 188 - length payload ≡ 4 + length a = omega arith in
    let P : List ℕ → Type 0 = λ x. IsPacket pid counter start clock payload x in
    let whole : length (front start pid control counter (a ++ payload)) ≡ 188 = omega arith in
    let behind : drop (188 - length payload) (front start pid control counter (a ++ payload)) ≡ payload =
    drop_at (front start pid control counter a) payload (188 - length payload) (omega arith) in
    subst P (sym is)
    (record {
      size = whole;
      synced = f.synced;
      plain = f.plain;
      start_is = f.start_is;
      pid_is = f.pid_is;
      counter_is = f.counter_is;
      place = ap (payload_at clock) (sym is) ∙ at ∙ ap Some (sym place);
      payload_is = behind;
    })

-- flags that tell a clock reference leave room for it
clock_size : (f : PesFlags) (clock : Bool) → is_some f.pcr ≡ clock → length (told f) ≡ passed_over clock
clock_size f clock e = told_length f ∙ size_by f.pcr clock e where
  size_by : (o : Option ℕ) (clock : Bool) → is_some o ≡ clock → told_size o ≡ passed_over clock
  size_by None true e = absurd (cc)
  size_by None false e = refl
  size_by (Some base) true e = refl
  size_by (Some base) false e = absurd (cc)

-- and they leave no room for more than 176 bytes
clock_room : (o : Option ℕ) (t : Bool) (n : ℕ) → is_some o ≡ true → n ≡ told_size o → (if is_some o || t then 183 - n else 184) ≤ 176
clock_room None t n e h = absurd (cc)
clock_room (Some base) t n e h = omega arith

room_clock : (f : PesFlags) → is_some f.pcr ≡ true → room f ≤ 176
unfolding room
room_clock f e = clock_room f.pcr (f.random || f.jump) (length (told f)) e (told_length f)

none_stuffed : (f : PesFlags) → adaptation f 0 ≡ []
unfolding adaptation
none_stuffed f = refl

one_stuffed : (f : PesFlags) → adaptation f 1 ≡ 0 ∷ []
unfolding adaptation
one_stuffed f = refl

more_stuffed : (f : PesFlags) (size : ℕ) → 2 ≤ size → adaptation f size ≡ (size - 1) ∷ (told f ++ replicate (size - 1 - length (told f)) 255)
unfolding adaptation
more_stuffed f size h =
    let t0 : size == 0 ≡ false = grind (arith, nat_tests) in
    let t1 : size == 1 ≡ false = grind (arith, nat_tests) in
    rw (t0, t1) refl

packet_at : (pid counter size : ℕ) (start : Bool) (f : PesFlags) (payload : List ℕ) → pid < 8192 → control_of size < 4 → counter < 16 → 184 - length payload ≡ size
    → packet pid counter start f payload ≡ front start pid (control_of size) counter (adaptation f size ++ payload)
unfolding packet
packet_at pid counter size start f payload p c n e =
    ap (λ (k : ℕ). head_bytes start pid (control_of k) counter ++ (adaptation f k ++ payload)) e
    ∙ front_is start pid (control_of size) counter (adaptation f size ++ payload) p c n

-- no field
whole_packet : (pid counter : ℕ) (start : Bool) (f : PesFlags) (payload : List ℕ) → pid < 8192 → counter < 16 → length payload ≡ 184 → is_some f.pcr ≡ false
    → IsPacket pid counter start false payload (packet pid counter start f payload)
whole_packet pid counter start f payload p n full none =
    let is : packet pid counter start f payload ≡ front start pid 1 counter ([] ++ payload) =
    packet_at pid counter 0 start f payload p (omega arith) n (omega arith) ∙ ap (λ (a : List ℕ). front start pid 1 counter (a ++ payload)) (none_stuffed f) in
    let control : control_in (packet pid counter start f payload) ≡ 1 = ap control_in is ∙ (fronts start pid 1 counter payload p (omega arith) n).control_is in
    made pid counter 1 start false [] payload (packet pid counter start f payload) p (omega arith) n is (omega arith) (alone_at (packet pid counter start f payload) control)

-- a field that is its length alone
short_packet : (pid counter : ℕ) (start : Bool) (f : PesFlags) (payload : List ℕ) → pid < 8192 → counter < 16 → length payload ≡ 183 → is_some f.pcr ≡ false
    → IsPacket pid counter start false payload (packet pid counter start f payload)
short_packet pid counter start f payload p n full none =
    let is : packet pid counter start f payload ≡ front start pid 3 counter (0 ∷ payload) =
    packet_at pid counter 1 start f payload p (omega arith) n (omega arith) ∙ ap (λ (a : List ℕ). front start pid 3 counter (a ++ payload)) (one_stuffed f) in
    let control : control_in (packet pid counter start f payload) ≡ 3 = ap control_in is ∙ (fronts start pid 3 counter (0 ∷ payload) p (omega arith) n).control_is in
    let len : field_length (packet pid counter start f payload) ≡ 0 = ap field_length is in
    let stuffed : is_stuffed false (packet pid counter start f payload) ≡ true = ap (is_stuffed false) is in
    let at : payload_at false (packet pid counter start f payload) ≡ Some 5 =
    behind_at false (packet pid counter start f payload) control (omega arith) (λ e. absurd (cc)) stuffed ∙ ap (λ (k : ℕ). Some (5 + k)) len in
    made pid counter 3 start false (0 ∷ []) payload (packet pid counter start f payload) p (omega arith) n is (omega arith) at

-- a field with flags
long_packet : (pid counter size : ℕ) (start clock : Bool) (f : PesFlags) (payload : List ℕ) → pid < 8192 → counter < 16 → 184 - length payload ≡ size → 2 ≤ size
    → 1 ≤ length payload → length payload ≤ room f → is_some f.pcr ≡ clock → IsPacket pid counter start clock payload (packet pid counter start f payload)
long_packet pid counter size start clock f payload p n e more some fits c =
    let all = room_most f in
    let t : length (told f) ≤ size - 1 = told_fits f size (omega arith) more in
    let told_is = clock_size f clock c in
    let k : ℕ = size - 1 - length (told f) in
    let field : List ℕ = told f ++ replicate k 255 in
    let field_size : length field ≡ size - 1 = length-append (told f) (replicate k 255) ∙ omega (arith, length-replicate {A = ℕ} k 255) in
    let tests : control_of size ≡ 3 = (let t0 : size == 0 ≡ false = grind (arith, nat_tests) in rw t0 refl) in
    let is : packet pid counter start f payload ≡ front start pid 3 counter (((size - 1) ∷ field) ++ payload) =
    packet_at pid counter size start f payload p (omega (arith, tests)) n e
    ∙ ap (λ (q : ℕ). front start pid q counter (adaptation f size ++ payload)) tests
    ∙ ap (λ (a : List ℕ). front start pid 3 counter (a ++ payload)) (more_stuffed f size more) in
    let control : control_in (packet pid counter start f payload) ≡ 3 =
    ap control_in is ∙ (fronts start pid 3 counter (((size - 1) ∷ field) ++ payload) p (omega arith) n).control_is in
    let len : field_length (packet pid counter start f payload) ≡ size - 1 = ap field_length is in
    let stuffed : is_stuffed clock (packet pid counter start f payload) ≡ true =
    ap (is_stuffed clock) is ∙ stuffed_is clock 71 (bit start * 64 + pid / 256 % 256) (pid % 256) (3 * 16 + counter) (size - 1) k (told f) payload told_is (omega arith) in
    let long : clock ≡ true → 7 ≤ field_length (packet pid counter start f payload) = λ h. (let r = room_clock f (c ∙ h) in omega arith) in
    let at : payload_at clock (packet pid counter start f payload) ≡ Some (5 + (size - 1)) =
    behind_at clock (packet pid counter start f payload) control (omega arith) long stuffed ∙ ap (λ (q : ℕ). Some (5 + q)) len in
    made pid counter 3 start clock ((size - 1) ∷ field) payload (packet pid counter start f payload) p (omega arith) n is (omega arith) (at ∙ ap Some (omega arith))

no_clock : (f : PesFlags) (clock : Bool) → is_some f.pcr ≡ clock → 176 < room f → clock ≡ false
no_clock f true c more = let r = room_clock f c in absurd (omega arith)
no_clock f false c more = refl

-- A PACKET is read as it was written
by_size : (size pid counter : ℕ) (start clock : Bool) (f : PesFlags) (payload : List ℕ) → pid < 8192 → counter < 16 → 184 - length payload ≡ size
    → 1 ≤ length payload → length payload ≤ room f → is_some f.pcr ≡ clock → IsPacket pid counter start clock payload (packet pid counter start f payload)
by_size zero pid counter start clock f payload p n e some fits c =
    let all = room_most f in
    let none = no_clock f clock c (omega arith) in
    let P : Bool → Type 0 = λ b. IsPacket pid counter start b payload (packet pid counter start f payload) in
    subst P (sym none) (whole_packet pid counter start f payload p n (omega arith) (c ∙ none))
by_size (suc zero) pid counter start clock f payload p n e some fits c =
    let all = room_most f in
    let none = no_clock f clock c (omega arith) in
    let P : Bool → Type 0 = λ b. IsPacket pid counter start b payload (packet pid counter start f payload) in
    subst P (sym none) (short_packet pid counter start f payload p n (omega arith) (c ∙ none))
by_size (suc (suc k)) pid counter start clock f payload p n e some fits c =
    long_packet pid counter (suc (suc k)) start clock f payload p n e (omega arith) some fits c

pub packet_back : (pid counter : ℕ) (start : Bool) (f : PesFlags) (payload : List ℕ) → pid < 8192 → counter < 16 → 1 ≤ length payload → length payload ≤ room f
    → IsPacket pid counter start (is_some f.pcr) payload (packet pid counter start f payload)
packet_back pid counter start f payload p n some fits = by_size (184 - length payload) pid counter start (is_some f.pcr) f payload p n refl some fits refl
