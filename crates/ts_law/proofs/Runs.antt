-- The packets of one PES packet, read back
use Rattle.std.proofs.Common.{◌≡◌, ℕ, zero, suc, ◌+◌, ◌-◌, ◌%◌, ◌<◌, ◌≤◌, Bool, true, false, List, [], ◌∷◌, ◌++◌, length, take, drop, Option, Some, None, is_some, Ok, refl, sym, ap, ◌∙◌, subst, arith, eq-eqb, append_assoc, append-nil, length-append, length-drop, length-take}
use Rattle.std.specs.Prelude.{◌||◌, if◌then◌else◌}
use Rattle.std.specs.Option.{option_to_list}
use Rattle.std.proofs.lemmas.List.{drop-append-le, drop_at, take-append-drop}
use Rattle.pes_packets.specs.declared.flags.PesFlags.{PesFlags}
use Rattle.pes_packets.specs.Packet.{counted as counted_by, cuts, packet, packets, pes_text, room, runs_of, silent, told}
use Rattle.pes_packets.proofs.Bits.{silent_room, told_length, told_size}
use Rattle.pes_packets.proofs.Cuts.{next_cut}
use Rattle.ts_reader.specs.declared.unit.TsUnit.{TsUnit}
use Rattle.ts_reader.specs.Fields.{counter_in, is_plain, is_synced, payload_at, pid_in, starts}
use Rattle.ts_reader.specs.Times.{Told, header_of}
use Rattle.ts_reader.specs.Mux.{Mux, Opened, kept, next}
use Rattle.ts_reader.specs.Steps.{closed, continued, counted, first_step, more_step, on_clock, pes_step, pid_step, same, step, with_more}
use Rattle.ts_reader.specs.Reads.{Packets}
use Rattle.ts_reader.specs.Reads.Packets.{more}
use Rattle.ts_law.specs.Packets.{IsPacket}
use Rattle.ts_writer.specs.Parts.{pid_of}
use Rattle.ts_law.specs.Leads.{Leads, counter_of, lists, moved}
use Rattle.ts_law.specs.Pes.{IsHeader, told_of}
use Rattle.ts_law.proofs.Packets.{packet_back}

-- nothing, one packet, and two runs of bytes
pub leads_none : (n : ℕ) (m : Mux) → Leads n m [] [] m
leads_none n m = record {
  on = λ before given l x.
      (let P : List ℕ → Type 0 = λ b. Packets b (given ++ []) m in
      let Q : List TsUnit → Type 0 = λ us. Packets before us m in
      subst P (sym (append-nil before)) (subst Q (sym (append-nil given)) x));
}

pub leads_one : (n : ℕ) (m new : Mux) (p : List ℕ) (u : Option TsUnit) → length p ≡ 188 → step n m p ≡ Ok (u, new) → Leads n m p (option_to_list u) new
leads_one n m new p u size does = record {
  on = λ before given l x.
      (let P : ℕ → Type 0 = λ k. step k m p ≡ Ok (u, new) in
      more before given m p u new x size (subst P (sym l) does));
}

pub leads_then : (n k : ℕ) (m mid new : Mux) (b c : List ℕ) (us vs : List TsUnit) → Leads n m b us mid → k ≡ n + length b → Leads k mid c vs new → Leads n m (b ++ c) (us ++ vs) new
leads_then n k m mid new b c us vs f e g = record {
  on = λ before given l x.
      (let y = g.on (before ++ b) (given ++ us) (length-append before b ∙ omega arith) (f.on before given l x) in
      let P : List ℕ → Type 0 = λ z. Packets z (given ++ (us ++ vs)) new in
      let Q : List TsUnit → Type 0 = λ z. Packets ((before ++ b) ++ c) z new in
      subst P (append_assoc before b c) (subst Q (append_assoc given us vs) y));
}

-- the tests before a packet is looked at by its PID
pub step_is : (n : ℕ) (m : Mux) (p : List ℕ) → is_synced p ≡ true → counter_in p ≡ kept m (pid_in p) → step n m p ≡ pid_step n m p
unfolding step
step_is n m p s c = rw (s, eq-eqb (counter_in p) (kept m (pid_in p)) c) refl

pid_by : (video : Bool) (n : ℕ) (m : Mux) (p : List ℕ) → pid_in p ≡ pid_of video → lists video m ≡ true → pid_step n m p ≡ pes_step video n m p
unfolding pid_step
pid_by true n m p e l = rw (e, l) refl
pid_by false n m p e l = rw (e, l) refl

kept_is : (video : Bool) (m : Mux) (p : List ℕ) → pid_in p ≡ pid_of video → kept m (pid_in p) ≡ counter_of video m
kept_is true m p e = rw e refl
kept_is false m p e = rw e refl

-- a packet of a stream
on_stream : (video start clock : Bool) (n : ℕ) (m : Mux) (payload p : List ℕ) → IsPacket (pid_of video) (counter_of video m) start clock payload p → lists video m ≡ true
    → step n m p ≡ pes_step video n m p
on_stream video start clock n m payload p is l =
    step_is n m p is.synced (is.counter_is ∙ sym (kept_is video m p is.pid_is)) ∙ pid_by video n m p is.pid_is l

more_is : (video : Bool) (n : ℕ) (m : Mux) (p : List ℕ) → is_plain p ≡ true → starts p ≡ false → pes_step video n m p ≡ more_step video n m p
unfolding pes_step
more_is video n m p a b = rw (a, b) refl

first_is : (video : Bool) (n : ℕ) (m : Mux) (p : List ℕ) → is_plain p ≡ true → starts p ≡ true → pes_step video n m p ≡ first_step video n m p
unfolding pes_step
first_is video n m p a b = rw (a, b) refl

same_is : (video : Bool) → same video video ≡ true
same_is true = refl
same_is false = refl

-- one that goes on with the open PES packet
continued_is : (video : Bool) (n k : ℕ) (p : List ℕ) (o : Opened) → o.unit.video ≡ video → payload_at false p ≡ Some k → continued video n p o ≡ Ok (with_more o (drop k p))
unfolding continued
continued_is video n k p o v e =
    let s : same video o.unit.video ≡ true = ap (same video) v ∙ same_is video in
    rw (s, e) refl

more_does : (video : Bool) (n k : ℕ) (m : Mux) (p : List ℕ) (o : Opened) → m.pes ≡ Some o → o.unit.video ≡ video → payload_at false p ≡ Some k
    → more_step video n m p ≡ Ok (None, counted video m (Some (with_more o (drop k p))))
unfolding more_step
more_does video n k m p o is v e = rw (is, continued_is video n k p o v e) refl

-- no packet leaves what there was
with_none : (o : Opened) → with_more o [] ≡ o
with_none o = ap (λ (b : List ℕ). record { at = o.at; length = o.length; unit = record { video = o.unit.video; pts = o.unit.pts; dts = o.unit.dts; payload = b } }) (append-nil o.unit.payload)

moved_none : (video : Bool) (m : Mux) (o : Opened) → counter_of video m < 16 → m.pes ≡ Some o → moved video 0 m (Some (with_more o [])) ≡ m
moved_none true m o c is =
    let e : counted_by m.video 0 ≡ m.video = omega arith in
    ap (λ (k : ℕ). record m { video = k; pes = Some (with_more o []) }) e
    ∙ ap (λ (x : Option Opened). record m { pes = x }) (ap Some (with_none o) ∙ sym is)
moved_none false m o c is =
    let e : counted_by m.audio 0 ≡ m.audio = omega arith in
    ap (λ (k : ℕ). record m { audio = k; pes = Some (with_more o []) }) e
    ∙ ap (λ (x : Option Opened). record m { pes = x }) (ap Some (with_none o) ∙ sym is)

-- one packet, and so many behind it
pub moved_more : (video : Bool) (n : ℕ) (m : Mux) (o p : Option Opened) → moved video n (counted video m o) p ≡ moved video (suc n) m p
moved_more true n m o p = ap (λ (k : ℕ). record m { video = k; pes = p }) (omega arith)
moved_more false n m o p = ap (λ (k : ℕ). record m { audio = k; pes = p }) (omega arith)

with_both : (o : Opened) (a b c : List ℕ) → a ++ b ≡ c → with_more (with_more o a) b ≡ with_more o c
with_both o a b c e =
    ap (λ (x : List ℕ). record { at = o.at; length = o.length; unit = record { video = o.unit.video; pts = o.unit.pts; dts = o.unit.dts; payload = x } })
    (append_assoc o.unit.payload a b ∙ ap (λ (x : List ℕ). o.unit.payload ++ x) e)

counter_next : (video : Bool) (m : Mux) (o : Option Opened) → counter_of video (counted video m o) ≡ next (counter_of video m)
counter_next true m o = refl
counter_next false m o = refl

lists_still : (video : Bool) (m : Mux) (o : Option Opened) → lists video (counted video m o) ≡ lists video m
lists_still true m o = refl
lists_still false m o = refl

pes_now : (video : Bool) (m : Mux) (o : Option Opened) → (counted video m o).pes ≡ o
pes_now true m o = refl
pes_now false m o = refl

pid_small : (video : Bool) → pid_of video < 8192
pid_small true = omega arith
pid_small false = omega arith

-- a packet more
one_more : (video : Bool) (n c : ℕ) (m : Mux) (o : Opened) (run : List ℕ) → counter_of video m ≡ c → c < 16 → lists video m ≡ true → m.pes ≡ Some o → o.unit.video ≡ video
    → 1 ≤ length run → length run ≤ 184 → Leads n m (packet (pid_of video) c false silent run) [] (counted video m (Some (with_more o run)))
one_more video n c m o run e small l is v some most =
    let p : List ℕ = packet (pid_of video) c false silent run in
    let back : IsPacket (pid_of video) c false false run p = packet_back (pid_of video) c false silent run (pid_small video) small some (omega (arith, silent_room)) in
    let P : ℕ → Type 0 = λ k. IsPacket (pid_of video) k false false run p in
    let there = subst P (sym e) back in
    let does = on_stream video false false n m run p there l ∙ more_is video n m p back.plain back.start_is ∙ more_does video n (188 - length run) m p o is v back.place in
    let Q : List ℕ → Type 0 = λ b. step n m p ≡ Ok (None, counted video m (Some (with_more o b))) in
    leads_one n m (counted video m (Some (with_more o run))) p None back.size (subst Q back.payload_is does)

pub packet_size_is : (pid c : ℕ) (start : Bool) (f : PesFlags) (run : List ℕ) → pid < 8192 → c < 16 → 1 ≤ length run → length run ≤ room f → length (packet pid c start f run) ≡ 188
packet_size_is pid c start f run p n some fits = (packet_back pid c start f run p n some fits).size

-- THE PACKETS BEHIND THE FIRST
pub rest_leads : (most n c : ℕ) (video : Bool) (m : Mux) (o : Opened) (b : List ℕ) → length b ≤ most → counter_of video m ≡ c → c < 16 → lists video m ≡ true → m.pes ≡ Some o → o.unit.video ≡ video
    → Leads n m (packets (pid_of video) c false silent (cuts most 184 b)) [] (moved video (length (cuts most 184 b)) m (Some (with_more o b)))
unfolding cuts packets
rest_leads zero n c video m o [] few e small l is v =
    let P : Mux → Type 0 = λ x. Leads n m [] [] x in
    subst P (sym (moved_none video m o (omega (arith, e)) is)) (leads_none n m)
rest_leads zero n c video m o (x ∷ xs) few e small l is v = absurd (omega arith)
rest_leads (suc most) n c video m o [] few e small l is v =
    let P : Mux → Type 0 = λ x. Leads n m [] [] x in
    subst P (sym (moved_none video m o (omega (arith, e)) is)) (leads_none n m)
rest_leads (suc most) n c video m o (x ∷ xs) few e small l is v =
    let run : List ℕ = take 184 (x ∷ xs) in
    let left : List ℕ = drop 184 (x ∷ xs) in
    let some : 1 ≤ length run = omega (arith, length-take 184 (x ∷ xs)) in
    let fits : length run ≤ 184 = omega (arith, length-take 184 (x ∷ xs)) in
    let mid : Mux = counted video m (Some (with_more o run)) in
    let first = one_more video n c m o run e small l is v some fits in
    let size = packet_size_is (pid_of video) c false silent run (pid_small video) small some (omega (arith, silent_room)) in
    let behind = rest_leads most (n + 188) ((c + 1) % 16) video mid (with_more o run) left (omega (arith, length-drop 184 (x ∷ xs)))
    (counter_next video m (Some (with_more o run)) ∙ ap next e) (omega arith) (lists_still video m (Some (with_more o run)) ∙ l) (pes_now video m (Some (with_more o run))) v in
    let more_runs : ℕ = length (cuts most 184 left) in
    let all : moved video more_runs mid (Some (with_more (with_more o run) left)) ≡ moved video (suc more_runs) m (Some (with_more o (x ∷ xs))) =
    moved_more video more_runs m (Some (with_more o run)) (Some (with_more (with_more o run) left))
    ∙ ap (λ (y : Opened). moved video (suc more_runs) m (Some y)) (with_both o run left (x ∷ xs) (take-append-drop 184 (x ∷ xs))) in
    let P : Mux → Type 0 = λ y. Leads n m (packet (pid_of video) c false silent run ++ packets (pid_of video) ((c + 1) % 16) false silent (cuts most 184 left)) [] y in
    subst P all
    (leads_then n (n + 188) m mid (moved video more_runs mid (Some (with_more (with_more o run) left))) (packet (pid_of video) c false silent run)
    (packets (pid_of video) ((c + 1) % 16) false silent (cuts most 184 left)) [] [] first (omega (arith, size)) behind)

-- the first packet: it ends the PES packet before it
abbrev pub begun_with : Bool → ℕ → Told → List ℕ → Opened
begun_with video n t b = record { at = n; length = t.length; unit = record { video = video; pts = t.pts; dts = t.dts; payload = b } }

first_does : (video : Bool) (n k : ℕ) (m : Mux) (p run : List ℕ) (t : Told) (u : Option TsUnit) → payload_at (on_clock video m) p ≡ Some k → drop k p ≡ run
    → header_of video run ≡ Some t → closed m.pes ≡ Ok u → first_step video n m p ≡ Ok (u, counted video m (Some (begun_with video n t (drop t.size run))))
unfolding first_step
first_does video n k m p run t u at is h c = rw (at, is, h, c) refl

one_first : (video : Bool) (n c : ℕ) (m : Mux) (f : PesFlags) (run : List ℕ) (t : Told) (u : Option TsUnit) → counter_of video m ≡ c → c < 16 → lists video m ≡ true
    → on_clock video m ≡ is_some f.pcr → closed m.pes ≡ Ok u → 1 ≤ length run → length run ≤ room f → header_of video run ≡ Some t
    → Leads n m (packet (pid_of video) c true f run) (option_to_list u) (counted video m (Some (begun_with video n t (drop t.size run))))
one_first video n c m f run t u e small l clock closes some most h =
    let p : List ℕ = packet (pid_of video) c true f run in
    let back = packet_back (pid_of video) c true f run (pid_small video) small some most in
    let P : ℕ → Type 0 = λ k. IsPacket (pid_of video) k true (is_some f.pcr) run p in
    let there = subst P (sym e) back in
    let place : payload_at (on_clock video m) p ≡ Some (188 - length run) = ap (λ (b : Bool). payload_at b p) clock ∙ back.place in
    let does = on_stream video true (is_some f.pcr) n m run p there l ∙ first_is video n m p back.plain back.start_is
    ∙ first_does video n (188 - length run) m p run t u place back.payload_is h closes in
    leads_one n m (counted video m (Some (begun_with video n t (drop t.size run)))) p u back.size does

-- a first packet has room for a header
room_by : (o : Option ℕ) (t : Bool) (n : ℕ) → n ≡ told_size o → 176 ≤ (if is_some o || t then 183 - n else 184)
room_by None true n e = omega arith
room_by None false n e = omega arith
room_by (Some base) t n e = omega arith

room_some : (f : PesFlags) → 176 ≤ room f
unfolding room
room_some f = room_by f.pcr (f.random || f.jump) (length (told f)) (told_length f)

take_past : (h b : List ℕ) (n : ℕ) → length h ≤ n → take n (h ++ b) ≡ h ++ take (n - length h) b
take_past [] b n e = let z : n ≡ n - length {A = ℕ} [] = omega arith in ap (λ (k : ℕ). take k b) z
take_past (x ∷ h) b zero e = absurd (omega arith)
take_past (x ∷ h) b (suc n) e =
    let z : n - length h ≡ suc n - length (x ∷ h) = omega arith in
    ap (λ (y : List ℕ). x ∷ y) (take_past h b n (omega arith) ∙ ap (λ (k : ℕ). h ++ take k b) z)

-- what is behind a header that stands before the first cut
drop_cut : (k n : ℕ) (b : List ℕ) → k ≤ length (take n b) → drop k (take n b) ++ drop n b ≡ drop k b
drop_cut k n b e = sym (drop-append-le k (take n b) (drop n b) e) ∙ ap (drop k) (take-append-drop n b)

cut_first : (f : PesFlags) (pid c : ℕ) (pes : List ℕ) → 0 < length pes
    → pes_text pid c f pes ≡ packet pid c true f (take (room f) pes) ++ packets pid ((c + 1) % 16) false silent (cuts (length (drop (room f) pes)) 184 (drop (room f) pes))
unfolding packets
cut_first f pid c pes some = rw (next_cut (room f) pes (omega (arith, room_some f)) some) refl

runs_count : (f : PesFlags) (pes : List ℕ) → 0 < length pes → length (runs_of f pes) ≡ suc (length (cuts (length (drop (room f) pes)) 184 (drop (room f) pes)))
runs_count f pes some = ap length (next_cut (room f) pes (omega (arith, room_some f)) some)

-- THE PACKETS OF A PES PACKET
pub pes_leads : (video : Bool) (n c : ℕ) (m : Mux) (f : PesFlags) (h payload : List ℕ) (pts dts len size : ℕ) (u : Option TsUnit)
    → counter_of video m ≡ c → c < 16 → lists video m ≡ true → on_clock video m ≡ is_some f.pcr → closed m.pes ≡ Ok u
    → IsHeader video h pts dts len size → 0 < size → size ≤ 176
    → Leads n m (pes_text (pid_of video) c f (h ++ payload)) (option_to_list u)
    (moved video (length (runs_of f (h ++ payload))) m (Some (begun_with video n (told_of pts dts len size) payload)))
pes_leads video n c m f h payload pts dts len size u e small l clock closes head some_head short =
    let t : Told = told_of pts dts len size in
    let size_is = head.size_is in
    let pes : List ℕ = h ++ payload in
    let some : 0 < length pes = omega (arith, length-append h payload) in
    let run : List ℕ = take (room f) pes in
    let left : List ℕ = drop (room f) pes in
    let room_is = room_some f in
    let run_size = length-take (room f) pes in
    let front : run ≡ h ++ take (room f - length h) payload = take_past h payload (room f) (omega arith) in
    let long : length h ≤ length run = omega (arith, ap length front, length-append h (take (room f - length h) payload)) in
    let read : header_of video run ≡ Some t = ap (header_of video) front ∙ head.read (take (room f - length h) payload) in
    let o : Opened = begun_with video n t (drop t.size run) in
    let mid : Mux = counted video m (Some o) in
    let first = one_first video n c m f run t u e small l clock closes (omega arith) (omega arith) read in
    let whole = packet_size_is (pid_of video) c true f run (pid_small video) small (omega arith) (omega arith) in
    let behind = rest_leads (length left) (n + 188) ((c + 1) % 16) video mid o left (omega arith)
    (counter_next video m (Some o) ∙ ap next e) (omega arith) (lists_still video m (Some o) ∙ l) (pes_now video m (Some o)) refl in
    let more_runs : ℕ = length (cuts (length left) 184 left) in
    let all : drop t.size run ++ left ≡ payload =
    ap (λ (k : ℕ). drop k run ++ left) (sym head.size_is) ∙ drop_cut (length h) (room f) pes long ∙ drop_at h payload (length h) refl in
    let ends : moved video more_runs mid (Some (with_more o left)) ≡ moved video (length (runs_of f pes)) m (Some (begun_with video n t payload)) =
    moved_more video more_runs m (Some o) (Some (with_more o left))
    ∙ ap (λ (b : List ℕ). moved video (suc more_runs) m (Some (begun_with video n t b))) all
    ∙ ap (λ (k : ℕ). moved video k m (Some (begun_with video n t payload))) (sym (runs_count f pes some)) in
    let both = leads_then n (n + 188) m mid (moved video more_runs mid (Some (with_more o left))) (packet (pid_of video) c true f run)
    (packets (pid_of video) ((c + 1) % 16) false silent (cuts (length left) 184 left)) (option_to_list u) [] first (omega (arith, whole)) behind in
    let P : List ℕ → Type 0 = λ b. Leads n m b (option_to_list u) (moved video (length (runs_of f pes)) m (Some (begun_with video n t payload))) in
    let Q : Mux → Type 0 = λ x. Leads n m (packet (pid_of video) c true f run ++ packets (pid_of video) ((c + 1) % 16) false silent (cuts (length left) 184 left)) (option_to_list u) x in
    let R : List TsUnit → Type 0 = λ us. Leads n m (packet (pid_of video) c true f run ++ packets (pid_of video) ((c + 1) % 16) false silent (cuts (length left) 184 left)) us
    (moved video more_runs mid (Some (with_more o left))) in
    subst P (sym (cut_first f (pid_of video) c pes some)) (subst Q ends (subst R (append-nil (option_to_list u)) both))
