-- How long the text of an item is
use Rattle.std.proofs.Common.{◌≡◌, ℕ, zero, suc, ◌+◌, ◌-◌, ◌*◌, ◌%◌, ◌<◌, ◌≤◌, Bool, true, false, List, [], ◌∷◌, ◌++◌, length, take, drop, replicate, Option, Some, None, Result, Ok, Err, refl, sym, ap, ◌∙◌, arith, length-take, length-drop, length-append}
use Rattle.std.specs.Prelude.{◌==◌, ◌&&◌, ◌||◌, nat_lt, is_some, if◌then◌else◌}
use Rattle.std.proofs.lemmas.Bool.Decides.{nat_tests}
use Rattle.std.proofs.lemmas.List.{length-replicate}
use Rattle.av_unit.specs.Classes.{high, low, second_is}
use Rattle.av_unit.specs.declared.unit.Kind.{Kind}
use Rattle.av_unit.specs.declared.unit.Kind.TheVariants.{Meta, VConfig, AConfig, Key, Inter, Spare, Audio, Data}
use Rattle.av_unit.specs.declared.item.Item.{Item}
use Rattle.av_unit.specs.declared.item.Item.TheVariants.{Begin, Unit as AUnit, End}
use Rattle.avc_annexb.specs.declared.fail.AvcFail.{AvcFail}
use Rattle.avc_annexb.specs.declared.fail.AvcFail.TheVariants.{Short, PastEnd}
use Rattle.avc_annexb.specs.Nal.{nal_type}
use Rattle.avc_annexb.specs.Prefixed.{units_in, nals_of, front_of}
use Rattle.avc_annexb.specs.AnnexB.{started, annexb, but_delimiters, stream_of, kept_of}
use Rattle.avc_annexb.specs.Record.{Config}
use Rattle.avc_annexb.proofs.Prefixes.{then_found}
use Rattle.aac_adts.specs.declared.fail.AacFail.TheVariants.{TooLong}
use Rattle.aac_adts.specs.Config.{Config as AacConfig}
use Rattle.pes_packets.specs.declared.flags.PesFlags.{PesFlags}
use Rattle.pes_packets.specs.Packet.{head_bytes, adaptation, room, packet, cuts, packets, silent, told, section_text, pes_text, control_of}
use Rattle.pes_packets.specs.Header.{header, start_bytes, flag_bytes, time_bytes}
use Rattle.pes_packets.specs.Tables.{pat, pmt, pat_pid, pmt_pid}
use Rattle.pes_packets.proofs.Bits.{told_fits, told_size, told_length, silent_room, room_most}
use Rattle.ts_writer.specs.declared.left.Left.{Left}
use Rattle.ts_writer.specs.declared.left.Left.TheVariants.{Codec, Avc, Aac}
use Rattle.ts_writer.specs.declared.in_force.InForce.{InForce}
use Rattle.ts_writer.specs.declared.framed.Framed.{Framed}
use Rattle.ts_writer.specs.declared.part.Streams.{Streams}
use Rattle.ts_writer.specs.declared.part.Pes.{Pes as PesOf}
use Rattle.ts_writer.specs.declared.part.Part.{Part}
use Rattle.ts_writer.specs.declared.part.Part.TheVariants.{Tables, Pes}
use Rattle.ts_writer.specs.Frames.{Frame, video_config, audio_config, of_avc, pes_header, pes_of, delimiter, sets_if, access_unit, picture, units_text, some_text, by_config, video_frame, sound, some_raw, by_asc, audio_frame, framed}
use Rattle.ts_writer.specs.Parts.{pid_of, counter, version, part_text, text_behind, tables_due, flags_of}
use Rattle.ts_writer.specs.Text.{Reading, nothing_of, frame_in, reading_of, listed, part_of, frame_parts, parts_by, added}
use Rattle.ts_writer.specs.Held.{IsWithin, IsWithinOrNone, IsSmall, most_added}
use Rattle.pes_packets.proofs.Sections.{pat_is, map_short}
use Rattle.ts_writer.proofs.Sizes.{front_whole, started_length}
use Rattle.ts_writer.proofs.Texts.{small_version, frame_length}

head_length : (start : Bool) (pid control counter : ℕ) → length (head_bytes start pid control counter) ≡ 4
unfolding head_bytes
head_length start pid control counter = refl

adaptation_by : (a b : Bool) (f : PesFlags) (size : ℕ) → (a ≡ true → size ≡ 0) → (a ≡ false → b ≡ true → size ≡ 1) → (a ≡ false → b ≡ false → length (told f) ≤ size - 1) → (a ≡ false → 1 ≤ size)
    → length (if a then [] else (if b then 0 ∷ [] else (size - 1) ∷ (told f ++ replicate (size - 1 - length (told f)) 255))) ≡ size
adaptation_by true b f size h k l m = sym (h refl)
adaptation_by false true f size h k l m = sym (k refl refl)
adaptation_by false false f size h k l m =
    let n = length-append (told f) (replicate (size - 1 - length (told f)) 255) in
    let r = length-replicate {A = ℕ} (size - 1 - length (told f)) 255 in
    let t = l refl refl in
    let u = m refl in
    omega (arith, n, r, t, u)

adaptation_length : (f : PesFlags) (size : ℕ) → 184 ≤ size + room f → length (adaptation f size) ≡ size
unfolding adaptation
adaptation_length f size h =
    adaptation_by (size == 0) (size == 1) f size (λ e. grind (arith, nat_tests)) (λ e g. grind (arith, nat_tests))
    (λ e g. let k : 2 ≤ size = grind (arith, nat_tests) in told_fits f size h k) (λ e. grind (arith, nat_tests))

packet_length : (pid counter : ℕ) (start : Bool) (f : PesFlags) (payload : List ℕ) → length payload ≤ room f → length (packet pid counter start f payload) ≡ 188
unfolding packet
packet_length pid counter start f payload fits =
    let most = room_most f in
    let h = head_length start pid (control_of (184 - length payload)) counter in
    let a = adaptation_length f (184 - length payload) (omega (arith, most)) in
    let n = length-append (head_bytes start pid (control_of (184 - length payload)) counter) (adaptation f (184 - length payload) ++ payload) in
    let m = length-append (adaptation f (184 - length payload)) payload in
    omega (arith, most, h, a, n, m)

-- how many runs bytes are cut into
few_runs : (most : ℕ) (b : List ℕ) → 184 * length (cuts most 184 b) ≤ length b + 183
unfolding cuts
few_runs zero b = omega arith
few_runs (suc most) [] = omega arith
few_runs (suc most) (x ∷ xs) =
    let h = few_runs most (drop 184 (x ∷ xs)) in
    omega (arith, h, length-drop 184 (x ∷ xs))

few_first : (most first : ℕ) (b : List ℕ) → 176 ≤ first → 184 * length (cuts most first b) ≤ length b + 191
unfolding cuts
few_first zero first b some = omega arith
few_first (suc most) first [] some = omega arith
few_first (suc most) first (x ∷ xs) some =
    let h = few_runs most (drop first (x ∷ xs)) in
    omega (arith, h, length-drop first (x ∷ xs))

rest_length : (most pid counter : ℕ) (b : List ℕ) → length (packets pid counter false silent (cuts most 184 b)) ≡ 188 * length (cuts most 184 b)
unfolding cuts packets
rest_length zero pid counter b = refl
rest_length (suc most) pid counter [] = refl
rest_length (suc most) pid counter (x ∷ xs) =
    let p = packet_length pid counter false silent (take 184 (x ∷ xs)) (omega (arith, silent_room, length-take 184 (x ∷ xs))) in
    let r = rest_length most pid ((counter + 1) % 16) (drop 184 (x ∷ xs)) in
    let n = length-append (packet pid counter false silent (take 184 (x ∷ xs))) (packets pid ((counter + 1) % 16) false silent (cuts most 184 (drop 184 (x ∷ xs)))) in
    omega (arith, p, r, n)

first_length : (most pid counter : ℕ) (f : PesFlags) (b : List ℕ) → length (packets pid counter true f (cuts most (room f) b)) ≡ 188 * length (cuts most (room f) b)
unfolding cuts packets
first_length zero pid counter f b = refl
first_length (suc most) pid counter f [] = refl
first_length (suc most) pid counter f (x ∷ xs) =
    let p = packet_length pid counter true f (take (room f) (x ∷ xs)) (omega (arith, length-take (room f) (x ∷ xs))) in
    let r = rest_length most pid ((counter + 1) % 16) (drop (room f) (x ∷ xs)) in
    let n = length-append (packet pid counter true f (take (room f) (x ∷ xs))) (packets pid ((counter + 1) % 16) false silent (cuts most 184 (drop (room f) (x ∷ xs)))) in
    omega (arith, p, r, n)

told_by : (o : Option ℕ) (t : Bool) (n : ℕ) → n ≡ told_size o → 176 ≤ (if is_some o || t then 183 - n else 184)
told_by None true n e = omega arith
told_by None false n e = omega arith
told_by (Some base) t n e = omega arith

room_some : (f : PesFlags) → 176 ≤ room f
unfolding room
room_some f = told_by f.pcr (f.random || f.jump) (length (told f)) (told_length f)

-- the packets of a PES packet
pub pes_length : (pid counter : ℕ) (f : PesFlags) (pes : List ℕ) → 184 * length (pes_text pid counter f pes) ≤ 188 * (length pes + 191)
pes_length pid counter f pes =
    let a = first_length (length pes) pid counter f pes in
    let b = few_first (length pes) (room f) pes (room_some f) in
    omega (arith, a, b)

section_length : (pid counter : ℕ) (section : List ℕ) → length section ≤ 183 → length (section_text pid counter section) ≡ 188
unfolding section_text
section_length pid counter section fits =
    let h = head_length true pid 1 counter in
    let n = length-append (head_bytes true pid 1 counter) (0 ∷ (section ++ replicate (183 - length section) 255)) in
    let m = length-append section (replicate (183 - length section) 255) in
    omega (arith, h, n, m, length-replicate {A = ℕ} (183 - length section) 255)

-- both tables
pub tables_length : (s : Streams) (ps : List Part) → length (part_text ps (Tables s)) ≡ 376
unfolding part_text
tables_length s ps =
    let small = small_version s (version s ps) ps refl in
    let a = section_length pat_pid (counter pat_pid ps) pat (omega (arith, ap length pat_is)) in
    let b = section_length pmt_pid (counter pmt_pid ps) (pmt s.video s.audio (version s ps)) (map_short s.video s.audio (version s ps) small) in
    let n = length-append (section_text pat_pid (counter pat_pid ps) pat) (section_text pmt_pid (counter pmt_pid ps) (pmt s.video s.audio (version s ps))) in
    omega (arith, a, b, n)

pub packets_short : (p : PesOf) (ps : List Part) → 184 * length (part_text ps (Pes p)) ≤ 188 * (length p.bytes + 191)
unfolding part_text
packets_short p ps = pes_length (pid_of p.video) (counter (pid_of p.video) ps) p.flags p.bytes

-- a unit, with tables or without
abbrev pes_part : Streams → Framed → List Part → PesOf
pes_part s f before = record { video = f.video; flags = flags_of s f.video f.random f.dts before; bytes = f.pes }

unit_by : (t : Bool) (s : Streams) (f : Framed) (ps : List Part) → 184 * length (text_behind ps (if t then Tables s ∷ part_of s f (Tables s ∷ ps) ∷ [] else part_of s f ps ∷ [])) ≤ 188 * (length f.pes + 191) + 184 * 376
unfolding text_behind
unit_by true s f ps =
    let a = tables_length s ps in
    let b = packets_short (pes_part s f (Tables s ∷ ps)) (Tables s ∷ ps) in
    let n = length-append (part_text ps (Tables s)) (part_text (Tables s ∷ ps) (part_of s f (Tables s ∷ ps)) ++ []) in
    let m = length-append (part_text (Tables s ∷ ps) (part_of s f (Tables s ∷ ps))) [] in
    omega (arith, a, b, n, m)
unit_by false s f ps =
    let b = packets_short (pes_part s f ps) ps in
    let m = length-append (part_text ps (part_of s f ps)) [] in
    omega (arith, b, m)

pub unit_length : (s : Streams) (f : Framed) (ps : List Part) → 184 * length (text_behind ps (frame_parts s f ps)) ≤ 188 * (length f.pes + 191) + 184 * 376
unit_length s f ps = unit_by (tables_due s f.video f.random ps) s f ps

-- PES headers
header_by : (t : Bool) (a b c : List ℕ) → length a ≡ 6 → length b ≡ 8 → length c ≡ 13 → length (a ++ (if t then b else c)) ≤ 19
header_by true a b c h k l = omega (arith, h, k, length-append a b)
header_by false a b c h k l = omega (arith, h, l, length-append a c)

header_short : (id pts dts len : ℕ) → length (header id pts dts len) ≤ 19
unfolding header start_bytes flag_bytes time_bytes
header_short id pts dts len = header_by (pts == dts) (start_bytes id len) (flag_bytes 2 5 ++ time_bytes 2 pts) (flag_bytes 3 10 ++ (time_bytes 3 pts ++ time_bytes 1 dts)) refl refl refl

pes_header_short : (video : Bool) (pts dts len : ℕ) → length (pes_header video pts dts len) ≤ 19
pes_header_short true pts dts len = header_short 0xE0 pts dts 0
pes_header_short false pts dts len = header_short 0xC0 pts dts (8 + len)

pes_short : (f : Frame) → length (pes_of f) ≤ length f.payload + 19
pes_short f = omega (arith, length-append (pes_header f.video f.pts f.dts (length f.payload)) f.payload, pes_header_short f.video f.pts f.dts (length f.payload))

-- NAL units with start codes
units_short : (f size total nal : ℕ) (b : List ℕ) (units : List (List ℕ)) → 1 ≤ size → units_in f size total nal b ≡ Ok units → 2 * length (annexb units) ≤ 5 * length b
unfolding units_in
units_short zero size total nal b [] some e = omega arith
units_short zero size total nal b (u ∷ units) some e = absurd (cc)
units_short (suc f) size total nal [] [] some e = omega arith
units_short (suc f) size total nal [] (u ∷ units) some e = absurd (cc)
units_short (suc f) size total nal (x ∷ xs) units some e =
    let h = then_found size (front_of (PastEnd (total - length (x ∷ xs))) nal size (x ∷ xs)) (λ rest. units_in f size total (nal + 1) rest) units e in
    let w = front_whole (PastEnd (total - length (x ∷ xs))) nal size (x ∷ xs) h.0.0 h.0.1 h.2 in
    let r = units_short f size total (nal + 1) h.0.1 h.1 some h.3 in
    let n = ap (λ (t : List (List ℕ)). length (annexb t)) h.4 ∙ started_length h.0.0 h.1 in
    omega (arith, w.0, w.1, r, n)

kept_by : (t : Bool) (u : List ℕ) (ns ms : List (List ℕ)) → length (annexb ns) ≤ length (annexb ms) → length (annexb (if t then ns else u ∷ ns)) ≤ length (annexb (u ∷ ms))
kept_by true u ns ms h = omega (arith, h, started_length u ms)
kept_by false u ns ms h = omega (arith, h, started_length u ms, started_length u ns)

kept_shorter : (ns : List (List ℕ)) → length (annexb (but_delimiters ns)) ≤ length (annexb ns)
kept_shorter [] = omega arith
kept_shorter (n ∷ ns) = kept_by (nal_type n == 9) n (but_delimiters ns) ns (kept_shorter ns)

stream_short : (r : Result (List (List ℕ)) AvcFail) (text : List ℕ) (n : ℕ) → stream_of r ≡ Ok text → ((units : List (List ℕ)) → r ≡ Ok units → 2 * length (annexb units) ≤ n) → 2 * length text ≤ n
stream_short (Err f) text n e most = absurd (cc)
stream_short (Ok units) text n e most =
    let t : annexb (but_delimiters units) ≡ text = cc in
    let h = most units refl in
    omega (arith, h, kept_shorter units, ap length t)

kept_short : (size : ℕ) (b text : List ℕ) → 1 ≤ size → kept_of size b ≡ Ok text → 2 * length text ≤ 5 * length b
unfolding nals_of
kept_short size b text some e = stream_short (units_in (length b) size (length b) 0 b) text (5 * length b) e (λ units h. units_short (length b) size (length b) 0 b units some h)

-- pictures
sets_if_short : (key : Bool) (c : Config) → IsWithin 65536 c → 3 * length (sets_if key c) ≤ 327680
sets_if_short true c w = omega (arith, w.text, length-append (annexb c.sps) (annexb c.pps))
sets_if_short false c w = omega arith

access_short : (c : Config) (key : Bool) (text : List ℕ) (n : ℕ) → IsWithin 65536 c → 2 * length text ≤ 5 * n → 6 * length (access_unit c key text) ≤ 15 * n + 655396
access_short c key text n w h =
    let a = length-append (annexb (delimiter ∷ [])) (sets_if key c ++ text) in
    let b = length-append (sets_if key c) text in
    let s = sets_if_short key c w in
    omega (arith, a, b, s, h)

avc_found : (r : Result (List ℕ) AvcFail) (text : List ℕ) → of_avc r ≡ Ok text → r ≡ Ok text
avc_found (Err e) text is = absurd (cc)
avc_found (Ok t) text is = let h : t ≡ text = cc in ap Ok h

units_by : (t : Bool) (c : Config) (body text : List ℕ) → 1 ≤ c.size → (if t then Err (Avc (Short (length body))) else of_avc (kept_of c.size (drop 5 body))) ≡ Ok text → 2 * length text ≤ 5 * length body
units_by true c body text some e = absurd (cc)
units_by false c body text some e =
    let h = kept_short c.size (drop 5 body) text some (avc_found (kept_of c.size (drop 5 body)) text e) in
    omega (arith, h, length-drop 5 body)

units_text_short : (c : Config) (body text : List ℕ) → 1 ≤ c.size → units_text c body ≡ Ok text → 2 * length text ≤ 5 * length body
unfolding units_text
units_text_short c body text some e = units_by (nat_lt (length body) 5) c body text some e

picture_by : (c : Config) (key : Bool) (time : ℕ) (body : List ℕ) (r : Result (List ℕ) Left) (f : Frame) → IsWithin 65536 c → some_text (picture c key time body) r ≡ Ok f
    → ((text : List ℕ) → r ≡ Ok text → 2 * length text ≤ 5 * length body) → 6 * length f.payload ≤ 15 * length body + 655396
picture_by c key time body (Err e) f w is most = absurd (cc)
picture_by c key time body (Ok []) f w is most = absurd (cc)
picture_by c key time body (Ok (x ∷ xs)) f w is most =
    let h : picture c key time body (x ∷ xs) ≡ f = cc in
    let a = access_short c key (x ∷ xs) (length body) w (most (x ∷ xs) refl) in
    omega (arith, a, ap (λ (g : Frame). length g.payload) h)

config_by : (o : Option Config) (key : Bool) (time : ℕ) (body : List ℕ) (f : Frame) → IsWithinOrNone 65536 o → by_config o key time body ≡ Ok f → 6 * length f.payload ≤ 15 * length body + 655396
config_by None key time body f w e = absurd (cc)
config_by (Some c) key time body f w e = picture_by c key time body (units_text c body) f w e (λ text h. units_text_short c body text w.size h)

video_by : (t : Bool) (o : Option Config) (key : Bool) (time : ℕ) (body : List ℕ) (f : Frame) → IsWithinOrNone 65536 o → (if t then by_config o key time body else Err Codec) ≡ Ok f
    → 6 * length f.payload ≤ 15 * length body + 655396
video_by true o key time body f w e = config_by o key time body f w e
video_by false o key time body f w e = absurd (cc)

pub video_short : (o : Option Config) (key : Bool) (time : ℕ) (body : List ℕ) (f : Frame) → IsWithinOrNone 65536 o → video_frame o key time body ≡ Ok f → 6 * length f.payload ≤ 15 * length body + 655396
unfolding video_frame
video_short o key time body f w e = video_by ((low body == 7) && second_is 1 body) o key time body f w e

-- sound
raw_by : (t : Bool) (a : AacConfig) (time : ℕ) (raw : List ℕ) (f : Frame) → (if t then Err (Aac (TooLong (length raw))) else Ok (sound a time raw)) ≡ Ok f → length f.payload ≡ length raw + 7
raw_by true a time raw f e = absurd (cc)
raw_by false a time raw f e =
    let h : sound a time raw ≡ f = cc in
    sym (ap (λ (g : Frame). length g.payload) h) ∙ omega (arith, frame_length a raw)

some_raw_short : (a : AacConfig) (time : ℕ) (raw : List ℕ) (f : Frame) → some_raw a time raw ≡ Ok f → length f.payload ≡ length raw + 7
some_raw_short a time [] f e = absurd (cc)
some_raw_short a time (x ∷ xs) f e = raw_by (nat_lt 8184 (length (x ∷ xs))) a time (x ∷ xs) f e

asc_by : (o : Option AacConfig) (time : ℕ) (body : List ℕ) (f : Frame) → by_asc o time body ≡ Ok f → length f.payload ≤ length body + 7
asc_by None time body f e = absurd (cc)
asc_by (Some a) time body f e = omega (arith, some_raw_short a time (drop 2 body) f e, length-drop 2 body)

audio_by : (t : Bool) (o : Option AacConfig) (time : ℕ) (body : List ℕ) (f : Frame) → (if t then by_asc o time body else Err Codec) ≡ Ok f → length f.payload ≤ length body + 7
audio_by true o time body f e = asc_by o time body f e
audio_by false o time body f e = absurd (cc)

pub audio_short : (o : Option AacConfig) (time : ℕ) (body : List ℕ) (f : Frame) → audio_frame o time body ≡ Ok f → length f.payload ≤ length body + 7
unfolding audio_frame
audio_short o time body f e = audio_by ((high body == 10) && second_is 1 body) o time body f e

-- a unit's text
frame_most : (s : Streams) (f : Frame) (ps : List Part) (n : ℕ) → 6 * length f.payload ≤ 15 * n + 655396 → length (text_behind ps (frame_parts s (framed f) ps)) ≤ 4 * n + 131072
frame_most s f ps n h =
    let u = unit_length s (framed f) ps in
    let p = pes_short f in
    omega (arith, u, p, h)

nothing_most : (ps : List Part) (n : ℕ) → length (text_behind ps []) ≤ n
unfolding text_behind
nothing_most ps n = omega arith

reading_most : (s : Streams) (r : Reading) (ps : List Part) (n : ℕ) → ((f : Frame) → r ≡ Ok (Some f) → 6 * length f.payload ≤ 15 * n + 655396) → length (text_behind ps (parts_by s r ps)) ≤ 4 * n + 131072
reading_most s (Err e) ps n most = nothing_most ps (4 * n + 131072)
reading_most s (Ok None) ps n most = nothing_most ps (4 * n + 131072)
reading_most s (Ok (Some f)) ps n most = frame_most s f ps n (most f refl)

frame_found : (r : Result Frame Left) (f : Frame) → frame_in r ≡ Ok (Some f) → r ≡ Ok f
frame_found (Err e) f is = absurd (cc)
frame_found (Ok g) f is = let h : g ≡ f = cc in ap Ok h

nothing_found : {X : Type 0} (r : Result X Left) (f : Frame) (P : Type 0) → nothing_of r ≡ Ok (Some f) → P
nothing_found (Err e) f P is = absurd (cc)
nothing_found (Ok x) f P is = absurd (cc)

kind_most : (s : InForce) (k : Kind) (time : ℕ) (body : List ℕ) (f : Frame) → IsSmall s → reading_of s k time body ≡ Ok (Some f) → 6 * length f.payload ≤ 15 * length body + 655396
kind_most s Meta time body f w e = absurd (cc)
kind_most s Data time body f w e = absurd (cc)
kind_most s VConfig time body f w e = nothing_found (video_config body) f _ e
kind_most s AConfig time body f w e = nothing_found (audio_config body) f _ e
kind_most s Key time body f w e = video_short s.video true time body f w (frame_found (video_frame s.video true time body) f e)
kind_most s Inter time body f w e = video_short s.video false time body f w (frame_found (video_frame s.video false time body) f e)
kind_most s Spare time body f w e = video_short s.video false time body f w (frame_found (video_frame s.video false time body) f e)
kind_most s Audio time body f w e = let h = audio_short s.audio time body f (frame_found (audio_frame s.audio time body) f e) in omega (arith, h)

pub item_most : (s : InForce) (item : Item) (ps : List Part) → IsSmall s → length (text_behind ps (added s item ps)) ≤ most_added item
unfolding text_behind part_text
item_most s Begin ps w = omega arith
item_most s End ps w = omega arith
item_most s (AUnit u) ps w = reading_most (listed s) (reading_of s u.kind u.time u.body) ps (length u.body) (λ f e. kind_most s u.kind u.time u.body f w e)
