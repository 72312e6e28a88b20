-- What a unit's text begins with
use Rattle.std.proofs.Common.{◌≡◌, ℕ, ◌+◌, ◌-◌, ◌/◌, ◌%◌, ◌<◌, Bool, true, false, List, [], ◌∷◌, ◌++◌, length, drop, Option, Some, None, Result, Ok, Err, refl, sym, ap, ◌∙◌, subst, arith, append_assoc, length-append}
use Rattle.std.specs.Prelude.{◌&&◌, ◌==◌, nat_lt, if◌then◌else◌, replicate, take}
use Rattle.av_unit.specs.Classes.{high, low, second_is}
use Rattle.av_unit.specs.declared.unit.Kind.TheVariants.{Key, Audio}
use Rattle.avc_annexb.specs.Record.{Config as AvcConfig}
use Rattle.aac_adts.specs.Config.{Config as AacConfig}
use Rattle.aac_adts.specs.declared.fail.AacFail.TheVariants.{TooLong}
use Rattle.pes_packets.specs.declared.flags.PesFlags.{PesFlags}
use Rattle.pes_packets.specs.Header.{flag_bytes, header, start_bytes, time_bytes}
use Rattle.pes_packets.specs.Packet.{adaptation, control_of, cuts, packet, packets, room, runs_of, section_text, silent}
use Rattle.pes_packets.specs.Tables.{pat, pat_pid, pmt, pmt_pid}
use Rattle.pes_packets.proofs.Bits.{head_is}
use Rattle.ts_writer.specs.declared.left.Left.{Left}
use Rattle.ts_writer.specs.declared.left.Left.TheVariants.{Codec, Aac}
use Rattle.ts_writer.specs.declared.left.Wrote.TheVariants.{Unit as AWritten}
use Rattle.ts_writer.specs.declared.framed.Framed.{Framed}
use Rattle.ts_writer.specs.declared.in_force.InForce.{InForce}
use Rattle.ts_writer.specs.declared.part.Streams.{Streams}
use Rattle.ts_writer.specs.declared.part.Part.{Part}
use Rattle.ts_writer.specs.declared.part.Part.TheVariants.{Tables}
use Rattle.ts_writer.specs.Frames.{Frame, audio_frame, by_asc, by_config, framed, pes_header, pes_of, picture, some_raw, some_text, sound, units_text, video_frame}
use Rattle.ts_writer.specs.Parts.{counter, part_text, pid_of, tables_due, text_behind, version}
use Rattle.ts_writer.specs.Text.{Reading, frame_in, frame_parts, part_of, reading_of, wrote_by}
use Rattle.hls_segments.specs.Laws.{BeginsWithTables}
use Rattle.hls_segments.specs.Opens.{has_tables}

-- ---- what is read of a unit that is written

pub record IsFound (r : Reading) : Type 0 where
  pub frame : Frame
  pub is : r ≡ Ok (Some frame)

pub found : (r : Reading) → wrote_by r ≡ AWritten → IsFound r
found (Ok None) e = absurd (cc)
found (Ok (Some f)) e = record { frame = f; is = refl }
found (Err l) e = absurd (cc)

in_frame : (r : Result Frame Left) (f : Frame) → frame_in r ≡ Ok (Some f) → r ≡ Ok f
in_frame (Err e) f is = absurd (cc)
in_frame (Ok g) f is = let h : g ≡ f = cc in ap Ok h

-- a frame of sound is no picture
pub record IsAt (f : Frame) (video random : Bool) : Type 0 where
  pub video_is : f.video ≡ video
  pub random_is : f.random ≡ random

raw_by : (t : Bool) (a : AacConfig) (time : ℕ) (raw : List ℕ) (f : Frame) (e : Left) → (if t then Err e else Ok (sound a time raw)) ≡ Ok f → IsAt f false false
raw_by true a time raw f l e = absurd (cc)
raw_by false a time raw f l e =
    let h : sound a time raw ≡ f = cc in
    subst (λ (g : Frame). IsAt g false false) h (record { video_is = refl; random_is = refl })

raw_sound : (a : AacConfig) (time : ℕ) (raw : List ℕ) (f : Frame) → some_raw a time raw ≡ Ok f → IsAt f false false
raw_sound a time [] f e = absurd (cc)
raw_sound a time (x ∷ xs) f e = raw_by (nat_lt 8184 (length (x ∷ xs))) a time (x ∷ xs) f (Aac (TooLong (length (x ∷ xs)))) e

asc_sound : (o : Option AacConfig) (time : ℕ) (body : List ℕ) (f : Frame) → by_asc o time body ≡ Ok f → IsAt f false false
asc_sound None time body f e = absurd (cc)
asc_sound (Some a) time body f e = raw_sound a time (drop 2 body) f e

sound_by : (t : Bool) (o : Option AacConfig) (time : ℕ) (body : List ℕ) (f : Frame) → (if t then by_asc o time body else Err Codec) ≡ Ok f → IsAt f false false
sound_by true o time body f e = asc_sound o time body f e
sound_by false o time body f e = absurd (cc)

sound_is : (o : Option AacConfig) (time : ℕ) (body : List ℕ) (f : Frame) → audio_frame o time body ≡ Ok f → IsAt f false false
unfolding audio_frame
sound_is o time body f e = sound_by ((high body == 10) && second_is 1 body) o time body f e

text_picture : (c : AvcConfig) (key : Bool) (time : ℕ) (body : List ℕ) (r : Result (List ℕ) Left) (f : Frame) → some_text (picture c key time body) r ≡ Ok f → IsAt f true key
text_picture c key time body (Err l) f e = absurd (cc)
text_picture c key time body (Ok []) f e = absurd (cc)
text_picture c key time body (Ok (x ∷ xs)) f e =
    let h : picture c key time body (x ∷ xs) ≡ f = cc in
    subst (λ (g : Frame). IsAt g true key) h (record { video_is = refl; random_is = refl })

config_picture : (o : Option AvcConfig) (key : Bool) (time : ℕ) (body : List ℕ) (f : Frame) → by_config o key time body ≡ Ok f → IsAt f true key
config_picture None key time body f e = absurd (cc)
config_picture (Some c) key time body f e = text_picture c key time body (units_text c body) f e

picture_by : (t : Bool) (o : Option AvcConfig) (key : Bool) (time : ℕ) (body : List ℕ) (f : Frame) → (if t then by_config o key time body else Err Codec) ≡ Ok f → IsAt f true key
picture_by true o key time body f e = config_picture o key time body f e
picture_by false o key time body f e = absurd (cc)

picture_is : (o : Option AvcConfig) (key : Bool) (time : ℕ) (body : List ℕ) (f : Frame) → video_frame o key time body ≡ Ok f → IsAt f true key
unfolding video_frame
picture_is o key time body f e = picture_by ((low body == 7) && second_is 1 body) o key time body f e

pub sound_at : (s : InForce) (time : ℕ) (body : List ℕ) (f : Frame) → reading_of s Audio time body ≡ Ok (Some f) → IsAt f false false
sound_at s time body f e = sound_is s.audio time body f (in_frame (audio_frame s.audio time body) f e)

pub key_at : (s : InForce) (time : ℕ) (body : List ℕ) (f : Frame) → reading_of s Key time body ≡ Ok (Some f) → IsAt f true true
key_at s time body f e = picture_is s.video true time body f (in_frame (video_frame s.video true time body) f e)

-- ---- the first packet

pub counter_small : (pid : ℕ) (ps : List Part) → counter pid ps < 16
unfolding counter
counter_small pid ps = omega arith

section_starts : (c : ℕ) (section m rest : List ℕ) → c < 16 → has_tables ((section_text 0 c section ++ m) ++ rest) ≡ true
unfolding section_text
section_starts c section m rest small =
    sym (ap (λ (h : List ℕ). has_tables (((h ++ (0 ∷ (section ++ replicate (183 - length section) 255))) ++ m) ++ rest))
    (head_is true 0 1 c 64 0 0 (omega arith) (omega arith) small refl refl refl))

control_small : (n : ℕ) → control_of n < 4
control_small n = by (n == 0) where
  by : (b : Bool) → (if b then 1 else 3) < 4
  by true = omega arith
  by false = omega arith

packet_starts : (pid c : ℕ) (f : PesFlags) (payload more rest : List ℕ) → c < 16 → pid / 256 ≡ 1 → has_tables ((packet pid c true f payload ++ more) ++ rest) ≡ false
unfolding packet
packet_starts pid c f payload more rest small one =
    let control : ℕ = control_of (184 - length payload) in
    let h : control < 4 = control_small (184 - length payload) in
    sym (ap (λ (h : List ℕ). has_tables (((h ++ (adaptation f (184 - length payload) ++ payload)) ++ more) ++ rest))
    (head_is true pid control c 64 1 (pid % 256) (omega (arith, one)) h small refl (omega (arith, one)) refl))

pes_starts : (pid c : ℕ) (f : PesFlags) (pes rest : List ℕ) → c < 16 → pid / 256 ≡ 1 → 0 < length pes → has_tables (packets pid c true f (runs_of f pes) ++ rest) ≡ false
unfolding packets cuts
pes_starts pid c f [] rest small one some = absurd (omega arith)
pes_starts pid c f (x ∷ xs) rest small one some =
    packet_starts pid c f (take (room f) (x ∷ xs)) (packets pid ((c + 1) % 16) false silent (cuts (length xs) 184 (drop (room f) (x ∷ xs)))) rest small one

pid_high : (video : Bool) → pid_of video / 256 ≡ 1
pid_high true = refl
pid_high false = refl

start_length : (id n : ℕ) → length (start_bytes id n) ≡ 6
unfolding start_bytes
start_length id n = refl

header_some : (id pts dts n : ℕ) (more : List ℕ) → 0 < length (header id pts dts n ++ more)
unfolding header
header_some id pts dts n more =
    let b : List ℕ = if pts == dts then flag_bytes 2 5 ++ time_bytes 2 pts else flag_bytes 3 10 ++ (time_bytes 3 pts ++ time_bytes 1 dts) in
    omega (arith, length-append (start_bytes id n ++ b) more, length-append (start_bytes id n) b, start_length id n)

pes_some : (f : Frame) → 0 < length (pes_of f)
pes_some f = some_by f.video f where
  some_by : (v : Bool) (f : Frame) → 0 < length (pes_header v f.pts f.dts (length f.payload) ++ f.payload)
  some_by true f = header_some 0xE0 f.pts f.dts 0 f.payload
  some_by false f = header_some 0xC0 f.pts f.dts (8 + length f.payload) f.payload

-- the text of a frame, with both tables before it or without
abbrev parts_if : Bool → Streams → Framed → List Part → List Part
parts_if due s f ps = if due then Tables s ∷ part_of s f (Tables s ∷ ps) ∷ [] else part_of s f ps ∷ []

starts_by : (due : Bool) (s : Streams) (f : Frame) (ps : List Part) → has_tables (text_behind ps (parts_if due s (framed f) ps)) ≡ due
unfolding text_behind part_text
starts_by true s f ps =
    section_starts (counter pat_pid ps) pat (section_text pmt_pid (counter pmt_pid ps) (pmt s.video s.audio (version s ps)))
    (text_behind (Tables s ∷ ps) (part_of s (framed f) (Tables s ∷ ps) ∷ [])) (counter_small pat_pid ps)
starts_by false s f ps =
    pes_starts (pid_of f.video) (counter (pid_of f.video) ps) _ (pes_of f) [] (counter_small (pid_of f.video) ps) (pid_high f.video) (pes_some f)

pub frame_starts : (s : Streams) (f : Frame) (ps : List Part) → has_tables (text_behind ps (frame_parts s (framed f) ps)) ≡ tables_due s f.video f.random ps
frame_starts s f ps = starts_by (tables_due s f.video f.random ps) s f ps

-- tables that are due stand first
tables_by : (due : Bool) (s : Streams) (f : Framed) (ps : List Part) → due ≡ true → BeginsWithTables (text_behind ps (parts_if due s f ps))
unfolding text_behind part_text
tables_by false s f ps e = absurd (cc)
tables_by true s f ps e =
    let rest : List ℕ = text_behind (Tables s ∷ ps) (part_of s f (Tables s ∷ ps) ∷ []) in
    record {
      counter = counter pat_pid ps;
      map_counter = counter pmt_pid ps;
      video = s.video;
      audio = s.audio;
      version = version s ps;
      rest = rest;
      text_is = append_assoc (section_text pat_pid (counter pat_pid ps) pat) (section_text pmt_pid (counter pmt_pid ps) (pmt s.video s.audio (version s ps))) rest;
    }

pub tables_first : (s : Streams) (f : Frame) (ps : List Part) → tables_due s f.video f.random ps ≡ true → BeginsWithTables (text_behind ps (frame_parts s (framed f) ps))
tables_first s f ps e = tables_by (tables_due s f.video f.random ps) s (framed f) ps e

-- and with what is behind them
pub tables_on : (text more : List ℕ) → BeginsWithTables text → BeginsWithTables (text ++ more)
tables_on text more b =
    let first : List ℕ = section_text pat_pid b.counter pat in
    let second : List ℕ = section_text pmt_pid b.map_counter (pmt b.video b.audio b.version) in
    record {
      counter = b.counter;
      map_counter = b.map_counter;
      video = b.video;
      audio = b.audio;
      version = b.version;
      rest = b.rest ++ more;
      text_is = ap (λ (t : List ℕ). t ++ more) b.text_is ∙ append_assoc first (second ++ b.rest) more
          ∙ ap (λ (t : List ℕ). first ++ t) (append_assoc second b.rest more);
    }
