-- What a writer keeps of the parts, part by part
use Rattle.std.proofs.Common.{◌≡◌, ℕ, ◌+◌, ◌%◌, ◌<◌, min, Bool, true, false, List, [], ◌∷◌, length, Option, Some, None, refl, sym, ap, ◌∙◌, arith}
use Rattle.std.specs.Prelude.{◌==◌, ◌&&◌, ◌||◌, not, nat_le, if◌then◌else◌}
use Rattle.std.proofs.lemmas.Bool.Decides.{nat_tests}
use Rattle.pes_packets.specs.Packet.{counted, runs_of}
use Rattle.pes_packets.specs.Tables.{pat_pid, pmt_pid, video_pid, audio_pid}
use Rattle.ts_writer.specs.declared.ahead.Ahead.{Ahead}
use Rattle.ts_writer.specs.declared.part.Streams.{Streams}
use Rattle.ts_writer.specs.declared.part.Pes.{Pes as PesOf}
use Rattle.ts_writer.specs.declared.part.Part.{Part}
use Rattle.ts_writer.specs.declared.part.Part.TheVariants.{Start, Tables, Pes}
use Rattle.ts_writer.specs.Parts.{pid_of, packets_of, counter, lists_of, is_last, are_same, changes, version, sounds_since, tables_due, has_reference, jump_due}
use Rattle.ts_writer.specs.Ahead.{newest, ahead_of}

abbrev made : ℕ → ℕ → ℕ → ℕ → Option Streams → ℕ → ℕ → Bool → Bool → Ahead
made a b c d l v s r j = record { pat = a; pmt = b; video = c; audio = d; last = l; version = v; sounds = s; referred = r; jump = j }

nine : (a a2 b b2 c c2 d d2 : ℕ) (l l2 : Option Streams) (v v2 s s2 : ℕ) (r r2 j j2 : Bool) → a ≡ a2 → b ≡ b2 → c ≡ c2 → d ≡ d2 → l ≡ l2 → v ≡ v2 → s ≡ s2 → r ≡ r2 → j ≡ j2
    → made a b c d l v s r j ≡ made a2 b2 c2 d2 l2 v2 s2 r2 j2
nine a a2 b b2 c c2 d d2 l l2 v v2 s s2 r r2 j j2 e1 e2 e3 e4 e5 e6 e7 e8 e9 = rw (e1, e2, e3, e4, e5, e6, e7, e8, e9) refl

same_ahead : (x y : Ahead) → x.pat ≡ y.pat → x.pmt ≡ y.pmt → x.video ≡ y.video → x.audio ≡ y.audio → x.last ≡ y.last → x.version ≡ y.version → x.sounds ≡ y.sounds
    → x.referred ≡ y.referred → x.jump ≡ y.jump → x ≡ y
same_ahead x y e1 e2 e3 e4 e5 e6 e7 e8 e9 =
    nine x.pat y.pat x.pmt y.pmt x.video y.video x.audio y.audio x.last y.last x.version y.version x.sounds y.sounds x.referred y.referred x.jump y.jump e1 e2 e3 e4 e5 e6 e7 e8 e9

pub none_yet : (a : Ahead) → a ≡ made 0 0 0 0 None 0 0 false false → a ≡ ahead_of []
unfolding counter
none_yet a e = e

-- counters
pub small : (pid : ℕ) (ps : List Part) → counter pid ps < 16
unfolding counter
small pid ps = omega arith

pub at_start : (pid : ℕ) (ps : List Part) → counter pid (Start ∷ ps) ≡ counter pid ps
unfolding counter
at_start pid ps = omega arith

at_pat : (s : Streams) (ps : List Part) → counter pat_pid (Tables s ∷ ps) ≡ counted (counter pat_pid ps) 1
unfolding counter
at_pat s ps = omega arith

at_pmt : (s : Streams) (ps : List Part) → counter pmt_pid (Tables s ∷ ps) ≡ counted (counter pmt_pid ps) 1
unfolding counter
at_pmt s ps = omega arith

at_video : (s : Streams) (ps : List Part) → counter video_pid (Tables s ∷ ps) ≡ counter video_pid ps
unfolding counter
at_video s ps = omega arith

at_audio : (s : Streams) (ps : List Part) → counter audio_pid (Tables s ∷ ps) ≡ counter audio_pid ps
unfolding counter
at_audio s ps = omega arith

more_packets : (n k : ℕ) → (n + k) % 16 ≡ counted (n % 16) k
more_packets n k = omega arith

pub on_pid : (p : PesOf) (ps : List Part) → counter (pid_of p.video) (Pes p ∷ ps) ≡ counted (counter (pid_of p.video) ps) (length (runs_of p.flags p.bytes))
unfolding counter
on_pid p ps =
    elim p.video as (λ v. (packets_of (pid_of v) ps + (if pid_of v == pid_of v then length (runs_of p.flags p.bytes) else 0)) % 16 ≡ counted (packets_of (pid_of v) ps % 16) (length (runs_of p.flags p.bytes))) [
      | true ↦ more_packets (packets_of video_pid ps) (length (runs_of p.flags p.bytes))
      | false ↦ more_packets (packets_of audio_pid ps) (length (runs_of p.flags p.bytes))
    ]

pub off_pid : (pid : ℕ) (p : PesOf) (ps : List Part) → (pid == pid_of p.video) ≡ false → counter pid (Pes p ∷ ps) ≡ counter pid ps
unfolding counter
off_pid pid p ps e = rw e (omega arith)

off_tables : (v : Bool) → ((pat_pid == pid_of v) ≡ false) × ((pmt_pid == pid_of v) ≡ false)
off_tables true = (refl, refl)
off_tables false = (refl, refl)

-- the beginning of a broadcast
pub started_is : (a : Ahead) (ps : List Part) → a ≡ ahead_of ps → made a.pat a.pmt a.video a.audio a.last a.version a.sounds a.referred a.referred ≡ ahead_of (Start ∷ ps)
started_is a ps is =
    same_ahead (made a.pat a.pmt a.video a.audio a.last a.version a.sounds a.referred a.referred) (ahead_of (Start ∷ ps))
    (ap (λ (x : Ahead). x.pat) is ∙ sym (at_start pat_pid ps)) (ap (λ (x : Ahead). x.pmt) is ∙ sym (at_start pmt_pid ps))
    (ap (λ (x : Ahead). x.video) is ∙ sym (at_start video_pid ps)) (ap (λ (x : Ahead). x.audio) is ∙ sym (at_start audio_pid ps))
    (ap (λ (x : Ahead). x.last) is) (ap (λ (x : Ahead). x.version) is) (ap (λ (x : Ahead). x.sounds) is) (ap (λ (x : Ahead). x.referred) is)
    (ap (λ (x : Ahead). x.referred) is)

-- tables
pub tables_are : (a : Ahead) (s : Streams) (pat pmt v : ℕ) (ps : List Part) → a ≡ ahead_of ps → pat ≡ counted a.pat 1 → pmt ≡ counted a.pmt 1 → v ≡ version s ps
    → made pat pmt a.video a.audio (Some s) v 0 a.referred a.jump ≡ ahead_of (Tables s ∷ ps)
unfolding version
tables_are a s pat pmt v ps is e f g =
    same_ahead (made pat pmt a.video a.audio (Some s) v 0 a.referred a.jump) (ahead_of (Tables s ∷ ps))
    (e ∙ ap (λ (x : Ahead). counted x.pat 1) is ∙ sym (at_pat s ps)) (f ∙ ap (λ (x : Ahead). counted x.pmt 1) is ∙ sym (at_pmt s ps))
    (ap (λ (x : Ahead). x.video) is ∙ sym (at_video s ps)) (ap (λ (x : Ahead). x.audio) is ∙ sym (at_audio s ps))
    refl g refl (ap (λ (x : Ahead). x.referred) is) (ap (λ (x : Ahead). x.jump) is)

-- a PES packet
video_next : (p : PesOf) (ps : List Part) → counter video_pid (Pes p ∷ ps) ≡ (if p.video then counter (pid_of p.video) (Pes p ∷ ps) else counter video_pid ps)
unfolding counter
video_next p ps =
    elim p.video as (λ v. (packets_of video_pid ps + (if video_pid == pid_of v then length (runs_of p.flags p.bytes) else 0)) % 16
    ≡ (if v then (packets_of (pid_of v) ps + (if pid_of v == pid_of v then length (runs_of p.flags p.bytes) else 0)) % 16 else packets_of video_pid ps % 16)) [
      | true ↦ refl
      | false ↦ omega arith
    ]

audio_next : (p : PesOf) (ps : List Part) → counter audio_pid (Pes p ∷ ps) ≡ (if p.video then counter audio_pid ps else counter (pid_of p.video) (Pes p ∷ ps))
unfolding counter
audio_next p ps =
    elim p.video as (λ v. (packets_of audio_pid ps + (if audio_pid == pid_of v then length (runs_of p.flags p.bytes) else 0)) % 16
    ≡ (if v then packets_of audio_pid ps % 16 else (packets_of (pid_of v) ps + (if pid_of v == pid_of v then length (runs_of p.flags p.bytes) else 0)) % 16)) [
      | true ↦ omega arith
      | false ↦ refl
    ]

sounds_next : (v : Bool) (n : ℕ) → (if v then min 32 n else min 32 (min 32 n + 1)) ≡ min 32 (n + (if v then 0 else 1))
sounds_next true n = omega arith
sounds_next false n = omega arith

pes_parts : (a : Ahead) (p : PesOf) (next video audio sounds : ℕ) (r j : Bool) (ps : List Part) → a ≡ ahead_of ps → next ≡ counter (pid_of p.video) (Pes p ∷ ps)
    → video ≡ (if p.video then next else a.video) → audio ≡ (if p.video then a.audio else next) → sounds ≡ (if p.video then a.sounds else min 32 (a.sounds + 1))
    → r ≡ has_reference (Pes p ∷ ps) → j ≡ jump_due (Pes p ∷ ps)
    → made a.pat a.pmt video audio a.last a.version sounds r j ≡ ahead_of (Pes p ∷ ps)
pes_parts a p next video audio sounds r j ps is n v u s e f =
    let off = off_tables p.video in
    same_ahead (made a.pat a.pmt video audio a.last a.version sounds r j) (ahead_of (Pes p ∷ ps))
    (ap (λ (x : Ahead). x.pat) is ∙ sym (off_pid pat_pid p ps off.0)) (ap (λ (x : Ahead). x.pmt) is ∙ sym (off_pid pmt_pid p ps off.1))
    (v ∙ ap (λ (k : ℕ). if p.video then k else a.video) n ∙ ap (λ (x : Ahead). if p.video then counter (pid_of p.video) (Pes p ∷ ps) else x.video) is ∙ sym (video_next p ps))
    (u ∙ ap (λ (k : ℕ). if p.video then a.audio else k) n ∙ ap (λ (x : Ahead). if p.video then x.audio else counter (pid_of p.video) (Pes p ∷ ps)) is ∙ sym (audio_next p ps))
    (ap (λ (x : Ahead). x.last) is) (ap (λ (x : Ahead). x.version) is)
    (s ∙ ap (λ (x : Ahead). if p.video then x.sounds else min 32 (x.sounds + 1)) is ∙ sounds_next p.video (sounds_since ps)) e f

pub with_clock : (a : Ahead) (p : PesOf) (next video audio sounds base : ℕ) (ps : List Part) → a ≡ ahead_of ps → next ≡ counter (pid_of p.video) (Pes p ∷ ps)
    → video ≡ (if p.video then next else a.video) → audio ≡ (if p.video then a.audio else next) → sounds ≡ (if p.video then a.sounds else min 32 (a.sounds + 1))
    → p.flags.pcr ≡ Some base → made a.pat a.pmt video audio a.last a.version sounds true false ≡ ahead_of (Pes p ∷ ps)
with_clock a p next video audio sounds base ps is n v u s e =
    pes_parts a p next video audio sounds true false ps is n v u s (rw e refl) (rw e refl)

pub no_clock : (a : Ahead) (p : PesOf) (next video audio sounds : ℕ) (ps : List Part) → a ≡ ahead_of ps → next ≡ counter (pid_of p.video) (Pes p ∷ ps)
    → video ≡ (if p.video then next else a.video) → audio ≡ (if p.video then a.audio else next) → sounds ≡ (if p.video then a.sounds else min 32 (a.sounds + 1))
    → p.flags.pcr ≡ None → made a.pat a.pmt video audio a.last a.version sounds a.referred a.jump ≡ ahead_of (Pes p ∷ ps)
no_clock a p next video audio sounds ps is n v u s e =
    pes_parts a p next video audio sounds a.referred a.jump ps is n v u s (rw e (ap (λ (x : Ahead). x.referred) is)) (rw e (ap (λ (x : Ahead). x.jump) is))

-- versions
version_none : (s : Streams) (ls : List Streams) → newest ls ≡ None → changes (s ∷ ls) % 32 ≡ changes ls % 32
version_none s [] e = refl
version_none s (l ∷ ls) e = absurd (cc)

version_same : (s l : Streams) (ls : List Streams) → newest ls ≡ Some l → are_same s l ≡ true → changes (s ∷ ls) % 32 ≡ changes ls % 32
version_same s l [] e t = absurd (cc)
version_same s l (m ∷ ls) e t = let h : m ≡ l = cc in rw (h, t) (omega arith)

version_other : (s l : Streams) (ls : List Streams) → newest ls ≡ Some l → are_same s l ≡ false → changes (s ∷ ls) % 32 ≡ (changes ls % 32 + 1) % 32
version_other s l [] e t = absurd (cc)
version_other s l (m ∷ ls) e t = let h : m ≡ l = cc in rw (h, t) (omega arith)

pub first_version : (a : Ahead) (s : Streams) (ps : List Part) → a.last ≡ None → a ≡ ahead_of ps → a.version ≡ version s ps
unfolding version
first_version a s ps e is = ap (λ (x : Ahead). x.version) is ∙ sym (version_none s (lists_of ps) (sym (ap (λ (x : Ahead). x.last) is) ∙ e))

pub same_version : (a : Ahead) (s l : Streams) (ps : List Part) → a.last ≡ Some l → are_same s l ≡ true → a ≡ ahead_of ps → a.version ≡ version s ps
unfolding version
same_version a s l ps e t is = ap (λ (x : Ahead). x.version) is ∙ sym (version_same s l (lists_of ps) (sym (ap (λ (x : Ahead). x.last) is) ∙ e) t)

pub next_version : (a : Ahead) (s l : Streams) (v : ℕ) (ps : List Part) → a.last ≡ Some l → are_same s l ≡ false → v ≡ (a.version + 1) % 256 → a ≡ ahead_of ps → v % 32 ≡ version s ps
unfolding version
next_version a s l v ps e t n is =
    let k : a.version ≡ changes (lists_of ps) % 32 = ap (λ (x : Ahead). x.version) is in
    let m : v % 32 ≡ (changes (lists_of ps) % 32 + 1) % 32 = rw (n, k) (omega arith) in
    m ∙ sym (version_other s l (lists_of ps) (sym (ap (λ (x : Ahead). x.last) is) ∙ e) t)

-- whether tables are due
pub due_new : (s : Streams) (video random : Bool) (ps : List Part) → is_last s (lists_of ps) ≡ false → tables_due s video random ps ≡ true
unfolding tables_due
due_new s video random ps e = rw e refl

or_true : (b r c : Bool) → r ≡ true → (b || (r || c)) ≡ true
or_true true r c e = refl
or_true false r c e = rw e refl

pub due_random : (s : Streams) (video random : Bool) (ps : List Part) → random ≡ true → tables_due s video random ps ≡ true
unfolding tables_due
due_random s video random ps e = or_true (not (is_last s (lists_of ps))) random (not s.video && (not video && nat_le 32 (sounds_since ps))) e

quiet : (b c m : Bool) → (b || c) ≡ true → (not b && (not c && m)) ≡ false
quiet true c m e = refl
quiet false true m e = refl
quiet false false m e = absurd (cc)

pub not_due : (s : Streams) (video random : Bool) (ps : List Part) → is_last s (lists_of ps) ≡ true → random ≡ false → (s.video || video) ≡ true → tables_due s video random ps ≡ false
unfolding tables_due
not_due s video random ps e f t = rw (e, f) (quiet s.video video (nat_le 32 (sounds_since ps)) t)

pub or_second : (b c : Bool) → c ≡ true → (b || c) ≡ true
or_second true c e = refl
or_second false c e = e

many : (n : ℕ) → nat_le 32 n ≡ nat_le 32 (min 32 n)
many n = grind (arith, nat_tests)

pub due_sounds : (a : Ahead) (s : Streams) (video random : Bool) (ps : List Part) → a ≡ ahead_of ps → is_last s (lists_of ps) ≡ true → random ≡ false → s.video ≡ false → video ≡ false
    → nat_le 32 a.sounds ≡ tables_due s video random ps
unfolding tables_due
due_sounds a s video random ps is e f v w =
    let n : a.sounds ≡ min 32 (sounds_since ps) = ap (λ (x : Ahead). x.sounds) is in
    rw (e, f, v, w, n, many (sounds_since ps)) refl

-- counters of PES packets
pub chosen : (a : Ahead) (v : Bool) (n : ℕ) (ps : List Part) → a ≡ ahead_of ps → n ≡ (if v then a.video else a.audio) → n ≡ counter (pid_of v) ps
chosen a true n ps is e = e ∙ ap (λ (x : Ahead). x.video) is
chosen a false n ps is e = e ∙ ap (λ (x : Ahead). x.audio) is

pub small_chosen : (a : Ahead) (v : Bool) (n : ℕ) (ps : List Part) → a ≡ ahead_of ps → n ≡ (if v then a.video else a.audio) → n < 16
small_chosen a v n ps is e = rw (chosen a v n ps is e) (small (pid_of v) ps)

pub next_chosen : (a : Ahead) (p : PesOf) (n next : ℕ) (b : List ℕ) (ps : List Part) → b ≡ p.bytes → n ≡ (if p.video then a.video else a.audio) → next ≡ counted n (length (runs_of p.flags b))
    → a ≡ ahead_of ps → next ≡ counter (pid_of p.video) (Pes p ∷ ps)
next_chosen a p n next b ps s e f is =
    f ∙ ap (λ (k : ℕ). counted k (length (runs_of p.flags b))) (chosen a p.video n ps is e)
    ∙ ap (λ (t : List ℕ). counted (counter (pid_of p.video) ps) (length (runs_of p.flags t))) s ∙ sym (on_pid p ps)

pub small_pat : (a : Ahead) (ps : List Part) → a ≡ ahead_of ps → a.pat < 16
small_pat a ps is = rw is (small pat_pid ps)

pub small_pmt : (a : Ahead) (ps : List Part) → a ≡ ahead_of ps → a.pmt < 16
small_pmt a ps is = rw is (small pmt_pid ps)
