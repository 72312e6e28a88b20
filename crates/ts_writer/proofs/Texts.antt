-- The texts of parts
use Rattle.std.proofs.Common.{◌≡◌, ℕ, ◌+◌, ◌<◌, ◌≤◌, Some, None, Ok, Err, length-append, true, false, List, [], ◌∷◌, ◌++◌, length, refl, sym, ap, ◌∙◌, arith, append_assoc}
use Rattle.std.proofs.lemmas.List.{append-nil}
use Rattle.std.proofs.lemmas.Bool.Decides.{nat_tests}
use Rattle.std.specs.Prelude.{nat_lt, if◌then◌else◌}
use Rattle.pes_packets.specs.declared.flags.PesFlags.{PesFlags}
use Rattle.pes_packets.specs.Packet.{pes_text, section_text}
use Rattle.pes_packets.specs.Tables.{pat, pmt, pat_pid, pmt_pid}
use Rattle.ts_writer.specs.declared.ahead.Ahead.{Ahead}
use Rattle.ts_writer.specs.declared.framed.Framed.{Framed}
use Rattle.ts_writer.specs.declared.part.Streams.{Streams}
use Rattle.ts_writer.specs.declared.part.Pes.{Pes as PesOf}
use Rattle.ts_writer.specs.declared.part.Part.{Part}
use Rattle.ts_writer.specs.declared.part.Part.TheVariants.{Start, Tables, Pes}
use Rattle.ts_writer.specs.declared.left.Left.{Left}
use Rattle.ts_writer.specs.declared.in_force.InForce.{InForce}
use Rattle.ts_writer.specs.Frames.{clock, some_raw, framed_of}
use Rattle.pes_packets.specs.Header.{header}
use Rattle.av_unit.specs.declared.item.Item.{Item}
use Rattle.av_unit.specs.declared.item.Item.TheVariants.{Begin, End}
use Rattle.ts_writer.specs.Parts.{pid_of, counter, version, part_text, text_behind, tables_due, flags_of}
use Rattle.ts_writer.specs.Text.{added, Reading, made_of, parts_by, part_of, frame_parts}
use Rattle.aac_adts.specs.Config.{Config}
use Rattle.aac_adts.specs.Frame.{head_bytes, frame}
use Rattle.ts_writer.specs.Ahead.{ahead_of}
use Rattle.ts_writer.proofs.Keeping.{chosen}

pub pes_is : (p : PesOf) (a : Ahead) (pid n : ℕ) (b : List ℕ) (ps : List Part) → a ≡ ahead_of ps → pid ≡ pid_of p.video → n ≡ (if p.video then a.video else a.audio) → b ≡ p.bytes
    → pes_text pid n p.flags b ≡ part_text ps (Pes p)
unfolding part_text
pes_is p a pid n b ps is e f g =
    ap (λ (x : ℕ). pes_text x n p.flags b) e ∙ ap (λ (x : ℕ). pes_text (pid_of p.video) x p.flags b) (chosen a p.video n ps is f)
    ∙ ap (λ (x : List ℕ). pes_text (pid_of p.video) (counter (pid_of p.video) ps) p.flags x) g

pub tables_text : (s : Streams) (a : Ahead) (v : ℕ) (ps : List Part) (x y old out new : List ℕ) → a ≡ ahead_of ps → v ≡ version s ps → x ≡ pat → y ≡ pmt s.video s.audio v
    → out ≡ old ++ section_text pat_pid a.pat x → new ≡ out ++ section_text pmt_pid a.pmt y → new ≡ old ++ part_text ps (Tables s)
unfolding part_text
tables_text s a v ps x y old out new is e f g o n =
    let first : section_text pat_pid a.pat x ≡ section_text pat_pid (counter pat_pid ps) pat =
    ap (λ (t : List ℕ). section_text pat_pid a.pat t) f ∙ ap (λ (z : Ahead). section_text pat_pid z.pat pat) is in
    let second : section_text pmt_pid a.pmt y ≡ section_text pmt_pid (counter pmt_pid ps) (pmt s.video s.audio (version s ps)) =
    ap (λ (t : List ℕ). section_text pmt_pid a.pmt t) (g ∙ ap (λ (k : ℕ). pmt s.video s.audio k) e) ∙ ap (λ (z : Ahead). section_text pmt_pid z.pmt (pmt s.video s.audio (version s ps))) is in
    n ∙ ap (λ (t : List ℕ). t ++ section_text pmt_pid a.pmt y) o ∙ append_assoc old (section_text pat_pid a.pat x) (section_text pmt_pid a.pmt y)
    ∙ ap (λ (t : List ℕ). old ++ (t ++ section_text pmt_pid a.pmt y)) first
    ∙ ap (λ (t : List ℕ). old ++ (section_text pat_pid (counter pat_pid ps) pat ++ t)) second

pub small_version : (s : Streams) (v : ℕ) (ps : List Part) → v ≡ version s ps → v < 32
unfolding version
small_version s v ps e = omega (arith, e)

-- a unit behind its tables, or alone
pub with_tables : (s : Streams) (f : Framed) (fl : PesFlags) (ps qs : List Part) (old mid : List ℕ) → tables_due s f.video f.random ps ≡ true → mid ≡ old ++ part_text ps (Tables s)
    → qs ≡ Tables s ∷ ps → fl ≡ flags_of s f.video f.random f.dts qs
    → mid ++ part_text qs (Pes (record { video = f.video; flags = fl; bytes = f.pes })) ≡ old ++ text_behind ps (frame_parts s f ps)
unfolding text_behind
with_tables s f fl ps qs old mid due m q l =
    let both : part_text qs (Pes (record { video = f.video; flags = fl; bytes = f.pes })) ≡ part_text (Tables s ∷ ps) (part_of s f (Tables s ∷ ps)) =
    ap (λ (x : PesFlags). part_text qs (Pes (record { video = f.video; flags = x; bytes = f.pes }))) l ∙ ap (λ (x : List Part). part_text x (part_of s f x)) q in
    rw due (ap (λ (t : List ℕ). t ++ part_text qs (Pes (record { video = f.video; flags = fl; bytes = f.pes }))) m
    ∙ append_assoc old (part_text ps (Tables s)) (part_text qs (Pes (record { video = f.video; flags = fl; bytes = f.pes })))
    ∙ ap (λ (t : List ℕ). old ++ (part_text ps (Tables s) ++ t)) (both ∙ sym (append-nil (part_text (Tables s ∷ ps) (part_of s f (Tables s ∷ ps))))))

pub without_tables : (s : Streams) (f : Framed) (fl : PesFlags) (ps qs : List Part) (old mid : List ℕ) → tables_due s f.video f.random ps ≡ false → mid ≡ old
    → qs ≡ ps → fl ≡ flags_of s f.video f.random f.dts qs
    → mid ++ part_text qs (Pes (record { video = f.video; flags = fl; bytes = f.pes })) ≡ old ++ text_behind ps (frame_parts s f ps)
unfolding text_behind
without_tables s f fl ps qs old mid due m q l =
    let both : part_text qs (Pes (record { video = f.video; flags = fl; bytes = f.pes })) ≡ part_text ps (part_of s f ps) =
    ap (λ (x : PesFlags). part_text qs (Pes (record { video = f.video; flags = x; bytes = f.pes }))) l ∙ ap (λ (x : List Part). part_text x (part_of s f x)) q in
    rw due (ap (λ (t : List ℕ). t ++ part_text qs (Pes (record { video = f.video; flags = fl; bytes = f.pes }))) m
    ∙ ap (λ (t : List ℕ). old ++ t) (both ∙ sym (append-nil (part_text ps (part_of s f ps)))))

pub nothing_behind : (old : List ℕ) (ps : List Part) → old ≡ old ++ text_behind ps []
unfolding text_behind
nothing_behind old ps = sym (append-nil old)

pub start_behind : (old : List ℕ) (ps : List Part) → old ≡ old ++ text_behind ps (Start ∷ [])
unfolding text_behind part_text
start_behind old ps = sym (append-nil old)

no_parts : (s : Streams) (r : Reading) (ps : List Part) → made_of r ≡ Ok None → parts_by s r ps ≡ []
no_parts s (Ok None) ps e = refl
no_parts s (Ok (Some f)) ps e = absurd (cc)
no_parts s (Err l) ps e = refl

none_left : (s : Streams) (r : Reading) (l : Left) (ps : List Part) → made_of r ≡ Err l → parts_by s r ps ≡ []
none_left s (Ok None) l ps e = absurd (cc)
none_left s (Ok (Some f)) l ps e = absurd (cc)
none_left s (Err m) l ps e = refl

pub no_text : (s : Streams) (r : Reading) (old : List ℕ) (ps : List Part) → made_of r ≡ Ok None → old ≡ old ++ text_behind ps (parts_by s r ps)
no_text s r old ps e = rw (no_parts s r ps e) (nothing_behind old ps)

pub left_text : (s : Streams) (r : Reading) (l : Left) (old : List ℕ) (ps : List Part) → made_of r ≡ Err l → old ≡ old ++ text_behind ps (parts_by s r ps)
left_text s r l old ps e = rw (none_left s r l ps e) (nothing_behind old ps)

-- the length of a frame of sound
head_length : (a : Config) (n : ℕ) → length (head_bytes a n) ≡ 7
unfolding head_bytes
head_length a n = refl

pub frame_length : (a : Config) (raw : List ℕ) → 15 + length raw ≡ 8 + length (frame a raw)
frame_length a raw = sym (ap (λ (n : ℕ). 8 + n) (length-append (head_bytes a (length raw + 7)) raw) ∙ omega (arith, head_length a (length raw + 7)))

-- a frame of sound as it is made
pub sound_made : (a : Config) (time d n : ℕ) (raw b p : List ℕ) → 0 < length raw → length raw ≤ 8184 → d ≡ clock time → n ≡ 15 + length raw → b ≡ header 0xC0 d d n → p ≡ b ++ frame a raw
    → framed_of (some_raw a time raw) ≡ Ok (record { video = false; random = false; dts = d; pes = p })
sound_made a time d n [] b p some most e f g h = absurd (omega arith)
sound_made a time d n (x ∷ xs) b p some most e f g h =
    let t : nat_lt 8184 (length (x ∷ xs)) ≡ false = grind (arith, nat_tests) in
    let k : n ≡ 8 + length (frame a (x ∷ xs)) = f ∙ frame_length a (x ∷ xs) in
    rw (t, h, g, e, k) refl

pub begin_text : (s : InForce) (item : Item) (old : List ℕ) (ps : List Part) → item ≡ Begin → old ≡ old ++ text_behind ps (added s item ps)
begin_text s item old ps e = rw e (start_behind old ps)

pub end_text : (s : InForce) (item : Item) (old : List ℕ) (ps : List Part) → item ≡ End → old ≡ old ++ text_behind ps (added s item ps)
end_text s item old ps e = rw e (nothing_behind old ps)
