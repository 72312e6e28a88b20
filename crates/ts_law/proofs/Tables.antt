-- Both tables, read back
use Rattle.std.proofs.Common.{◌≡◌, ℕ, ◌+◌, ◌-◌, ◌<◌, ◌≤◌, Bool, true, false, List, [], ◌∷◌, ◌++◌, length, Option, Some, None, Ok, refl, sym, ◌∙◌, subst, arith, length-append}
use Rattle.std.specs.Prelude.{replicate}
use Rattle.std.specs.Int.{bytes_high_first}
use Rattle.std.specs.Option.{option_to_list}
use Rattle.std.proofs.lemmas.List.{length-replicate, append-nil}
use Rattle.bit_fields.specs.Fields.{field_bytes}
use Rattle.pes_packets.specs.Crc.{crc_of}
use Rattle.pes_packets.specs.Packet.{section_text}
use Rattle.pes_packets.specs.Tables.{checked, no_descriptors, pat, pat_pid, pcr_pid, pid_fields, pmt, pmt_pid, section_fields, streams_bytes}
use Rattle.ts_reader.specs.declared.unit.TsUnit.{TsUnit}
use Rattle.ts_reader.specs.Fields.{counter_in, is_synced, pid_in}
use Rattle.ts_reader.specs.Mux.{Mux, kept}
use Rattle.ts_reader.specs.Sections.{is_pat, listed_in}
use Rattle.ts_reader.specs.Steps.{closed, pat_step, pid_step, pmt_step}
use Rattle.ts_reader.proofs.ReadTables.{pat_read, pmt_read}
use Rattle.ts_law.specs.Leads.{Leads, with_pat, with_pmt, with_tables}
use Rattle.ts_law.proofs.Packets.{fronts, front_is}
use Rattle.ts_law.proofs.Runs.{leads_one, leads_then, step_is}

-- a section's packet
record IsSection (pid c : ℕ) (p : List ℕ) : Type 0 where
  size : length p ≡ 188
  synced : is_synced p ≡ true
  pid_is : pid_in p ≡ pid
  counter_is : counter_in p ≡ c

section_back : (pid c : ℕ) (section : List ℕ) → pid < 8192 → c < 16 → length section ≤ 183 → IsSection pid c (section_text pid c section)
unfolding section_text
section_back pid c section p n fits =
    let rest : List ℕ = 0 ∷ (section ++ replicate (183 - length section) 255) in
    let f = fronts true pid 1 c rest p (omega arith) n in
    let P : List ℕ → Type 0 = λ b. IsSection pid c b in
    subst P (sym (front_is true pid 1 c rest p (omega arith) n))
    (record {
      size = omega (arith, length-append section (replicate (183 - length section) 255), length-replicate {A = ℕ} (183 - length section) 255);
      synced = f.synced;
      pid_is = f.pid_is;
      counter_is = f.counter_is;
    })

checked_length : (section : List ℕ) → length (checked section) ≡ length section + 4
checked_length section = length-append section (bytes_high_first 4 (crc_of section)) ∙ omega arith

pat_short : length pat ≤ 183
unfolding pat
pat_short = omega (arith, checked_length (field_bytes (section_fields 0 13 1 0) ++ (field_bytes ((16, 1) ∷ []) ++ field_bytes (pid_fields pmt_pid))))

pmt_short : (video audio : Bool) (version : ℕ) → length (pmt video audio version) ≤ 183
unfolding pmt
pmt_short true true v = omega (arith, checked_length (field_bytes (section_fields 2 23 1 v) ++ (field_bytes (pid_fields (pcr_pid true)) ++ (field_bytes no_descriptors ++ streams_bytes true true))))
pmt_short true false v = omega (arith, checked_length (field_bytes (section_fields 2 18 1 v) ++ (field_bytes (pid_fields (pcr_pid true)) ++ (field_bytes no_descriptors ++ streams_bytes true false))))
pmt_short false true v = omega (arith, checked_length (field_bytes (section_fields 2 18 1 v) ++ (field_bytes (pid_fields (pcr_pid false)) ++ (field_bytes no_descriptors ++ streams_bytes false true))))
pmt_short false false v = omega (arith, checked_length (field_bytes (section_fields 2 13 1 v) ++ (field_bytes (pid_fields (pcr_pid false)) ++ (field_bytes no_descriptors ++ streams_bytes false false))))

-- the association table
pat_kept : (m : Mux) (p : List ℕ) → pid_in p ≡ 0 → kept m (pid_in p) ≡ m.pat
pat_kept m p e = rw e refl

pat_by : (n : ℕ) (m : Mux) (p : List ℕ) → pid_in p ≡ 0 → pid_step n m p ≡ pat_step n m p
unfolding pid_step
pat_by n m p e = rw e refl

pat_does : (n : ℕ) (m : Mux) (p : List ℕ) (u : Option TsUnit) → is_pat p ≡ true → closed m.pes ≡ Ok u → pat_step n m p ≡ Ok (u, with_pat m)
unfolding pat_step
pat_does n m p u is c = rw (is, c) refl

pat_leads : (n c : ℕ) (m : Mux) (u : Option TsUnit) → m.pat ≡ c → c < 16 → closed m.pes ≡ Ok u → Leads n m (section_text pat_pid c pat) (option_to_list u) (with_pat m)
pat_leads n c m u e small closes =
    let p : List ℕ = section_text pat_pid c pat in
    let s = section_back 0 c pat (omega arith) small pat_short in
    leads_one n m (with_pat m) p u s.size
    (step_is n m p s.synced (s.counter_is ∙ sym e ∙ sym (pat_kept m p s.pid_is)) ∙ pat_by n m p s.pid_is ∙ pat_does n m p u (pat_read c small) closes)

-- the map
pmt_kept : (m : Mux) (p : List ℕ) → pid_in p ≡ 4096 → kept m (pid_in p) ≡ m.pmt
pmt_kept m p e = rw e refl

pmt_by : (n : ℕ) (m : Mux) (p : List ℕ) → pid_in p ≡ 4096 → pid_step n m p ≡ pmt_step n m p
unfolding pid_step
pmt_by n m p e = rw e refl

pmt_does : (n : ℕ) (m : Mux) (p : List ℕ) (video audio : Bool) (u : Option TsUnit) → m.found ≡ true → listed_in p ≡ Some (record { video = video; audio = audio }) → closed m.pes ≡ Ok u
    → pmt_step n m p ≡ Ok (u, with_pmt m video audio)
unfolding pmt_step
pmt_does n m p video audio u found is c = rw (found, is, c) refl

pmt_leads : (n c v : ℕ) (m : Mux) (video audio : Bool) (u : Option TsUnit) → m.pmt ≡ c → c < 16 → v < 32 → m.found ≡ true → closed m.pes ≡ Ok u
    → Leads n m (section_text pmt_pid c (pmt video audio v)) (option_to_list u) (with_pmt m video audio)
pmt_leads n c v m video audio u e small version found closes =
    let p : List ℕ = section_text pmt_pid c (pmt video audio v) in
    let s = section_back 4096 c (pmt video audio v) (omega arith) small (pmt_short video audio v) in
    leads_one n m (with_pmt m video audio) p u s.size
    (step_is n m p s.synced (s.counter_is ∙ sym e ∙ sym (pmt_kept m p s.pid_is)) ∙ pmt_by n m p s.pid_is
    ∙ pmt_does n m p video audio u found (pmt_read video audio v c version small) closes)

-- BOTH TABLES: the first ends the PES packet before them
pub none_closed : closed None ≡ Ok None
unfolding closed
none_closed = refl

pub tables_lead : (n c d v : ℕ) (m : Mux) (video audio : Bool) (u : Option TsUnit) → m.pat ≡ c → c < 16 → m.pmt ≡ d → d < 16 → v < 32 → closed m.pes ≡ Ok u
    → Leads n m (section_text pat_pid c pat ++ section_text pmt_pid d (pmt video audio v)) (option_to_list u) (with_tables m video audio)
tables_lead n c d v m video audio u e small f less version closes =
    let first = pat_leads n c m u e small closes in
    let s = section_back 0 c pat (omega arith) small pat_short in
    let behind = pmt_leads (n + 188) d v (with_pat m) video audio None f less version refl none_closed in
    let both = leads_then n (n + 188) m (with_pat m) (with_tables m video audio) (section_text pat_pid c pat) (section_text pmt_pid d (pmt video audio v)) (option_to_list u) []
    first (omega (arith, s.size)) behind in
    let P : List TsUnit → Type 0 = λ us. Leads n m (section_text pat_pid c pat ++ section_text pmt_pid d (pmt video audio v)) us (with_tables m video audio) in
    subst P (append-nil (option_to_list u)) both

pub tables_size : (c d v : ℕ) (video audio : Bool) → c < 16 → d < 16 → length (section_text pat_pid c pat ++ section_text pmt_pid d (pmt video audio v)) ≡ 376
tables_size c d v video audio small less =
    let s = section_back 0 c pat (omega arith) small pat_short in
    let t = section_back 4096 d (pmt video audio v) (omega arith) less (pmt_short video audio v) in
    length-append (section_text pat_pid c pat) (section_text pmt_pid d (pmt video audio v)) ∙ omega (arith, s.size, t.size)
