-- Items, one after another
use Rattle.std.proofs.Common.{◌≡◌, ℕ, ◌+◌, ◌%◌, ◌<◌, Bool, true, false, List, [], ◌∷◌, ◌++◌, length, drop, Option, Some, None, is_some, Ok, Err, refl, sym, ap, ◌∙◌, subst, arith, append-nil}
use Rattle.std.specs.Prelude.{◌&&◌, ◌||◌, not, nat_le, if◌then◌else◌}
use Rattle.std.specs.Option.{option_to_list}
use Rattle.av_unit.specs.declared.item.Item.{Item}
use Rattle.av_unit.specs.declared.item.Item.TheVariants.{Begin, Unit as AUnit, End}
use Rattle.pes_packets.specs.declared.flags.PesFlags.{PesFlags}
use Rattle.pes_packets.specs.Packet.{counted, pes_text, runs_of}
use Rattle.pes_packets.specs.Tables.{audio_pid, pat_pid, pmt_pid, video_pid}
use Rattle.ts_reader.specs.declared.unit.TsUnit.{TsUnit}
use Rattle.ts_reader.specs.Mux.{Mux, Opened, next, start}
use Rattle.ts_reader.specs.Sections.{Listed}
use Rattle.ts_reader.specs.Steps.{closed, on_clock}
use Rattle.ts_reader.specs.declared.fail.TsFail.{TsFail}
use Rattle.ts_reader.specs.Reads.{EndFails, Ends, Packets, Reads, Stops}
use Rattle.ts_reader.proofs.Once.{refused_not_read}
use Rattle.ts_reader.proofs.Ends.{not_at_end as ended_not_refused, one_end}
use Rattle.std.proofs.lemmas.List.{take-append-drop}
use Rattle.ts_reader.specs.Reads.Packets.{none}
use Rattle.ts_writer.specs.declared.in_force.InForce.{InForce}
use Rattle.ts_writer.specs.declared.part.Streams.{Streams}
use Rattle.ts_writer.specs.declared.part.Part.{Part}
use Rattle.ts_writer.specs.declared.part.Part.TheVariants.{Start, Tables, Pes}
use Rattle.ts_writer.specs.Frames.{Frame, framed, pes_of}
use Rattle.ts_writer.specs.Parts.{counter, flags_of, flags_with, is_last, jump_due, lists_of, packets_in, part_text, pid_of, same, sounds_since, tables_due, text_behind, version, with_parts}
use Rattle.ts_writer.specs.Text.{Reading, added, frame_parts, in_force, item_text, listed, part_of, parts, parts_by, reading, reading_of, ts_text}
use Rattle.ts_law.specs.Leads.{Leads, counter_of, lists, moved, with_tables}
use Rattle.ts_law.specs.Pes.{IsFrame, MayFollow, opened, unit_of}
use Rattle.ts_law.specs.Bridge.{IsReadBack, Keeps, bridge, carried, listed_last}
use Rattle.ts_law.proofs.Runs.{leads_then}
use Rattle.ts_law.proofs.Tables.{none_closed, tables_lead, tables_size}
use Rattle.ts_law.proofs.Pes.{are_packets}
use Rattle.ts_law.proofs.Carried.{AreSound, IsListed, are_sound, frame_listed, lists_of as in_force_lists}

-- counters
counter_small : (pid : ℕ) (ps : List Part) → counter pid ps < 16
unfolding counter
counter_small pid ps = omega arith

counter_more : (pid : ℕ) (p : Part) (ps : List Part) → counter pid (p ∷ ps) ≡ (counter pid ps + packets_in pid p) % 16
unfolding counter
counter_more pid p ps = omega arith

version_small : (s : Streams) (ps : List Part) → version s ps < 32
unfolding version
version_small s ps = omega arith

-- what the reader keeps after a part more
keeps_start : (ps : List Part) (m : Mux) → Keeps ps m → Keeps (Start ∷ ps) m
keeps_start ps m k =
    let s : (pid : ℕ) → counter pid (Start ∷ ps) ≡ counter pid ps = λ pid. counter_more pid Start ps ∙ (let h = counter_small pid ps in omega arith) in
    record {
      pat = k.pat ∙ sym (s pat_pid);
      pmt = k.pmt ∙ sym (s pmt_pid);
      video = k.video ∙ sym (s video_pid);
      audio = k.audio ∙ sym (s audio_pid);
      listed = k.listed;
    }

keeps_tables : (s : Streams) (ps : List Part) (m : Mux) → Keeps ps m → Keeps (Tables s ∷ ps) (with_tables m s.video s.audio)
keeps_tables s ps m k = record {
  pat = ap next k.pat ∙ sym (counter_more pat_pid (Tables s) ps);
  pmt = ap next k.pmt ∙ sym (counter_more pmt_pid (Tables s) ps);
  video = k.video ∙ sym (counter_more video_pid (Tables s) ps ∙ (let h = counter_small video_pid ps in omega arith));
  audio = k.audio ∙ sym (counter_more audio_pid (Tables s) ps ∙ (let h = counter_small audio_pid ps in omega arith));
  listed = refl;
}

keeps_pes : (video : Bool) (f : PesFlags) (bytes : List ℕ) (ps : List Part) (m : Mux) (o : Option Opened) → Keeps ps m
    → Keeps (Pes (record { video = video; flags = f; bytes = bytes }) ∷ ps) (moved video (length (runs_of f bytes)) m o)
keeps_pes true f bytes ps m o k =
    let p : Part = Pes (record { video = true; flags = f; bytes = bytes }) in
    record {
      pat = k.pat ∙ sym (counter_more pat_pid p ps ∙ (let h = counter_small pat_pid ps in omega arith));
      pmt = k.pmt ∙ sym (counter_more pmt_pid p ps ∙ (let h = counter_small pmt_pid ps in omega arith));
      video = ap (λ (c : ℕ). counted c (length (runs_of f bytes))) k.video ∙ sym (counter_more video_pid p ps);
      audio = k.audio ∙ sym (counter_more audio_pid p ps ∙ (let h = counter_small audio_pid ps in omega arith));
      listed = k.listed;
    }
keeps_pes false f bytes ps m o k =
    let p : Part = Pes (record { video = false; flags = f; bytes = bytes }) in
    record {
      pat = k.pat ∙ sym (counter_more pat_pid p ps ∙ (let h = counter_small pat_pid ps in omega arith));
      pmt = k.pmt ∙ sym (counter_more pmt_pid p ps ∙ (let h = counter_small pmt_pid ps in omega arith));
      video = k.video ∙ sym (counter_more video_pid p ps ∙ (let h = counter_small video_pid ps in omega arith));
      audio = ap (λ (c : ℕ). counted c (length (runs_of f bytes))) k.audio ∙ sym (counter_more audio_pid p ps);
      listed = k.listed;
    }

-- what the streams say of the clock
abbrev lists_it : Bool → Streams → Bool
lists_it true s = s.video
lists_it false s = s.audio

counter_by : (video : Bool) (ps : List Part) (m : Mux) → Keeps ps m → counter_of video m ≡ counter (pid_of video) ps
counter_by true ps m k = k.video
counter_by false ps m k = k.audio

lists_by : (video : Bool) (s : Streams) (m : Mux) → m.listed ≡ record { video = s.video; audio = s.audio } → lists_it video s ≡ true → lists video m ≡ true
lists_by true s m e l = ap (λ (x : Listed). x.video) e ∙ l
lists_by false s m e l = ap (λ (x : Listed). x.audio) e ∙ l

clock_with : (video listed random jump : Bool) (dts : ℕ) (s : Streams) → s.video ≡ listed → (video ≡ true → listed ≡ true)
    → (video || not listed) ≡ is_some (flags_with jump s video random dts).pcr
clock_with true true random jump dts s e h = rw e refl
clock_with true false random jump dts s e h = let f = h refl in absurd (cc)
clock_with false true random jump dts s e h = rw e refl
clock_with false false random jump dts s e h = rw e refl

video_listed : (video : Bool) (s : Streams) → lists_it video s ≡ true → video ≡ true → s.video ≡ true
video_listed true s l e = l
video_listed false s l e = absurd (cc)

clock_by : (video random : Bool) (dts : ℕ) (s : Streams) (ps : List Part) (m : Mux) → m.listed ≡ record { video = s.video; audio = s.audio } → lists_it video s ≡ true
    → on_clock video m ≡ is_some (flags_of s video random dts ps).pcr
clock_by video random dts s ps m e l =
    ap (λ (x : Listed). video || not x.video) e ∙ clock_with video s.video random (jump_due ps) dts s refl (λ h. video_listed video s l h)

pes_of_moved : (video : Bool) (n : ℕ) (m : Mux) (o : Option Opened) → (moved video n m o).pes ≡ o
pes_of_moved true n m o = refl
pes_of_moved false n m o = refl

-- what further parts add
record Adds (n : ℕ) (m : Mux) (u : Option TsUnit) (ps more : List Part) (text : List ℕ) (f : Frame) : Type 0 where
  new : Mux
  leads : Leads n m text (option_to_list u) new
  keeps : Keeps (with_parts ps more) new
  open_is : closed new.pes ≡ Ok (Some (unit_of f))

-- a frame's PES packet, where its streams were listed last
may_follow : (m : Mux) (u : Option TsUnit) (s : Streams) (ps : List Part) (f : Frame) → Keeps ps m → m.listed ≡ record { video = s.video; audio = s.audio }
    → lists_it f.video s ≡ true → closed m.pes ≡ Ok u → MayFollow m f (flags_of s f.video f.random f.dts ps) u
may_follow m u s ps f k is l closes = record {
  listed = lists_by f.video s m is l;
  counter = subst (λ (c : ℕ). c < 16) (sym (counter_by f.video ps m k)) (counter_small (pid_of f.video) ps);
  clock = clock_by f.video f.random f.dts s ps m is l;
  ends = closes;
}

pes_adds : (n : ℕ) (m : Mux) (u : Option TsUnit) (s : Streams) (ps : List Part) (f : Frame) → Keeps ps m → m.listed ≡ record { video = s.video; audio = s.audio }
    → lists_it f.video s ≡ true → IsFrame f → closed m.pes ≡ Ok u → Adds n m u ps (part_of s (framed f) ps ∷ []) (part_text ps (part_of s (framed f) ps)) f
unfolding part_text
pes_adds n m u s ps f k is l g closes =
    let flags : PesFlags = flags_of s f.video f.random f.dts ps in
    let runs : ℕ = length (runs_of flags (pes_of f)) in
    let a = are_packets n m f flags u g (may_follow m u s ps f k is l closes) in
    let P : ℕ → Type 0 = λ c. Leads n m (pes_text (pid_of f.video) c flags (pes_of f)) (option_to_list u) (moved f.video runs m (Some (opened n f))) in
    record {
      new = moved f.video runs m (Some (opened n f));
      leads = subst P (counter_by f.video ps m k) a.leads;
      keeps = keeps_pes f.video flags (pes_of f) ps m (Some (opened n f)) k;
      open_is = ap closed (pes_of_moved f.video runs m (Some (opened n f))) ∙ a.ends;
    }

same_bools : (a b : Bool) → same a b ≡ true → a ≡ b
same_bools true b e = sym e
same_bools false true e = absurd (cc)
same_bools false false e = refl

both_true : (a b : Bool) → (a && b) ≡ true → (a ≡ true) × (b ≡ true)
both_true true b e = (refl, e)
both_true false b e = absurd (cc)

last_listed : (s : Streams) (earlier : List Streams) → is_last s earlier ≡ true → listed_last earlier ≡ record { video = s.video; audio = s.audio }
last_listed s [] e = absurd (cc)
last_listed s (t ∷ earlier) e =
    let h = both_true (same s.video t.video) (same s.audio t.audio) e in
    let v = same_bools s.video t.video h.0 in
    let a = same_bools s.audio t.audio h.1 in
    rw (v, a) refl

not_due : (s : Streams) (video random : Bool) (ps : List Part) → tables_due s video random ps ≡ false → is_last s (lists_of ps) ≡ true
unfolding tables_due
not_due s video random ps e = by (is_last s (lists_of ps)) (random || (not s.video && (not video && nat_le 32 (sounds_since ps)))) e where
  by : (a b : Bool) → (not a || b) ≡ false → a ≡ true
  by true b e = refl
  by false b e = absurd (cc)

-- both tables
tables_by : (n : ℕ) (m : Mux) (u : Option TsUnit) (s : Streams) (ps : List Part) → Keeps ps m → closed m.pes ≡ Ok u
    → Leads n m (part_text ps (Tables s)) (option_to_list u) (with_tables m s.video s.audio) × (length (part_text ps (Tables s)) ≡ 376)
unfolding part_text
tables_by n m u s ps k closes = (
  tables_lead n (counter pat_pid ps) (counter pmt_pid ps) (version s ps) m s.video s.audio u k.pat (counter_small pat_pid ps) k.pmt (counter_small pmt_pid ps)
      (version_small s ps) closes,
  tables_size (counter pat_pid ps) (counter pmt_pid ps) (version s ps) s.video s.audio (counter_small pat_pid ps) (counter_small pmt_pid ps),
)

-- A FRAME, behind tables where they are due
frame_by : (due : Bool) (n : ℕ) (m : Mux) (u : Option TsUnit) (s : Streams) (ps : List Part) (f : Frame) → Keeps ps m → lists_it f.video s ≡ true → IsFrame f
    → closed m.pes ≡ Ok u → (due ≡ false → is_last s (lists_of ps) ≡ true)
    → Adds n m u ps (if due then Tables s ∷ part_of s (framed f) (Tables s ∷ ps) ∷ [] else part_of s (framed f) ps ∷ [])
    (text_behind ps (if due then Tables s ∷ part_of s (framed f) (Tables s ∷ ps) ∷ [] else part_of s (framed f) ps ∷ [])) f
unfolding text_behind
frame_by false n m u s ps f k l g closes last =
    let a = pes_adds n m u s ps f k (k.listed ∙ last_listed s (lists_of ps) (last refl)) l g closes in
    let P : List ℕ → Type 0 = λ b. Leads n m b (option_to_list u) a.new in
    record { new = a.new; leads = subst P (sym (append-nil (part_text ps (part_of s (framed f) ps)))) a.leads; keeps = a.keeps; open_is = a.open_is }
frame_by true n m u s ps f k l g closes last =
    let mid : Mux = with_tables m s.video s.audio in
    let first = tables_by n m u s ps k closes in
    let a = pes_adds (n + 376) mid None s (Tables s ∷ ps) f (keeps_tables s ps m k) refl l g none_closed in
    let tables : List ℕ = part_text ps (Tables s) in
    let packets : List ℕ = part_text (Tables s ∷ ps) (part_of s (framed f) (Tables s ∷ ps)) in
    let both = leads_then n (n + 376) m mid a.new tables packets (option_to_list u) [] first.0 (omega (arith, first.1)) a.leads in
    let P : List ℕ → Type 0 = λ b. Leads n m (tables ++ b) (option_to_list u) a.new in
    let Q : List TsUnit → Type 0 = λ us. Leads n m (tables ++ packets) us a.new in
    record { new = a.new; leads = subst P (sym (append-nil packets)) (subst Q (append-nil (option_to_list u)) both); keeps = a.keeps; open_is = a.open_is }

frame_adds : (n : ℕ) (m : Mux) (u : Option TsUnit) (s : Streams) (ps : List Part) (f : Frame) → Keeps ps m → lists_it f.video s ≡ true → IsFrame f
    → closed m.pes ≡ Ok u → Adds n m u ps (frame_parts s (framed f) ps) (text_behind ps (frame_parts s (framed f) ps)) f
frame_adds n m u s ps f k l g closes =
    frame_by (tables_due s f.video f.random ps) n m u s ps f k l g closes (λ e. not_due s f.video f.random ps e)

-- what a reading adds
record Reaches (b : List ℕ) (units : List TsUnit) (last : Option TsUnit) (ps more : List Part) (text : List ℕ) (list : List TsUnit) : Type 0 where
  given : List TsUnit
  behind : Option TsUnit
  new : Mux
  packets : Packets (b ++ text) given new
  keeps : Keeps (with_parts ps more) new
  open_is : closed new.pes ≡ Ok behind
  all : given ++ option_to_list behind ≡ (units ++ option_to_list last) ++ list

reaches_none : (b : List ℕ) (units : List TsUnit) (last : Option TsUnit) (m : Mux) (ps more : List Part) (text : List ℕ) → Packets b units m → closed m.pes ≡ Ok last
    → text ≡ [] → Keeps (with_parts ps more) m → Reaches b units last ps more text []
reaches_none b units last m ps more text x c e k =
    let P : List ℕ → Type 0 = λ z. Packets z units m in
    record {
      given = units;
      behind = last;
      new = m;
      packets = subst P (sym (ap (λ (t : List ℕ). b ++ t) e ∙ append-nil b)) x;
      keeps = k;
      open_is = c;
      all = sym (append-nil (units ++ option_to_list last));
    }

no_parts : (ps : List Part) → text_behind ps [] ≡ []
unfolding text_behind
no_parts ps = refl

start_alone : (ps : List Part) → text_behind ps (Start ∷ []) ≡ []
unfolding text_behind part_text
start_alone ps = refl

reaches_frame : (b : List ℕ) (units : List TsUnit) (last : Option TsUnit) (m : Mux) (s : Streams) (ps : List Part) (f : Frame) → Packets b units m → closed m.pes ≡ Ok last
    → Keeps ps m → lists_it f.video s ≡ true → IsFrame f → Reaches b units last ps (frame_parts s (framed f) ps) (text_behind ps (frame_parts s (framed f) ps)) (unit_of f ∷ [])
reaches_frame b units last m s ps f x c k l g =
    let a = frame_adds (length b) m last s ps f k l g c in
    record {
      given = units ++ option_to_list last;
      behind = Some (unit_of f);
      new = a.new;
      packets = a.leads.on b units refl x;
      keeps = a.keeps;
      open_is = a.open_is;
      all = refl;
    }

streams_list : (video : Bool) (s : InForce) → in_force_lists video s ≡ true → lists_it video (listed s) ≡ true
streams_list true s e = e
streams_list false s e = e

by_reading : (b : List ℕ) (units : List TsUnit) (last : Option TsUnit) (m : Mux) (s : InForce) (ps : List Part) (r : Reading) → Packets b units m → closed m.pes ≡ Ok last
    → Keeps ps m → ((f : Frame) → r ≡ Ok (Some f) → IsListed s f)
    → Reaches b units last ps (parts_by (listed s) r ps) (text_behind ps (parts_by (listed s) r ps)) (carried r)
by_reading b units last m s ps (Err e) x c k next = reaches_none b units last m ps [] (text_behind ps []) x c (no_parts ps) k
by_reading b units last m s ps (Ok None) x c k next = reaches_none b units last m ps [] (text_behind ps []) x c (no_parts ps) k
by_reading b units last m s ps (Ok (Some f)) x c k next =
    let i = next f refl in
    reaches_frame b units last m (listed s) ps f x c k (streams_list f.video s i.lists_it) i.good

item_reaches : (b : List ℕ) (units : List TsUnit) (last : Option TsUnit) (m : Mux) (s : InForce) (ps : List Part) (item : Item) → Packets b units m → closed m.pes ≡ Ok last
    → Keeps ps m → AreSound s → Reaches b units last ps (added s item ps) (text_behind ps (added s item ps)) (carried (reading s item))
item_reaches b units last m s ps Begin x c k a =
    reaches_none b units last m ps (Start ∷ []) (text_behind ps (Start ∷ [])) x c (start_alone ps) (keeps_start ps m k)
item_reaches b units last m s ps End x c k a = reaches_none b units last m ps [] (text_behind ps []) x c (no_parts ps) k
item_reaches b units last m s ps (AUnit u) x c k a =
    by_reading b units last m s ps (reading_of s u.kind u.time u.body) x c k (λ f e. frame_listed s u.kind u.time u.body f a e)

-- THE TEXT OF ITEMS
no_keeps : Keeps [] start
unfolding counter
no_keeps = record { pat = refl; pmt = refl; video = refl; audio = refl; listed = refl }

item_is : (past : List Item) (item : Item) → item_text past item ≡ text_behind (parts past) (added (in_force past) item (parts past))
unfolding item_text
item_is past item = refl

pub read_back : (items : List Item) → IsReadBack items
read_back [] = record { units = []; last = None; ends = record { m = start; packets = none; last = none_closed }; keeps = no_keeps; all = refl }
read_back (item ∷ past) =
    let s = read_back past in
    let e = s.ends in
    let r = item_reaches (ts_text past) s.units s.last e.m (in_force past) (parts past) item e.packets e.last s.keeps (are_sound past) in
    let P : List ℕ → Type 0 = λ t. Packets (ts_text past ++ t) r.given r.new in
    record {
      units = r.given;
      last = r.behind;
      ends = record { m = r.new; packets = subst P (sym (item_is past item)) r.packets; last = r.open_is };
      keeps = r.keeps;
      all = r.all ∙ ap (λ (us : List TsUnit). us ++ carried (reading (in_force past) item)) s.all;
    }

-- it is read in one way, and not refused
same_units : (us vs : List TsUnit) (u v : Option TsUnit) → us ≡ vs → u ≡ v → vs ++ option_to_list v ≡ us ++ option_to_list u
same_units us vs u v e f = rw (e, f) refl

pub read_only : (items : List Item) (units : List TsUnit) (last : Option TsUnit) → Ends (ts_text items) units last → units ++ option_to_list last ≡ bridge items
read_only items units last e =
    let s = read_back items in
    let same = one_end (ts_text items) s.units units s.last last s.ends e in
    same_units s.units units s.last last same.units_same same.last_same ∙ s.all

whole_reads : (b : List ℕ) (us : List TsUnit) (m : Mux) → Packets b us m → Reads b us m []
whole_reads b us m x = record { whole = b; packets = x; bytes = sym (append-nil b); short = omega arith }

pub not_refused : (items : List Item) (units : List TsUnit) (n : ℕ) (e : TsFail) → Stops (ts_text items) n units e → ⊥
not_refused items units n e stop =
    let s = read_back items in
    let ends = s.ends in
    let P : List ℕ → Type 0 = λ b. Reads b s.units ends.m [] in
    refused_not_read (ts_text items) (drop (n + 1) (ts_text items)) e n units s.units ends.m [] stop
    (subst P (sym (take-append-drop (n + 1) (ts_text items))) (whole_reads (ts_text items) s.units ends.m ends.packets))

pub not_at_end : (items : List Item) (units : List TsUnit) (e : TsFail) → EndFails (ts_text items) units e → ⊥
not_at_end items units e fails = let s = read_back items in ended_not_refused (ts_text items) s.units units s.last e s.ends fails
