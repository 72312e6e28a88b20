-- What further bytes add to a reading
use Rattle.std.specs.Prelude.{◌≡◌, ◌<◌, ℕ, Bool, true, false, List, ◌++◌, length, Option, None, Ok, option_to_list}
use Rattle.pes_packets.specs.Packet.{IsCounter, counted, section_text}
use Rattle.pes_packets.specs.Tables.{pat, pat_pid, pmt, pmt_pid}
use Rattle.ts_reader.specs.declared.unit.TsUnit.{TsUnit}
use Rattle.ts_reader.specs.Mux.{Mux, Opened, next}
use Rattle.ts_reader.specs.Steps.{closed}
use Rattle.ts_reader.specs.Reads.{Packets}

-- behind any n bytes that lead to m, these bytes give these units and lead on to this
pub record Leads (n : ℕ) (m : Mux) (b : List ℕ) (units : List TsUnit) (new : Mux) : Type 0 where
  pub on : (before : List ℕ) (given : List TsUnit) → length before ≡ n → Packets before given m → Packets (before ++ b) (given ++ units) new

-- a stream's counter, and whether it is listed
abbrev pub counter_of : Bool → Mux → ℕ
counter_of true m = m.video
counter_of false m = m.audio

abbrev pub lists : Bool → Mux → Bool
lists true m = m.listed.video
lists false m = m.listed.audio

-- what is kept behind so many packets of a stream more, with this PES packet open
abbrev pub moved : Bool → ℕ → Mux → Option Opened → Mux
moved true n m o = record m { video = counted m.video n; pes = o }
moved false n m o = record m { audio = counted m.audio n; pes = o }

-- behind an association table, and behind a map of these streams
abbrev pub with_pat : Mux → Mux
with_pat m = record m { pat = next m.pat; found = true; pes = None }

abbrev pub with_pmt : Mux → Bool → Bool → Mux
with_pmt m video audio = record m { pmt = next m.pmt; listed = record { video = video; audio = audio }; pes = None }

-- behind both
abbrev pub with_tables : Mux → Bool → Bool → Mux
with_tables m video audio = with_pmt (with_pat m) video audio

-- both tables, with the next counters of their PIDs, and where they may follow: the PES packet before them,
-- if there is one, has this unit
abbrev pub tables_text : Mux → Bool → Bool → ℕ → List ℕ
tables_text m video audio version = section_text pat_pid m.pat pat ++ section_text pmt_pid m.pmt (pmt video audio version)

pub record AreDue (m : Mux) (version : ℕ) (u : Option TsUnit) : Type 0 where
  pub pat : IsCounter m.pat
  pub pmt : IsCounter m.pmt
  pub version_fits : version < 32
  pub ends : closed m.pes ≡ Ok u

-- BOTH TABLES ARE READ
abbrev pub AreTables : ℕ → Mux → Bool → Bool → ℕ → Option TsUnit → Type 0
AreTables n m video audio version u = Leads n m (tables_text m video audio version) (option_to_list u) (with_tables m video audio)
