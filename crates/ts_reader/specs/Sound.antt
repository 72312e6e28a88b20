-- Only proofs and private functions use it.
-- What a reader keeps true of its fields, and what its steps leave
use Rattle.std.specs.Prelude.{◌≡◌, ◌⊎◌, ◌<◌, ℕ, List, [], ◌++◌, length, Option, None, option_map, is_some, true, false, Result, Ok, Err}
use Rattle.ts_reader.specs.declared.unit.TsUnit.{TsUnit}
use Rattle.ts_reader.specs.declared.fail.TsFail.{TsFail}
use Rattle.ts_reader.specs.declared.fail.TsFail.TheVariants.{NoSync, OutOfMemory}
use Rattle.ts_reader.specs.declared.state.Open.{Open}
use Rattle.ts_reader.specs.declared.state.State.{State}
use Rattle.ts_reader.specs.declared.header.Head.{Head}
use Rattle.ts_reader.specs.declared.tables.Streams.{Streams}
use Rattle.ts_reader.specs.Fields.{packet_size}
use Rattle.ts_reader.specs.Times.{Told}
use Rattle.ts_reader.specs.Sections.{Listed}
use Rattle.ts_reader.specs.Mux.{Mux, Opened, start}
use Rattle.ts_reader.specs.Steps.{Step, closed, step}
use Rattle.ts_reader.specs.Reads.{Packets}
use Rattle.ts_reader.specs.Feeds.{Stands}

-- what the code keeps, as the definitions have it
abbrev pub told_of : Head → Told
told_of h = record { pts = h.pts; dts = h.dts; length = h.length; size = h.size }

abbrev pub listed_of : Streams → Listed
listed_of s = record { video = s.video; audio = s.audio }

abbrev pub opened_of : Open → Opened
opened_of o = record { at = o.at; length = o.length; unit = o.unit }

abbrev pub mux_of : State → Mux
mux_of s = record {
  pat = s.pat;
  pmt = s.pmt;
  video = s.video;
  audio = s.audio;
  found = s.found;
  listed = listed_of s.listed;
  pes = option_map opened_of s.pes;
}

-- what was answered and left is what a step says, unless memory was refused
abbrev pub Does : Result (Option TsUnit) TsFail → Step → Mux → Type 0
Does (Ok u) s new = s ≡ Ok (u, new)
Does (Err e) s new = (e ≡ OutOfMemory) ⊎ (s ≡ Err e)

-- the same of a packet that goes on with the open PES packet
abbrev pub DoesMore : Result (Unit {0}) TsFail → Result Opened TsFail → Opened → Type 0
DoesMore (Ok _) s new = s ≡ Ok new
DoesMore (Err e) s new = (e ≡ OutOfMemory) ⊎ (s ≡ Err e)

-- bytes came to a packet that isn't whole yet
pub record Grows (m : Mux) (r : List ℕ) (run : List ℕ) (u : Option TsUnit) (new : Mux) (rest : List ℕ) : Type 0 where
  pub short : length (r ++ run) < packet_size
  pub rest_is : rest ≡ r ++ run
  pub none : u ≡ None
  pub same : new ≡ m

-- or completed it
pub record Completes (at : ℕ) (m : Mux) (r : List ℕ) (run : List ℕ) (u : Option TsUnit) (new : Mux) (rest : List ℕ) : Type 0 where
  pub whole : length (r ++ run) ≡ packet_size
  pub rest_is : rest ≡ []
  pub does : step at m (r ++ run) ≡ Ok (u, new)

abbrev pub Takes : ℕ → Mux → List ℕ → List ℕ → Option TsUnit → Mux → List ℕ → Type 0
Takes at m r run u new rest = Grows m r run u new rest ⊎ Completes at m r run u new rest

-- or completed one that is refused
pub record Fails (at : ℕ) (m : Mux) (r : List ℕ) (run : List ℕ) (e : TsFail) : Type 0 where
  pub whole : length (r ++ run) ≡ packet_size
  pub refused : step at m (r ++ run) ≡ Err e

-- the unit of the PES packet that is open at the end
pub record IsLast (m : Mux) (r : List ℕ) (u : Option TsUnit) : Type 0 where
  pub none : r ≡ []
  pub last : closed m.pes ≡ Ok u

-- a packet isn't whole there, or that PES packet is refused
abbrev pub LastFails : ℕ → Mux → List ℕ → TsFail → Type 0
LastFails at m r e = ((0 < length r) × (e ≡ NoSync at)) ⊎ ((r ≡ []) × (closed m.pes ≡ Err e))

-- what was fed is whole packets and the bytes of one that isn't whole
pub record IsStanding (fed : List ℕ) (given : List TsUnit) (at : ℕ) (m : Mux) (r : List ℕ) : Type 0 where
  pub whole : List ℕ
  pub packets : Packets whole given m
  pub bytes : fed ≡ whole ++ r
  pub short : length r < packet_size
  pub place : at ≡ length whole

-- nothing is kept of what was fed
pub record IsDropped (m : Mux) (part : List ℕ) : Type 0 where
  pub state : m ≡ start
  pub none : part ≡ []

pub record IsSound (state : State) (part : List ℕ) (at : ℕ) (failed : Option TsFail) (fed : List ℕ) (given : List TsUnit) : Type 0 where
  pub read : Stands (record { fed = fed; given = given; failed = failed })
  pub standing : is_some failed ≡ false → IsStanding fed given at (mux_of state) part
  -- one that refused keeps nothing
  pub dropped : is_some failed ≡ true → IsDropped (mux_of state) part
