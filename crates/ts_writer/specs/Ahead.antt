-- What a writer keeps of the parts so far
use Rattle.std.specs.Prelude.{◌%◌, min, List, [], ◌∷◌, Option, Some, None}
use Rattle.pes_packets.specs.Tables.{pat_pid, pmt_pid, video_pid, audio_pid}
use Rattle.ts_writer.specs.declared.ahead.Ahead.{Ahead}
use Rattle.ts_writer.specs.declared.part.Streams.{Streams}
use Rattle.ts_writer.specs.declared.part.Part.{Part}
use Rattle.ts_writer.specs.Parts.{counter, lists_of, changes, sounds_since, has_reference, jump_due}

abbrev pub newest : List Streams → Option Streams
newest [] = None
newest (s ∷ earlier) = Some s

abbrev pub ahead_of : List Part → Ahead
ahead_of ps = record {
  pat = counter pat_pid ps;
  pmt = counter pmt_pid ps;
  video = counter video_pid ps;
  audio = counter audio_pid ps;
  last = newest (lists_of ps);
  version = changes (lists_of ps) % 32;
  sounds = min 32 (sounds_since ps);
  referred = has_reference ps;
  jump = jump_due ps;
}
