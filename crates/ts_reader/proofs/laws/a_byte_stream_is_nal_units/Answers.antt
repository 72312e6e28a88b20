use Rattle.ts_reader.proofs.Streams.{split_stream, stream_read, stream_split, stream_written}
use Rattle.ts_reader.proofs.laws.a_byte_stream_is_nal_units.Goals as goal

pub returns-clause-read : goal.returns-clause-read
returns-clause-read c = stream_read

pub returns-clause-written : goal.returns-clause-written
returns-clause-written c = stream_written

pub returns-clause-split : goal.returns-clause-split
returns-clause-split c = stream_split

pub returns-clause-only : goal.returns-clause-only
returns-clause-only c = split_stream
