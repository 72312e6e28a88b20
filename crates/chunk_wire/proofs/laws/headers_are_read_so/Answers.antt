use Rattle.std.proofs.Common.{refl}
use Rattle.relay_base.specs.Numbers.{be24_of, le32_of}
use Rattle.chunk_wire.specs.Layout.{head_in, head_size}
use Rattle.chunk_wire.proofs.laws.headers_are_read_so.Goals as goal

pub returns-clause-fields : goal.returns-clause-fields
unfolding head_size head_in be24_of le32_of
returns-clause-fields c = refl

pub returns-clause-no_stream : goal.returns-clause-no_stream
unfolding head_size head_in be24_of le32_of
returns-clause-no_stream c = refl

pub returns-clause-no_length : goal.returns-clause-no_length
unfolding head_size head_in be24_of le32_of
returns-clause-no_length c = refl
