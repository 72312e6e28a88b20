use Rattle.std.proofs.Common.{refl}
use Rattle.relay_base.specs.Numbers.{be24_of, be32_of, le32_of}
use Rattle.chunk_wire.specs.Layout.{basic_size, head_in, head_size, id_in}
use Rattle.chunk_wire.specs.Chunk.{after_chunk, header_size, is_extended, message_of, opened, terms_by, value_in}
use Rattle.chunk_wire.specs.State.{index_of}
use Rattle.chunk_wire.proofs.laws.chunks_are_read_so.Goals as goal

pub returns-clause-whole : goal.returns-clause-whole
unfolding be24_of be32_of le32_of basic_size id_in head_size head_in is_extended header_size value_in terms_by opened message_of after_chunk index_of
returns-clause-whole c = refl

pub returns-clause-header : goal.returns-clause-header
unfolding be24_of be32_of le32_of basic_size id_in head_size head_in is_extended header_size value_in terms_by opened message_of after_chunk index_of
returns-clause-header c = refl

pub returns-clause-time : goal.returns-clause-time
unfolding be24_of be32_of le32_of basic_size id_in head_size head_in is_extended header_size value_in terms_by opened message_of after_chunk index_of
returns-clause-time c = refl

pub returns-clause-size : goal.returns-clause-size
unfolding be24_of be32_of le32_of basic_size id_in head_size head_in is_extended header_size value_in terms_by opened message_of after_chunk index_of
returns-clause-size c = refl

pub returns-clause-extended : goal.returns-clause-extended
unfolding be24_of be32_of le32_of basic_size id_in head_size head_in is_extended header_size value_in terms_by opened message_of after_chunk index_of
returns-clause-extended c = refl

pub returns-clause-rest : goal.returns-clause-rest
unfolding be24_of be32_of le32_of basic_size id_in head_size head_in is_extended header_size value_in terms_by opened message_of after_chunk index_of
returns-clause-rest c = refl
