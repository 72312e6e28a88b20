use Rattle.bit_fields.proofs.ReadBack.{read_back}
use Rattle.bit_fields.proofs.laws.each_field_is_read_back.Goals as goal

pub returns : goal.returns
returns c = read_back
