use Rattle.amf0_value.proofs.Bare.{whole_there}
use Rattle.amf0_value.proofs.Keys.{first_and_rest}
use Rattle.amf0_value.proofs.walk.skip_whole.Goals as goal
