use Rattle.std.proofs.Common.{refl}
use Rattle.ts_writer.proofs.Worked.{sound_is}
use Rattle.ts_writer.proofs.laws.a_frame_of_sound.Goals as goal

pub returns : goal.returns
returns c = sound_is
