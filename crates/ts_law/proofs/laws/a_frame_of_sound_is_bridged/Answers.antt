use Rattle.ts_law.proofs.Worked.{sound_is}
use Rattle.ts_law.proofs.laws.a_frame_of_sound_is_bridged.Goals as goal

pub returns : goal.returns
returns c = sound_is
