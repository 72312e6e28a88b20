use Rattle.ts_law.proofs.Headers.{both_header, picture_header, sound_header}
use Rattle.ts_law.proofs.laws.a_header_is_read.Goals as goal

pub returns : goal.returns
returns c = record { sound = sound_header; picture = picture_header; two_times = both_header }
