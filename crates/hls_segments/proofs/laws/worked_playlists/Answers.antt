use Rattle.hls_segments.proofs.Worked.{pictures_are, sound_is}
use Rattle.hls_segments.proofs.laws.worked_playlists.Goals as goal

pub returns : goal.returns
returns c = record { sound = sound_is; pictures = pictures_are }
