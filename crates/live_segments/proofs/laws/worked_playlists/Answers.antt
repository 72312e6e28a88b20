use Rattle.live_segments.proofs.Worked.{again_is, back_is, first_is, one_is, sound_is}
use Rattle.live_segments.proofs.laws.worked_playlists.Goals as goal

pub returns : goal.returns
returns c = record { first = first_is; again = again_is; back = back_is; sound = sound_is; one = one_is }
