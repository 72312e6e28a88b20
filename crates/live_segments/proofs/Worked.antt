-- The worked examples
use Rattle.std.proofs.Common.{◌≡◌, refl, true, false}
use Rattle.std.specs.Prelude.{codes}
use Rattle.std.specs.Fmt.{digits}
use Rattle.relay_base.specs.Numbers.{be16_of, be24_of, be32_of}
use Rattle.avc_annexb.specs.Nal.{dirty_in, triple_in, verdict}
use Rattle.avc_annexb.specs.Prefixed.{front_of, length_at, nals_of, unit_at, units_in}
use Rattle.avc_annexb.specs.Record.{record_of, sets_in, size_read}
use Rattle.aac_adts.specs.Config.{checked, config_of}
use Rattle.ts_writer.specs.Frames.{audio_config, audio_frame, units_text, video_config, video_frame}
use Rattle.ts_writer.specs.Parts.{tables_due}
use Rattle.live_segments.specs.Live.{live}
use Rattle.live_segments.specs.Listing.{playlist}
use Rattle.live_segments.specs.Examples.{again, back, list_again, list_at_first, list_back, list_of_one, list_of_sound, one_broadcast, sound_twice}

pub first_is : playlist (codes "a") 2000 2 (live 2000 one_broadcast).segments false ≡ list_at_first
unfolding digits be16_of be24_of be32_of dirty_in triple_in verdict front_of length_at nals_of unit_at units_in record_of sets_in size_read units_text video_config video_frame
first_is = refl

pub again_is : playlist (codes "a") 2000 2 (live 2000 again).segments false ≡ list_again
unfolding digits be16_of be24_of be32_of dirty_in triple_in verdict front_of length_at nals_of unit_at units_in record_of sets_in size_read units_text video_config video_frame
again_is = refl

pub back_is : playlist (codes "a") 2000 2 (live 2000 back).segments true ≡ list_back
unfolding digits be16_of be24_of be32_of dirty_in triple_in verdict front_of length_at nals_of unit_at units_in record_of sets_in size_read units_text video_config video_frame
back_is = refl

pub one_is : playlist (codes "a") 2000 1 (live 2000 back).segments false ≡ list_of_one
unfolding digits be16_of be24_of be32_of dirty_in triple_in verdict front_of length_at nals_of unit_at units_in record_of sets_in size_read units_text video_config video_frame
one_is = refl

pub sound_is : playlist (codes "a") 2000 2 (live 2000 sound_twice).segments true ≡ list_of_sound
unfolding digits be16_of checked config_of audio_config audio_frame tables_due
sound_is = refl
