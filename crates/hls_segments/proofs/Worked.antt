-- The worked examples
use Rattle.std.proofs.Common.{◌≡◌, refl}
use Rattle.std.specs.Prelude.{codes}
use Rattle.std.specs.Fmt.{digits}
use Rattle.relay_base.specs.Numbers.{be16_of, be24_of, be32_of}
use Rattle.avc_annexb.specs.Nal.{dirty_in, triple_in, verdict}
use Rattle.avc_annexb.specs.Prefixed.{front_of, length_at, nals_of, unit_at, units_in}
use Rattle.avc_annexb.specs.Record.{record_of, sets_in, size_read}
use Rattle.aac_adts.specs.Config.{checked, config_of}
use Rattle.ts_writer.specs.Examples.{sound_items}
use Rattle.ts_writer.specs.Frames.{audio_config, audio_frame, units_text, video_config, video_frame}
use Rattle.hls_segments.specs.Cuts.{segments}
use Rattle.hls_segments.specs.Playlist.{playlist}
use Rattle.hls_segments.specs.Examples.{key_pictures, list_of_pictures, list_of_sound}

pub sound_is : playlist (codes "a") (segments 2000 sound_items) ≡ list_of_sound
unfolding digits be16_of checked config_of audio_config audio_frame
sound_is = refl

pub pictures_are : playlist (codes "a") (segments 2000 key_pictures) ≡ list_of_pictures
unfolding digits be16_of be24_of be32_of dirty_in triple_in verdict front_of length_at nals_of unit_at units_in record_of sets_in size_read units_text video_config video_frame
pictures_are = refl
