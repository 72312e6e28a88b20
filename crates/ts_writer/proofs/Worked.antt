-- The worked examples, computed
use Rattle.std.proofs.Common.{◌≡◌, refl}
use Rattle.relay_base.specs.Numbers.{be16_of}
use Rattle.aac_adts.specs.Config.{config_of, checked}
use Rattle.aac_adts.specs.Frame.{head_bytes as adts_head}
use Rattle.pes_packets.specs.Crc.{crc_from, shifted_by, shifted}
use Rattle.pes_packets.specs.Tables.{pat, pmt}
use Rattle.pes_packets.specs.Header.{header, start_bytes, flag_bytes, time_bytes}
use Rattle.pes_packets.specs.Packet.{head_bytes, pcr_bytes, told, adaptation, room, packet, cuts, packets, section_text}
use Rattle.ts_writer.specs.Frames.{audio_config, audio_frame}
use Rattle.ts_writer.specs.Parts.{counter, version, part_text, text_behind, tables_due}
use Rattle.ts_writer.specs.Text.{item_text, ts_text}
use Rattle.ts_writer.specs.Examples.{sound_items, sound_text}

pub sound_is : ts_text sound_items ≡ sound_text
unfolding be16_of config_of checked adts_head crc_from shifted_by shifted pat pmt header start_bytes flag_bytes time_bytes head_bytes pcr_bytes told adaptation room packet cuts packets section_text audio_config audio_frame counter version part_text text_behind tables_due item_text
sound_is = refl
