use Rattle.flv_tags.proofs.Back.{recording_back, text_back}
use Rattle.flv_tags.proofs.laws.what_is_written_is_a_file.Goals as goal

pub returns-clause-tags : goal.returns-clause-tags
returns-clause-tags c = text_back

pub returns-clause-items : goal.returns-clause-items
returns-clause-items c = recording_back
