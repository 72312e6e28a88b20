use Rattle.flv_tags.proofs.Back.{file_part, file_unrefused, file_whole}
use Rattle.flv_tags.proofs.laws.a_file_is_read_back.Goals as goal

pub returns-clause-part : goal.returns-clause-part
returns-clause-part c = file_part

pub returns-clause-accepted : goal.returns-clause-accepted
returns-clause-accepted c = file_unrefused

pub returns-clause-whole : goal.returns-clause-whole
returns-clause-whole c = file_whole
