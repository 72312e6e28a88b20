-- How long the bodies of the answers are.
use Rattle.std.proofs.Common.{◌≡◌, ◌≤◌, ℕ, length, refl, arith}
use Rattle.amf0_value.specs.Spelling.{be}
use Rattle.amf0_value.specs.Encoding.{items_spelling}
use Rattle.rtmp_command.specs.declared.answer.Why.TheVariants as why
use Rattle.rtmp_command.specs.declared.answer.Answer.{Answer}
use Rattle.rtmp_command.specs.declared.answer.Answer.TheVariants as answer
use Rattle.rtmp_command.specs.Answers.{status_values, values_of, body_of}

so_long : (a : Answer) (n : ℕ) → length (items_spelling (values_of a)) ≡ n → n ≤ 190 → length (items_spelling (values_of a)) ≤ 190
so_long a n is most = omega (arith, is)

pub body_short : (a : Answer) → length (items_spelling (values_of a)) ≤ 190
unfolding be status_values
body_short (answer.Connected t) = so_long (answer.Connected t) 190 refl (omega arith)
body_short (answer.Created t id) = so_long (answer.Created t id) 29 refl (omega arith)
body_short answer.PublishStart = so_long answer.PublishStart 100 refl (omega arith)
body_short (answer.PublishRefused why.RoleActive) = so_long (answer.PublishRefused why.RoleActive) 102 refl (omega arith)
body_short (answer.PublishRefused why.NoName) = so_long (answer.PublishRefused why.NoName) 103 refl (omega arith)
body_short (answer.PublishRefused why.Refused) = so_long (answer.PublishRefused why.Refused) 98 refl (omega arith)
body_short (answer.PublishRefused why.InUse) = so_long (answer.PublishRefused why.InUse) 97 refl (omega arith)
body_short (answer.PublishRefused why.Full) = so_long (answer.PublishRefused why.Full) 95 refl (omega arith)
body_short answer.PlayStart = so_long answer.PlayStart 94 refl (omega arith)
body_short (answer.PlayRefused why.RoleActive) = so_long (answer.PlayRefused why.RoleActive) 106 refl (omega arith)
body_short (answer.PlayRefused why.NoName) = so_long (answer.PlayRefused why.NoName) 107 refl (omega arith)
body_short (answer.PlayRefused why.Refused) = so_long (answer.PlayRefused why.Refused) 102 refl (omega arith)
body_short (answer.PlayRefused why.InUse) = so_long (answer.PlayRefused why.InUse) 101 refl (omega arith)
body_short (answer.PlayRefused why.Full) = so_long (answer.PlayRefused why.Full) 99 refl (omega arith)
body_short answer.PublishNotify = so_long answer.PublishNotify 104 refl (omega arith)
body_short answer.UnpublishNotify = so_long answer.UnpublishNotify 108 refl (omega arith)

pub body_of_short : (a : Answer) → length (body_of a) ≤ 190
unfolding body_of
body_of_short a = body_short a
