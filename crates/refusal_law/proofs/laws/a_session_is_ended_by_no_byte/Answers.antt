use Rattle.refusal_law.proofs.Endings.{session_wants}
use Rattle.refusal_law.proofs.laws.a_session_is_ended_by_no_byte.Goals as goal

pub returns : goal.returns
returns c = λ k who window max n desk x y more ms ns T C e h b few i. session_wants k who window max desk x y ms ns T C h n more e b few i
