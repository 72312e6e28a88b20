use Rattle.std.proofs.Common.{ap, ◌∙◌, ℕ}
use Rattle.std.specs.Prelude.{◌==◌}
use Rattle.avc_annexb.proofs.Splits.{is_one}
use Rattle.avc_annexb.proofs.split.begins.Goals as goal

pub returns : goal.returns
returns c = ap (λ (n : ℕ). n == 1) c.be32.ensures ∙ is_one c.args.bytes.now c.if-bytes-lt4.false
