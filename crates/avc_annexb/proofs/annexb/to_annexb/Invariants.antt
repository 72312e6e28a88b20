use Rattle.std.proofs.Common.{◌≡◌, ◌++◌, take}
use Rattle.avc_annexb.specs.AnnexB.{annexb}
use Rattle.avc_annexb.proofs.annexb.to_annexb.Given as goal

abbrev pub invariant-loop-unit : goal.invariant-loop-unit
invariant-loop-unit l = l.out ≡ l.fn.out ++ annexb (take l.unit-index l.units)
