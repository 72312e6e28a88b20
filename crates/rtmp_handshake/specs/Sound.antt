-- Only proofs and private functions use it.
-- How the fields of a handshake stand for what it read.
use Rattle.std.specs.Prelude.{◌≡◌, ◌≢◌, ℕ, ◌≤◌, ◌<◌, List, [], length, Option, None}
use Rattle.rtmp_handshake.specs.declared.fail.HandFail.{HandFail}
use Rattle.rtmp_handshake.specs.Answer.{bad_version}
use Rattle.rtmp_handshake.specs.Echo.{kept_of}

pub record IsSound (count : ℕ) (kept : List ℕ) (failed : Option HandFail) (fed : List ℕ) : Type 0 where
  pub counted : count ≡ length fed
  pub most : length fed ≤ 3073
  pub version : bad_version fed ≡ None
  -- what is kept: that of C1 until it is complete, and nothing after
  pub kept_is : failed ≡ None → length fed < 1537 → kept ≡ kept_of 0 fed
  pub kept_most : length kept ≤ 1532
  pub let_go : 1537 ≤ length fed → kept ≡ []
  pub dropped : failed ≢ None → kept ≡ []
