-- What is opened in a replay: a session, a player over HTTP or an edge, each with its link
use Rattle.std.specs.Prelude.{Option}
use Rattle.relay_outside.specs.MemLinks.{MemLinkState}
use Rattle.stream_registry.specs.Books.{SeenState}
use Rattle.relay_session.specs.SessionState.{SessionState}
use Rattle.relay_session.specs.declared.end.End.{End}
use Rattle.http_flv.specs.PlayerState.{PlayerState}
use Rattle.http_flv.specs.declared.end.HttpEnd.{HttpEnd}
use Rattle.origin_pull.specs.EdgeState.{EdgeState}
use Rattle.origin_pull.specs.declared.end.EdgeEnd.{EdgeEnd}

-- a session with its link
pub record ConnState : Type 0 where
  pub session : SessionState SeenState
  pub link : MemLinkState
  -- why it has ended, if it has
  pub ended : Option End

-- a player over HTTP
pub record PlayState : Type 0 where
  pub player : PlayerState SeenState
  pub link : MemLinkState
  pub ended : Option HttpEnd

-- an edge
pub record PullState : Type 0 where
  pub edge : EdgeState SeenState
  pub link : MemLinkState
  pub ended : Option EdgeEnd
