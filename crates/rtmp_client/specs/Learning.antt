-- What a client says as its dialogue goes on
use Rattle.std.specs.Prelude.{List, [], ◌∷◌}
use Rattle.chunk_wire.specs.declared.message.Message.{Message}
use Rattle.client_owed.specs.declared.types.Asked.{Asked}
use Rattle.client_owed.specs.declared.types.Phase.{Phase}
use Rattle.client_owed.specs.declared.types.Phase.TheVariants.{Connecting, Creating, Asking}
use Rattle.client_owed.specs.Client.{ask, chunk_size, create_stream}
use Rattle.rtmp_client.specs.declared.learning.Due.{Due}
use Rattle.rtmp_client.specs.declared.learning.Due.TheVariants as due

-- between two phases
abbrev pub said_between : Asked → Phase → Phase → List Message
said_between k Connecting Creating = chunk_size ∷ create_stream ∷ []
said_between k Creating (Asking id) = ask k id ∷ []
said_between k _ _ = []

-- and of what is due
abbrev pub said_due : Asked → Due → List Message
said_due k due.Nothing = []
said_due k due.Create = chunk_size ∷ create_stream ∷ []
said_due k (due.Ask id) = ask k id ∷ []
