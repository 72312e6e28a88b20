-- What a message tells, where it is a command, and where it is none
use Rattle.std.specs.Prelude.{List, [], Result}
use Rattle.chunk_wire.specs.declared.message.Message.{Message}
use Rattle.rtmp_command.specs.declared.command.CommandFail.{CommandFail}
use Rattle.client_owed.specs.declared.types.Gift.{Gift}
use Rattle.client_owed.specs.declared.types.News.{News}
use Rattle.client_owed.specs.declared.types.Phase.{Phase}
use Rattle.client_owed.specs.declared.types.Phase.TheVariants.{Connecting, Creating, Asking, Started}
use Rattle.client_owed.specs.declared.types.Wish.{Wish}
use Rattle.client_owed.specs.declared.types.Wish.TheVariants as wish
use Rattle.client_owed.specs.Pulled.{tag_on, told_in}

abbrev pub told_once : Phase → Result News CommandFail → List Gift
told_once (Started id) r = told_in r
told_once Connecting r = []
told_once Creating r = []
told_once (Asking id) r = []

abbrev pub told_for : Wish → Phase → Result News CommandFail → List Gift
told_for wish.Push p r = []
told_for wish.Pull p r = told_once p r

abbrev pub media_once : Phase → Message → List Gift
media_once (Started id) m = tag_on id m
media_once Connecting m = []
media_once Creating m = []
media_once (Asking id) m = []

abbrev pub media_for : Wish → Phase → Message → List Gift
media_for wish.Push p m = []
media_for wish.Pull p m = media_once p m
