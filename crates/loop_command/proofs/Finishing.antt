-- A run that has come to its end
use Rattle.std.proofs.Common.{◌≡◌, ℕ, ◌≤◌, Bool, true, List, [], ◌∷◌, ◌++◌, length, Option, sym, ap, ◌∙◌, subst, arith}
use Rattle.flv_tags.specs.declared.tag.Tag.{Tag}
use Rattle.relay_outside.specs.MemLinks.{MemLinkState}
use Rattle.client_owed.specs.declared.types.Gave.{Gave}
use Rattle.client_owed.specs.declared.types.Gift.{Gift}
use Rattle.client_owed.specs.declared.types.Gift.TheVariants as gift
use Rattle.client_owed.specs.Standing.{listed}
use Rattle.client_law.specs.Pull.{items_sent}
use Rattle.client_law.specs.Room.{HaveRoom}
use Rattle.client_command.specs.Gifts.{pull_text}
use Rattle.client_command.specs.Turned.{gifts_of}
use Rattle.stream_registry.specs.Books.{SoleState, journal_at, sole_rules}
use Rattle.stream_registry.specs.Told.{Keeps, Step}
use Rattle.loop_command.specs.Course.{text_of}
use Rattle.loop_command.specs.Desk.{max_message, player, publisher, puller, rules, shape}
use Rattle.loop_command.specs.Lines.{ClientSide, GoesAhead, HasCounted, Serves}
use Rattle.loop_command.specs.Looped.{IsLooped}
use Rattle.loop_command.specs.Rounds.{IsRun, IsSettled, IsTold, PushesOf}
use Rattle.loop_command.specs.Sides.{SessionSide}
use Rattle.loop_command.specs.declared.rounds.Run.{Run}
use Rattle.loop_command.specs.declared.rounds.Stage.{Stage}
use Rattle.loop_command.specs.declared.rounds.Stage.TheVariants.{Done}
use Rattle.loop_command.proofs.Back.{sent_few}
use Rattle.loop_command.proofs.Clients.{side_of}
use Rattle.loop_command.proofs.Laws.{PullLaw, PushLaw, ReadableLaw, looped}
use Rattle.loop_command.proofs.Owning.{AreBoth, counted_both}
use Rattle.loop_command.proofs.Sessions.{one_place, serves_on}

module _ (push_law : PushLaw) (pull_law : PullLaw) (readable : ReadableLaw) where
  finished : (file : List Tag) (run : Run) (old now : Option (List ℕ)) (history : List Step) → IsRun file run old now → IsSettled run
      → Keeps shape history → AreBoth history run.push.session.parts.calls run.pull.session.parts.calls → HaveRoom max_message history
      → SessionSide publisher run.push.far run.push.session.parts.x run.push.session.parts.calls history
      → SessionSide player run.pull.far run.pull.session.parts.x run.pull.session.parts.calls history
      → length (items_sent run.pull.session.parts.calls) ≤ run.told → IsLooped file (text_of run)
  finished file run old now history r s keeps both room p q few =
      let c = run.pull.client.parts in
      let told : IsTold true run.begun c.taken old now = subst (λ (b : Bool). IsTold b run.begun c.taken old now) s.over_is r.told in
      let taken : c.taken ≡ told.0.0 ++ gift.Unpublished ∷ [] = told.0.1 in
      let pushes : PushesOf Done file run.tags.items run.push.client run.push.near =
      subst (λ (x : Stage). PushesOf x file run.tags.items run.push.client run.push.near) s.stage_is r.pushes in
      let gifts : gifts_of c ≡ (told.0.0 ++ gift.Unpublished ∷ []) ++ listed c.gift = ap (λ (l : List Gift). l ++ listed c.gift) taken in
      let side : ClientSide puller run.pull.near [] ((told.0.0 ++ gift.Unpublished ∷ []) ++ listed c.gift) c.outgoing.pending =
      subst (λ (l : List Gift). ClientSide puller run.pull.near [] l c.outgoing.pending) gifts
      (subst (λ (T : List Gave). ClientSide puller run.pull.near T (gifts_of c) c.outgoing.pending) r.gave_none
      (side_of puller run.pull.client run.pull.near r.pulls)) in
      subst (λ (l : List Gift). IsLooped file (pull_text l)) (sym taken)
      (looped push_law pull_law readable history room file pushes.0 pushes.1 told.0.0 (listed c.gift) c.outgoing.pending run.push.near run.push.far
      run.pull.near run.pull.far
      run.push.forth run.push.back run.pull.forth run.pull.back run.push.session.parts.x run.pull.session.parts.x run.push.session.parts.calls
      run.pull.session.parts.calls keeps both pushes.4 pushes.3 pushes.2 p
      r.push_passed.forth r.push_passed.back s.came side s.pulls q r.pull_passed.forth r.pull_passed.back (omega (arith, few, r.few, ap length taken)))

  -- THE ENDING of a run: the stream is asked for its counts, the sessions end, and its history is looked through
  pub ended : (file : List Tag) (run : Run) (old now : Option (List ℕ)) (a b c : SoleState) (f g : MemLinkState) → sole_rules run.port.rules ≡ rules
      → IsRun file run old now → IsSettled run
      → GoesAhead run.port a → HasCounted run.port a → Keeps shape (journal_at a.books 0)
      → AreBoth (journal_at run.port.books 0) run.push.session.parts.calls run.pull.session.parts.calls
      → (Serves publisher a run.push.session run.push.far → SessionSide publisher f run.push.session.parts.x run.push.session.parts.calls
      (journal_at a.books 0))
      → (Serves publisher a run.push.session run.push.far → b ≡ a) → (Serves publisher a run.push.session run.push.far → f ≡ run.push.far)
      → (Serves player b run.pull.session run.pull.far → SessionSide player g run.pull.session.parts.x run.pull.session.parts.calls (journal_at b.books 0))
      → (Serves player b run.pull.session run.pull.far → c ≡ b) → (Serves player b run.pull.session run.pull.far → g ≡ run.pull.far)
      → HaveRoom max_message (journal_at c.books 0) → IsLooped file (text_of run)
  ended file run old now a b c f g e r s ahead counts keeps both side port far side' port' far' room =
      let push = run.push.session.parts in
      let pull = run.pull.session.parts in
      let publishes : Serves publisher a run.push.session run.push.far = serves_on publisher run.port a run.push.session run.push.far ahead r.publishes in
      let plays : Serves player a run.pull.session run.pull.far = serves_on player run.port a run.pull.session run.pull.far ahead r.plays in
      let same : b ≡ a = port publishes in
      let plays' : Serves player b run.pull.session run.pull.far = subst (λ (x : SoleState). Serves player x run.pull.session run.pull.far) (sym same) plays in
      let all : c ≡ a = port' plays' ∙ same in
      let p : SessionSide publisher run.push.far push.x push.calls (journal_at a.books 0) =
      subst (λ (m : MemLinkState). SessionSide publisher m push.x push.calls (journal_at a.books 0)) (far publishes) (side publishes) in
      let q : SessionSide player run.pull.far pull.x pull.calls (journal_at a.books 0) =
      subst (λ (x : SoleState). SessionSide player run.pull.far pull.x pull.calls (journal_at x.books 0)) same
      (subst (λ (m : MemLinkState). SessionSide player m pull.x pull.calls (journal_at b.books 0)) (far' plays') (side' plays')) in
      let stand = one_place run.pull.session.seat run.port pull.calls r.plays.home.none e r.plays.at.calls r.plays.visits r.plays.at.fit in
      finished file run old now (journal_at a.books 0) r s keeps
      (counted_both (journal_at run.port.books 0) (journal_at a.books 0) push.calls pull.calls counts.entry counts.reply counts.adds counts.asks keeps both)
      (subst (λ (x : SoleState). HaveRoom max_message (journal_at x.books 0)) all room) p q
      (omega (arith, sent_few shape pull.calls (journal_at run.port.books 0) stand, s.told))
