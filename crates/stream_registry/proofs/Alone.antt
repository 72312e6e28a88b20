-- On what the reply to a Take depends at a place
use Rattle.std.proofs.Common.{◌≡◌, ◌∙◌, ℕ, Option, Some, None}
use Rattle.av_unit.specs.declared.head.Want.{Want}
use Rattle.stream_model.specs.declared.calls.StreamLimits.{StreamLimits}
use Rattle.stream_model.specs.declared.calls.Shape.{Shape}
use Rattle.stream_model.specs.declared.calls.Entry.{Entry}
use Rattle.stream_model.specs.declared.calls.Call.TheVariants.{Take}
use Rattle.stream_model.specs.declared.replies.Reply.{Reply}
use Rattle.stream_model.specs.Answer.{reply}
use Rattle.stream_model.specs.History.{History, items_of, holder}
use Rattle.stream_model.specs.Spell.{spell}
use Rattle.stream_model.specs.Pool.{IsPoolLawful, reply_at, slots_of, slot_at, slot_for}
use Rattle.stream_model.specs.Shape.{IsLawfulBy, IsShapeLawful, reply_by, shape_reply}
use Rattle.stream_registry.specs.Placed.{IsAloneBy, IsAlone}

-- the law of streams
abbrev pub TakesAlone : Type 0
TakesAlone = (limits : StreamLimits) (past other : History) (entry : Entry) (player : ℕ) (want : Want) → entry.call ≡ Take player want → items_of past ≡ items_of other
    → spell past player ≡ spell other player → holder past player ≡ holder other player → reply limits past entry ≡ reply limits other entry

-- the law of pools
abbrev pub TakesAloneAtPools : Type 0
TakesAloneAtPools = (limits : StreamLimits) (n : ℕ) (past : History) → IsPoolLawful limits n past → (entry : Entry) (i player : ℕ) (want : Want) (other : History) → entry.call ≡ Take player want
    → slot_for (slots_of limits n past) entry.who entry.call ≡ Some i → items_of (slot_at (slots_of limits n past) i).stream.past ≡ items_of other
    → spell (slot_at (slots_of limits n past) i).stream.past player ≡ spell other player → holder (slot_at (slots_of limits n past) i).stream.past player ≡ holder other player
    → reply_at (slots_of limits n past) past entry ≡ reply limits other entry

alone_by : TakesAlone → TakesAloneAtPools → (limits : StreamLimits) (slots : Option ℕ) (past : History) (entry : Entry) (r : Reply) → IsLawfulBy limits slots past → r ≡ reply_by limits slots past entry → IsAloneBy limits slots past entry r
alone_by streams pools limits None past entry r lawful is = λ other player want call items spells holders. is ∙ streams limits past other entry player want call items spells holders
alone_by streams pools limits (Some n) past entry r lawful is = λ i player want other call slot items spells holders. is ∙ pools limits n past lawful entry i player want other call slot items spells holders

pub alone_at : TakesAlone → TakesAloneAtPools → (s : Shape) (past : History) (entry : Entry) (r : Reply) → IsShapeLawful s past → r ≡ shape_reply s past entry → IsAlone s past entry r
alone_at streams pools s past entry r lawful is = alone_by streams pools s.limits s.slots past entry r lawful is
