-- What a client was told by the bytes of its origin's session
use Rattle.std.proofs.Common.{◌≡◌, ℕ, List, [], ◌∷◌, refl, ap, ◌∙◌}
use Rattle.av_unit.specs.declared.item.Item.{Item}
use Rattle.av_unit.specs.declared.item.Item.TheVariants as item
use Rattle.chunk_wire.specs.declared.message.Message.{Message}
use Rattle.stream_model.specs.declared.calls.StreamLimits.{StreamLimits}
use Rattle.stream_model.specs.History.{History}
use Rattle.stream_model.specs.Spell.{spell}
use Rattle.session_owed.specs.Talk.{Own}
use Rattle.client_owed.specs.Pulled.{pulled}
use Rattle.client_owed.specs.declared.types.Asked.{Asked}
use Rattle.client_owed.specs.declared.types.Gift.{Gift}
use Rattle.client_law.specs.Pull.{IsTold, gift_of, gifts_of}
use Rattle.origin_calls.specs.Origin.{Hears, IsOrigin, all_told, given, told_by}
use Rattle.origin_law.specs.Played.{PlaysAt, items_in}

-- an item tells a client just that
item_told : (i : Item) → gift_of i ≡ told_by i
item_told item.Begin = refl
item_told (item.Unit u) = refl
item_told item.End = refl

items_told : (ps : List (ℕ × Item)) → gifts_of (items_in ps) ≡ all_told ps
unfolding gifts_of all_told
items_told [] = refl
items_told (p ∷ ps) = ap (λ (g : Gift). g ∷ gifts_of (items_in ps)) (item_told p.1) ∙ ap (λ (gs : List Gift). told_by p.1 ∷ gs) (items_told ps)

pub hears : (k : Asked) (ns : List (ℕ × Message)) (C : List Own) (far : StreamLimits) (origin : History) (player : ℕ) → IsTold k ns C
    → IsOrigin far origin → PlaysAt origin player C
    → Hears (pulled k ns) far origin player
hears k ns C far origin player t l p = record {
  stream = l;
  later = t.0;
  told = t.1 ∙ ap gifts_of p ∙ items_told (given (spell origin player).answers);
}
