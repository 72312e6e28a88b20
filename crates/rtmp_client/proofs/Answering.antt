-- What a client says at a message
use Rattle.std.proofs.Common.{◌≡◌, ℕ, Bool, true, false, ◌==◌, if◌then◌else◌, List, [], ◌∷◌, Option, Some, None, Result, Ok, Err, OnErr, OnOk, refl, sym, subst}
use Rattle.av_unit.specs.declared.bytes.OutOfMemory.{OutOfMemory}
use Rattle.chunk_wire.specs.declared.message.Message.{Message}
use Rattle.client_owed.specs.declared.types.Asked.{Asked}
use Rattle.client_owed.specs.declared.types.News.{News}
use Rattle.client_owed.specs.declared.types.News.TheVariants.{Done, Refused, Status, Other}
use Rattle.client_owed.specs.declared.types.Phase.{Phase}
use Rattle.client_owed.specs.declared.types.Phase.TheVariants.{Connecting, Creating, Asking, Started}
use Rattle.client_owed.specs.News.{is_text}
use Rattle.client_owed.specs.Client.{ask, chunk_size, create_stream, created, is_id, learns, start_code, stays, whole}
use Rattle.amf0_value.specs.Pattern.{pattern}
use Rattle.rtmp_client.specs.Learning.{said_between}
use Rattle.rtmp_client.specs.Owing.{Owing, Says}
use Rattle.rtmp_client.proofs.Pending.{says_joined, says_nothing}

pub said_two : (o p q : Owing) (m n a b : Message) (r : Result (Unit {0}) OutOfMemory) → a ≡ m → b ≡ n → Says o (a ∷ []) p → OnOk r (Says p (b ∷ []) q) → OnOk r (Says o (m ∷ n ∷ []) q)
said_two o p q m n a b (Ok u) ae be s t = rw (← ae, ← be) (says_joined o p q (a ∷ []) (b ∷ []) s t)
said_two o p q m n a b (Err e) ae be s t = t

pub none_between : (k : Asked) (p q r s : Phase) (o : Owing) → p ≡ r → q ≡ s → said_between k r s ≡ [] → Says o (said_between k p q) o
none_between k p q r s o pe qe e = rw (pe, qe) (subst (λ (l : List Message). Says o l o) (sym e) (says_nothing o))

-- what is said is what stands between the phases
between_connect : (k : Asked) (b : Bool) → said_between k Connecting (if b then record { phase = Creating; says = chunk_size ∷ create_stream ∷ [] } else stays Connecting).phase
    ≡ (if b then record { phase = Creating; says = chunk_size ∷ create_stream ∷ [] } else stays Connecting).says
between_connect k true = refl
between_connect k false = refl

between_id : (k : Asked) (id : ℕ) (b : Bool) → said_between k Creating (if b then record { phase = Asking id; says = ask k id ∷ [] } else stays Creating).phase
    ≡ (if b then record { phase = Asking id; says = ask k id ∷ [] } else stays Creating).says
between_id k id true = refl
between_id k id false = refl

between_created : (k : Asked) (v : Option ℕ) → said_between k Creating (created k v).phase ≡ (created k v).says
between_created k None = refl
between_created k (Some bits) = between_id k (whole bits) (is_id bits)

between_create : (k : Asked) (v : Option ℕ) (b : Bool) → said_between k Creating (if b then created k v else stays Creating).phase ≡ (if b then created k v else stays Creating).says
between_create k v true = between_created k v
between_create k v false = refl

between_ask : (k : Asked) (id : ℕ) (b : Bool) → said_between k (Asking id) (if b then stays (Started id) else stays (Asking id)).phase ≡ (if b then stays (Started id) else stays (Asking id)).says
between_ask k id true = refl
between_ask k id false = refl

pub between : (k : Asked) (p : Phase) (n : News) → said_between k p (learns k p n).phase ≡ (learns k p n).says
between k Connecting (Done t v) = between_connect k (t == pattern 1)
between k Connecting (Refused code description) = refl
between k Connecting (Status code) = refl
between k Connecting Other = refl
between k Creating (Done t v) = between_create k v (t == pattern 2)
between k Creating (Refused code description) = refl
between k Creating (Status code) = refl
between k Creating Other = refl
between k (Asking id) (Done t v) = refl
between k (Asking id) (Refused code description) = refl
between k (Asking id) (Status code) = between_ask k id (is_text code (start_code k.wish))
between k (Asking id) Other = refl
between k (Started id) n = refl

pub on_ok : {A B : Type 0} (r : Result A B) (P : Type 0) → P → OnOk r P
on_ok (Ok a) P p = p
on_ok (Err e) P p = tt

pub on_err : {A B : Type 0} (r : Result A B) (P : Type 0) → P → OnErr r P
on_err (Ok a) P p = tt
on_err (Err e) P p = p
