-- What a client is given
use Rattle.std.proofs.Common.{◌≡◌, ℕ, ◌+◌, ◌-◌, ◌*◌, ◌<◌, ◌≤◌, ◌^◌, Bool, true, false, nat_eq, nat_le, ◌&&◌, if◌then◌else◌, List, [], ◌∷◌, ◌++◌, length, Option, refl, sym, ap, ◌∙◌, subst, arith}
use Rattle.std.proofs.lemmas.Bool.Decides.{nat_tests}
use Rattle.relay_base.specs.Numbers.{be32_of}
use Rattle.chunk_wire.specs.declared.message.Message.{Message}
use Rattle.chunk_writer.specs.WriterKnown.{WriterKnown, sized}
use Rattle.chunk_writer.specs.Written.{after, after_all, resized_by, written}
use Rattle.flv_tags.specs.declared.tag.Tag.{Tag}
use Rattle.flv_tags.specs.Layout.{is_kind}
use Rattle.client_owed.specs.declared.types.Gave.{Gave}
use Rattle.client_owed.specs.declared.types.Gift.{Gift}
use Rattle.client_owed.specs.declared.types.Given.{Given}
use Rattle.client_owed.specs.declared.types.Given.TheVariants as given
use Rattle.client_owed.specs.declared.types.Phase.{Phase}
use Rattle.client_owed.specs.declared.types.Phase.TheVariants.{Started}
use Rattle.client_owed.specs.declared.types.Wish.{Wish}
use Rattle.client_owed.specs.declared.types.Wish.TheVariants as wish
use Rattle.client_owed.specs.Client.{delete_stream}
use Rattle.client_owed.specs.Owed.{MayGive, id_of, sent_on}
use Rattle.client_owed.specs.Standing.{HasStarted, Keeps, Stands, gave_more, is_finish, with_given}
use Rattle.client_owed.proofs.Standing.{stands_gave}
use Rattle.rtmp_client.specs.Bounds.{IsSmall, Parts}
use Rattle.rtmp_client.specs.ClientState.{IsLiving}
use Rattle.rtmp_client.specs.Keeping.{IsSound, IsWide, keeps_of, past_of}
use Rattle.rtmp_client.specs.Owing.{Apart, Owing, Says, Shows, cost_of}
use Rattle.rtmp_client.specs.declared.core_fields.Core.{Core}
use Rattle.rtmp_client.proofs.Sayable.{delete_cost}

abbrev pub gave_at : ℕ → Given → Gave
gave_at n g = record { at = n; given = g }

pub gave_keeps : (c : Core) (g : Given) (id : ℕ) (o : Owing) (f : Bool) → c.phase ≡ Started id → f ≡ is_finish g → o.pending ≡ c.outgoing.pending ++ written c.outgoing.writer (sent_on id g ∷ [])
    → o.writer ≡ after_all c.outgoing.writer (sent_on id g ∷ []) → record { pending = o.pending; writer = o.writer; window = c.inbound; phase = c.phase; finished = f; gift = c.gift } ≡ gave_more (keeps_of c) g
gave_keeps c g id o f pe fe be we =
    let w = c.outgoing.writer in
    let i : id ≡ id_of c.phase = sym (ap id_of pe) in
    let b : o.pending ≡ c.outgoing.pending ++ written w (sent_on (id_of c.phase) g ∷ []) = be ∙ ap (λ (n : ℕ). c.outgoing.pending ++ written w (sent_on n g ∷ [])) i in
    let v : o.writer ≡ after_all w (sent_on (id_of c.phase) g ∷ []) = we ∙ ap (λ (n : ℕ). after_all w (sent_on n g ∷ [])) i in
    ap (λ (x : List ℕ). record { pending = x; writer = o.writer; window = c.inbound; phase = c.phase; finished = f; gift = c.gift }) b
    ∙ ap (λ (x : WriterKnown). record { pending = c.outgoing.pending ++ written w (sent_on (id_of c.phase) g ∷ []); writer = x; window = c.inbound; phase = c.phase; finished = f; gift = c.gift }) v
    ∙ ap (λ (x : Bool). record { pending = c.outgoing.pending ++ written w (sent_on (id_of c.phase) g ∷ []); writer = after_all w (sent_on (id_of c.phase) g ∷ []); window = c.inbound; phase = c.phase; finished = x; gift = c.gift }) fe

size_kept : (w v : WriterKnown) (m : Message) → nat_eq m.kind 1 ≡ false → v ≡ after_all w (m ∷ []) → v.size ≡ w.size
unfolding after_all resized_by
size_kept w v m e ve =
    ap (λ (x : WriterKnown). x.size) ve ∙ ap (λ (b : Bool). (if b && nat_le 4 (length m.body) then sized (be32_of m.body) (after w m) else after w m).size) e

sound_gave : (c : Core) (g : Given) (id n : ℕ) (o : Owing) (f : Bool) (gave : List Gave) → IsSound c → c.phase ≡ Started id → c.finished ≡ false → n ≡ c.fed → MayGive c.asked.wish c.reader.max g → f ≡ is_finish g
    → nat_eq (sent_on id g).kind 1 ≡ false → o.pending ≡ c.outgoing.pending ++ written c.outgoing.writer (sent_on id g ∷ []) → o.writer ≡ after_all c.outgoing.writer (sent_on id g ∷ [])
    → gave ≡ c.gave ++ gave_at n g ∷ [] → IsSound (record c { outgoing = o; finished = f; gave = gave })
sound_gave c g id n o f gave l pe fi ne may fe ke be we ge =
    let st = stands_gave c.asked c.reader.max (past_of c) (keeps_of c) (gave_at n g) (subst HasStarted (sym pe) tt) fi (ne ∙ l.counted) may l.stands in
    let size : c.outgoing.writer.size ≡ 4096 = subst (λ (p : Phase). IsWide p c.outgoing.writer.size) pe l.wide in
    rw ge (record {
      named = l.named;
      first = l.first;
      version = l.version;
      fed = l.fed;
      counted = l.counted;
      taken = l.taken;
      reads = l.reads;
      read = l.read;
      short = l.short;
      wide = subst (λ (p : Phase). IsWide p o.writer.size) (sym pe) (size_kept c.outgoing.writer o.writer (sent_on id g) ke we ∙ size);
      stands = subst (λ (q : Keeps). Stands c.asked c.reader.max (with_given (past_of c) (gave_at n g)) q) (sym (gave_keeps c g id o f pe fe be we)) st;
    })

not_one : (kind : ℕ) → is_kind kind ≡ true → nat_eq kind 1 ≡ false
not_one kind e = grind (arith, nat_tests)

parts_push : (w : Wish) (max tag new : ℕ) (g : Option Gift) → w ≡ wish.Push → 512 * new ≤ 9216 + 513 * max → Parts w max tag g → Parts w max new g
parts_push wish.Push max tag new g e le p = (p.0, le)
parts_push wish.Pull max tag new g e le p = absurd (cc)

finished_light : (n : ℕ) (f : Bool) → n ≡ 0 → Rattle.rtmp_client.specs.Bounds.IsLight n f
finished_light n true e = omega (arith, e)
finished_light n false e = omega (arith, e)

-- a tag
pub living_tag : (c : Core) (t : Tag) (m : Message) (id n : ℕ) (o : Owing) (gave : List Gave) → IsLiving c → c.phase ≡ Started id → c.asked.wish ≡ wish.Push → c.finished ≡ false → n ≡ c.fed → is_kind t.kind ≡ true → length t.body ≤ c.reader.max
    → t.time < 2 ^ 32 → m ≡ sent_on id (given.Send t) → Shows c.outgoing m o → (c.outgoing.writer.size ≡ 4096 → 512 * length o.pending ≤ 9216 + 513 * length m.body) → gave ≡ c.gave ++ gave_at n (given.Send t) ∷ [] → IsLiving (record c { outgoing = o; gave = gave })
living_tag c t m id n o gave l pe we fi ne ke le te me s most ge =
    let g = given.Send t in
    let bytes : o.pending ≡ c.outgoing.pending ++ written c.outgoing.writer (sent_on id g ∷ []) = s.bytes ∙ ap (λ (x : Message). c.outgoing.pending ++ written c.outgoing.writer (x ∷ [])) me in
    let writer : o.writer ≡ after_all c.outgoing.writer (sent_on id g ∷ []) = s.writer ∙ ap (λ (x : Message). after_all c.outgoing.writer (x ∷ [])) me in
    let body : length m.body ≡ length t.body = ap (λ (x : Message). length x.body) me in
    let size : c.outgoing.writer.size ≡ 4096 = subst (λ (p : Phase). IsWide p c.outgoing.writer.size) pe l.sound.wide in
    record {
      sound = sound_gave c g id n o c.finished gave l.sound pe fi ne (we, ke, le, te) fi (not_one t.kind ke) bytes writer ge;
      small = record {
        short = l.small.short;
        within = omega (arith, s.others);
        light = finished_light o.others c.finished s.others;
        parts = parts_push c.asked.wish c.reader.max (length c.outgoing.pending - c.outgoing.others) (length o.pending - o.others) c.gift we (omega (arith, s.others, most size, body, le)) l.small.parts;
      };
    }

parts_same : (w : Wish) (max tag new : ℕ) (g : Option Gift) → new ≡ tag → Parts w max tag g → Parts w max new g
parts_same w max tag new g e p = subst (λ (n : ℕ). Parts w max n g) (sym e) p

-- that no more will come
pub living_finish : (c : Core) (m : Message) (id n : ℕ) (o : Owing) (gave : List Gave) → IsLiving c → c.phase ≡ Started id → c.finished ≡ false → n ≡ c.fed → m ≡ delete_stream id
    → Says c.outgoing (m ∷ []) o → 16 * o.others ≤ 16 * c.outgoing.others + cost_of m → Apart c.outgoing o → gave ≡ c.gave ++ gave_at n given.Finish ∷ [] → IsLiving (record c { outgoing = o; finished = true; gave = gave })
living_finish c m id n o gave l pe fi ne me s li a ge =
    let g = given.Finish in
    let bytes : o.pending ≡ c.outgoing.pending ++ written c.outgoing.writer (sent_on id g ∷ []) = s.bytes ∙ ap (λ (x : Message). c.outgoing.pending ++ written c.outgoing.writer (x ∷ [])) me in
    let writer : o.writer ≡ after_all c.outgoing.writer (sent_on id g ∷ []) = s.writer ∙ ap (λ (x : Message). after_all c.outgoing.writer (x ∷ [])) me in
    let was : 16 * c.outgoing.others + 1100 ≤ 195296 = subst (λ (b : Bool). Rattle.rtmp_client.specs.Bounds.IsLight c.outgoing.others b) fi l.small.light in
    record {
      sound = sound_gave c g id n o true gave l.sound pe fi ne tt refl refl bytes writer ge;
      small = record {
        short = l.small.short;
        within = omega (arith, a, l.small.within);
        light = omega (arith, was, li, ap cost_of me, delete_cost id);
        parts = parts_same c.asked.wish c.reader.max (length c.outgoing.pending - c.outgoing.others) (length o.pending - o.others) c.gift (omega (arith, a, l.small.within)) l.small.parts;
      };
    }

pub living_same : (c d : Core) → d ≡ c → IsLiving c → IsLiving d
living_same c d e l = subst IsLiving (sym e) l
