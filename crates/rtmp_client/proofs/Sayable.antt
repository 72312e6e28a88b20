-- What a client says can be written, and is short
use Rattle.std.proofs.Common.{◌≡◌, ℕ, ◌+◌, ◌*◌, ◌<◌, ◌≤◌, ◌^◌, Bool, true, false, nat_eq, nat_le, ◌&&◌, List, [], ◌∷◌, ◌++◌, length, take, drop, length-drop, refl, sym, ap, ◌∙◌, arith, length-append}
use Rattle.std.proofs.lemmas.Bool.Decides.{nat_tests}
use Rattle.std.proofs.lemmas.List.{length-take}
use Rattle.std.specs.Prelude.{codes}
use Rattle.relay_base.specs.Numbers.{be32_of}
use Rattle.amf0_value.specs.Tree.{Tree, number, text, object, null, Items, item, no_items, Members, member, no_members}
use Rattle.amf0_value.specs.Pattern.{pattern}
use Rattle.amf0_value.specs.Encoding.{items_spelling, members_spelling, spelling}
use Rattle.amf0_value.specs.Spelling.{be}
use Rattle.chunk_wire.specs.declared.message.Message.{Message}
use Rattle.chunk_writer.specs.Rule.{is_written}
use Rattle.chunk_writer.specs.Written.{sets_size}
use Rattle.flv_tags.specs.Layout.{is_kind}
use Rattle.client_owed.specs.declared.types.Asked.{Asked}
use Rattle.client_owed.specs.declared.types.Wish.{Wish}
use Rattle.client_owed.specs.declared.types.Wish.TheVariants as wish
use Rattle.client_owed.specs.Client.{ask, asks, called, chunk_size, command, connect, connects, create_stream, creates, delete_stream, deletes, described, flash_ver, tc_url}
use Rattle.rtmp_client.specs.Keeping.{IsNamed}
use Rattle.rtmp_client.specs.Owing.{IsSayable, cost_of}

-- ---- how long the commands are

text_length : (t : List ℕ) → length (spelling (text t)) ≡ 3 + length t
unfolding be
text_length t = omega (arith, length-append (be Rattle.std.specs.Int.w16 (length t)) t)

number_length : (n : ℕ) → length (spelling (number n)) ≡ 9
unfolding be
number_length n = refl

item_length : (v : Tree) (vs : Items) → length (items_spelling (item v vs)) ≡ length (spelling v) + length (items_spelling vs)
item_length v vs = length-append (spelling v) (items_spelling vs)

member_length : (key t : List ℕ) (ms : Members) → length (members_spelling (member key (text t) ms)) ≡ 5 + length key + length t + length (members_spelling ms)
unfolding be
member_length key t ms = omega (arith, text_length t, length-append key (spelling (text t) ++ members_spelling ms), length-append (spelling (text t)) (members_spelling ms))

object_length : (ms : Members) → length (spelling (object ms)) ≡ 4 + length (members_spelling ms)
object_length ms = omega (arith, length-append (members_spelling ms) (0 ∷ 0 ∷ 9 ∷ []))

url_length : (k : Asked) → length (tc_url k) ≡ 8 + length k.address + length k.app
url_length k = omega (arith, length-append k.address (0x2F ∷ k.app))

pub url_short : (k : Asked) → IsNamed k → length (tc_url k) < 2 ^ 16
url_short k n = omega (arith, url_length k, n.address_most, n.app_most)

described_length : (k : Asked) → length (spelling (described k)) ≡ 71 + length k.address + 2 * length k.app
described_length k =
    let url = member (codes "tcUrl") (text (tc_url k)) no_members in
    let ver = member (codes "flashVer") (text flash_ver) url in
    omega (arith, object_length (member (codes "app") (text k.app) ver), member_length (codes "app") k.app ver, member_length (codes "flashVer") flash_ver url, member_length (codes "tcUrl") (tc_url k) no_members, url_length k)

called_length : (name : List ℕ) (n : ℕ) (more : Items) → length (items_spelling (called name n more)) ≡ 12 + length name + length (items_spelling more)
called_length name n more =
    omega (arith, item_length (text name) (item (number (pattern n)) more), item_length (number (pattern n)) more, text_length name, number_length (pattern n))

connects_length : (k : Asked) → length (items_spelling (connects k)) ≡ 90 + length k.address + 2 * length k.app
connects_length k = omega (arith, called_length (codes "connect") 1 (item (described k) no_items), item_length (described k) no_items, described_length k)

asks_short : (w : Wish) (name : List ℕ) → length (items_spelling (asks w name)) ≤ 40 + length name
asks_short wish.Push name =
    let c = item (text (codes "live")) no_items in
    let b = item (text name) c in
    omega (arith, called_length (codes "publish") 3 (item null b), item_length null b, item_length (text name) c, item_length (text (codes "live")) no_items, text_length name, text_length (codes "live"))
asks_short wish.Pull name =
    let b = item (text name) no_items in
    omega (arith, called_length (codes "play") 3 (item null b), item_length null b, item_length (text name) no_items, text_length name)

creates_length : length (items_spelling creates) ≤ 40
creates_length = omega (arith, called_length (codes "createStream") 2 (item null no_items), item_length null no_items)

deletes_length : (id : ℕ) → length (items_spelling (deletes id)) ≤ 40
deletes_length id =
    let n = item (number (pattern id)) no_items in
    omega (arith, called_length (codes "deleteStream") 4 (item null n), item_length null n, item_length (number (pattern id)) no_items, number_length (pattern id))

-- ---- they can be said

tells_none : (m : Message) → nat_eq m.kind 1 ≡ false → sets_size m ≡ true → ⊥
tells_none m e t = let f : sets_size m ≡ false = ap (λ (b : Bool). b && nat_le 4 (length m.body)) e in let h : false ≡ true = sym f ∙ t in absurd (cc)

pub sayable_kind : (m : Message) → is_written m.kind ≡ true → nat_eq m.kind 1 ≡ false → length m.body < 2 ^ 24 → IsSayable m
sayable_kind m k one short = record {
  can = record { kind = k; short = short; some = λ t. absurd (tells_none m one t); most = λ t. absurd (tells_none m one t) };
  sized = λ t. absurd (tells_none m one t);
}

command_sayable : (stream : ℕ) (vs : Items) → length (items_spelling vs) ≤ 4096 → IsSayable (command stream vs)
command_sayable stream vs l = sayable_kind (command stream vs) refl refl (omega (arith, l))

pub connect_sayable : (k : Asked) → IsNamed k → IsSayable (connect k)
connect_sayable k n = command_sayable 0 (connects k) (omega (arith, n.address_most, n.app_most, connects_length k))

pub create_sayable : IsSayable create_stream
create_sayable = command_sayable 0 creates (omega (arith, creates_length))

pub ask_sayable : (k : Asked) (id : ℕ) → IsNamed k → IsSayable (ask k id)
ask_sayable k id n = command_sayable id (asks k.wish k.name) (omega (arith, asks_short k.wish k.name, n.name_most))

pub delete_sayable : (id : ℕ) → IsSayable (delete_stream id)
delete_sayable id = command_sayable 0 (deletes id) (omega (arith, deletes_length id))

size_is : be32_of chunk_size.body ≡ 4096
unfolding be32_of
size_is = refl

pub size_sayable : IsSayable chunk_size
size_sayable = record {
  can = record { kind = refl; short = omega arith; some = λ t. omega (arith, size_is); most = λ t. omega (arith, size_is) };
  sized = λ t. record { least = omega (arith, size_is); most = omega (arith, size_is) };
}

-- ---- and are short

pub connect_cost : (k : Asked) → IsNamed k → cost_of (connect k) ≤ 14832
connect_cost k n = omega (arith, n.address_most, n.app_most, connects_length k)

pub create_cost : cost_of create_stream ≤ 1000
create_cost = omega (arith, creates_length)

pub ask_cost : (k : Asked) (id : ℕ) → IsNamed k → cost_of (ask k id) ≤ 5600
ask_cost k id n = omega (arith, asks_short k.wish k.name, n.name_most)

pub delete_cost : (id : ℕ) → cost_of (delete_stream id) ≤ 1000
delete_cost id = omega (arith, deletes_length id)

four : (n : ℕ) → length (Rattle.std.specs.Int.bytes_high_first 4 n) ≡ 4
four n = refl

pub size_cost : cost_of chunk_size ≤ 356
size_cost = omega (arith, four 4096)

-- a tag
not_one : (kind : ℕ) → is_kind kind ≡ true → nat_eq kind 1 ≡ false
not_one kind e = grind (arith, nat_tests)

kind_written : (kind : ℕ) → is_kind kind ≡ true → is_written kind ≡ true
kind_written kind e = grind (arith, nat_tests)

pub tag_sayable : (m : Message) → is_kind m.kind ≡ true → length m.body ≤ 4194304 → IsSayable m
tag_sayable m k l = sayable_kind m (kind_written m.kind k) (not_one m.kind k) (omega (arith, l))

-- C2 has 1,536 bytes at most
pub c2_short : (a b s z : List ℕ) → a ≡ take 4 s → s ≡ take 1536 z → b ≡ drop 8 s → length a + (4 + length b) ≤ 1536
c2_short a b s z ae se be = omega (arith, ap length ae, length-take 4 s, ap length se, length-take 1536 z, ap length be, length-drop 8 s)
