-- What holds of the segments of all items. The newest stand first.
use Rattle.std.specs.Prelude.{◌≡◌, ◌⊎◌, ◌≤◌, ℕ, Bool, false, List, [], ◌∷◌, ◌++◌, drop}
use Rattle.av_unit.specs.declared.unit.Kind.TheVariants.{Key, Audio}
use Rattle.av_unit.specs.declared.item.Item.{Item}
use Rattle.av_unit.specs.declared.item.Item.TheVariants.{Unit as AUnit}
use Rattle.pes_packets.specs.Packet.{section_text}
use Rattle.pes_packets.specs.Tables.{pat, pat_pid, pmt, pmt_pid}
use Rattle.ts_writer.specs.Text.{in_force, item_text, listed, ts_text}
use Rattle.hls_segments.specs.Cuts.{Segment, segments, spans}
use Rattle.hls_segments.specs.Playlist.{rounded, target}

abbrev pub Each : {X : Type 0} → (X → Type 0) → List X → Type 0
Each P [] = Unit {0}
Each P (x ∷ xs) = P x × Each P xs

-- the bytes of segments one after the other
abbrev pub together : List Segment → List ℕ
together [] = []
together (s ∷ earlier) = together earlier ++ s.bytes

-- a packet of an association table, and one of a map table behind it
pub record BeginsWithTables (text : List ℕ) : Type 0 where
  pub counter : ℕ
  pub map_counter : ℕ
  pub video : Bool
  pub audio : Bool
  pub version : ℕ
  pub rest : List ℕ
  pub text_is : text ≡ section_text pat_pid counter pat ++ (section_text pmt_pid map_counter (pmt video audio version) ++ rest)

-- the bytes are those of its first unit, with what stands before it, and of more
abbrev pub BeginsWithOpener : Segment → Type 0
BeginsWithOpener s = (more : List ℕ) × (s.bytes ≡ item_text s.before (AUnit s.opener) ++ more)

-- a key picture, or sound where no pictures are listed
abbrev pub OpensWell : Segment → Type 0
OpensWell s = (s.opener.kind ≡ Key) ⊎ ((s.opener.kind ≡ Audio) × ((listed (in_force s.before)).video ≡ false))

abbrev pub AllButFirst : (Segment → Type 0) → List Segment → Type 0
AllButFirst P [] = Unit {0}
AllButFirst P (s ∷ []) = Unit {0}
AllButFirst P (s ∷ t ∷ earlier) = P s × AllButFirst P (t ∷ earlier)

-- THE SEGMENTS OF ITEMS
pub record AreCut (least : ℕ) (items : List Item) : Type 0 where
  pub whole : together (segments least items) ≡ ts_text items
  pub tables : Each (λ s. BeginsWithTables s.bytes) (segments least items)
  pub openers : Each BeginsWithOpener (segments least items)
  pub begun : AllButFirst OpensWell (segments least items)
  pub long : Each (λ span. least ≤ span) (drop 1 (spans (segments least items)))

-- a target duration is no less than each span in whole seconds (RFC 8216, 4.3.3.1)
abbrev pub CoversAll : List ℕ → Type 0
CoversAll list = Each (λ span. rounded span ≤ target list) list
