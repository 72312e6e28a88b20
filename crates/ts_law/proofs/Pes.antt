-- The PES packet of a frame, read back
use Rattle.std.proofs.Common.{◌≡◌, ℕ, ◌+◌, ◌-◌, ◌<◌, ◌≤◌, Bool, true, false, List, length, Option, Some, inl, inr, Ok, refl, sym, subst, arith}
use Rattle.std.specs.Prelude.{◌==◌, ◌&&◌, ◌^◌, nat_le}
use Rattle.std.proofs.lemmas.Bool.{cases_eq}
use Rattle.std.proofs.lemmas.Bool.Decides.{nat_tests}
use Rattle.pes_packets.specs.declared.flags.PesFlags.{PesFlags}
use Rattle.ts_reader.specs.declared.unit.TsUnit.{TsUnit}
use Rattle.ts_reader.specs.Payloads.{is_carried}
use Rattle.ts_reader.specs.Steps.{closed}
use Rattle.ts_reader.specs.Mux.{Mux}
use Rattle.ts_writer.specs.Frames.{Frame, pes_header}
use Rattle.ts_law.specs.Leads.{counter_of}
use Rattle.ts_law.specs.Pes.{ArePackets, IsFrame, IsHeader, MayFollow, length_told}
use Rattle.ts_law.proofs.Headers.{both_header, picture_header, sound_header}
use Rattle.ts_law.proofs.Runs.{pes_leads}

-- the header of a frame
record HeadOf (video : Bool) (pts dts len : ℕ) : Type 0 where
  size : ℕ
  some : 0 < size
  short : size ≤ 176
  head : IsHeader video (pes_header video pts dts len) pts dts (length_told video len) size

sound_head : (time len : ℕ) → time < 2 ^ 33 → 8 + len < 65536 → HeadOf false time time len
sound_head time len t l = record { size = 14; some = omega arith; short = omega arith; head = sound_header time (8 + len) t l }

same_head : (time len : ℕ) → time < 2 ^ 33 → HeadOf true time time len
same_head time len t = record { size = 14; some = omega arith; short = omega arith; head = picture_header time t }

both_head : (pts dts len : ℕ) → pts < 2 ^ 33 → dts < 2 ^ 33 → (pts ≡ dts → ⊥) → HeadOf true pts dts len
both_head pts dts len p d e = record { size = 19; some = omega arith; short = omega arith; head = both_header pts dts p d e }

head_of : (video : Bool) (pts dts len : ℕ) → pts < 2 ^ 33 → dts < 2 ^ 33 → (video ≡ false → pts ≡ dts) → (video ≡ false → length_told video len < 65536)
    → HeadOf video pts dts len
head_of false pts dts len p d one short = let P : ℕ → Type 0 = λ t. HeadOf false t dts len in subst P (sym (one refl)) (sound_head dts len d (short refl))
head_of true pts dts len p d one short = elim (cases_eq pts dts) [
  | inl e ↦ let P : ℕ → Type 0 = λ t. HeadOf true t dts len in subst P (sym e) (same_head dts len d)
  | inr e ↦ both_head pts dts len p d e
]

-- the unit of a PES packet that ends
closed_by : (video : Bool) (n pts dts : ℕ) (payload : List ℕ) → is_carried video payload ≡ true
    → closed (Some (record { at = n; length = length_told video (length payload); unit = record { video = video; pts = pts; dts = dts; payload = payload } }))
    ≡ Ok (Some (record { video = video; pts = pts; dts = dts; payload = payload }))
unfolding closed
closed_by true n pts dts payload c = rw c refl
closed_by false n pts dts payload c =
    let has : (nat_le 8 (8 + length payload) && (8 + length payload - 8 == length payload)) ≡ true = grind (arith, nat_tests) in
    rw (has, c) refl

pub are_packets : (n : ℕ) (m : Mux) (f : Frame) (flags : PesFlags) (u : Option TsUnit) → IsFrame f → MayFollow m f flags u → ArePackets n m f flags u
are_packets n m f flags u g may =
    let h = head_of f.video f.pts f.dts (length f.payload) g.pts g.dts g.one g.short in
    record {
      leads = pes_leads f.video n (counter_of f.video m) m flags (pes_header f.video f.pts f.dts (length f.payload)) f.payload f.pts f.dts
          (length_told f.video (length f.payload)) h.size u refl may.counter may.listed may.clock may.ends h.head h.some h.short;
      ends = closed_by f.video n f.pts f.dts f.payload g.carried;
    }
