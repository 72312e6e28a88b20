-- What a frame carries may be carried, and its times fit
use Rattle.std.proofs.Common.{◌≡◌, ℕ, zero, suc, ◌+◌, ◌-◌, ◌*◌, ◌/◌, ◌%◌, ◌<◌, ◌≤◌, Bool, true, false, nat_lt, List, [], ◌∷◌, ◌++◌, length, drop, slice_index, Option, Some, None, is_some, Result, Ok, Err, refl, sym, ap, ◌∙◌, subst, arith, length-append}
use Rattle.std.specs.Prelude.{◌==◌, ◌&&◌, ◌^◌, is_ok, if◌then◌else◌}
use Rattle.std.proofs.lemmas.Bool.Decides.{nat_tests}
use Rattle.relay_base.specs.Numbers.{be24_of, be16_of}
use Rattle.av_unit.specs.Classes.{high, low, second_is}
use Rattle.av_unit.specs.declared.unit.Kind.{Kind}
use Rattle.av_unit.specs.declared.unit.Kind.TheVariants.{Meta, VConfig, AConfig, Key, Inter, Spare, Audio, Data}
use Rattle.av_unit.specs.declared.item.Item.{Item}
use Rattle.av_unit.specs.declared.item.Item.TheVariants.{Begin, Unit as AUnit, End}
use Rattle.avc_annexb.specs.declared.fail.AvcFail.{AvcFail}
use Rattle.avc_annexb.specs.declared.fail.AvcFail.TheVariants.{PastEnd, Short}
use Rattle.avc_annexb.specs.Nal.{AreNals, IsNal, dirty_in, nal_type, triple_in}
use Rattle.avc_annexb.specs.Prefixed.{Front, front_of, nals_of, units_in}
use Rattle.avc_annexb.specs.AnnexB.{annexb, but_delimiters, kept_of, stream_of}
use Rattle.avc_annexb.specs.Record.{Config as AvcConfig, Sets, pps_in, record_of, sets_in, size_read, then_sets, then_sets_of, with_pps, with_sets, with_sps}
use Rattle.avc_annexb.proofs.Units.{first}
use Rattle.avc_annexb.proofs.Prefixes.{then_found}
use Rattle.avc_annexb.proofs.Streams.{annexb_append}
use Rattle.aac_adts.specs.declared.fail.AacFail.{AacFail}
use Rattle.aac_adts.specs.declared.fail.AacFail.TheVariants.{TooLong, Short as TooShort}
use Rattle.aac_adts.specs.Config.{Config as AacConfig, IsConfig, checked, config_of}
use Rattle.aac_adts.specs.Frame.{frame, head_bytes}
use Rattle.aac_adts.specs.Reading.{adts_of}
use Rattle.aac_adts.proofs.Configs.{in_range}
use Rattle.aac_adts.proofs.Heads.{only}
use Rattle.ts_reader.specs.Payloads.{is_carried, is_stream}
use Rattle.ts_reader.proofs.Streams.{stream_written}
use Rattle.ts_writer.specs.declared.left.Left.{Left}
use Rattle.ts_writer.specs.declared.left.Left.TheVariants.{Aac, Avc, Codec}
use Rattle.ts_writer.specs.declared.in_force.InForce.{InForce}
use Rattle.ts_writer.specs.Frames.{Frame, access_unit, audio_config, audio_frame, by_asc, by_config, delimiter, of_aac, of_avc, picture, sets_if, shown, some_raw, some_text, sound, units_text, video_config, video_frame}
use Rattle.ts_law.specs.Pes.{IsFrame}
use Rattle.ts_writer.specs.Text.{audio_after, audio_by, frame_in, in_force, nothing_of, read_or_none, reading_of, video_after, video_by}

-- NAL units, one list after another
nals_append : (ns ms : List (List ℕ)) → AreNals ns → AreNals ms → AreNals (ns ++ ms)
nals_append [] ms a b = b
nals_append (n ∷ ns) ms a b = (a.0, nals_append ns ms a.1 b)

-- the parameter sets that are read are NAL units
with_found : (q : List ℕ × List ℕ) (s : Sets) (p : List (List ℕ) × List ℕ) → with_sets (q.0 ∷ []) s ≡ Ok p → (r : List (List ℕ) × List ℕ) × (s ≡ Ok r) × (p ≡ (q.0 ∷ r.0, r.1))
with_found q (Err f) p e = absurd (cc)
with_found q (Ok r) p e = (r, refl, cc)

sets_found : (f : Front) (next : List ℕ → Sets) (p : List (List ℕ) × List ℕ) → then_sets f next ≡ Ok p
    → (q : List ℕ × List ℕ) × (r : List (List ℕ) × List ℕ) × (f ≡ Ok q) × (next q.1 ≡ Ok r) × (p ≡ (q.0 ∷ r.0, r.1))
sets_found (Err f) next p e = absurd (cc)
sets_found (Ok q) next p e = let h = with_found q (next q.1) p e in (q, h.0, refl, h.1, h.2)

sets_nals : (count total nal : ℕ) (b : List ℕ) (p : List (List ℕ) × List ℕ) → sets_in count total nal b ≡ Ok p → AreNals p.0
unfolding sets_in
sets_nals zero total nal b p e = let h : ([], b) ≡ p = cc in subst (λ (x : List (List ℕ) × List ℕ). AreNals x.0) h tt
sets_nals (suc count) total nal b p e =
    let h = sets_found (front_of (Short total) nal 2 b) (λ rest. sets_in count total (nal + 1) rest) p e in
    let one = first (Short total) nal 2 b h.0.0 h.0.1 h.2 in
    let behind = sets_nals count total (nal + 1) h.0.1 h.1 h.3 in
    subst (λ (x : List (List ℕ) × List ℕ). AreNals x.0) (sym h.4) (one.nal, behind)

pps_nals : (total nal : ℕ) (b : List ℕ) (p : List (List ℕ) × List ℕ) → pps_in total nal b ≡ Ok p → AreNals p.0
pps_nals total nal [] p e = absurd (cc)
pps_nals total nal (count ∷ rest) p e = sets_nals count total nal rest p e

-- both lists of a configuration
abbrev pub HasNals : AvcConfig → Type 0
HasNals c = AreNals c.sps × AreNals c.pps

pps_by : (size : ℕ) (sps : List (List ℕ)) (s : Sets) (c : AvcConfig) → with_pps size sps s ≡ Ok c → AreNals sps → ((p : List (List ℕ) × List ℕ) → s ≡ Ok p → AreNals p.0) → HasNals c
pps_by size sps (Err f) c e a next = absurd (cc)
pps_by size sps (Ok q) c e a next = let h : record { size = size; sps = sps; pps = q.0 } ≡ c = cc in subst HasNals h (a, next q refl)

sps_by : (size total : ℕ) (s : Sets) (c : AvcConfig) → with_sps size total s ≡ Ok c → ((p : List (List ℕ) × List ℕ) → s ≡ Ok p → AreNals p.0) → HasNals c
sps_by size total (Err f) c e next = absurd (cc)
sps_by size total (Ok p) c e next = pps_by size p.0 (pps_in total (length p.0) p.1) c e (next p refl) (λ q h. pps_nals total (length p.0) p.1 q h)

record_by : (b : List ℕ) (r : Result ℕ AvcFail) (c : AvcConfig) → then_sets_of b r ≡ Ok c → HasNals c
record_by b (Err f) c e = absurd (cc)
record_by b (Ok size) c e =
    sps_by size (length b) (sets_in (slice_index b 5 % 32) (length b) 0 (drop 6 b)) c e (λ p h. sets_nals (slice_index b 5 % 32) (length b) 0 (drop 6 b) p h)

record_nals : (b : List ℕ) (c : AvcConfig) → record_of b ≡ Ok c → HasNals c
unfolding record_of
record_nals b c e = record_by b (size_read b) c e

-- the units of a picture
units_nals : (most size total nal : ℕ) (b : List ℕ) (units : List (List ℕ)) → units_in most size total nal b ≡ Ok units → AreNals units
unfolding units_in
units_nals zero size total nal b units e = let h : [] ≡ units = cc in subst AreNals h tt
units_nals (suc most) size total nal [] units e = let h : [] ≡ units = cc in subst AreNals h tt
units_nals (suc most) size total nal (x ∷ xs) units e =
    let h = then_found size (front_of (PastEnd (total - length (x ∷ xs))) nal size (x ∷ xs)) (λ rest. units_in most size total (nal + 1) rest) units e in
    let one = first (PastEnd (total - length (x ∷ xs))) nal size (x ∷ xs) h.0.0 h.0.1 h.2 in
    subst AreNals (sym h.4) (one.nal, units_nals most size total (nal + 1) h.0.1 h.1 h.3)

some_kept : (t : Bool) (n : List ℕ) (ns ms : List (List ℕ)) → IsNal n → AreNals ms → AreNals (if t then ms else n ∷ ms)
some_kept true n ns ms one a = a
some_kept false n ns ms one a = (one, a)

kept_nals : (ns : List (List ℕ)) → AreNals ns → AreNals (but_delimiters ns)
kept_nals [] a = tt
kept_nals (n ∷ ns) a = some_kept (nal_type n == 9) n ns (but_delimiters ns) a.0 (kept_nals ns a.1)

-- a text that is the byte stream of NAL units
pub record IsStream (text : List ℕ) : Type 0 where
  pub units : List (List ℕ)
  pub nals : AreNals units
  pub text_is : text ≡ annexb units

stream_by : (r : Result (List (List ℕ)) AvcFail) (text : List ℕ) → stream_of r ≡ Ok text → ((units : List (List ℕ)) → r ≡ Ok units → AreNals units) → IsStream text
stream_by (Err f) text e next = absurd (cc)
stream_by (Ok units) text e next = let h : annexb (but_delimiters units) ≡ text = cc in record { units = but_delimiters units; nals = kept_nals units (next units refl); text_is = sym h }

kept_stream : (size : ℕ) (b text : List ℕ) → kept_of size b ≡ Ok text → IsStream text
unfolding nals_of
kept_stream size b text e = stream_by (units_in (length b) size (length b) 0 b) text e (λ units h. units_nals (length b) size (length b) 0 b units h)

avc_found : {X : Type 0} (r : Result X AvcFail) (x : X) → of_avc r ≡ Ok x → r ≡ Ok x
avc_found (Err e) x is = absurd (cc)
avc_found (Ok t) x is = let h : t ≡ x = cc in ap Ok h

aac_found : {X : Type 0} (r : Result X AacFail) (x : X) → of_aac r ≡ Ok x → r ≡ Ok x
aac_found (Err e) x is = absurd (cc)
aac_found (Ok t) x is = let h : t ≡ x = cc in ap Ok h

text_by : (t : Bool) (c : AvcConfig) (body text : List ℕ) → (if t then Err (Avc (Short (length body))) else of_avc (kept_of c.size (drop 5 body))) ≡ Ok text → IsStream text
text_by true c body text e = absurd (cc)
text_by false c body text e = kept_stream c.size (drop 5 body) text (avc_found (kept_of c.size (drop 5 body)) text e)

text_stream : (c : AvcConfig) (body text : List ℕ) → units_text c body ≡ Ok text → IsStream text
unfolding units_text
text_stream c body text e = text_by (nat_lt (length body) 5) c body text e

-- an access unit
delimiter_nal : IsNal delimiter
unfolding dirty_in triple_in
delimiter_nal = record { some = omega arith; clean = refl }

sets_stream : (key : Bool) (c : AvcConfig) → HasNals c → IsStream (sets_if key c)
sets_stream true c a = record { units = c.sps ++ c.pps; nals = nals_append c.sps c.pps a.0 a.1; text_is = sym (annexb_append c.sps c.pps) }
sets_stream false c a = record { units = []; nals = tt; text_is = refl }

unit_stream : (c : AvcConfig) (key : Bool) (text : List ℕ) → HasNals c → IsStream text → is_stream (access_unit c key text) ≡ true
unit_stream c key text a s =
    let sets = sets_stream key c a in
    let all : access_unit c key text ≡ annexb (delimiter ∷ (sets.units ++ s.units)) =
    ap (λ (x : List ℕ). annexb (delimiter ∷ []) ++ (x ++ text)) sets.text_is
    ∙ ap (λ (x : List ℕ). annexb (delimiter ∷ []) ++ (annexb sets.units ++ x)) s.text_is
    ∙ ap (λ (x : List ℕ). annexb (delimiter ∷ []) ++ x) (sym (annexb_append sets.units s.units)) in
    let P : List ℕ → Type 0 = λ b. is_stream b ≡ true in
    subst P (sym all) (stream_written (delimiter ∷ (sets.units ++ s.units)) (delimiter_nal, nals_append sets.units s.units sets.nals s.nals))

unit_carried : (c : AvcConfig) (key : Bool) (text : List ℕ) → HasNals c → IsStream text → is_carried true (access_unit c key text) ≡ true
unit_carried c key text a s = unit_stream c key text a s

shown_by : (t : Bool) (a b : ℕ) → (if t then a % 2 ^ 33 else b % 2 ^ 33) < 2 ^ 33
shown_by true a b = omega arith
shown_by false a b = omega arith

shown_fits : (time composition : ℕ) → shown time composition < 2 ^ 33
unfolding shown
shown_fits time composition = shown_by (nat_lt composition (2 ^ 23)) ((time + composition) * 90) (time * 90 + (2 ^ 33 - (2 ^ 24 - composition) * 90))

picture_good : (c : AvcConfig) (key : Bool) (time : ℕ) (body text : List ℕ) → HasNals c → IsStream text → IsFrame (picture c key time body text)
picture_good c key time body text a s = record {
  pts = shown_fits time (be24_of (drop 2 body));
  dts = omega arith;
  one = λ e. absurd (cc);
  short = λ e. absurd (cc);
  carried = unit_carried c key text a s;
}

-- a frame of this kind
abbrev pub IsOf : Bool → Frame → Type 0
IsOf video f = IsFrame f × (f.video ≡ video)

picture_by : (c : AvcConfig) (key : Bool) (time : ℕ) (body : List ℕ) (r : Result (List ℕ) Left) (f : Frame) → HasNals c → some_text (picture c key time body) r ≡ Ok f
    → ((text : List ℕ) → r ≡ Ok text → IsStream text) → IsOf true f
picture_by c key time body (Err e) f a is next = absurd (cc)
picture_by c key time body (Ok []) f a is next = absurd (cc)
picture_by c key time body (Ok (x ∷ xs)) f a is next =
    let h : picture c key time body (x ∷ xs) ≡ f = cc in subst (IsOf true) h (picture_good c key time body (x ∷ xs) a (next (x ∷ xs) refl), refl)

config_by : (o : Option AvcConfig) (key : Bool) (time : ℕ) (body : List ℕ) (f : Frame) → ((c : AvcConfig) → o ≡ Some c → HasNals c) → by_config o key time body ≡ Ok f
    → IsOf true f × (is_some o ≡ true)
config_by None key time body f a e = absurd (cc)
config_by (Some c) key time body f a e = (picture_by c key time body (units_text c body) f (a c refl) e (λ text h. text_stream c body text h), refl)

video_by_test : (t : Bool) (o : Option AvcConfig) (key : Bool) (time : ℕ) (body : List ℕ) (f : Frame) → ((c : AvcConfig) → o ≡ Some c → HasNals c)
    → (if t then by_config o key time body else Err Codec) ≡ Ok f → IsOf true f × (is_some o ≡ true)
video_by_test true o key time body f a e = config_by o key time body f a e
video_by_test false o key time body f a e = absurd (cc)

video_good : (o : Option AvcConfig) (key : Bool) (time : ℕ) (body : List ℕ) (f : Frame) → ((c : AvcConfig) → o ≡ Some c → HasNals c) → video_frame o key time body ≡ Ok f
    → IsOf true f × (is_some o ≡ true)
unfolding video_frame
video_good o key time body f a e = video_by_test ((low body == 7) && second_is 1 body) o key time body f a e

-- sound
head_length : (a : AacConfig) (n : ℕ) → length (head_bytes a n) ≡ 7
unfolding head_bytes
head_length a n = refl

is_read : {X E : Type 0} (r : Result X E) (x : X) → r ≡ Ok x → is_ok r ≡ true
is_read r x e = rw e refl

sound_good : (a : AacConfig) (time : ℕ) (raw : List ℕ) → IsConfig a → 1 ≤ length raw → length raw ≤ 8184 → IsFrame (sound a time raw)
sound_good a time raw fits some most = record {
  pts = omega arith;
  dts = omega arith;
  one = λ e. refl;
  short = λ e. omega (arith, length-append (head_bytes a (length raw + 7)) raw, head_length a (length raw + 7));
  carried = is_read (adts_of (frame a raw)) (a, length raw) (only a raw fits (some, most));
}

raw_by : (t : Bool) (a : AacConfig) (time : ℕ) (raw : List ℕ) (f : Frame) → IsConfig a → 1 ≤ length raw → nat_lt 8184 (length raw) ≡ t
    → (if t then Err (Aac (TooLong (length raw))) else Ok (sound a time raw)) ≡ Ok f → IsOf false f
raw_by true a time raw f fits some is e = absurd (cc)
raw_by false a time raw f fits some is e =
    let h : sound a time raw ≡ f = cc in
    let most : length raw ≤ 8184 = grind (arith, nat_tests) in
    subst (IsOf false) h (sound_good a time raw fits some most, refl)

some_raw_good : (a : AacConfig) (time : ℕ) (raw : List ℕ) (f : Frame) → IsConfig a → some_raw a time raw ≡ Ok f → IsOf false f
some_raw_good a time [] f fits e = absurd (cc)
some_raw_good a time (x ∷ xs) f fits e = raw_by (nat_lt 8184 (length (x ∷ xs))) a time (x ∷ xs) f fits (omega arith) refl e

asc_by : (o : Option AacConfig) (time : ℕ) (body : List ℕ) (f : Frame) → ((a : AacConfig) → o ≡ Some a → IsConfig a) → by_asc o time body ≡ Ok f → IsOf false f × (is_some o ≡ true)
asc_by None time body f fits e = absurd (cc)
asc_by (Some a) time body f fits e = (some_raw_good a time (drop 2 body) f (fits a refl) e, refl)

audio_by_test : (t : Bool) (o : Option AacConfig) (time : ℕ) (body : List ℕ) (f : Frame) → ((a : AacConfig) → o ≡ Some a → IsConfig a)
    → (if t then by_asc o time body else Err Codec) ≡ Ok f → IsOf false f × (is_some o ≡ true)
audio_by_test true o time body f fits e = asc_by o time body f fits e
audio_by_test false o time body f fits e = absurd (cc)

audio_good : (o : Option AacConfig) (time : ℕ) (body : List ℕ) (f : Frame) → ((a : AacConfig) → o ≡ Some a → IsConfig a) → audio_frame o time body ≡ Ok f
    → IsOf false f × (is_some o ≡ true)
unfolding audio_frame
audio_good o time body f fits e = audio_by_test ((high body == 10) && second_is 1 body) o time body f fits e

-- the configurations in force
pub record AreSound (s : InForce) : Type 0 where
  pub video : (c : AvcConfig) → s.video ≡ Some c → HasNals c
  pub audio : (a : AacConfig) → s.audio ≡ Some a → IsConfig a

-- a frame that is read, and its stream is listed
abbrev pub lists_of : Bool → InForce → Bool
lists_of true s = is_some s.video
lists_of false s = is_some s.audio

pub record IsListed (s : InForce) (f : Frame) : Type 0 where
  pub good : IsFrame f
  pub lists_it : lists_of f.video s ≡ true

listed_by : (video : Bool) (s : InForce) (f : Frame) → IsOf video f → lists_of video s ≡ true → IsListed s f
listed_by video s f of is = record { good = of.0; lists_it = ap (λ (b : Bool). lists_of b s) of.1 ∙ is }

frame_found : (r : Result Frame Left) (f : Frame) → frame_in r ≡ Ok (Some f) → r ≡ Ok f
frame_found (Err e) f is = absurd (cc)
frame_found (Ok g) f is = let h : g ≡ f = cc in ap Ok h

nothing_found : {X : Type 0} (r : Result X Left) (f : Frame) (P : Type 0) → nothing_of r ≡ Ok (Some f) → P
nothing_found (Err e) f P is = absurd (cc)
nothing_found (Ok x) f P is = absurd (cc)

pub frame_listed : (s : InForce) (k : Kind) (time : ℕ) (body : List ℕ) (f : Frame) → AreSound s → reading_of s k time body ≡ Ok (Some f) → IsListed s f
frame_listed s Meta time body f a e = absurd (cc)
frame_listed s Data time body f a e = absurd (cc)
frame_listed s VConfig time body f a e = nothing_found (video_config body) f _ e
frame_listed s AConfig time body f a e = nothing_found (audio_config body) f _ e
frame_listed s Key time body f a e =
    let h = video_good s.video true time body f a.video (frame_found (video_frame s.video true time body) f e) in listed_by true s f h.0 h.1
frame_listed s Inter time body f a e =
    let h = video_good s.video false time body f a.video (frame_found (video_frame s.video false time body) f e) in listed_by true s f h.0 h.1
frame_listed s Spare time body f a e =
    let h = video_good s.video false time body f a.video (frame_found (video_frame s.video false time body) f e) in listed_by true s f h.0 h.1
frame_listed s Audio time body f a e =
    let h = audio_good s.audio time body f a.audio (frame_found (audio_frame s.audio time body) f e) in listed_by false s f h.0 h.1

-- CONFIGURATIONS IN FORCE are read ones
if_found : {X : Type 0} (t : Bool) (r : Result X Left) (x : X) → (if t then r else Err Codec) ≡ Ok x → r ≡ Ok x
if_found true r x e = e
if_found false r x e = absurd (cc)

video_config_good : (body : List ℕ) (c : AvcConfig) → video_config body ≡ Ok c → HasNals c
unfolding video_config
video_config_good body c e =
    record_nals (drop 5 body) c (avc_found (record_of (drop 5 body)) c (if_found (low body == 7) (of_avc (record_of (drop 5 body))) c e))

checked_by : (t : Bool) (object index channels : ℕ) (a : AacConfig) (e : AacFail) → (if t then Err e else checked object index channels) ≡ Ok a → IsConfig a
checked_by true object index channels a e is = absurd (cc)
checked_by false object index channels a e is = (in_range object index channels a is).0

config_good : (b : List ℕ) (a : AacConfig) → config_of b ≡ Ok a → IsConfig a
unfolding config_of
config_good b a e = checked_by (nat_lt (length b) 2) (be16_of b / 2 ^ 11) (be16_of b / 2 ^ 7 % 16) (be16_of b / 2 ^ 3 % 16) a TooShort e

audio_config_good : (body : List ℕ) (a : AacConfig) → audio_config body ≡ Ok a → IsConfig a
unfolding audio_config
audio_config_good body a e = config_good (drop 2 body) a (aac_found (config_of (drop 2 body)) a e)

none_found : {X : Type 0} (r : Result X Left) (x : X) → read_or_none r ≡ Some x → r ≡ Ok x
none_found (Ok y) x e = let h : y ≡ x = cc in ap Ok h
none_found (Err e) x is = absurd (cc)

video_by_good : (o : Option AvcConfig) (k : Kind) (body : List ℕ) (c : AvcConfig) → (o ≡ Some c → HasNals c) → video_by o k body ≡ Some c → HasNals c
video_by_good o VConfig body c h e = video_config_good body c (none_found (video_config body) c e)
video_by_good o Meta body c h e = h e
video_by_good o AConfig body c h e = h e
video_by_good o Key body c h e = h e
video_by_good o Inter body c h e = h e
video_by_good o Spare body c h e = h e
video_by_good o Audio body c h e = h e
video_by_good o Data body c h e = h e

video_after_good : (o : Option AvcConfig) (item : Item) (c : AvcConfig) → (o ≡ Some c → HasNals c) → video_after o item ≡ Some c → HasNals c
video_after_good o Begin c h e = absurd (cc)
video_after_good o (AUnit u) c h e = video_by_good o u.kind u.body c h e
video_after_good o End c h e = h e

audio_by_good : (o : Option AacConfig) (k : Kind) (body : List ℕ) (a : AacConfig) → (o ≡ Some a → IsConfig a) → audio_by o k body ≡ Some a → IsConfig a
audio_by_good o AConfig body a h e = audio_config_good body a (none_found (audio_config body) a e)
audio_by_good o Meta body a h e = h e
audio_by_good o VConfig body a h e = h e
audio_by_good o Key body a h e = h e
audio_by_good o Inter body a h e = h e
audio_by_good o Spare body a h e = h e
audio_by_good o Audio body a h e = h e
audio_by_good o Data body a h e = h e

audio_after_good : (o : Option AacConfig) (item : Item) (a : AacConfig) → (o ≡ Some a → IsConfig a) → audio_after o item ≡ Some a → IsConfig a
audio_after_good o Begin a h e = absurd (cc)
audio_after_good o (AUnit u) a h e = audio_by_good o u.kind u.body a h e
audio_after_good o End a h e = h e

pub are_sound : (items : List Item) → AreSound (in_force items)
are_sound [] = record { video = λ c e. absurd (cc); audio = λ a e. absurd (cc) }
are_sound (item ∷ past) =
    let s = are_sound past in
    record {
      video = λ c e. video_after_good (in_force past).video item c (s.video c) e;
      audio = λ a e. audio_after_good (in_force past).audio item a (s.audio a) e;
    }
