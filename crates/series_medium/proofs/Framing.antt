-- How bytes are read as frames
use Rattle.std.proofs.Common.{◌≡◌, ℕ, ◌-◌, ◌<◌, ◌≤◌, ◌^◌, List, [], ◌∷◌, ◌++◌, length, fold, Option, Some, None, refl, sym, ap, ◌∙◌, arith, append_assoc, append-nil}
use Rattle.std.proofs.lemmas.Grind.{fold-append}
use Rattle.std.proofs.lemmas.Bool.Decides.{nat_tests}
use Rattle.std.specs.List.{AllByRecursion}
use Rattle.relay_base.specs.Numbers.{be32_of}
use Rattle.relay_base.proofs.ReadBack.{be32_of-bytes}
use Rattle.file_series.specs.Series.{Series, last_bytes, took}
use Rattle.series_medium.specs.declared.part.Part.{Part}
use Rattle.series_medium.specs.declared.part.Part.TheVariants.{Kind, Length1, Data}
use Rattle.series_medium.specs.Frames.{Frame, Adds, EndsFile, size_bytes, frame_text, frames_text, IsFrame, said}
use Rattle.series_medium.specs.Reading.{Reading, start, data_of, data_or_kind, behind, with_byte, read_byte, read, files_read, part_behind}

pub read-append : (r : Reading) (xs ys : List ℕ) → read r (xs ++ ys) ≡ read (read r xs) ys
read-append r xs ys = fold-append read_byte r xs ys

-- what is read of a frame doesn't ask for the files
same_part : (o : Option Part) (s t : Series) (bytes : List ℕ) → (read (record { part = o; series = s }) bytes).part ≡ (read (record { part = o; series = t }) bytes).part
same_part o s t [] = refl
same_part None s t (b ∷ bs) = same_part None s t bs
same_part (Some p) s t (b ∷ bs) = same_part (behind p b) (with_byte p b s) (with_byte p b t) bs

pub part_of : (s : Series) (bytes : List ℕ) → (read (start s) bytes).part ≡ part_behind bytes
part_of s bytes = same_part (Some Kind) s (record { ended = []; last = None }) bytes

pub reading_of : (s : Series) (bytes : List ℕ) → read (start s) bytes ≡ record { part = part_behind bytes; series = files_read bytes s }
reading_of s bytes = ap (λ (o : Option Part). record { part = o; series = files_read bytes s }) (part_of s bytes)

-- reading goes on from the part that it came to
pub reads_on : (s : Series) (bytes more : List ℕ) (o : Option Part) → part_behind bytes ≡ o
    → read (start s) (bytes ++ more) ≡ read (record { part = o; series = files_read bytes s }) more
reads_on s bytes more o is =
    read-append (start s) bytes more
    ∙ ap (λ (r : Reading). read r more) (reading_of s bytes)
    ∙ ap (λ (p : Option Part). read (record { part = p; series = files_read bytes s }) more) is

-- ---- data

pub data_left : (n : ℕ) → 0 < n → data_or_kind n ≡ Data n
data_left n some = grind (arith, nat_tests)

pub took_more : (s : Series) (xs ys : List ℕ) → took ys (took xs s) ≡ took (xs ++ ys) s
took_more s xs ys = ap (λ (l : List ℕ). record { ended = s.ended; last = Some l }) (append_assoc (last_bytes s.last) xs ys)

data_first : (left : ℕ) (s : Series) (b : ℕ) → read_byte (record { part = Some (Data left); series = s }) b ≡ record { part = Some (data_or_kind (left - 1)); series = took (b ∷ []) s }
data_first left s b = refl

pub read_data : (left : ℕ) (s : Series) (bytes : List ℕ) → 0 < length bytes → length bytes ≤ left
    → read (record { part = Some (Data left); series = s }) bytes ≡ record { part = Some (data_or_kind (left - length bytes)); series = took bytes s }
read_data left s [] some fits = absurd (omega (arith, some))
read_data left s (b ∷ []) some fits = refl
read_data left s (b ∷ c ∷ cs) some fits =
    let go : read (record { part = Some (data_or_kind (left - 1)); series = took (b ∷ []) s }) (c ∷ cs)
    ≡ read (record { part = Some (Data (left - 1)); series = took (b ∷ []) s }) (c ∷ cs)
    = ap (λ (p : Part). read (record { part = Some p; series = took (b ∷ []) s }) (c ∷ cs)) (data_left (left - 1) (omega (arith, fits))) in
    let ih = read_data (left - 1) (took (b ∷ []) s) (c ∷ cs) (omega arith) (omega (arith, fits)) in
    let less : left - 1 - length (c ∷ cs) ≡ left - length (b ∷ c ∷ cs) = omega (arith, fits) in
    go ∙ ih
    ∙ ap (λ (n : ℕ). record { part = Some (data_or_kind n); series = took (c ∷ cs) (took (b ∷ []) s) }) less
    ∙ ap (λ (t : Series). record { part = Some (data_or_kind (left - length (b ∷ c ∷ cs))); series = t }) (took_more s (b ∷ []) (c ∷ cs))

-- ---- frames

pub some_data : (n : ℕ) → 0 < n → data_of n ≡ Some (Data n)
some_data n some = grind (arith, nat_tests)

size_back : (n : ℕ) → n < 2 ^ 32 → be32_of (size_bytes n) ≡ n
unfolding size_bytes
size_back n small = ap be32_of (sym (append-nil (size_bytes n))) ∙ be32_of-bytes n [] small

read_size : (s : Series) (n : ℕ) → 0 < n → n < 2 ^ 32 → read (record { part = Some Length1; series = s }) (size_bytes n) ≡ record { part = Some (Data n); series = s }
unfolding size_bytes
read_size s n some small = ap (λ (o : Option Part). record { part = o; series = s }) (ap data_of (size_back n small) ∙ some_data n some)

none_over : (n : ℕ) → data_or_kind (n - n) ≡ Kind
none_over n = let none : n - n ≡ 0 = omega arith in ap data_or_kind none

pub read_frame : (s : Series) (f : Frame) → IsFrame f → read (start s) (frame_text f) ≡ start (said s f)
read_frame s EndsFile is = refl
read_frame s (Adds bytes) is =
    let n = length bytes in
    read-append (record { part = Some Length1; series = s }) (size_bytes n) bytes
    ∙ ap (λ (r : Reading). read r bytes) (read_size s n is.0 is.1)
    ∙ read_data n s bytes is.0 (omega arith)
    ∙ ap (λ (p : Part). record { part = Some p; series = took bytes s }) (none_over n)

pub read_frames : (s : Series) (fs : List Frame) → AllByRecursion IsFrame fs → read (start s) (frames_text fs) ≡ start (fold said s fs)
read_frames s [] are = refl
read_frames s (f ∷ fs) are =
    read-append (start s) (frame_text f) (frames_text fs)
    ∙ ap (λ (r : Reading). read r (frames_text fs)) (read_frame s f are.0)
    ∙ read_frames (said s f) fs are.1
