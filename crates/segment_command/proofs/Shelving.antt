-- The files of segments
use Rattle.std.proofs.Common.{◌≡◌, ℕ, zero, suc, ◌+◌, List, [], ◌∷◌, ◌++◌, length, Option, Some, None, Result, Ok, Err, MatchResult, inl, inr, refl, sym, ap, ◌∙◌, subst, arith, append_assoc, append-nil}
use Rattle.std.specs.Option.{option_map}
use Rattle.std.specs.Io.KnownBytes.{append_known}
use Rattle.relay_outside.specs.Counts.{Rose}
use Rattle.relay_outside.specs.Doors.{with_one}
use Rattle.relay_outside.specs.Houses.{HouseTold, IsNewFile, KeptFile, Keeps, Spoils, kept_file}
use Rattle.put_text.specs.Written.{WritesPart}
use Rattle.hls_segments.specs.Playlist.{file_name}
use Rattle.segment_command.specs.declared.stop.Fault.{Fault}
use Rattle.segment_command.specs.declared.stop.Fault.TheVariants.{Sink, House, Memory}
use Rattle.segment_command.specs.Files.{Grew, GrewInPart, kept_files, whole_file}
use Rattle.segment_command.specs.Shelves.{AreKept, Breaks, FileSeen, Holds, IsBegun, IsOfFile, IsPartBegun, IsPartKept, IsSameHouse, KeepsLast, OpenFails, PutCause, PutsAll, PutsPart, Settles, Stands, file_seen}

-- ---- lists that grew

pub grew_none : {X : Type 0} (k : Option (List X)) → Grew [] k k
grew_none k = λ list e. (list, e, sym (append-nil list))

-- a file more
grew_by : (xs : List KeptFile) (a b c : Option (List KeptFile)) (title bytes : List ℕ) (n : ℕ) (h : Option (List ℕ)) → Grew xs a b → c ≡ with_one b (kept_file title h n) → Holds h bytes
    → Grew (xs ++ record { name = title; bytes = bytes; faults = n } ∷ []) a c
grew_by xs a None c title bytes n h g e holds = λ list is. absurd (let f : None ≡ Some list = sym e ∙ is in cc)
grew_by xs a (Some ys) c title bytes n None g e holds = λ list is. absurd (let f : None ≡ Some list = sym e ∙ is in cc)
grew_by xs a (Some ys) c title bytes n (Some held) g e holds = λ list is.
    let before = g ys refl in
    let same : held ≡ bytes = holds held refl in
    let file : List ℕ → KeptFile = λ b. record { name = title; bytes = b; faults = n } in
    let f : Some (ys ++ file held ∷ []) ≡ Some list = sym e ∙ is in
    let l : ys ++ file held ∷ [] ≡ list = cc in (
      before.0,
      before.1,
      sym l ∙ ap (λ (b : List ℕ). ys ++ file b ∷ []) same ∙ ap (λ (y : List KeptFile). y ++ file bytes ∷ []) before.2
          ∙ append_assoc before.0 xs (file bytes ∷ []),
    )

-- more bytes in a file
pub holds_more : (h h' : Option (List ℕ)) (wrote text : List ℕ) → Holds h wrote → h' ≡ append_known h text → Holds h' (wrote ++ text)
holds_more None h' wrote text holds e = λ b is. absurd (let f : None ≡ Some b = sym e ∙ is in cc)
holds_more (Some x) h' wrote text holds e = λ b is.
    let f : Some (x ++ text) ≡ Some b = sym e ∙ is in
    let l : x ++ text ≡ b = cc in
    sym l ∙ ap (λ (y : List ℕ). y ++ text) (holds x refl)

-- ---- the house

spoils : (n before now : ℕ) → Rose 0 n → Spoils n before now → Rose before now
spoils zero before now rose s = absurd (omega (arith, rose.higher))
spoils (suc n) before now rose s = s

spoils_none : (n before now : ℕ) → n ≡ 0 → Spoils n before now → now ≡ before
spoils_none zero before now e s = s
spoils_none (suc n) before now e s = absurd (omega (arith, e))

kept_after : (old new : HouseTold) (n : ℕ) (file : Option KeptFile) → Keeps old new n file → new.kept ≡ with_one old.kept file
kept_after old new n file k = ap (λ (t : HouseTold). t.kept) k.1

faults_after : (old new : HouseTold) (n : ℕ) (file : Option KeptFile) → Keeps old new n file → new.faults ≡ old.faults
faults_after old new n file k = ap (λ (t : HouseTold). t.faults) k.1

same_then : (start old new : HouseTold) → IsSameHouse start old → new.faults ≡ old.faults → new.spoiled ≡ old.spoiled → IsSameHouse start new
same_then start old new s f p = record { faults_same = f ∙ s.faults_same; spoiled_same = p ∙ s.spoiled_same }

-- ---- what stands

pub count_stands : (name : List ℕ) (list : List (List ℕ)) (text title : List ℕ) (count : ℕ) (o : Option FileSeen) (start old : HouseTold)
    → Stands name list text title count o start old → count ≡ length list
count_stands name list text title count None start old u = u.count_is ∙ sym (ap (λ (x : List (List ℕ)). length x) u.list_is)
count_stands name list text title count (Some f) start old b = b.count_is

-- a text is put to the file in hand, or a part of it is
pub puts : (r : Result (Unit {0}) Fault) (text : List ℕ) (h h' : Option (List ℕ)) (n n' : ℕ)
    → MatchResult r (λ _. h' ≡ append_known h text) (λ _. WritesPart text h h') → MatchResult r (λ _. n' ≡ n) (λ fault. PutCause fault n n')
    → MatchResult r (λ _. PutsAll text (Some (file_seen h n)) (Some (file_seen h' n'))) (λ fault. PutsPart fault text (Some (file_seen h n)) (Some (file_seen h' n')))
puts (Ok x) text h h' n n' e f = ap (λ (b : Option (List ℕ)). Some (file_seen b n')) e ∙ ap (λ (m : ℕ). Some (file_seen (append_known h text) m)) f
puts (Err fault) text h h' n n' e f = (e, f)

pub put_of_file : (fault : Fault) (text : List ℕ) (o o' : Option FileSeen) → PutsPart fault text o o' → IsOfFile fault
put_of_file fault text None o' p = absurd p
put_of_file fault text (Some f) None p = absurd p
put_of_file Sink text (Some f) (Some f') p = tt
put_of_file House text (Some f) (Some f') p = absurd p.1
put_of_file Memory text (Some f) (Some f') p = tt

-- a part of a text was put
put_part : (name : List ℕ) (list : List (List ℕ)) (text title : List ℕ) (count : ℕ) (f f' : FileSeen) (start now : HouseTold)
    → IsBegun name list text title count f start now → WritesPart text f.holds f'.holds → IsPartBegun name list title f'.holds start now
put_part name list text title count f f' start now b w = record {
  newer = [];
  whole = b.whole;
  wrote = b.wrote ++ w.1.wrote;
  left = w.0;
  list_is = b.list_is ∙ ap (λ (t : List ℕ). (b.wrote ++ t) ∷ b.whole) (sym w.1.parts) ∙ ap (λ (t : List ℕ). t ∷ b.whole) (sym (append_assoc b.wrote w.1.wrote w.0));
  title_is = b.title_is;
  holds_is = holds_more f.holds f'.holds b.wrote w.1.wrote b.holds_is w.1.grown;
  kept = b.kept;
}

pub put_breaks : (fault : Fault) (name : List ℕ) (list : List (List ℕ)) (text title : List ℕ) (count : ℕ) (o o' : Option FileSeen) (start now : HouseTold)
    → Stands name list text title count o start now → PutsPart fault text o o' → Breaks fault name list title o' start now
put_breaks fault name list text title count None o' start now s p = absurd p
put_breaks fault name list text title count (Some f) None start now s p = absurd p
put_breaks Sink name list text title count (Some f) (Some f') start now b p =
    (put_part name list text title count f f' start now b p.0, subst (λ (z : ℕ). Rose z f'.faults) b.sound p.1, b.same)
put_breaks House name list text title count (Some f) (Some f') start now b p = absurd p.1
put_breaks Memory name list text title count (Some f) (Some f') start now b p = (put_part name list text title count f f' start now b p.0, p.1 ∙ b.sound, b.same)

-- what is pending is put
pub put_rest : (name : List ℕ) (list : List (List ℕ)) (text title : List ℕ) (count : ℕ) (o o' : Option FileSeen) (start now : HouseTold)
    → Stands name list text title count o start now → PutsAll text o o' → Stands name list [] title count o' start now
put_rest name list text title count None o' start now u p =
    subst (λ (o : Option FileSeen). Stands name list [] title count o start now) (sym p)
    (record { list_is = u.list_is; text_is = refl; count_is = u.count_is; kept = u.kept; same = u.same })
put_rest name list text title count (Some f) o' start now b p =
    subst (λ (o : Option FileSeen). Stands name list [] title count o start now) (sym p) (record {
      whole = b.whole;
      wrote = b.wrote ++ text;
      list_is = b.list_is ∙ ap (λ (t : List ℕ). t ∷ b.whole) (sym (append-nil (b.wrote ++ text)));
      title_is = b.title_is;
      count_is = b.count_is;
      sound = b.sound;
      holds_is = holds_more f.holds (append_known f.holds text) b.wrote text b.holds_is refl;
      kept = b.kept;
      same = b.same;
    })

-- the last file is kept
pub kept_last : {F : Type 0} (view : F → FileSeen) (r : Result (Unit {0}) Fault) (name : List ℕ) (list : List (List ℕ)) (text title : List ℕ) (count : ℕ)
    (o o1 : Option FileSeen) (o2 : Option F) (start old new : HouseTold) → Stands name list text title count o start old → PutsAll text o o1 → o2 ≡ None
    → MatchResult r (λ _. KeepsLast title o1 old new) (λ fault. (fault ≡ Memory) × (new ≡ old))
    → MatchResult r (λ _. AreKept name list start new) (λ fault. Breaks fault name list title (option_map view o2) start new)
kept_last view (Ok x) name list text title count None o1 o2 start old new u p gone k =
    let e : new ≡ old = subst (λ (o : Option FileSeen). KeepsLast title o old new) p k in
    subst (λ (h : HouseTold). AreKept name list start h) (sym e)
    (record { kept = subst (λ (l : List (List ℕ)). Grew (kept_files name l) start.kept old.kept) (sym u.list_is) u.kept; same = u.same })
kept_last view (Ok x) name list text title count (Some f) o1 o2 start old new b p gone k =
    let holds = append_known f.holds text in
    let e : Keeps old new f.faults (kept_file title holds f.faults) = subst (λ (o : Option FileSeen). KeepsLast title o old new) p k in
    let after : new.kept ≡ with_one old.kept (kept_file title holds 0) =
    kept_after old new f.faults (kept_file title holds f.faults) e ∙ ap (λ (n : ℕ). with_one old.kept (kept_file title holds n)) b.sound in
    let more = grew_by (kept_files name b.whole) start.kept old.kept new.kept title (b.wrote ++ text) 0 holds b.kept after
    (holds_more f.holds holds b.wrote text b.holds_is refl) in
    let named : kept_files name b.whole ++ whole_file title (b.wrote ++ text) ∷ [] ≡ kept_files name list =
    ap (λ (t : List ℕ). kept_files name b.whole ++ whole_file t (b.wrote ++ text) ∷ []) b.title_is ∙ ap (kept_files name) (sym b.list_is) in
    record {
      kept = subst (λ (l : List KeptFile). Grew l start.kept new.kept) named more;
      same = same_then start old new b.same (faults_after old new f.faults (kept_file title holds f.faults) e) (spoils_none f.faults old.spoiled new.spoiled b.sound e.0);
    }
kept_last view (Err fault) name list text title count None o1 None start old new u p gone k =
    subst (λ (h : HouseTold). Breaks fault name list title None start h) (sym k.1)
    (subst (λ (x : Fault). Breaks x name list title None start old) (sym k.0)
    (record { newer = []; whole = list; list_is = refl; kept = subst (λ (l : List (List ℕ)). Grew (kept_files name l) start.kept old.kept) (sym u.list_is) u.kept }, u.same))
kept_last view (Err fault) name list text title count (Some f) o1 None start old new b p gone k =
    subst (λ (h : HouseTold). Breaks fault name list title None start h) (sym k.1)
    (subst (λ (x : Fault). Breaks x name list title None start old) (sym k.0)
    (record { newer = (b.wrote ++ text) ∷ []; whole = b.whole; list_is = b.list_is; kept = b.kept }, b.same))
kept_last view (Err fault) name list text title count o o1 (Some g) start old new u p gone k = absurd (let f : Some g ≡ None = gone in cc)

pub kept_of_file : (fault : Fault) → fault ≡ Memory → IsOfFile fault
kept_of_file fault e = subst IsOfFile (sym e) tt

-- ---- a file is handed over that isn't whole

part_grew : (name : List ℕ) (list : List (List ℕ)) (title : List ℕ) (f : FileSeen) (start old new : HouseTold) → IsPartBegun name list title f.holds start old
    → Rose 0 f.faults → Keeps old new f.faults (kept_file title f.holds f.faults) → GrewInPart name list start.kept new.kept
part_grew name list title f start old new b rose k =
    let more = grew_by (kept_files name b.whole) start.kept old.kept new.kept title b.wrote f.faults f.holds b.kept
    (kept_after old new f.faults (kept_file title f.holds f.faults) k) b.holds_is in
    inr (record {
      newer = b.newer;
      whole = b.whole;
      wrote = b.wrote;
      left = b.left;
      list_is = b.list_is;
      faults = f.faults;
      faulty = rose;
      files = subst (λ (t : List ℕ). Grew (kept_files name b.whole ++ record { name = t; bytes = b.wrote; faults = f.faults } ∷ []) start.kept new.kept) b.title_is more;
    })

first_grew : (name : List ℕ) (list : List (List ℕ)) (start old : HouseTold) → IsPartKept name list start old → GrewInPart name list start.kept old.kept
first_grew name list start old p = inl (record { newer = p.newer; whole = p.whole; list_is = p.list_is; files = p.kept })

pub settles_kept : (fault : Fault) (name : List ℕ) (list : List (List ℕ)) (title : List ℕ) (f : FileSeen) (start old new : HouseTold) → fault ≡ Sink
    → Breaks fault name list title (Some f) start old → Keeps old new f.faults (kept_file title f.holds f.faults) → Settles fault name list start new
settles_kept Sink name list title f start old new e b k =
    let rose = spoils f.faults old.spoiled new.spoiled b.1 k.0 in (
      part_grew name list title f start old new b.0 b.1 k,
      (
        subst (λ (n : ℕ). Rose n new.spoiled) b.2.spoiled_same rose,
        faults_after old new f.faults (kept_file title f.holds f.faults) k ∙ b.2.faults_same,
      ),
    )
settles_kept House name list title f start old new e b k = absurd b
settles_kept Memory name list title f start old new e b k = absurd (let x : Memory ≡ Sink = e in cc)

dropped : (name : List ℕ) (list : List (List ℕ)) (title : List ℕ) (f : FileSeen) (start old new : HouseTold) → IsPartBegun name list title f.holds start old → IsSameHouse start old
    → new ≡ old → Settles Memory name list start new
dropped name list title f start old new b s e =
    subst (λ (h : HouseTold). Settles Memory name list start h) (sym e) (
      inl (record {
        newer = b.newer ++ (b.wrote ++ b.left) ∷ [];
        whole = b.whole;
        list_is = b.list_is ∙ sym (append_assoc b.newer ((b.wrote ++ b.left) ∷ []) b.whole);
        files = b.kept;
      }),
      s,
    )

pub settles_refused : (fault : Fault) (name : List ℕ) (list : List (List ℕ)) (title : List ℕ) (f : FileSeen) (start old new : HouseTold)
    → Breaks fault name list title (Some f) start old → new ≡ old → Settles Memory name list start new
settles_refused Sink name list title f start old new b e = dropped name list title f start old new b.0 b.2 e
settles_refused House name list title f start old new b e = absurd b
settles_refused Memory name list title f start old new b e = dropped name list title f start old new b.0 b.2 e

pub settles_dropped : (fault : Fault) (name : List ℕ) (list : List (List ℕ)) (title : List ℕ) (f : FileSeen) (start old : HouseTold)
    → Breaks fault name list title (Some f) start old → fault ≡ Memory → Settles fault name list start old
settles_dropped Sink name list title f start old b e = absurd (let x : Sink ≡ Memory = e in cc)
settles_dropped House name list title f start old b e = absurd b
settles_dropped Memory name list title f start old b e = dropped name list title f start old old b.0 b.2 refl

pub settles_none : (fault : Fault) (name : List ℕ) (list : List (List ℕ)) (title : List ℕ) (start old : HouseTold)
    → Breaks fault name list title None start old → Settles fault name list start old
settles_none Sink name list title start old b = absurd b
settles_none House name list title start old b = (first_grew name list start old b.0, (b.1, b.2))
settles_none Memory name list title start old b = (first_grew name list start old b.0, b.1)

-- ---- a segment begins

pub begin_fails : {F : Type 0} (view : F → FileSeen) (o : Option F) (fault : Fault) (name : List ℕ) (list : List (List ℕ)) (text title : List ℕ) (start old new : HouseTold)
    → AreKept name list start old → o ≡ None → OpenFails fault old new → Breaks fault name (text ∷ list) title (option_map view o) start new
begin_fails view (Some f) fault name list text title start old new k none e = absurd (let h : Some f ≡ None = none in cc)
begin_fails view None Sink name list text title start old new k none e = absurd e
begin_fails view None House name list text title start old new k none e = (
  record { newer = text ∷ []; whole = list; list_is = refl; kept = subst (λ (x : Option (List KeptFile)). Grew (kept_files name list) start.kept x) (sym (ap (λ (t : HouseTold). t.kept) e.1)) k.kept },
  subst (λ (n : ℕ). Rose n new.faults) k.same.faults_same e.0,
  ap (λ (t : HouseTold). t.spoiled) e.1 ∙ k.same.spoiled_same,
)
begin_fails view None Memory name list text title start old new k none e =
    subst (λ (h : HouseTold). Breaks Memory name (text ∷ list) title None start h) (sym e)
    (record { newer = text ∷ []; whole = list; list_is = refl; kept = k.kept }, k.same)

-- a new file for what is pending
pub begun : (name : List ℕ) (list : List (List ℕ)) (text title : List ℕ) (count count' : ℕ) (f : FileSeen) (start old new : HouseTold) → AreKept name list start old → count ≡ length list
    → title ≡ file_name name count → count' ≡ count + 1 → IsNewFile f.holds f.faults → new ≡ old → IsBegun name (text ∷ list) text title count' f start new
begun name list text title count count' f start old new k c t c' n e = record {
  whole = list;
  wrote = [];
  list_is = refl;
  title_is = t ∙ ap (file_name name) c;
  count_is = omega (arith, c, c');
  sound = n.none;
  holds_is = n.blank;
  kept = subst (λ (x : HouseTold). Grew (kept_files name list) start.kept x.kept) (sym e) k.kept;
  same = subst (λ (x : HouseTold). IsSameHouse start x) (sym e) k.same;
}

part_more : (name : List ℕ) (list : List (List ℕ)) (text title : List ℕ) (holds : Option (List ℕ)) (start now : HouseTold) → IsPartBegun name list title holds start now
    → IsPartBegun name (text ∷ list) title holds start now
part_more name list text title holds start now b = record {
  newer = text ∷ b.newer;
  whole = b.whole;
  wrote = b.wrote;
  left = b.left;
  list_is = ap (λ (l : List (List ℕ)). text ∷ l) b.list_is;
  title_is = b.title_is;
  holds_is = b.holds_is;
  kept = b.kept;
}

kept_more : (name : List ℕ) (list : List (List ℕ)) (text : List ℕ) (start now : HouseTold) → IsPartKept name list start now → IsPartKept name (text ∷ list) start now
kept_more name list text start now b =
    record { newer = text ∷ b.newer; whole = b.whole; list_is = ap (λ (l : List (List ℕ)). text ∷ l) b.list_is; kept = b.kept }

-- a segment more
pub breaks_more : (fault : Fault) (name : List ℕ) (list : List (List ℕ)) (text title : List ℕ) (o : Option FileSeen) (start now : HouseTold)
    → Breaks fault name list title o start now → Breaks fault name (text ∷ list) title o start now
breaks_more Sink name list text title None start now b = absurd b
breaks_more Sink name list text title (Some f) start now b = (part_more name list text title f.holds start now b.0, b.1, b.2)
breaks_more House name list text title None start now b = (kept_more name list text start now b.0, b.1, b.2)
breaks_more House name list text title (Some f) start now b = absurd b
breaks_more Memory name list text title None start now b = (kept_more name list text start now b.0, b.1)
breaks_more Memory name list text title (Some f) start now b = (part_more name list text title f.holds start now b.0, b.1, b.2)

-- memory is refused where all stands
pub stands_then : (name : List ℕ) (list : List (List ℕ)) (text title : List ℕ) (count : ℕ) (o : Option FileSeen) (start now : HouseTold)
    → Stands name list text title count o start now → Breaks Memory name list title o start now
stands_then name list text title count None start now u =
    (record { newer = []; whole = list; list_is = refl; kept = subst (λ (l : List (List ℕ)). Grew (kept_files name l) start.kept now.kept) (sym u.list_is) u.kept }, u.same)
stands_then name list text title count (Some f) start now b =
    (record { newer = []; whole = b.whole; wrote = b.wrote; left = text; list_is = b.list_is; title_is = b.title_is; holds_is = b.holds_is; kept = b.kept }, b.sound, b.same)

-- the file that is in hand
pub in_hand : {F : Type 0} (view : F → FileSeen) (o : Option F) (f : F) (fault : Fault) (name : List ℕ) (list : List (List ℕ)) (title : List ℕ) (start now : HouseTold)
    → o ≡ Some f → Breaks fault name list title (option_map view o) start now → Breaks fault name list title (Some (view f)) start now
in_hand {F} view o f fault name list title start now e b = subst (λ (x : Option F). Breaks fault name list title (option_map view x) start now) e b
