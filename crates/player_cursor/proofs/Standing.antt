-- What each call makes of what a cursor stands for.
use Rattle.std.proofs.Common.{◌≡◌, ℕ, ◌+◌, ◌-◌, ◌<◌, ◌≤◌, ◌==◌, Bool, true, false, ◌&&◌, if◌then◌else◌, List, [], ◌∷◌, ◌++◌, length, Some, None, Option, ◌⊎◌, inl, inr, refl, sym, ◌∙◌, arith, length-append}
use Rattle.std.specs.List.{slice_get, All}
use Rattle.std.proofs.lemmas.Bool.{cases_lt, cases_Bool, false≢true, lt-ltb, le-ltb, eqb-true}
use Rattle.std.proofs.lemmas.Option.{slice_get_within, slice_get_cases}
use Rattle.std.proofs.lemmas.List.Elements.{All-nil, All-push, All-weaker}
use Rattle.std.proofs.lemmas.List.Folds.{Any-from_list_any}
use Rattle.av_unit.specs.declared.item.Item.{Item}
use Rattle.av_unit.specs.declared.item.Item.TheVariants as item
use Rattle.av_unit.specs.declared.unit.Kind.{Kind}
use Rattle.av_unit.specs.declared.unit.Kind.TheVariants.{Meta, VConfig, AConfig, Key, Inter}
use Rattle.av_unit.specs.declared.head.Slot.{Slot}
use Rattle.av_unit.specs.declared.head.Slot.TheVariants as slot
use Rattle.stream_model.specs.Items.{last_where, has_kind, same_kind}
use Rattle.stream_model.specs.Chain.{has_number, is_frame, whole}
use Rattle.stream_model.specs.Take.{at_kind, last_sent}
use Rattle.stream_model.specs.Slots.{slot_kind, head_of, is_video}
use Rattle.stream_model.proofs.Last.{passes_at, none_where, some_where}
use Rattle.stream_model.proofs.Places.{slice_get-append}
use Rattle.stream_model.proofs.Numbers.{has_number_here, last_sent-push, last_sent-append}
use Rattle.stream_model.proofs.UnitKinds.{same_kind_is}
use Rattle.stream_model.proofs.Whole.{whole-push, whole-append}
use Rattle.player_cursor.specs.CursorState.{CursorState, fresh, passed, configured, skipped, is_before, head_has, last_after, flag_after}
use Rattle.player_cursor.specs.StandsFor.{StandsFor, numbers_after}
use Rattle.player_cursor.proofs.Chains.{get_some, whole_next, whole_nothing, whole_over, whole_broken}

pub stands_fresh : (n : ℕ) (items : List Item) → n ≤ length items → StandsFor items [] (fresh n)
stands_fresh n items le = record {
  within = le;
  below = All-nil (λ m. m < n);
  meta = refl;
  video = refl;
  audio = refl;
  flag = λ e. sym (whole_nothing items n le);
}

head_kind : (kind : Kind) (x : Item) → head_has kind (head_of x) ≡ has_kind kind x
head_kind kind item.Begin = refl
head_kind kind (item.Unit u) = refl
head_kind kind item.End = refl

last_is : (kind : Kind) (items : List Item) (numbers : List ℕ) (n : ℕ) (x : Item) (sent : Bool) → slice_get items n ≡ Some x →
    last_after kind (head_of x) sent n (last_sent kind items numbers) ≡ last_sent kind items (numbers_after sent n numbers)
last_is kind items numbers n x false is = refl
last_is kind items numbers n x true is = rw (last_sent-push kind items numbers n, is, head_kind kind x) refl

above_no_number : (numbers : List ℕ) (n : ℕ) → All (λ m. m < n) numbers → has_number n numbers ≡ false
above_no_number numbers n below = elim (cases_Bool (has_number n numbers)) [
  | inl e ↦ let h = Any-from_list_any (λ m. m == n) numbers e in
      let same : h.1 ≡ n = eqb-true h.1 n h.4 in
      let lt : h.1 < n = rw h.3 at (below h.0 h.1 h.2) in
      absurd (omega arith)
  | inr e ↦ e
]

number_here : (sent : Bool) (numbers : List ℕ) (n : ℕ) → All (λ m. m < n) numbers → has_number n (numbers_after sent n numbers) ≡ sent
number_here false numbers n below = above_no_number numbers n below
number_here true numbers n below = has_number_here n numbers

whole_after : (sent : Bool) (items : List Item) (numbers : List ℕ) (n : ℕ) → whole items (numbers_after sent n numbers) n ≡ whole items numbers n
whole_after false items numbers n = refl
whole_after true items numbers n = whole-push items numbers n n (inl (omega arith))

below_after : (sent : Bool) (numbers : List ℕ) (n : ℕ) → All (λ m. m < n) numbers → All (λ m. m < n + 1) (numbers_after sent n numbers)
below_after false numbers n below = All-weaker (λ m. m < n) (λ m. m < n + 1) (λ m lt. omega arith) numbers below
below_after true numbers n below = All-push (λ m. m < n + 1) numbers n (All-weaker (λ m. m < n) (λ m. m < n + 1) (λ m lt. omega arith) numbers below) (omega arith)

-- the flag before doesn't count at a Key
flag_same : (x : Item) (sent a b : Bool) → (has_kind Key x ≡ false → a ≡ b) → flag_after (head_of x) sent a ≡ flag_after (head_of x) sent b
flag_same item.Begin sent a b h = refl
flag_same item.End sent a b h = rw (h refl) refl
flag_same (item.Unit u) sent a b h = elim (cases_Bool (same_kind Key u.kind)) [
  | inl e ↦ rw (← same_kind_is Key u.kind e) refl
  | inr e ↦ rw (h e) refl
]

pub stands_passed : (items : List Item) (numbers : List ℕ) (x : Item) (sent : Bool) (c : CursorState) → StandsFor items numbers c → slice_get items c.next ≡ Some x →
    StandsFor items (numbers_after sent c.next numbers) (passed (head_of x) sent c)
stands_passed items numbers x sent c s is = record {
  within = let lt = slice_get_within items c.next x is in omega arith;
  below = below_after sent numbers c.next s.below;
  meta = rw s.meta (last_is Meta items numbers c.next x sent is);
  video = rw s.video (last_is VConfig items numbers c.next x sent is);
  audio = rw s.audio (last_is AConfig items numbers c.next x sent is);
  flag = λ e.
      let flag : has_kind Key x ≡ false → c.whole ≡ whole items numbers c.next = λ f. s.flag (rw is f) in
      flag_same x sent c.whole (whole items numbers c.next) flag
      ∙ sym (whole_next items (numbers_after sent c.next numbers) c.next x is ∙ rw (number_here sent numbers c.next s.below, whole_after sent items numbers c.next) refl);
}

-- what a configuration's item is to each kind
is_config_at : (kind other : Kind) (o : Option Item) → at_kind kind o ≡ true → at_kind other o ≡ same_kind other kind
is_config_at kind other None e = absurd (false≢true e)
is_config_at kind other (Some item.Begin) e = absurd (false≢true e)
is_config_at kind other (Some item.End) e = absurd (false≢true e)
is_config_at kind other (Some (item.Unit u)) e = rw (same_kind_is kind u.kind e) refl

slot_no_frame : (s : Slot) (o : Option Item) → at_kind (slot_kind s) o ≡ true → passes_at is_frame o ≡ false
slot_no_frame s None e = refl
slot_no_frame s (Some item.Begin) e = refl
slot_no_frame s (Some item.End) e = refl
slot_no_frame s (Some (item.Unit u)) e = rw (← same_kind_is (slot_kind s) u.kind e) (elim s as (λ t. (if same_kind Key (slot_kind t) then true else same_kind Inter (slot_kind t)) ≡ false) [ slot.Meta ↦ refl | slot.Video ↦ refl | slot.Audio ↦ refl ])

config_sent : (s : Slot) (other : Kind) (items : List Item) (numbers : List ℕ) (n : ℕ) → at_kind (slot_kind s) (slice_get items n) ≡ true →
    last_sent other items (numbers ++ n ∷ []) ≡ (if same_kind other (slot_kind s) then Some n else last_sent other items numbers)
config_sent s other items numbers n e = rw (last_sent-push other items numbers n, is_config_at (slot_kind s) other (slice_get items n) e) refl

config_flag : (s : Slot) (items : List Item) (numbers : List ℕ) (n next : ℕ) → at_kind (slot_kind s) (slice_get items n) ≡ true → whole items (numbers ++ n ∷ []) next ≡ whole items numbers next
config_flag s items numbers n next e = whole-push items numbers next n (inr (slot_no_frame s (slice_get items n) e))

pub stands_configured : (items : List Item) (numbers : List ℕ) (s : Slot) (n : ℕ) (c : CursorState) → StandsFor items numbers c → n < c.next → at_kind (slot_kind s) (slice_get items n) ≡ true →
    StandsFor items (numbers ++ n ∷ []) (configured s n c)
stands_configured items numbers slot.Meta n c st lt e = record {
  within = st.within;
  below = All-push (λ m. m < c.next) numbers n st.below lt;
  meta = sym (config_sent slot.Meta Meta items numbers n e);
  video = st.video ∙ sym (config_sent slot.Meta VConfig items numbers n e);
  audio = st.audio ∙ sym (config_sent slot.Meta AConfig items numbers n e);
  flag = λ f. st.flag f ∙ sym (config_flag slot.Meta items numbers n c.next e);
}
stands_configured items numbers slot.Video n c st lt e = record {
  within = st.within;
  below = All-push (λ m. m < c.next) numbers n st.below lt;
  meta = st.meta ∙ sym (config_sent slot.Video Meta items numbers n e);
  video = sym (config_sent slot.Video VConfig items numbers n e);
  audio = st.audio ∙ sym (config_sent slot.Video AConfig items numbers n e);
  flag = λ f. st.flag f ∙ sym (config_flag slot.Video items numbers n c.next e);
}
stands_configured items numbers slot.Audio n c st lt e = record {
  within = st.within;
  below = All-push (λ m. m < c.next) numbers n st.below lt;
  meta = st.meta ∙ sym (config_sent slot.Audio Meta items numbers n e);
  video = st.video ∙ sym (config_sent slot.Audio VConfig items numbers n e);
  audio = sym (config_sent slot.Audio AConfig items numbers n e);
  flag = λ f. st.flag f ∙ sym (config_flag slot.Audio items numbers n c.next e);
}

key_no_begin : (o : Option Item) → at_kind Key o ≡ true → passes_at is_video o ≡ true
key_no_begin None e = absurd (false≢true e)
key_no_begin (Some item.Begin) e = refl
key_no_begin (Some item.End) e = absurd (false≢true e)
key_no_begin (Some (item.Unit u)) e = rw e refl

not_key : (o : Option Item) → passes_at is_video o ≡ false → at_kind Key o ≡ false
not_key o e = elim (cases_Bool (at_kind Key o)) [ inl f ↦ absurd (false≢true (sym e ∙ key_no_begin o f)) | inr f ↦ f ]

-- over sound alone
quiet_skip : (items : List Item) (numbers : List ℕ) (c : CursorState) (to : ℕ) → StandsFor items numbers c → c.next ≤ to → to ≤ length items →
    ((j : ℕ) → c.next ≤ j → passes_at is_video (slice_get items j) ≡ false) → c.whole ≡ whole items numbers to
quiet_skip items numbers c to s le within none =
    let at : c.next + (to - c.next) ≡ to = omega arith in
    s.flag (not_key (slice_get items c.next) (none c.next (omega arith)))
    ∙ rw at at (sym (whole_over items numbers c.next (to - c.next) (omega arith) none))

-- over a frame or a Begin, at v
broken_skip : (items : List Item) (numbers : List ℕ) (c : CursorState) (to v : ℕ) → StandsFor items numbers c → c.next ≤ v → v < to → to ≤ length items →
    passes_at is_video (slice_get items v) ≡ true → ((j : ℕ) → v < j → passes_at is_video (slice_get items j) ≡ false) → whole items numbers to ≡ false
broken_skip items numbers c to v s low high within here later =
    let there = get_some items v (omega arith) in
    let is : is_video there.0 ≡ true = rw there.1 at here in
    let unsent : has_number v numbers ≡ false = above_no_number numbers v (All-weaker (λ m. m < c.next) (λ m. m < v) (λ m lt. omega arith) numbers s.below) in
    let at : v + 1 + (to - (v + 1)) ≡ to = omega arith in
    rw at at (whole_over items numbers (v + 1) (to - (v + 1)) (omega arith) (λ j le. later j (omega arith)))
    ∙ whole_broken items numbers v there.0 there.1 is unsent

video_within : (items : List Item) (v : ℕ) → passes_at is_video (slice_get items v) ≡ true → v < length items
video_within items v e = elim (slice_get_cases items v).1 [ inl some ↦ some.1 | inr none ↦ absurd (false≢true (rw none.1 at e)) ]

-- what a skip to the join place makes of the flag
skip_flag : (items : List Item) (numbers : List ℕ) (c : CursorState) (to : ℕ) (o : Option ℕ) → StandsFor items numbers c → c.next ≤ to → to ≤ length items → o ≡ last_where is_video items →
    at_kind Key (slice_get items to) ≡ false → (to ≡ length items) ⊎ (at_kind Key (slice_get items to) ≡ true) → (is_before o c.next && c.whole) ≡ whole items numbers to
skip_flag items numbers c to None s low within o no_key end = quiet_skip items numbers c to s low within (λ j le. none_where is_video items (sym o) j)
skip_flag items numbers c to (Some v) s low within o no_key (inr key) = absurd (false≢true (sym no_key ∙ key))
skip_flag items numbers c to (Some v) s low within o no_key (inl end) =
    let last = some_where is_video items v (sym o) in
    elim (cases_lt v c.next) [
      | inl lt ↦ rw (lt-ltb v c.next lt) (quiet_skip items numbers c to s low within (λ j le. last.later j (omega arith)))
      | inr ge ↦
          let inside : v < to = rw (← end) at (video_within items v last.here) in
          rw (le-ltb v c.next ge) (sym (broken_skip items numbers c to v s ge inside within last.here last.later))
    ]

pub stands_skipped : (items : List Item) (numbers : List ℕ) (c : CursorState) (to : ℕ) (o : Option ℕ) → StandsFor items numbers c → c.next ≤ to → to ≤ length items → o ≡ last_where is_video items →
    (to ≡ length items) ⊎ (at_kind Key (slice_get items to) ≡ true) → StandsFor items numbers (skipped to o c)
stands_skipped items numbers c to o s low within is end = record {
  within = within;
  below = All-weaker (λ m. m < c.next) (λ m. m < to) (λ m lt. omega arith) numbers s.below;
  meta = s.meta;
  video = s.video;
  audio = s.audio;
  flag = λ e. skip_flag items numbers c to o s low within is e end;
}

before_key : (o : Option ℕ) (items : List Item) (next to : ℕ) (b : Bool) → next ≤ to → o ≡ last_where is_video items → at_kind Key (slice_get items to) ≡ true → (is_before o next && b) ≡ false
before_key None items next to b le is e = absurd (false≢true (sym (none_where is_video items (sym is) to) ∙ key_no_begin (slice_get items to) e))
before_key (Some v) items next to b le is e =
    let last = some_where is_video items v (sym is) in
    elim (cases_lt v next) [
      | inl lt ↦ absurd (false≢true (sym (last.later to (omega arith)) ∙ key_no_begin (slice_get items to) e))
      | inr ge ↦ rw (le-ltb v next ge) refl
    ]

-- a skip onto a Key takes the flag away
pub skipped_onto_key : (items : List Item) (c : CursorState) (to : ℕ) (o : Option ℕ) → c.next ≤ to → o ≡ last_where is_video items → at_kind Key (slice_get items to) ≡ true → (skipped to o c).whole ≡ false
skipped_onto_key items c to o le is e = before_key o items c.next to c.whole le is e

no_key_before : (xs more : List Item) (n : ℕ) → at_kind Key (slice_get (xs ++ more) n) ≡ false → at_kind Key (slice_get xs n) ≡ false
no_key_before xs more n e = elim (slice_get_cases xs n).1 [
  | inl some ↦ rw (slice_get-append xs more n some.1) at e
  | inr none ↦ rw none.1 refl
]

-- more items at the end change nothing for a cursor
pub stands_grown : (xs more : List Item) (numbers : List ℕ) (c : CursorState) → StandsFor xs numbers c → StandsFor (xs ++ more) numbers c
stands_grown xs more numbers c s =
    let below : All (λ m. m < length xs) numbers = let le = s.within in All-weaker (λ m. m < c.next) (λ m. m < length xs) (λ m lt. omega arith) numbers s.below in
    record {
      within = let le = s.within in omega (arith, length-append xs more);
      below = s.below;
      meta = s.meta ∙ sym (last_sent-append Meta xs more numbers below);
      video = s.video ∙ sym (last_sent-append VConfig xs more numbers below);
      audio = s.audio ∙ sym (last_sent-append AConfig xs more numbers below);
      flag = λ e. s.flag (no_key_before xs more c.next e) ∙ sym (whole-append xs more numbers c.next s.within);
    }
