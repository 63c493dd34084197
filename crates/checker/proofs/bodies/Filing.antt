-- A function's body that is read, checked and whose calls are noted in one, the bodies of a file in order, and the whole file. Assumes nothing.
use Prim.Native.Nat.{ℕ, suc, ◌+◌, ◌/◌, ◌%◌, ◌≤◌, ◌<◌}
use mathlib.Core.Path.{◌≡◌, refl, sym, ap, ◌∙◌, subst}
use mathlib.Core.List.{List, [], ◌++◌, map, append_assoc}
use mathlib.Core.Logic.{inl, inr, ⊎_elim}
use native.Mathlib.Omega.{arith}
use native.Mathlib.Numerals.{add-one}
use lib.ListN.{length, drop, get_or, set, replicate, length-replicate, length-append, drop_of_length-le, get_or-append}
use lib.Seq.{drop-cons}
use borrow.Author.Tests.{lt-ltb}
use Rattle.meaning.specs.declared.Slot.{Slot}
use Rattle.meaning.specs.Choice.{pick}
use Rattle.meaning.specs.Plain.{place_of, no_body}
use Rattle.meaning.specs.Syntax.{Signature, Constructor, File}
use Rattle.meaning.specs.Machine.{function_of, body_of}
use Rattle.meaning.specs.Outcome.{Outcome, ok, refuse, then}
use Rattle.meaning.specs.Reading.{read}
use Rattle.meaning.specs.Ownership.{check, check_bodies, check_file, no_function}
use Rattle.meaning.specs.Ownership as tree
use Rattle.meaning.specs.Calls.{calls}
use Rattle.meaning.specs.Verdict.{accepted}
use Rattle.standing.specs.Bytes.{byte_at, params_in, modes_in, result_in}
use Rattle.standing.specs.Stands.{Stands}
use Rattle.standing.specs.Table.{con_words, con_end, fun_words, filled, table_of, sort_byte, Sorts, Modes, Declared}
use Rattle.standing.proofs.Declaring.{read_declared}
use Rattle.standing.proofs.Faults.{check_file_inside}
use Rattle.meaning.specs.declared.Fault as faults
use Rattle.meaning.specs.declared.Refusal.{Refusal}
use Rattle.meaning.specs.Answers.{fault_number}
use Rattle.checker.specs.declared.reading.Header.{Header}
use Rattle.std.specs.Prelude.{Option, None, Some, Result, Ok, Err}
use Rattle.checker.specs.Read.{Read, Next, Fault, as_read, refusal}
use Rattle.meaning.proofs.Told.{fault_some}
use Rattle.checker.proofs.ownership.Turns.{sort_is}
use Rattle.checker.specs.ReadingBytes.{path, known_count, expect_at, end_at}
use Rattle.checker.specs.Opening.{table_with, HeaderRead, Bodied, ReadsBody, Ends}
use Rattle.checker.specs.Filled as front
use Rattle.checker.specs.Noting.{note_calls, words_of}
use Rattle.checker.specs.Slots.{slots_of, unbound, sort_at, sort_number}
use Rattle.checker.specs.Ownership.{laid_of, bound_of}
use Rattle.checker.specs.OwnershipReady.{spanned, Known, Ready, Judged, Noted, ReadyBody, JudgedBody, NotedBody}
use Rattle.checker.specs.Paths.{Head, term, Leads, body, Placed}
use Rattle.checker.specs.Bodies.{Told, Passable, Passed, PassedBody, Finished, number_in, place_in}
use Rattle.checker.proofs.reading.Tabled.{fill_wide, con_count, fun_count}
use Rattle.checker.proofs.reading.Steps.{fault_next, from_le, from_next, from_fault, expect_next}
use Rattle.checker.proofs.reading.Body.{too_long, body_fails, body_goes, body_here, expect_off, from_end, end_fails, end_reads, said}
use Rattle.checker.proofs.ownership.Taking.{modes_scaled}
use Rattle.checker.proofs.ownership.Branching.{laid_tells}
use Rattle.checker.proofs.ownership.Cycle.{spanned_next, spanned_fault}
use Rattle.checker.proofs.calls.Filling.{fill_start, fill_in}
use Rattle.checker.proofs.bodies.Placing.{start_places}
use Rattle.checker.proofs.bodies.Telling.{zero_or, told_next, told_fault, told_on}

-- ---- one body
-- the sort of its result, as a number
abbrev pub result_by : (f d : List ℕ) → (j : ℕ) → ℕ
result_by f d j = sort_number (sort_at (result_in f d j))

module _ (f d : List ℕ) (at j : ℕ) where
  count_is : (g : ReadyBody f d at j) → params_in d j ≡ length (function_of g.file j).parameters
  count_is g = g.declared.parameters j g.low

  body_ready : ReadyBody f d at j → Ready f d (at + 2) (result_by f d j) (params_in d j)
  body_ready g = record {
    file = g.file;
    declared = g.declared;
    sort = (function_of g.file j).result;
    wanted = sym (ap (λ x. sort_number (sort_at x)) (g.declared.result j g.low).0 ∙ sort_is (function_of g.file j).result);
    term = g.term;
    next = g.next;
    here = g.here;
    stands = subst (λ n. Stands g.file f n g.term g.next) (sym (count_is g)) g.stands;
    few = omega (arith, count_is g, g.declared.few j);
  }

  -- the slots of the parameters
  start_slots : (place : ℕ) (g : ReadyBody f d at j)
      → slots_of (params_in d j) (laid_of f 1 place (params_in d j) (modes_in d j) 0 (replicate 32 unbound))
      ≡ tree.bind [] (map tree.kind_of (function_of g.file j).parameters)
  unfolding slots_of
  start_slots place g =
      let ms = (function_of g.file j).parameters in
      let l : 0 + length ms ≤ length (replicate 32 unbound) = omega (arith, g.declared.few j, length-replicate 32 unbound) in
      let z : 0 + length ms ≡ length ms = omega arith in
      ap (λ n. slots_of n (laid_of f 1 place n (modes_in d j) 0 (replicate 32 unbound))) (count_is g)
      ∙ ap (λ n. slots_of n (laid_of f 1 place (length ms) (modes_in d j) 0 (replicate 32 unbound))) (sym z)
      ∙ laid_tells f 1 place ms (modes_in d j) 0 (replicate 32 unbound) (modes_scaled f (modes_in d j) ms (g.declared.modes j g.low)) l

  body_judged : (place : ℕ) (r : Read)
      → Judged f d (at + 2) (result_by f d j) (laid_of f 1 place (params_in d j) (modes_in d j) 0 (replicate 32 unbound)) (params_in d j) r
      → JudgedBody f d at j r
  unfolding body_ready
  body_judged place r J = record {
    judged = λ g.
        J.judged (body_ready g)
        ∙ ap (λ s. spanned g.next (check g.file.constructors g.file.functions (function_of g.file j).result g.term s)) (start_slots place g);
  }

  body_noted : {w w' : ℕ} → Noted f d (at + 2) (result_by f d j) (params_in d j) w w' → NotedBody f d at j w w'
  unfolding body_ready
  body_noted N = record { noted = λ g. N.noted (body_ready g) j }

  -- no BD stands here
  pub body_unread : {w x q w' x' q' : ℕ} (k s : ℕ) → at ≤ length f → expect_at f at 2 ≡ Fault k s → PassedBody f d at j w x q w' x' q' (Fault k s)
  unfolding ReadsBody
  body_unread k s h e = record {
    from = expect_off f at 2 k s (at + 3) h e;
    reads = inl (k, s, e, refl);
    told = λ n z. fault_next z;
  }

  module _ (low : j < 32) where
    pub known_is : known_count d j ≡ params_in d j
    unfolding known_count pick
    known_is = rw (lt-ltb j 32 low)

    body_passed : {w x q w' x' q' : ℕ} (place : ℕ) (r : Read) → expect_at f at 2 ≡ Next (at + 2)
        → Passed f d (at + 2) (result_by f d j) (laid_of f 1 place (params_in d j) (modes_in d j) 0 (replicate 32 unbound)) (path (params_in d j) 0) w x q w' x' q' r
        → PassedBody f d at j w x q w' x' q' r
    unfolding ReadsBody
    body_passed place r e P = record {
      from = from_le (omega arith) P.from;
      reads = inr (e, said f d r refl (sym known_is) P.reads);
      told = λ n z. told_on (body_judged place) body_noted (P.told n z);
    }

    -- the same with what the code has read and made
    module _ (n start : ℕ) (en : n ≡ params_in d j) (es : expect_at f at 2 ≡ Next start) where
      pub made_passable : length f ≤ 4096 → length d ≡ 128 → known_count d j ≤ 8 → Passable f d start (path n 0)
      made_passable h w k =
          let x = expect_next f at 2 start es in
          record { small = h; wide = w; inside = x.1; slots = omega (arith, en, known_is); nodes = omega arith }

      pub made_placed : known_count d j ≤ 8 → (g : Head f d j) (place m : ℕ) {fresh slots : List Slot} → place + 3 ≡ modes_in d j → fresh ≡ replicate 32 unbound
          → slots ≡ bound_of f 1 place n m 0 fresh 0 → Placed f d (term start) (path n 0) slots
      made_placed k g place m {fresh} {slots} ep ef el =
          let y = expect_next f at 2 start es in
          let z : place ≡ g.place = omega (arith, ep, g.modes) in
          let q = start_places f place n m (omega (arith, en, known_is)) ef el in
          let b : Leads f d (term (at + 2)) (path (params_in d j) 0) (replicate (params_in d j) g.place) = body at g (es ∙ ap Next y.0) in
          record { leads = subst (Leads f d (term start) (path n 0)) (sym (q ∙ ap (replicate n) z)) (rw (y.0, en) b) }

      pub made_passed : {w x q w' x' q' : ℕ} (place m res : ℕ) (fresh slots : List Slot) (r : Read) → m ≡ modes_in d j → res ≡ result_by f d j → fresh ≡ replicate 32 unbound
          → slots ≡ bound_of f 1 place n m 0 fresh 0 → Passed f d start res slots (path n 0) w x q w' x' q' r → PassedBody f d at j w x q w' x' q' r
      unfolding bound_of pick
      made_passed place m res fresh slots r em er ef el P =
          let y = expect_next f at 2 start es in
          body_passed place r (es ∙ ap Next y.0) (rw (el, ef, em, en, er, y.0) at P)

-- ---- what a table says whose bodies are not all known
known_of : {file : File} {f d t : List ℕ} → Declared file f t → length d ≡ 128 → ((i : ℕ) → i < 96 → get_or t i 0 ≡ get_or d i 0) → Known file f d
known_of {file} {f} {d} {t} D w same = record {
  wide = w;
  constructors = D.constructors;
  functions = D.functions;
  arities = λ c h. sym (ap (λ x. x % 256) (con_word c h)) ∙ D.arities c h;
  sorts = λ c h. subst (λ x. Sorts f (x / 256) (get_or file.constructors c [])) (con_word c h) (D.sorts c h);
  parameters = λ g h. sym (ap (λ x. x % 256) (fun_word g h)) ∙ D.parameters g h;
  few = D.few;
  modes = λ g h. subst (λ x. Modes f (x / 256) (function_of file g).parameters) (fun_word g h) (D.modes g h);
  result = λ g h.
      subst (λ x. (byte_at f (x / 256 + x % 256) ≡ sort_byte (function_of file g).result) × (x / 256 + x % 256 < length f)) (fun_word g h) (D.result g h);
  size = D.size;
}
  where
    con_word : (c : ℕ) → c < length file.constructors → get_or t c 0 ≡ get_or d c 0
    con_word c h = let z = D.constructors in same c (omega arith)

    fun_word : (g : ℕ) → g < length file.functions → get_or t (64 + g) 0 ≡ get_or d (64 + g) 0
    fun_word g h = let z = D.functions in same (64 + g) (omega arith)

same_front : (xs ys zs : List ℕ) (i : ℕ) → i < length xs → get_or (xs ++ ys) i 0 ≡ get_or (xs ++ zs) i 0
same_front xs ys zs i h = get_or-append xs ys 0 i h ∙ sym (get_or-append xs zs 0 i h)

same_words : (cs : List Constructor) (fs : List Signature) (ps qs : List ℕ) → length cs ≤ 64 → length fs ≤ 32 → (i : ℕ) → i < 96
    → get_or (table_with cs fs ps) i 0 ≡ get_or (table_with cs fs qs) i 0
unfolding table_with
same_words cs fs ps qs h k i l =
    let first = filled 64 (con_words 0 cs) in
    let second = filled 32 (fun_words (con_end 0 cs) fs) in
    let a = con_count 0 cs in
    let b = fun_count (con_end 0 cs) fs in
    let u = fill_wide 64 (con_words 0 cs) (omega arith) in
    let w = fill_wide 32 (fun_words (con_end 0 cs) fs) (omega arith) in
    let z = length-append first second in
    ap (λ x. get_or x i 0) (sym (append_assoc first second (filled 32 ps)))
    ∙ same_front (first ++ second) (filled 32 ps) (filled 32 qs) i (omega arith)
    ∙ ap (λ x. get_or x i 0) (append_assoc first second (filled 32 qs))

-- ---- the bodies of a file in order
-- the calls of a function's body in a word
abbrev word_of : File → ℕ → ℕ
word_of file i = note_calls (calls (body_of file i) i) 0

-- behind so many bodies: while no fault is found, what is left to check and the words of the calls; then what refuses the file, if it reads
pub record Left (f c : List ℕ) (j x q : ℕ) : Type 0 where
  pub left : x ≡ 0 → (file : File) → read f ≡ ok file → check_file file ≡ check_bodies file.constructors file.functions (drop j file.functions) (drop j file.bodies)
  pub words : x ≡ 0 → (file : File) → read f ≡ ok file → c ≡ front.filled 0 j (word_of file)
  pub found : (x ≡ 0 → ⊥) → (file : File) → read f ≡ ok file → check_file file ≡ refuse x q

pub all_left : (f c : List ℕ) → c ≡ replicate 32 0 → Left f c 0 0 0
unfolding check_file
all_left f c z = record { left = λ _ file e. refl; words = λ _ file e. z ∙ fill_start 0 (word_of file); found = λ n file e. absurd (n refl) }

module _ (f d : List ℕ) (count j at : ℕ) (C : Bodied f d count j at) (h : j < count) where
  in_file : (file : File) → read f ≡ ok file → j < length file.functions
  in_file file e = let x = body_here f d count j at C h file e in omega (arith, ap length x.1, C.functions_count)

  file_table : (file : File) → read f ≡ ok file → (i : ℕ) → i < 96 → get_or (table_of file) i 0 ≡ get_or d i 0
  unfolding table_of table_with
  file_table file e i l =
      let x = body_here f d count j at C h file e in
      (λ k. get_or (table_with (x.0 k) (x.1 k) (map place_of file.bodies)) i 0)
      ∙ same_words C.constructors C.functions (map place_of file.bodies) (map place_of C.terms) C.few (omega (arith, C.functions_count, C.few_functions)) i l
      ∙ ap (λ t. get_or t i 0) (sym C.table)

  here_ready : (file : File) → read f ≡ ok file → ReadyBody f d at j
  here_ready file e =
      let D = read_declared f file e in
      record {
        file = file;
        declared = known_of D C.wide (file_table file e);
        low = in_file file e;
        term = body_of file j;
        next = D.ends j;
        here = (body_here f d count j at C h file e).2;
        stands = D.stands j (in_file file e);
      }

  this_check : File → Outcome (Unit {0})
  this_check file =
      check file.constructors file.functions (function_of file j).result (body_of file j) (tree.bind [] (map tree.kind_of (function_of file j).parameters))

  next_body : {c : List ℕ} {x q : ℕ} → Left f c j x q → x ≡ 0 → (file : File) → read f ≡ ok file
      → check_file file ≡ then (this_check file) (λ _. check_bodies file.constructors file.functions (drop (suc j) file.functions) (drop (suc j) file.bodies))
  unfolding check_bodies this_check
  next_body l z file e =
      let a = in_file file e in
      let b : j < length file.bodies = omega (arith, a, (read_declared f file e).many) in
      l.left z file e ∙ rw (drop-cons file.functions j no_function a, drop-cons file.bodies j no_body b)

  body_fine : {c : List ℕ} {n x q : ℕ} → Left f c j x q → x ≡ 0 → JudgedBody f d at j (Next n) → (file : File) → read f ≡ ok file
      → check_file file ≡ check_bodies file.constructors file.functions (drop (j + 1) file.functions) (drop (j + 1) file.bodies)
  unfolding here_ready this_check
  body_fine {n = n} l z J file e =
      let y = spanned_next ((read_declared f file e).ends j) n (this_check file) (J.judged (here_ready file e)) in
      next_body l z file e ∙ rw (y.0, add-one j)

  body_words : {c : List ℕ} {x q w : ℕ} → Left f c j x q → x ≡ 0 → NotedBody f d at j 0 w → (file : File) → read f ≡ ok file → set c j w ≡ front.filled 0 (j + 1) (word_of file)
  unfolding here_ready
  body_words {w = w} l z N file e =
      ap (λ k. set k j w) (l.words z file e)
      ∙ fill_in 0 j (word_of file) w (omega (arith, in_file file e, (read_declared f file e).functions)) (sym (N.noted (here_ready file e)))

  body_stops : {c : List ℕ} {x q k s : ℕ} → Left f c j x q → x ≡ 0 → JudgedBody f d at j (Fault k s) → (file : File) → read f ≡ ok file → check_file file ≡ refuse k s
  unfolding here_ready this_check
  body_stops {k = k} {s = s} l z J file e =
      let y = spanned_fault ((read_declared f file e).ends j) k s (this_check file) (J.judged (here_ready file e)) in
      next_body l z file e ∙ rw y

  -- what is left behind the body, by what was noted of it
  module _ {c : List ℕ} {n w x q x' q' : ℕ} (l : Left f c j x q) (t : Told (JudgedBody f d at j) (NotedBody f d at j 0 w) n x q x' q') where
    none_before : x' ≡ 0 → x ≡ 0
    none_before z = zero_or x (λ e. e) (λ k. absurd (k (sym (t.kept k).0 ∙ z)))

    body_left : Left f (set c j w) (j + 1) x' q'
    body_left = record {
      left = λ z. body_fine l (none_before z) (subst (JudgedBody f d at j) (told_next n x' q' z) (t.first (none_before z)));
      words = λ z. body_words l (none_before z) (t.calls z);
      found = λ k.
          zero_or x
          (λ z. body_stops l z (subst (JudgedBody f d at j) (told_fault n x' q' k) (t.first z)))
          (λ m. let y = sym (t.kept m).0 in let v = sym (t.kept m).1 in λ file e. l.found m file e ∙ (λ i. refuse (y i) (v i)));
    }

  -- the code's step from body to body
  module _ {w x q x' q' : ℕ} {r : Read} (P : PassedBody f d at j 0 x q w x' q' r) (n : ℕ) (e : r ≡ Next n) where
    pub body_ends : (at + 3 ≤ n) × (n ≤ length f)
    body_ends = from_next e P.from

    pub body_next : Bodied f (set d (96 + j) (at + 2)) count (j + 1) n
    body_next = body_goes f d count j at C h n (subst (ReadsBody f d at j) e P.reads) body_ends.1

    pub left_next : {c : List ℕ} → Left f c j x q → Left f (set c j w) (j + 1) x' q'
    left_next l = body_left l (P.told n e)

none_left : {c : List ℕ} {x q : ℕ} (f : List ℕ) (j : ℕ) → Left f c j x q → x ≡ 0 → (file : File) → read f ≡ ok file → length file.functions ≤ j → check_file file ≡ ok tt
unfolding check_bodies
none_left f j l z file e h =
    let b : length file.bodies ≤ j = omega (arith, h, (read_declared f file e).many) in
    l.left z file e ∙ rw (drop_of_length-le file.functions h, drop_of_length-le file.bodies b)

all_noted : {c : List ℕ} {x q : ℕ} (f : List ℕ) (j : ℕ) → Left f c j x q → x ≡ 0 → (file : File) → read f ≡ ok file → length file.functions ≡ j → c ≡ words_of file
unfolding words_of
all_noted f j l z file e h =
    let b : j ≡ length file.bodies = omega (arith, h, (read_declared f file e).many) in
    l.words z file e ∙ ap (λ n. front.filled 0 n (word_of file)) b

-- ---- the whole file
pub accepted_unread : (f : List ℕ) (n p : ℕ) → read f ≡ refuse n p → accepted f ≡ refuse n p
unfolding accepted
accepted_unread f n p e = rw (e, accepted)

pub accepted_read : (f : List ℕ) (file : File) (n p : ℕ) → read f ≡ ok file → check_file file ≡ refuse n p → accepted f ≡ refuse n p
unfolding accepted
accepted_read f file n p e c = rw (e, c, accepted)

pub accepted_fine : (f : List ℕ) (file : File) → read f ≡ ok file → check_file file ≡ ok tt → accepted f ≡ ok file
unfolding accepted
accepted_fine f file e c = rw (e, c, accepted)

finished_unread : (f d c : List ℕ) (r : Refusal) → read f ≡ refuse (fault_number r.fault) r.place → r.place ≤ 4096 → Finished f d c (Err r)
finished_unread f d c r b h = (accepted_unread f (fault_number r.fault) r.place b, h)

pub finished_long : (f d c : List ℕ) → 4096 < length f → Finished f d c (Err (refusal faults.Fault.TooLong 0))
finished_long f d c h = finished_unread f d c (refusal faults.Fault.TooLong 0) (too_long f h) (omega arith)

pub header_stops : (f d d' c : List ℕ) {r : Result Header Refusal} (e : Refusal) → HeaderRead f d r → r ≡ Err e → Finished f d' c (Err e)
unfolding HeaderRead
header_stops f d d' c e H is = let x = subst (HeaderRead f d) is H in finished_unread f d' c e x.1 x.2

pub header_goes : (f d : List ℕ) {r : Result Header Refusal} (h : Header) → HeaderRead f d r → r ≡ Ok h → Bodied f d h.count 0 h.at
unfolding HeaderRead
header_goes f d h H is = subst (HeaderRead f d) is H

-- a body does not read
pub body_refused : (f d : List ℕ) (count j at : ℕ) → length f ≤ 4096 → (C : Bodied f d count j at) → j < count → (d' c : List ℕ) {r : Result ℕ Refusal} {w x q w' x' q' : ℕ} (e : Refusal)
    → r ≡ Err e → PassedBody f d at j w x q w' x' q' (as_read r) → Finished f d' c (Err e)
body_refused f d count j at h C l d' c e is P =
    let i = ap as_read is in
    let z = from_fault i P.from in
    finished_unread f d' c e (body_fails f d count j at C l (fault_number e.fault) e.place (subst (ReadsBody f d at j) i P.reads)) (omega (arith, z.1, h))

-- the end of the file
pub end_refused : (f d c : List ℕ) (count at : ℕ) → length f ≤ 4096 → Bodied f d count count at → {r : Result ℕ Refusal} (e : Refusal) → as_read r ≡ end_at f at → r ≡ Err e
    → Finished f d c (Err e)
unfolding Ends
end_refused f d c count at h C e reads is =
    let i = sym reads ∙ ap as_read is in
    let z = from_fault i (from_end f at C.inside) in
    ⊎_elim (λ w. absurd (omega (arith, w.0, z.0))) (λ w. finished_unread f d c e w.1 w.2) (end_fails f d count at h C (fault_number e.fault) e.place i)

-- a file that reads, by the first fault
module _ (f d c : List ℕ) (count : ℕ) (n : Option Refusal) (l : Left f c count (number_in n) (place_in n)) (file : File) (e : read f ≡ ok file) (t : d ≡ table_of file) (m : length file.functions ≡ count) where
  read_fine : n ≡ None → Finished f d c (Ok tt)
  read_fine is = let z = ap number_in is in (file, accepted_fine f file e (none_left f count l z file e (omega (arith, m))), t, all_noted f count l z file e m)

  read_faulty : (r : Refusal) → n ≡ Some r → Finished f d c (Err r)
  read_faulty r is =
      let D = read_declared f file e in
      let k : number_in n ≡ 0 → ⊥ = λ z. fault_some r.fault (sym (ap number_in is) ∙ z) in
      let y = l.found k file e ∙ (λ i. refuse (number_in (is i)) (place_in (is i))) in
      (accepted_read f file (fault_number r.fault) r.place e y, omega (arith, check_file_inside file f (table_of file) D y, D.size))

module _ (f d c : List ℕ) (count at : ℕ) (h : length f ≤ 4096) (C : Bodied f d count count at) (n : Option Refusal) (l : Left f c count (number_in n) (place_in n))
    (r : Result ℕ Refusal) (k : ℕ) (reads : as_read r ≡ end_at f at) (is : r ≡ Ok k) where
  ends : Ends f d count k 0
  ends = end_reads f d count at h C k (sym reads ∙ ap as_read is)

  pub end_fine : n ≡ None → Finished f d c (Ok tt)
  unfolding Ends
  end_fine e = ⊎_elim (λ w. read_fine f d c count n l w.1 w.2 w.3 w.4 e) (λ w. absurd (omega (arith, w.0))) ends

  pub end_faulty : (x : Refusal) → n ≡ Some x → Finished f d c (Err x)
  unfolding Ends
  end_faulty x e = ⊎_elim (λ w. read_faulty f d c count n l w.1 w.2 w.3 w.4 x e) (λ w. absurd (omega (arith, w.0))) ends
