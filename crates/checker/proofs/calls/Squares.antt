-- The square that the words of a file's bodies make is the square of the file. Assumes nothing.
use Prim.Native.Nat.{ℕ, zero, suc, ◌+◌, ◌≤◌, ◌<◌}
use mathlib.Core.List.{List, [], ◌∷◌, ◌++◌}
use mathlib.Core.Path.{◌≡◌, refl, sym, ap, ◌∙◌}
use native.Mathlib.Omega.{arith}
use native.Mathlib.Decide.{dec_lt}
use lib.ListN.{length, get_or, set, replicate, length-set, get_or-replicate, get_or-eq_default}
use lib.Seq.{set-get_or, set-set, get_or-set_same, get_or-set_other}
use Rattle.meaning.specs.declared.Call.{Call}
use Rattle.meaning.specs.declared.How.{How}
use Rattle.meaning.specs.declared.How.TheVariants.{Never}
use Rattle.meaning.specs.Outcome.{ok}
use Rattle.meaning.specs.Syntax.{Term, File}
use Rattle.meaning.specs.Reading.{read}
use Rattle.meaning.specs.Plain.{no_body}
use Rattle.meaning.specs.Machine.{body_of}
use Rattle.meaning.specs.Calls.{calls, calls_from, Square, noted, fill, no_calls, square}
use Rattle.standing.specs.Table.{table_of, Declared}
use Rattle.standing.proofs.Declaring.{read_declared}
use Rattle.checker.specs.Filled.{filled}
use Rattle.checker.specs.Square.{row_of, square_of}
use Rattle.checker.specs.Noting.{note_call, note_calls, words_of}
use Rattle.checker.proofs.calls.Filling.{by_entries, filled_at, filled_past, row_none}
use Rattle.checker.proofs.calls.Rows.{Few, noted_row, few_body}

fill_append : (a b : List Call) (sq : Square) → fill (a ++ b) sq ≡ fill b (fill a sq)
unfolding fill
fill_append [] b sq = refl
fill_append (c ∷ a) b sq = fill_append a b (noted sq c.caller c.callee c.how)

-- calls of one function fill its row
rowed : {f : ℕ} {cs : List Call} → Few f cs → (w : ℕ) (sq : Square) → f < length sq → get_or sq f [] ≡ row_of w → fill cs sq ≡ set sq f (row_of (note_calls cs w))
unfolding fill note_calls
rowed {f} Few.none w sq l e = rw (← e) (sym (set-get_or sq f []))
rowed {f} (Few.more {g} {h} {cs} k p) w sq l e =
    let row = row_of (note_call h g w) in
    rw (e, noted_row w g k h) (rowed p (note_call h g w) (set sq f row) (omega (arith, length-set sq f row)) (get_or-set_same sq f row [] l) ∙ set-set sq f row (row_of (note_calls cs (note_call h g w))))

fill_length : (cs : List Call) (sq : Square) → length (fill cs sq) ≡ length sq
unfolding fill
fill_length [] sq = refl
fill_length (c ∷ cs) sq = fill_length cs (noted sq c.caller c.callee c.how) ∙ length-set sq c.caller _

-- the row of a body, and the square after its calls
abbrev body_row : (body : Term) (caller : ℕ) → List How
body_row t k = row_of (note_calls (calls t k) 0)

abbrev after : (body : Term) (caller : ℕ) → Square → Square
after t k sq = set sq k (body_row t k)

-- bodies from function k on, whose rows have no calls yet
record Fits (bs : List Term) (k : ℕ) (sq : Square) : Type 0 where
  size : length sq ≡ 32
  room : k + length bs ≤ 32
  few : (i : ℕ) → Few (k + i) (calls (get_or bs i no_body) (k + i))
  none : (i : ℕ) → k ≤ i → i < 32 → get_or sq i [] ≡ row_of 0

module _ (t : Term) (bs : List Term) (k : ℕ) (sq : Square) (h : Fits (t ∷ bs) k sq) where
  fits_next : Fits bs (suc k) (after t k sq)
  fits_next = record {
    size = length-set sq k (body_row t k) ∙ h.size;
    room = omega (arith, h.room);
    few = λ i. let e : suc k + i ≡ k + suc i = omega arith in rw e (h.few (suc i));
    none = λ i l m. get_or-set_other sq k i (body_row t k) [] (λ e. omega arith) ∙ h.none i (omega arith) m;
  }

  step : fill (calls_from k (t ∷ bs)) sq ≡ fill (calls_from (suc k) bs) (after t k sq)
  unfolding calls_from
  step =
      let e : k + 0 ≡ k = omega arith in
      fill_append (calls t k) (calls_from (suc k) bs) sq ∙ ap (fill (calls_from (suc k) bs)) (rowed (rw e at (h.few 0)) 0 sq (omega (arith, h.room, h.size)) (h.none k (omega arith) (omega (arith, h.room))))

row_kept : (bs : List Term) (k : ℕ) (sq : Square) → Fits bs k sq → (f : ℕ) → f < k → get_or (fill (calls_from k bs) sq) f [] ≡ get_or sq f []
unfolding calls_from fill
row_kept [] k sq h f l = refl
row_kept (t ∷ bs) k sq h f l =
    rw (step t bs k sq h) (row_kept bs (suc k) (after t k sq) (fits_next t bs k sq h) f (omega arith) ∙ get_or-set_other sq k f _ [] (λ e. omega arith))

row_filled : (bs : List Term) (k : ℕ) (sq : Square) → Fits bs k sq → (i : ℕ) → k + i < 32 → get_or (fill (calls_from k bs) sq) (k + i) [] ≡ body_row (get_or bs i no_body) (k + i)
unfolding calls_from fill note_calls calls
row_filled [] k sq h i l = h.none (k + i) (omega arith) l
row_filled (t ∷ bs) k sq h zero l =
    let e : k + 0 ≡ k = omega arith in
    rw (e, step t bs k sq h) (row_kept bs (suc k) (after t k sq) (fits_next t bs k sq h) k (omega arith) ∙ get_or-set_same sq k _ [] (omega (arith, h.room, h.size)))
row_filled (t ∷ bs) k sq h (suc i) l =
    let e : k + suc i ≡ suc k + i = omega arith in
    rw (e, step t bs k sq h) (row_filled bs (suc k) (after t k sq) (fits_next t bs k sq h) i (omega arith))

module _ (file : File) (bytes table : List ℕ) (declared : Declared file bytes table) where
  word_at : (f : ℕ) → f < 32 → get_or (words_of file) f 0 ≡ note_calls (calls (body_of file f) f) 0
  unfolding words_of note_calls calls
  word_at f l = go (dec_lt f (length file.bodies))
    where
      word : ℕ → ℕ
      word g = note_calls (calls (body_of file g) g) 0

      go : Dec (f < length file.bodies) → get_or (filled 0 (length file.bodies) word) f 0 ≡ note_calls (calls (body_of file f) f) 0
      go (yes k) = filled_at 0 (length file.bodies) word f 0 k
      go (no n) = filled_past 0 (length file.bodies) word f 0 (omega arith) l ∙ rw (get_or-eq_default file.bodies no_body {n = f} (omega arith))

  row_by_word : (f : ℕ) → f < 32 → get_or (square file) f [] ≡ row_of (get_or (words_of file) f 0)
  unfolding square no_calls
  row_by_word f l =
      let z : (i : ℕ) → 0 + i ≡ i = λ i. omega arith in
      let fits : Fits file.bodies 0 no_calls = record {
        size = refl;
        room = omega (arith, declared.functions, declared.many);
        few = λ i. rw (z i) (few_body file bytes table declared i);
        none = λ i m k. get_or-replicate 32 i (replicate 32 Never) [] k ∙ sym row_none;
      } in
      (rw (z f) at (row_filled file.bodies 0 no_calls fits f (omega arith))) ∙ sym (ap row_of (word_at f l))

pub words_square : (f : List ℕ) (file : File) → read f ≡ ok file → square_of (words_of file) ≡ square file
unfolding square_of square no_calls
words_square f file e =
    let rows = row_by_word file f (table_of file) (read_declared f file e) in
    sym (by_entries [] (square file) (λ g. row_of (get_or (words_of file) g 0)) (fill_length (calls_from 0 file.bodies) no_calls) rows)
