-- What an input is decoded to, and the line of what it is decoded to. Assumes nothing.
use Rattle.std.proofs.Common.{◌≡◌, ℕ, ◌+◌, ◌*◌, ◌/◌, ◌≤◌, List, ◌++◌, Bool, true, false, ◌&&◌, arith, length, take, drop, refl, ap, ◌∙◌, length-drop, length-take-le}
use Rattle.std.proofs.lemmas.Bool.{false≢true, leb-true, le-leb, eqb-true, eq-eqb}
use Rattle.std.proofs.Math.Dec.{leb, eqb}
use Rattle.std.proofs.Math.Option.{none, some}
use Rattle.meaning.specs.Answers.{Ended, ended, run_of, Answer}
use Rattle.meaning.specs.Choice.{pick}
use Rattle.meaning.specs.Lines.{ascii, newline, answer_line, answer_of, Request, request, decoded, well_formed, run_line, words_in, word_in, file_length, arguments, cells, budget, zeros}
use Rattle.lines.proofs.Words.{word_in-take, words_in-drop, words_in-take}

-- what the counts of a well-formed input say of its length
pub record Sized (input : List ℕ) : Type 0 where
  pub file : file_length input ≤ 4097
  pub args : arguments input ≤ 9
  pub store : cells input ≤ 1025
  pub whole : length input ≡ 16 + file_length input + 4 * arguments input + 20 * cells input

all_five : (a b c d e : Bool) → a && (b && (c && (d && e))) ≡ true → (a ≡ true) × (b ≡ true) × (c ≡ true) × (d ≡ true) × (e ≡ true)
all_five true true true true e h = (refl, refl, refl, refl, h)
all_five true true true false e h = absurd (false≢true h)
all_five true true false d e h = absurd (false≢true h)
all_five true false c d e h = absurd (false≢true h)
all_five false b c d e h = absurd (false≢true h)

pub sized : (input : List ℕ) → well_formed input ≡ true → Sized input
unfolding well_formed
sized input e =
    let all =
    all_five
    (leb 16 (length input))
    (leb (file_length input) 4097)
    (leb (arguments input) 9)
    (leb (cells input) 1025)
    (eqb (length input) (16 + file_length input + 4 * arguments input + 20 * cells input))
    e
    in
    record { file = leb-true _ _ all.1; args = leb-true _ _ all.2; store = leb-true _ _ all.3; whole = eqb-true _ _ all.4 }

none_by : (input : List ℕ) (b : Bool) → well_formed input ≡ b → (Sized input → ⊥) → none ≡ decoded input
unfolding decoded pick
none_by input true e h = absurd (h (sized input e))
none_by input false e h = rw e

-- an input that is not as long as it says, or says too much, asks for nothing
pub none_decoded : (input : List ℕ) → (Sized input → ⊥) → none ≡ decoded input
none_decoded input h = none_by input (well_formed input) refl h

-- any other input asks for what stands in it
pub some_decoded : (input : List ℕ) → Sized input → some (request input) ≡ decoded input
unfolding decoded pick well_formed
some_decoded input s =
    let long : 16 ≤ length input = omega (arith, s.whole) in
    rw (le-leb 16 (length input) long, le-leb (file_length input) 4097 s.file, le-leb (arguments input) 9 s.args, le-leb (cells input) 1025 s.store, eq-eqb _ _ s.whole)

same_request : {f f' a a' s s' : List ℕ} {b b' : ℕ} → f ≡ f' → a ≡ a' → s ≡ s' → b ≡ b'
    → ◌≡◌ {A = Request} (record { file = f; args = a; store = s; budget = b }) (record { file = f'; args = a'; store = s'; budget = b' })
same_request p q r u = cc

-- the four counts stand in the first sixteen bytes
pub record Counts (input counts : List ℕ) : Type 0 where
  pub file : word_in counts 0 ≡ file_length input
  pub args : word_in counts 4 ≡ arguments input
  pub store : word_in counts 8 ≡ cells input
  pub budget : word_in counts 12 ≡ budget input

pub counts_of : (input counts : List ℕ) → counts ≡ take 16 input → Counts input counts
counts_of input counts e =
    record {
      file = rw e (word_in-take 16 0 input (omega arith));
      args = rw e (word_in-take 16 4 input (omega arith));
      store = rw e (word_in-take 16 8 input (omega arith));
      budget = rw e (word_in-take 16 12 input (omega arith));
    }

-- the bytes behind the counts, cut where the counts say, are the request's
pub cut : (input file args store : List ℕ) (f a b : ℕ) → Sized input → f ≡ file_length input → a ≡ arguments input → b ≡ budget input
    → file ≡ take f (drop 16 input) → args ≡ take (4 * a) (drop f (drop 16 input)) → store ≡ drop (4 * a) (drop f (drop 16 input))
    → record { file = file; args = words_in args 0 (length args / 4); store = words_in store 0 (length store / 4); budget = b } ≡ request input
unfolding request
cut input file args store f a b s p q r u v w =
    let k = cells input in
    let behind : length (drop f (drop 16 input)) ≡ 4 * a + 20 * k = length-drop f (drop 16 input) ∙ omega (arith, length-drop 16 input, s.whole, p, q) in
    let args_long : length args ≡ 4 * a = ap length v ∙ length-take-le (4 * a) (drop f (drop 16 input)) (omega arith) in
    let store_long : length store ≡ 20 * k = ap length w ∙ length-drop (4 * a) (drop f (drop 16 input)) ∙ omega arith in
    let args_count : length args / 4 ≡ a = omega arith in
    let store_count : length store / 4 ≡ 5 * k = omega arith in
    let args_at : 16 + (f + 0) ≡ 16 + file_length input = omega arith in
    let store_at : 16 + (f + (4 * a + 0)) ≡ 16 + file_length input + 4 * arguments input = omega arith in
    same_request
    (rw (u, p))
    (rw (args_count, v) (words_in-take (4 * a) 0 a _ (omega arith) ∙ words_in-drop f 0 a _ ∙ words_in-drop 16 (f + 0) a input ∙ rw (args_at, q)))
    (rw (store_count, w) (words_in-drop (4 * a) 0 (5 * k) _ ∙ words_in-drop f (4 * a + 0) (5 * k) _ ∙ words_in-drop 16 (f + (4 * a + 0)) (5 * k) input ∙ rw store_at))
    r

-- the line where nothing is asked, and where something is
pub line_of_none : (input : List ℕ) → none ≡ decoded input → ascii "bad input" ++ newline ≡ run_line input
unfolding run_line
line_of_none input e = rw (← e)

pub line_of_some : (input : List ℕ) (r : Request) → some r ≡ decoded input → answer_line (answer_of r) ++ newline ≡ run_line input
unfolding run_line
line_of_some input r e = rw (← e)

-- the answer in what a run leaves
pub answer_in : (r : Request) (a : Answer) (store work : List ℕ)
    → ended a store work ≡ run_of r.file r.args r.store (zeros 4096) r.budget → a ≡ answer_of r
unfolding answer_of
answer_in r a store work e = ap (λ (all : Ended). all.answer) e

pub same_run : (file : List ℕ) {a a' s s' w w' : List ℕ} (budget : ℕ) → a ≡ a' → s ≡ s' → w ≡ w' → run_of file a s w budget ≡ run_of file a' s' w' budget
same_run file budget p q r = cc

-- the words of the first places, of which there are enough
pub first_words : (bytes room words : List ℕ) (n : ℕ) → n ≤ length room → words ≡ words_in bytes 0 (length (take n room)) → words ≡ words_in bytes 0 n
first_words bytes room words n h e = e ∙ ap (words_in bytes 0) (length-take-le n room h)
