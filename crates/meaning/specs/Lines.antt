-- The lines that the two programs print, and the input that the running program decodes. The theorems, `all_lines` and `bad_lines`, stand
-- in proofs/Lines. Assumes nothing.
use Rattle.std.specs.Prelude.{ℕ, zero, suc, ◌+◌, ◌*◌, ◌/◌, ◌%◌, Bool, ◌&&◌, List, [], ◌∷◌, ◌++◌, map, length, get_or, take, drop, replicate, ltb, leb, eqb}
use Prim.Native.Char.{code}
use Prim.Native.String.{String}
use Prim.Native.String as text
use Rattle.std.proofs.Math.Option.{Option, none, some}
use Rattle.meaning.specs.Choice.{pick}
use Rattle.meaning.specs.Machine.{Store}
use Rattle.meaning.specs.Answers.{number, verdict_of, run_of, Answer, Verdict}
use Rattle.meaning.specs.Cases.{Asked, checked, run_on, Told, answer}
use Rattle.meaning.specs.Cases as cases

-- the ASCII bytes of a text
abbrev pub ascii : String → List ℕ
ascii text.[] = []
ascii (text.◌∷◌ c s) = code c ∷ ascii s

-- a number in decimal
unfoldable pub digits_within : (most : ℕ) → ℕ → List ℕ
digits_within zero n = []
digits_within (suc k) n = let more = digits_within k (n / 10) ++ ((48 + n % 10) ∷ []) in pick (ltb n 10) ((48 + n) ∷ []) more

unfoldable pub digits : ℕ → List ℕ
digits n = digits_within (suc n) n

-- texts joined by single spaces
abbrev pub spaced : List (List ℕ) → List ℕ
spaced [] = []
spaced (t ∷ []) = t
spaced (t ∷ (u ∷ rest)) = t ++ 32 ∷ spaced (u ∷ rest)

-- "prints one line, `accepted flat 1 1` (depth, functions reached); a stacked file prints `accepted stacked` and the functions reached; a refusal prints `refused`, number, `at`, place"
unfoldable pub verdict_line : Verdict → List ℕ
verdict_line (Verdict.Flat d r) = spaced (ascii "accepted" ∷ ascii "flat" ∷ digits d ∷ digits r ∷ [])
verdict_line (Verdict.Stacked r) = spaced (ascii "accepted" ∷ ascii "stacked" ∷ digits r ∷ [])
verdict_line (Verdict.Refused n p) = spaced (ascii "refused" ∷ digits n ∷ ascii "at" ∷ digits p ∷ [])

-- "It prints the five answer fields in the order above, with single spaces": "answer number, value, steps, place, greatest number of frames"
unfoldable pub answer_line : Answer → List ℕ
answer_line a = spaced (map digits (number a.end ∷ a.value ∷ a.steps ∷ a.place ∷ a.frames ∷ []))

-- the end of a line
abbrev pub newline : List ℕ
newline = 10 ∷ []

-- what the checking program prints, given a file
unfoldable pub check_line : (file : List ℕ) → List ℕ
check_line file = verdict_line (verdict_of file) ++ newline

-- a 32-bit number at a place, "high byte first", and so many of them one behind the other
unfoldable pub word_in : (bytes : List ℕ) → (at : ℕ) → ℕ
word_in bytes at = ((get_or bytes at 0 * 256 + get_or bytes (at + 1) 0) * 256 + get_or bytes (at + 2) 0) * 256 + get_or bytes (at + 3) 0

unfoldable pub words_in : (bytes : List ℕ) → (at count : ℕ) → List ℕ
words_in bytes at zero = []
words_in bytes at (suc n) = words_in bytes at n ++ (word_in bytes (at + 4 * n) ∷ [])

-- "The running program reads four 32-bit numbers, high byte first (file length, arguments, cells, budget)"
abbrev pub file_length : (input : List ℕ) → ℕ
file_length input = word_in input 0

abbrev pub arguments : (input : List ℕ) → ℕ
arguments input = word_in input 4

abbrev pub cells : (input : List ℕ) → ℕ
cells input = word_in input 8

abbrev pub budget : (input : List ℕ) → ℕ
budget input = word_in input 12

-- not "an input shorter or longer than it says, or a count over 4,097, 9 or 1,025"
unfoldable pub well_formed : (input : List ℕ) → Bool
well_formed input =
    leb 16 (length input) && (leb (file_length input) 4097 && (leb (arguments input) 9 && (leb (cells input) 1025
    && eqb (length input) (16 + file_length input + 4 * arguments input + 20 * cells input))))

-- what the running program is asked: "then the file, the argument words and the cells' words, words likewise"; a cell is five words
pub record Request : Type 0 where
  pub file : List ℕ
  pub args : List ℕ
  pub store : Store
  pub budget : ℕ

unfoldable pub request : (input : List ℕ) → Request
request input =
    record {
      file = take (file_length input) (drop 16 input);
      args = words_in input (16 + file_length input) (arguments input);
      store = words_in input (16 + file_length input + 4 * arguments input) (5 * cells input);
      budget = budget input;
    }

unfoldable pub decoded : (input : List ℕ) → Option Request
decoded input = pick (well_formed input) (some (request input)) none

-- so many words of zero: the work area that the running program has of its own
unfoldable pub zeros : ℕ → List ℕ
zeros n = replicate n 0

-- the answer to a request
unfoldable pub answer_of : Request → Answer
answer_of r = (run_of r.file r.args r.store (zeros 4096) r.budget).answer

-- what the running program prints, given an input
unfoldable pub run_line : (input : List ℕ) → List ℕ
run_line input = elim (decoded input) [ none ↦ ascii "bad input" | some r ↦ answer_line (answer_of r) ] ++ newline

-- a text laid over the first bytes of a room that was lent; the further bytes stay
unfoldable pub written : (text old : List ℕ) → List ℕ
written text old = text ++ drop (length text) old

-- a number's four bytes, and the input that asks for a run
abbrev pub word_bytes : ℕ → List ℕ
word_bytes n = n / 16777216 ∷ n / 65536 % 256 ∷ n / 256 % 256 ∷ n % 256 ∷ []

abbrev pub words_bytes : List ℕ → List ℕ
words_bytes [] = []
words_bytes (n ∷ rest) = word_bytes n ++ words_bytes rest

abbrev pub asked : Request → List ℕ
asked r =
    words_bytes (length r.file ∷ length r.args ∷ length r.store / 5 ∷ r.budget ∷ [])
    ++ (r.file ++ (words_bytes r.args ++ words_bytes r.store))

-- the line that a program prints for what is asked in the table of cases, and the line of what is told
abbrev pub line_for : Asked → List ℕ
line_for (checked file) = check_line file
line_for (run_on file args store budget) = run_line (asked (record { file = file; args = args; store = store; budget = budget }))

abbrev pub line_of : Told → List ℕ
line_of (cases.verdict v) = verdict_line v ++ newline
line_of (answer a store) = answer_line a ++ newline

-- the table of cases as the programs print it
abbrev pub printed : List String
printed =
    "accepted flat 1 1" ∷ "refused 9 at 39" ∷ "refused 8 at 33" ∷ "refused 7 at 32" ∷ "refused 9 at 25" ∷ "refused 8 at 25" ∷ "refused 12 at 28"
    ∷ "refused 2 at 41" ∷ "refused 2 at 0" ∷ "refused 6 at 42" ∷ "refused 11 at 8"
    ∷ "0 65537 8 0 1" ∷ "32 0 7 23 1" ∷ "23 0 0 0 0"
    ∷ "accepted flat 1 1" ∷ "31 0 1 16 1" ∷ "accepted stacked 1" ∷ "33 0 32 6 32" ∷ "32 0 0 16 1"
    ∷ "0 65535 2 0 1" ∷ "34 0 1 8 1" ∷ "0 0 2 0 1" ∷ "34 0 1 8 1" ∷ []
