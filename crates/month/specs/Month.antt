-- The month in numbers: the runs in a slice of words, the counts by answer number, and the figures over the runs that ended with 0. Assumes nothing.
use Rattle.std.specs.Prelude.{ℕ, suc, ◌*◌, ◌≤◌, ◌%◌, min, max, Bool, true, false, List, [], ◌∷◌, map, length, replicate, ltb, leb, eqb, Result, Ok, Err, codes}
use Rattle.meaning.specs.Choice.{pick}
use Rattle.meaning.specs.Derivation.{Has}
use Rattle.month.specs.declared.Run.{Run}
use Rattle.month.specs.declared.Summary.{Summary}
use Rattle.month.specs.declared.Refusal.{Refusal}
use Rattle.month.specs.declared.Refusal.TheVariants.{WrongLength, UnknownNumber}

-- "answer number, steps and frames of each run"
abbrev pub run : (number steps frames : ℕ) → Run
run n s f = record { number = n; steps = s; frames = f }

-- "in a lent slice of words", three words a run
unfoldable pub runs_of : (words : List ℕ) → List Run
runs_of [] = []
runs_of (n ∷ []) = []
runs_of (n ∷ (s ∷ [])) = []
runs_of (n ∷ (s ∷ (f ∷ rest))) = run n s f ∷ runs_of rest

-- the answer numbers of a run in document 01's table
unfoldable pub numbers : List ℕ
numbers = 0 ∷ 1 ∷ 2 ∷ 3 ∷ 4 ∷ 5 ∷ 6 ∷ 7 ∷ 8 ∷ 9 ∷ 10 ∷ 11 ∷ 12 ∷ 20 ∷ 21 ∷ 22 ∷ 23 ∷ 24 ∷ 31 ∷ 32 ∷ 33 ∷ 34 ∷ []

unfoldable pub among : ℕ → List ℕ → Bool
among n [] = false
among n (m ∷ rest) = pick (eqb n m) true (among n rest)

-- not "an answer number not in the table"
unfoldable pub known : List Run → Bool
known [] = true
known (r ∷ rest) = pick (among r.number numbers) (known rest) false

-- "the count by answer number"
unfoldable pub count : (number : ℕ) → List Run → ℕ
count n [] = 0
count n (r ∷ rest) = pick (eqb r.number n) (suc (count n rest)) (count n rest)

unfoldable pub counts_of : List Run → List ℕ
counts_of runs = map (λ n. count n runs) numbers

-- the elements that pass a test
unfoldable pub those : {A : Type 0} → (A → Bool) → List A → List A
those test [] = []
those test (x ∷ rest) = pick (test x) (x ∷ those test rest) (those test rest)

-- "over runs that ended with 0": their steps, and their frames
unfoldable pub ended : List Run → List Run
ended runs = those (λ r. eqb r.number 0) runs

unfoldable pub steps_of : List Run → List ℕ
steps_of runs = map (λ r. r.steps) (ended runs)

unfoldable pub frames_of : List Run → List ℕ
frames_of runs = map (λ r. r.frames) (ended runs)

-- the greatest of a list, "With no such run, each is 0"
unfoldable pub highest : (from : ℕ) → List ℕ → ℕ
highest from [] = from
highest from (x ∷ rest) = highest (max from x) rest

unfoldable pub greatest : List ℕ → ℕ
greatest xs = highest 0 xs

-- the least of a list, looked for from its greatest on downwards, so that with no such run it is 0
unfoldable pub lowest : (from : ℕ) → List ℕ → ℕ
lowest from [] = from
lowest from (x ∷ rest) = lowest (min from x) rest

unfoldable pub least : List ℕ → ℕ
least xs = lowest (greatest xs) xs

-- how many of a list do not exceed a bound
unfoldable pub within : (bound : ℕ) → List ℕ → ℕ
within bound [] = 0
within bound (x ∷ rest) = pick (leb x bound) (suc (within bound rest)) (within bound rest)

-- "at least nine tenths don't exceed", in whole numbers
unfoldable pub enough : List ℕ → (bound : ℕ) → Bool
enough xs bound = leb (9 * length xs) (10 * within bound xs)

-- "the smallest step count that at least nine tenths don't exceed"
unfoldable pub nine_tenths : List ℕ → ℕ
nine_tenths xs = least (those (enough xs) xs)

-- what that says: one of the counts, that so many do not exceed, and no smaller number is such
pub record IsNineTenths (xs : List ℕ) (v : ℕ) : Type 0 where
  pub one_of_them : Has v xs
  pub nine_tenths : 9 * length xs ≤ 10 * within v xs
  pub smallest : (w : ℕ) → 9 * length xs ≤ 10 * within w xs → v ≤ w

-- what is said of a month: `number` is 0, or the refusal's 80 or 81 with all else 0; `counts` are in the order of the table
pub record Report : Type 0 where
  pub number : ℕ
  pub counts : List ℕ
  pub least : ℕ
  pub greatest : ℕ
  pub most : ℕ
  pub frames : ℕ

-- the four figures and the counts
unfoldable pub figures : List Run → Report
figures runs = record { number = 0; counts = counts_of runs; least = least (steps_of runs); greatest = greatest (steps_of runs); most = nine_tenths (steps_of runs); frames = greatest (frames_of runs) }

-- a refusal has its number alone
unfoldable pub refused : ℕ → Report
refused n = record { number = n; counts = replicate 22 0; least = 0; greatest = 0; most = 0; frames = 0 }

-- "80 over 4,096 runs or a part of one, 81 an answer number not in the table"
unfoldable pub month_of : (words : List ℕ) → Report
month_of words = pick (ltb 12288 (length words)) (refused 80) (pick (eqb (length words % 3) 0) (pick (known (runs_of words)) (figures (runs_of words)) (refused 81)) (refused 80))

-- the number of a refusal
abbrev pub refusal_number : Refusal → ℕ
refusal_number WrongLength = 80
refusal_number UnknownNumber = 81

-- and its words
abbrev pub refusal_text : Refusal → List ℕ
refusal_text WrongLength = codes "over 4,096 runs, or a part of one"
refusal_text UnknownNumber = codes "an answer number not in the table"

-- what is said of a month by its figures, and by an answer: no two answers say the same
abbrev pub reported : Summary → Report
reported s = record { number = 0; counts = s.counts; least = s.least; greatest = s.greatest; most = s.most; frames = s.frames }

abbrev pub said : Result Summary Refusal → Report
said (Ok s) = reported s
said (Err r) = refused (refusal_number r)

-- the same elements in another order
pub data Permutes {A : Type 0} : List A → List A → Type 0 where
  none : Permutes [] []
  same : {x : A} {xs ys : List A} → Permutes xs ys → Permutes (x ∷ xs) (x ∷ ys)
  swap : {x y : A} {xs : List A} → Permutes (x ∷ (y ∷ xs)) (y ∷ (x ∷ xs))
  both : {xs ys zs : List A} → Permutes xs ys → Permutes ys zs → Permutes xs zs
