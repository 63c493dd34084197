-- A walk by a worklist, over any graph: `kids c` are the cells that c names. A cell is put to the queue when it has been named as often as
-- `t` says: at the first time (t = 1) the queue becomes the list of the cells reached; at the last time (t = all its namings) it becomes the
-- list of the cells that no cycle holds back. Assumes nothing.
use Rattle.std.specs.Prelude.{ℕ, zero, suc, List, [], ◌∷◌, ◌++◌, true, false, eqb, leb, length, get_or}
use Rattle.meaning.specs.Choice.{pick}

-- how often a number stands in a list
abbrev pub count : ℕ → List ℕ → ℕ
count x [] = 0
count x (y ∷ ys) = elim (eqb x y) [ true ↦ suc (count x ys) | false ↦ count x ys ]

-- the namings met so far, and the queue
pub record Walk : Type 0 where
  pub seen : List ℕ
  pub queue : List ℕ

abbrev pub walk : List ℕ → List ℕ → Walk
walk s q = record { seen = s; queue = q }

unfoldable pub visit : (ℕ → ℕ) → Walk → ℕ → Walk
visit t s c = walk (c ∷ s.seen) (pick (eqb (count c (c ∷ s.seen)) (t c)) (s.queue ++ (c ∷ [])) s.queue)

unfoldable pub visits : (ℕ → ℕ) → Walk → List ℕ → Walk
visits t s [] = s
visits t s (c ∷ cs) = visits t (visit t s c) cs

unfoldable pub drain : (ℕ → List ℕ) → (ℕ → ℕ) → (fuel head : ℕ) → Walk → Walk
drain kids t zero head s = s
drain kids t (suc n) head s =
    pick (leb (length s.queue) head) s (drain kids t n (suc head) (visits t s (kids (get_or s.queue head 0))))
