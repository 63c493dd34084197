-- The second walk of the start queues cells of the first alone; and all of them where none is named twice, since each is then named by one
-- place, and that is met before. Assumes nothing.
use Rattle.std.proofs.Common.{◌≡◌, ℕ, ◌+◌, ◌<◌, ◌≤◌, List, ◌++◌, length, ⊎_elim, arith}
use Rattle.meaning.specs.Syntax.{Constructor}
use Rattle.meaning.specs.Machine.{Store}
use Rattle.meaning.specs.Walk.{count, Walk}
use Rattle.meaning.specs.Start.{In, inside, named, kids, Reached, from, through, all_walk, free_walk}
use Rattle.theory.proofs.Reached.{count_append}
use Rattle.theory.proofs.StartCounting.{le?, total_ge, length_le}
use Rattle.theory.proofs.StartGraph.{Found, root, next}
use Rattle.theory.proofs.StartWords.{count_fine}
use Rattle.theory.proofs.StartCells.{all_done, free_done, cells_in, cells_out}

module _ (cs : List Constructor) (store : Store) (owned lent : List ℕ) (fits : length store ≤ 5120) where
  abbrev trees : List ℕ
  trees = owned ++ lent

  mixed : (w : ℕ) → count w trees ≡ count w owned + count w lent
  mixed w = count_append w owned lent

  abbrev all : Walk
  all = all_walk cs store owned lent

  abbrev free : Walk
  free = free_walk cs store owned lent

  abbrev roots : List ℕ
  roots = named cs store owned ++ named cs store lent

  found_in : {x : ℕ} → Found (kids cs store) roots x → In x all.queue
  found_in (root x p) =
      (all_done cs store owned lent trees mixed fits).kept.ins x (omega arith) (omega (arith, (all_done cs store owned lent trees mixed fits).all x))
  found_in (next d x f p) =
      let k = total_ge (λ y. count x (kids cs store y)) d all.queue (found_in f) in
      (all_done cs store owned lent trees mixed fits).kept.ins x (omega arith) (omega (arith, k, (all_done cs store owned lent trees mixed fits).all x))

  -- the second walk queues no other cells than the first
  pub free_in : (x : ℕ) → In x free.queue → In x all.queue
  free_in x i =
      let o = (free_done cs store owned lent trees mixed fits).kept.outs x i in
      found_in ((free_done cs store owned lent trees mixed fits).sound x (omega (arith, o.0, o.1)))

  module _ (single : (x : ℕ) → In x all.queue → count x all.seen ≤ 1) where
    -- a reachable cell that is met in the second walk is queued there
    queued : {x : ℕ} → Reached cs store trees x → 1 ≤ count x free.seen → In x free.queue
    queued {x} h m =
        let i : In x all.queue = cells_in cs store owned lent trees mixed fits h in
        let o = (all_done cs store owned lent trees mixed fits).kept.outs x i in
        (free_done cs store owned lent trees mixed fits).kept.ins x (omega (arith, o.0, o.1)) (omega (arith, single x i))

    pub in_free : {x : ℕ} → Reached cs store trees x → In x free.queue
    in_free (from {c} p f) =
        let d = (free_done cs store owned lent trees mixed fits).all c in
        queued (from p f)
        (omega (arith, d, mixed (65536 + c), count_append c (named cs store owned) (named cs store lent), count_fine cs store c owned f, count_fine cs store c lent f))
    in_free (through {b} {c} r p f) =
        let d = (free_done cs store owned lent trees mixed fits).all c in
        let k = total_ge (λ x. count c (kids cs store x)) b free.queue (in_free r) in
        queued (through r p f) (omega (arith, d, k, count_fine cs store c (inside cs store b) f))

    pub none_held : length all.queue ≤ length free.queue
    none_held =
        length_le all.queue free.queue
        (λ x. ⊎_elim
        (λ (p : 1 ≤ count x all.queue).
        let i : In x free.queue = in_free (cells_out cs store owned lent trees mixed fits x p) in
        omega (arith, (all_done cs store owned lent trees mixed fits).kept.once x))
        (λ (p : count x all.queue < 1). omega arith)
        (le? 1 (count x all.queue)))
