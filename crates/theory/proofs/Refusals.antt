-- A file is refused only by the answers 1 to 12. Assumes nothing.
use Prim.Native.Nat.{ℕ, ◌≤◌}
use mathlib.Core.List.{List}
use mathlib.Core.Path.{◌≡◌, subst}
use native.Mathlib.Omega.{arith}
use Rattle.meaning.specs.Outcome.{refuse}
use Rattle.meaning.specs.Verdict.{accepted}
use Rattle.theory.proofs.EveryCall.{Checked, checked}

pub accepted_numbers : (bytes : List ℕ) {n p : ℕ} → accepted bytes ≡ refuse n p → (1 ≤ n) × (n ≤ 12)
accepted_numbers bytes {n} {p} e = go (subst (λ o. Checked bytes o) e (checked bytes))
  where
    go : Checked bytes (refuse n p) → (1 ≤ n) × (n ≤ 12)
    go (Checked.unread r l m) = (l, omega arith)
    go (Checked.faulty f r c l m) = (omega arith, m)
