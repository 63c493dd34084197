-- Walks over the square against walks over the calls as they are written, a CL and a TL each by itself. Assumes nothing.
use Prim.Native.Nat.{ℕ, suc, ◌≤◌}
use mathlib.Core.List.{List}
use mathlib.Core.Path.{◌≡◌, refl, sym, ap, ◌∙◌}
use mathlib.Core.Logic.{◌↔◌}
use native.Mathlib.Omega.{arith}
use Rattle.meaning.specs.declared.Call.{Call}
use Rattle.meaning.specs.declared.How.{How}
use Rattle.meaning.specs.declared.How.TheVariants.{Never, Tail, Waits}
use Rattle.meaning.specs.Syntax.{File}
use Rattle.meaning.specs.Calls.{call, In, calls_from, entry, square, Walk, stay, tail, wait, Reaches, Flat, IsDepth}
use Rattle.theory.proofs.Filling.{rank, Callable, covered, square_waits, square_tail}

pub data Calling (cs : List Call) : (from to count : ℕ) → Type 0 where
  nowhere : {f : ℕ} → Calling cs f f 0
  by_TL : {f g h n : ℕ} → In (call f g Tail) cs → Calling cs g h n → Calling cs f h n
  by_CL : {f g h n : ℕ} → In (call f g Waits) cs → Calling cs g h n → Calling cs f h (suc n)

module _ (file : File) (small : Callable file) where
  abbrev written : List Call
  written = calls_from 0 file.bodies

  pub as_written : {f g n : ℕ} → Walk (square file) f g n → Calling written f g n
  as_written stay = nowhere
  as_written (tail {f} {g} e w) = by_TL ((square_tail file small f g).0 e).0 (as_written w)
  as_written (wait {f} {g} e w) = by_CL ((square_waits file small f g).0 e) (as_written w)

  -- a TL beside a CL counts as the CL
  pub in_square : {f g n : ℕ} → Calling written f g n → (m : ℕ) × Walk (square file) f g m × (n ≤ m)
  in_square nowhere = (0, stay, omega arith)
  in_square (by_CL {f} {g} i c) = let r = in_square c in let l = r.2 in (suc r.0, wait ((square_waits file small f g).1 i) r.1, omega arith)
  in_square (by_TL {f} {g} {h} {n} i c) = go (entry (square file) f g) refl (covered file small (call f g Tail) i) (in_square c)
    where
      go : (x : How) → entry (square file) f g ≡ x → 1 ≤ rank x → (m : ℕ) × Walk (square file) g h m × (n ≤ m) → (m : ℕ) × Walk (square file) f h m × (n ≤ m)
      go Never e l r = absurd (omega arith)
      go Tail e l r = (r.0, tail e r.1, r.2)
      go Waits e l r = let q = r.2 in (suc r.0, wait e r.1, omega arith)

  pub reaches_written : (f : ℕ) → Reaches (square file) f ↔ ((n : ℕ) × Calling written 0 f n)
  reaches_written f = (λ r. (r.0, as_written r.1), λ r. let q = in_square r.1 in (q.0, q.1))

  pub flat_written : Flat (square file) ↔ ((f n m : ℕ) → Calling written 0 f m → Calling written f f n → n ≡ 0)
  flat_written = (
    λ level f n m r c. let q = in_square c in let l = q.2 in let z = level f q.0 ((reaches_written f).1 (m, r)) q.1 in omega arith,
    λ level f n r w. level f n r.0 (as_written r.1) (as_written w),
  )

  -- one more than the largest number of CL on any walk of calls from function 0
  pub record WrittenDepth (D : ℕ) : Type 0 where
    pub last : ℕ
    pub most : ℕ
    pub longest : Calling written 0 last most
    pub largest : (f n : ℕ) → Calling written 0 f n → n ≤ most
    pub one_more : D ≡ suc most

  pub depth_written : (D : ℕ) → IsDepth (square file) D ↔ WrittenDepth D
  depth_written D = (
    λ d. record {
      last = d.last;
      most = d.most;
      longest = as_written d.longest;
      largest = λ f n c. let q = in_square c in let l = q.2 in omega (arith, d.largest f q.0 q.1);
      one_more = d.one_more;
    },
    λ d. let q = in_square d.longest in
        let l = q.2 in
        let m : q.0 ≡ d.most = omega (arith, d.largest d.last q.0 (as_written q.1)) in
        record {
          last = d.last;
          most = q.0;
          longest = q.1;
          largest = λ f n w. omega (arith, d.largest f n (as_written w));
          one_more = d.one_more ∙ ap suc (sym m);
        },
  )
