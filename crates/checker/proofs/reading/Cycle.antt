-- The readers of terms and of branches, one turn of each beside the bytes. Assumes nothing.
use Prim.Native.Nat.{ℕ, zero, suc, ◌+◌, ◌*◌, ◌≤◌, ◌<◌}
use mathlib.Core.List.{List, [], ◌∷◌}
use mathlib.Core.Bool.{Bool, true, false, ◌&&◌}
use mathlib.Core.Option.{some}
use mathlib.Core.Path.{◌≡◌, refl, sym, ap, ◌∙◌, subst, fun_ext}
use lib.ListN.{length, drop, get_or, get_elem?}
use lib.Dec.{leb, ltb, eqb}
use native.Mathlib.Omega.{arith}
use borrow.Author.Tests.{leb-true, leb-false, le-leb, lt-leb, lt-ltb, le-ltb, ne_eqb}
use Rattle.meaning.specs.Syntax.{Signature, Constructor}
use Rattle.meaning.specs.Outcome.{ok}
use Rattle.meaning.specs.Reading.{ensure, any, limits, mark, expect, term, branches}
use Rattle.meaning.specs.declared.Mark.TheVariants.{BR, Other}
use Rattle.meaning.specs.Marks.{code, find, marks, mark_of, find_mark}
use Rattle.checker.specs.declared.reading.Path.{Path}
use Rattle.checker.specs.Read.{Read, Next, Fault}
use Rattle.meaning.specs.Choice.{pick}
use Rattle.standing.specs.Bytes.{mark_at}
use Rattle.checker.specs.ReadingBytes.{known_arity, path, node_of, node_at, more_of, fitting, branch_fields_by, branch_by, on_next}
use Rattle.checker.specs.Reads.{span_of, Declares, arity_of, extra_of}
use Rattle.meaning.proofs.Table.{is_BR}
use Rattle.checker.proofs.reading.Spans.{Spans, went, fell, bind, within, span_is, span_same, ensure_law, declared_law, two_law}
use Rattle.checker.proofs.reading.Nodes.{Terms, Lists, by_follow, by_node, node_spans}

-- ---- a branch's record
-- the slots after it fit, on a path with k nodes
unfoldable pub fits : (at k : ℕ) → ℕ → Read
fits at k n = pick (leb k 64 && leb n 32) (Next n) (Fault 5 at)

pub fits_is : (at k : ℕ) → k ≤ 64 → fits at k ≡ fitting at
unfolding fits fitting pick
fits_is at k h = fun_ext (λ n. go n (leb n 32) refl)
  where
    go : (n : ℕ) (x : Bool) → leb n 32 ≡ x → fits at k n ≡ fitting at n
    go n true e = let l = leb-true n 32 e in rw (le-leb k 64 h, e, le-ltb 32 n l)
    go n false e = let l = leb-false n 32 e in rw (le-leb k 64 h, e, lt-ltb 32 n l)

fits_no : (at k n : ℕ) → (leb k 64 && leb n 32) ≡ false → fits at k n ≡ Fault 5 at
unfolding fits pick
fits_no at k n e = rw e

fits_yes : (at k n : ℕ) → (leb k 64 && leb n 32) ≡ true → fits at k n ≡ Next n
unfolding fits pick
fits_yes at k n e = rw e

module _ (fit : ℕ → Read) (f d : List ℕ) (at credit s : ℕ) where
  branch_short : length f < at + 2 → branch_by fit f d at credit s ≡ Fault 2 (length f)
  unfolding branch_by pick
  branch_short l = rw (lt-ltb (length f) (at + 2) l)

  branch_mark : at + 2 ≤ length f → eqb (mark_at f at) (code BR) ≡ false → branch_by fit f d at credit s ≡ Fault 3 at
  unfolding branch_by pick
  branch_mark l q = rw (le-ltb (length f) (at + 2) l, is_BR (mark_at f at), q)

  branch_in : at + 2 ≤ length f → eqb (mark_at f at) (code BR) ≡ true → branch_by fit f d at credit s ≡ branch_fields_by fit f d at credit s
  unfolding branch_by pick
  branch_in l q = rw (le-ltb (length f) (at + 2) l, is_BR (mark_at f at), q)

  branch_no : length f ≤ at + 2 → branch_fields_by fit f d at credit s ≡ Fault 2 (length f)
  unfolding branch_fields_by pick
  branch_no l = rw (le-leb (length f) (at + 2) l)

  branch_at : (k : ℕ) → at + 2 < length f → known_arity d (get_or f (at + 2) 0) ≡ k
      → branch_fields_by fit f d at credit s ≡ pick (ltb 4 k) (Fault 4 (at + 2)) (fit (s + more_of k credit))
  unfolding branch_fields_by pick
  branch_at k l e = simp (lt-leb (length f) (at + 2) l, e)

more_is : (x : Constructor) (credit : ℕ) → more_of (length x) credit ≡ length x + extra_of credit x
unfolding more_of pick extra_of
more_is [] credit = refl
more_is (y ∷ x) credit = rw (ne_eqb (length (y ∷ x)) 0 (λ z. omega arith))

-- what the readers of trees say of the places, with fuel n
abbrev pub t_of : List ℕ → List Constructor → List Signature → ℕ → Terms
t_of f cs fs n a p = span_of (term cs fs n p.slots p.nodes a (drop a f))

abbrev pub b_of : List ℕ → List Constructor → List Signature → ℕ → Lists
b_of f cs fs n a count credit p = span_of (branches cs fs n count (extra_of credit) p.slots p.nodes a (drop a f))

module _ (f d : List ℕ) (cs : List Constructor) (fs : List Signature) (D : Declares d cs fs) where
  abbrev pub TermsSpan : ℕ → Type 0
  TermsSpan n = (s k a : ℕ) → a ≤ length f → Spans f (suc a) (term cs fs n s k a (drop a f)) (t_of f cs fs n a (path s k))

  abbrev pub ListsSpan : ℕ → Type 0
  ListsSpan n = (c credit s k a : ℕ) → a ≤ length f → Spans f a (branches cs fs n c (extra_of credit) s k a (drop a f)) (b_of f cs fs n a c credit (path s k))

  term_turn : (n : ℕ) → TermsSpan n → ListsSpan n → (p : Path) (at : ℕ) → at ≤ length f
      → Spans f (suc at) (term cs fs (suc n) p.slots p.nodes at (drop at f)) (by_node (node_at f d at p) (t_of f cs fs n) (b_of f cs fs n))
  unfolding term mark node_at pick find_mark mark_of by_node by_follow
  term_turn n h_t h_b p at h =
      two_law f (suc at) _ (λ x y a b. ok (find (x * 256 + y) marks Other, a, b)) at _ h short
      (λ l. subst (Spans f (suc at) _) (sym (long l))
      (node_spans f d cs fs D at p (t_of f cs fs n) (b_of f cs fs n) (λ s k. term cs fs n s k) (λ c x s k. branches cs fs n c x s k) h_t lists l (mark_of (mark_at f at))))
    where
      short : length f < at + 2 → by_node (node_at f d at p) (t_of f cs fs n) (b_of f cs fs n) ≡ Fault 2 (length f)
      short l = rw (lt-ltb (length f) (at + 2) l)

      long : at + 2 ≤ length f → by_node (node_at f d at p) (t_of f cs fs n) (b_of f cs fs n) ≡ by_node (node_of f d at p (find_mark (mark_at f at))) (t_of f cs fs n) (b_of f cs fs n)
      long l = rw (le-ltb (length f) (at + 2) l)

      lists : (c credit s k a : ℕ) (x : Constructor → ℕ) → ((y : Constructor) → x y ≡ extra_of credit y) → a ≤ length f
          → Spans f a (branches cs fs n c x s k a (drop a f)) (b_of f cs fs n a c credit (path s k))
      lists c credit s k a x e l =
          subst (λ z. Spans f a (branches cs fs n c z s k a (drop a f)) (b_of f cs fs n a c credit (path s k))) (sym (fun_ext e)) (h_b c credit s k a l)

  branch_turn : (n : ℕ) → TermsSpan n → ListsSpan n → (p : Path) (at c credit : ℕ) → at ≤ length f
      → Spans f at (branches cs fs (suc n) (suc c) (extra_of credit) p.slots p.nodes at (drop at f))
      (on_next (branch_by (fits at p.nodes) f d at credit p.slots) (λ s. on_next (t_of f cs fs n (at + 3) (path s p.nodes)) (λ m. b_of f cs fs n m c credit p)))
  unfolding branches expect limits fits pick on_next arity_of
  branch_turn n h_t h_b p at c credit h =
      two_law f at _ (λ x y. ensure 3 at (eqb (x * 256 + y) (code BR))) at _ h (λ l. failed (branch_short _ f d at credit p.slots l))
      (λ l. ensure_law f at _ 3 at (at + 2) (drop (at + 2) f) (eqb (mark_at f at) (code BR)) _ (λ q. failed (branch_mark _ f d at credit p.slots l q))
      (λ q. declared_law f at _ cs any (at + 2) _ l (λ l'. failed (branch_in _ f d at credit p.slots l q ∙ branch_no _ f d at credit p.slots l'))
      (λ l' e. failed (branch_in _ f d at credit p.slots l q ∙ branch_at _ f d at credit p.slots 255 l' (D.arities _ ∙ ap arity_of e)))
      (λ l' x e z. let w : ◌≡◌ {A = ℕ} 0 1 = cc in absurd (omega arith))
      (λ l' x e z. ensure_law f at _ 5 at (suc (at + 2)) (drop (suc (at + 2)) f) (leb p.nodes 64 && leb (after x) 32) _
      (λ w. failed (told l q l' x e ∙ fits_no at p.nodes (after x) w))
      (λ w. subst (Spans f at _) (sym (ap (λ r. on_next r rest) (told l q l' x e ∙ fits_yes at p.nodes (after x) w) ∙ behind (after x)))
      (bind _ _ (h_t (after x) p.nodes (suc (at + 2)) l')
      (λ u m y v. within (branches cs fs n c (extra_of credit) p.slots p.nodes m (drop m f)) _ (omega arith) (h_b c credit p.slots p.nodes m v)))))))
    where
      after : Constructor → ℕ
      after x = p.slots + (length x + extra_of credit x)

      rest : ℕ → Read
      rest s = on_next (t_of f cs fs n (at + 3) (path s p.nodes)) (λ m. b_of f cs fs n m c credit p)

      failed : {a q : ℕ} → branch_by (fits at p.nodes) f d at credit p.slots ≡ Fault a q
          → on_next (branch_by (fits at p.nodes) f d at credit p.slots) rest ≡ Fault a q
      failed e = rw e

      three : (a : ℕ) → a + 3 ≡ suc (a + 2)
      three a = omega arith

      behind : (s : ℕ) → rest s ≡ on_next (t_of f cs fs n (suc (at + 2)) (path s p.nodes)) (λ m. b_of f cs fs n m c credit p)
      behind s = ap (λ a. on_next (t_of f cs fs n a (path s p.nodes)) (λ m. b_of f cs fs n m c credit p)) (three at)

      told : at + 2 ≤ length f → eqb (mark_at f at) (code BR) ≡ true → at + 2 < length f → (x : Constructor) → get_elem? cs (get_or f (at + 2) 0) ≡ some x
          → branch_by (fits at p.nodes) f d at credit p.slots ≡ fits at p.nodes (after x)
      told l q l' x e =
          branch_in _ f d at credit p.slots l q ∙ branch_at _ f d at credit p.slots (length x) l' (D.arities _ ∙ ap arity_of e)
          ∙ rw (le-ltb 4 (length x) (D.few_fields _ x e), more_is x credit)

  lists_turn : (n : ℕ) → TermsSpan n → ListsSpan n → ListsSpan (suc n)
  unfolding branches span_of
  lists_turn n h_t h_b zero credit s k a h = let q : a ≤ a = omega arith in went refl q h
  lists_turn n h_t h_b (suc c) credit s k a h = span_same (branch_turn n h_t h_b (path s k) a c credit h)

  pub spans : (n : ℕ) → TermsSpan n × ListsSpan n
  unfolding term branches span_of
  spans zero = (λ s k a h. fell, λ c credit s k a h. fell)
  spans (suc n) =
      let r = spans n in
      (λ s k a h. span_same (term_turn n r.0 r.1 (path s k) a h), lists_turn n r.0 r.1)

  -- one turn of the term's reader, and of the branches'
  pub term_step : (n : ℕ) (p : Path) (at : ℕ) → at ≤ length f
      → span_of (term cs fs (suc n) p.slots p.nodes at (drop at f)) ≡ by_node (node_at f d at p) (t_of f cs fs n) (b_of f cs fs n)
  term_step n p at h = span_is (term_turn n (spans n).0 (spans n).1 p at h)

  pub branch_step : (n : ℕ) (p : Path) (at c credit : ℕ) → at ≤ length f → p.nodes ≤ 64
      → span_of (branches cs fs (suc n) (suc c) (extra_of credit) p.slots p.nodes at (drop at f))
      ≡ on_next (branch_by (fitting at) f d at credit p.slots) (λ s. on_next (t_of f cs fs n (at + 3) (path s p.nodes)) (λ m. b_of f cs fs n m c credit p))
  branch_step n p at c credit h k =
      subst (λ fit. span_of (branches cs fs (suc n) (suc c) (extra_of credit) p.slots p.nodes at (drop at f)) ≡ on_next (branch_by fit f d at credit p.slots) (λ s. on_next (t_of f cs fs n (at + 3) (path s p.nodes)) (λ m. b_of f cs fs n m c credit p)))
      (fits_is at p.nodes k) (span_is (branch_turn n (spans n).0 (spans n).1 p at c credit h))
