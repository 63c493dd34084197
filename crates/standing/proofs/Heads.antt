-- The records before the first BD: the reader of the header comes there with every constructor and every function at its bytes. Assumes nothing.
use Prim.Native.Nat.{ℕ, zero, suc, ◌+◌, ◌*◌, ◌≤◌, ◌<◌}
use mathlib.Core.List.{List, [], ◌∷◌, ◌++◌}
use mathlib.Core.Bool.{Bool, true, false}
use mathlib.Core.Path.{◌≡◌, refl, sym, ap, ◌∙◌, subst}
use lib.ListN.{length, drop, length-append}
use lib.Dec.{leb, ltb}
use native.Mathlib.Omega.{arith}
use borrow.Author.Tests.{ltb-true, leb-true}
use Rattle.meaning.specs.Syntax.{Signature, Constructor, Term, File}
use Rattle.meaning.specs.Outcome.{Outcome, ok, refuse, then}
use Rattle.meaning.specs.declared.Mark.{Mark}
use Rattle.meaning.specs.declared.Mark.TheVariants.{CN, FN, BD, ND, GV, AT, MK, CL, TL, OP, LK, BR, NU, AR, IF, Other}
use Rattle.meaning.specs.Marks.{find, marks, code, mark_of}
use Rattle.meaning.specs.Reading.{Reader, mark, constructor, signature, bodies, entry, header, read}
use Rattle.standing.specs.Bytes.{mark_at}
use Rattle.standing.specs.Table.{con_end, fun_end, Sorts}
use Rattle.standing.proofs.Readers.{ensure_gen, two_gen}
use Rattle.standing.proofs.Stood.{on_goal}
use Rattle.standing.proofs.Named.{Named, named}
use Rattle.standing.proofs.Records.{ConAt, con_stood, FunAt, fun_stood}

module _ (f : List ℕ) where
  -- constructors, and functions, whose records stand one after the other from a place on
  abbrev pub Cons : ℕ → List Constructor → Type 0
  Cons at [] = Unit {0}
  Cons at (c ∷ cs) = (length c ≤ 4) × Sorts f (at + 3) c × (at + 3 + length c ≤ length f) × Cons (at + 3 + length c) cs

  abbrev pub Funs : ℕ → List Signature → Type 0
  Funs at [] = Unit {0}
  Funs at (g ∷ gs) = FunAt f at g × Funs (at + 4 + length g.parameters) gs

  cons_snoc : (cs : List Constructor) (at : ℕ) (c : Constructor) → Cons at cs → length c ≤ 4 → Sorts f (con_end at cs + 3) c → con_end at cs + 3 + length c ≤ length f
      → Cons at (cs ++ (c ∷ []))
  unfolding con_end
  cons_snoc [] at c h s w l = (s, w, l, tt)
  cons_snoc (d ∷ cs) at c h s w l = (h.0, h.1, h.2, cons_snoc cs (at + 3 + length d) c h.3 s w l)

  con_end_snoc : (cs : List Constructor) (at : ℕ) (c : Constructor) → con_end at (cs ++ (c ∷ [])) ≡ con_end at cs + 3 + length c
  unfolding con_end
  con_end_snoc [] at c = refl
  con_end_snoc (d ∷ cs) at c = con_end_snoc cs (at + 3 + length d) c

  funs_snoc : (gs : List Signature) (at : ℕ) (g : Signature) → Funs at gs → FunAt f (fun_end at gs) g → Funs at (gs ++ (g ∷ []))
  unfolding fun_end
  funs_snoc [] at g h s = (s, tt)
  funs_snoc (d ∷ gs) at g h s = (h.0, funs_snoc gs (at + 4 + length d.parameters) g h.1 s)

  fun_end_snoc : (gs : List Signature) (at : ℕ) (g : Signature) → fun_end at (gs ++ (g ∷ [])) ≡ fun_end at gs + 4 + length g.parameters
  unfolding fun_end
  fun_end_snoc [] at g = refl
  fun_end_snoc (d ∷ gs) at g = fun_end_snoc gs (at + 4 + length d.parameters) g

  -- what is read when the header's reader stands at `at`
  pub record Heads (cs : List Constructor) (fs : List Signature) (at : ℕ) : Type 0 where
    pub few : length cs ≤ 64
    pub few_functions : length fs ≤ 32
    pub cons : Cons 0 cs
    pub funs : Funs (con_end 0 cs) fs
    pub comes : at ≡ fun_end (con_end 0 cs) fs

  -- BD stands at `at`, and the bodies are read from behind it
  pub record Opened (file : File) : Type 0 where
    pub at : ℕ
    pub heads : Heads file.constructors file.functions at
    pub first : 1 ≤ length file.functions
    pub inside : at + 2 ≤ length f
    pub opens : mark_at f at ≡ code BD
    pub result : List Term × ℕ × List ℕ
    pub reads : bodies (length f) file.constructors file.functions file.functions (at + 2) (drop (at + 2) f) ≡ ok result
    pub gives : result.0 ≡ file.bodies

  pub data Told : Outcome (File × ℕ × List ℕ) → Type 0 where
    told : {file : File} {n : ℕ} {rest : List ℕ} → Opened file → Told (ok (file, n, rest))
    untold : {x p : ℕ} → Told (refuse x p)

  module _ (cs : List Constructor) (fs : List Signature) (at : ℕ) (H : Heads cs fs at) where
    con_more : (c : Constructor) (n : ℕ) → fs ≡ [] → length cs < 64 → n ≤ length f → ConAt f at c n → Heads (cs ++ (c ∷ [])) [] n
    unfolding fun_end
    con_more c n e l v x =
        let w : at ≡ con_end 0 cs = H.comes ∙ ap (λ gs. fun_end (con_end 0 cs) gs) e in
        let z : length (cs ++ (c ∷ [])) ≡ length cs + 1 = length-append cs (c ∷ []) in
        record {
          few = omega arith;
          few_functions = omega arith;
          cons = cons_snoc cs 0 c H.cons x.0 (subst (λ a. Sorts f (a + 3) c) w x.1) (omega (arith, x.2));
          funs = tt;
          comes = x.2 ∙ ap (λ a. a + 3 + length c) w ∙ sym (con_end_snoc cs 0 c);
        }

    fun_more : (g : Signature) (n : ℕ) → length fs < 32 → n ≤ length f → FunAt f at g → n ≡ at + 4 + length g.parameters → Heads cs (fs ++ (g ∷ [])) n
    fun_more g n l v x y =
        let z : length (fs ++ (g ∷ [])) ≡ length fs + 1 = length-append fs (g ∷ []) in
        record {
          few = H.few;
          few_functions = omega arith;
          cons = H.cons;
          funs = funs_snoc fs (con_end 0 cs) g H.funs (subst (λ a. FunAt f a g) H.comes x);
          comes = y ∙ ap (λ a. a + 4 + length g.parameters) H.comes ∙ sym (fun_end_snoc fs (con_end 0 cs) g);
        }

  module _ (cs : List Constructor) (at : ℕ) (h : at + 2 ≤ length f) (G : List Constructor → List Signature → Reader File)
      (on : (cs' : List Constructor) (fs' : List Signature) (a : ℕ) → a ≤ length f → Heads cs' fs' a → Told (G cs' fs' a (drop a f))) where
    on_CN : (fs : List Signature) → Heads cs fs at → Told (entry G (length f) cs at CN fs (at + 2) (drop (at + 2) f))
    unfolding entry
    on_CN [] H =
        on_goal f (ConAt f at) Told (constructor (at + 2) (drop (at + 2) f)) _ (con_stood f at h) (λ _ _. untold)
        (λ c n l x. ensure_gen f Told 5 at n (drop n f) (ltb (length cs) 64) _ (λ _. untold)
        (λ q. on (cs ++ (c ∷ [])) [] n l (con_more cs [] at H c n refl (ltb-true (length cs) 64 q) l x)))
    on_CN (g ∷ fs) H = untold

    on_FN : (fs : List Signature) → Heads cs fs at → Told (entry G (length f) cs at FN fs (at + 2) (drop (at + 2) f))
    unfolding entry
    on_FN fs H =
        on_goal f (λ g n. FunAt f at g × (n ≡ at + 4 + length g.parameters)) Told (signature (at + 2) (drop (at + 2) f)) _ (fun_stood f at h) (λ _ _. untold)
        (λ g n l x. ensure_gen f Told 5 at n (drop n f) (ltb (length fs) 32) _ (λ _. untold)
        (λ q. on cs (fs ++ (g ∷ [])) n l (fun_more cs fs at H g n (ltb-true (length fs) 32 q) l x.0 x.1)))

    on_BD : (fs : List Signature) → Heads cs fs at → mark_at f at ≡ code BD → Told (entry G (length f) cs at BD fs (at + 2) (drop (at + 2) f))
    unfolding entry
    on_BD [] H m = untold
    on_BD (g ∷ fs) H m = go (bodies (length f) cs (g ∷ fs) (g ∷ fs) (at + 2) (drop (at + 2) f)) refl
      where
        go : (o : Outcome (List Term × ℕ × List ℕ)) → bodies (length f) cs (g ∷ fs) (g ∷ fs) (at + 2) (drop (at + 2) f) ≡ o
            → Told (then o (λ r. ok (record { constructors = cs; functions = g ∷ fs; bodies = r.0 }, r.1, r.2)))
        go (ok r) e = told (record { at = at; heads = H; first = omega arith; inside = h; opens = m; result = r; reads = e; gives = refl })
        go (refuse x p) e = untold

    entry_told : (fs : List Signature) → Heads cs fs at → (m : Mark) → Named (mark_at f at) m → Told (entry G (length f) cs at m fs (at + 2) (drop (at + 2) f))
    unfolding entry
    entry_told fs H CN m = on_CN fs H
    entry_told fs H FN m = on_FN fs H
    entry_told fs H BD m = on_BD fs H m
    entry_told fs H ND m = untold
    entry_told fs H GV m = untold
    entry_told fs H AT m = untold
    entry_told fs H MK m = untold
    entry_told fs H CL m = untold
    entry_told fs H TL m = untold
    entry_told fs H OP m = untold
    entry_told fs H LK m = untold
    entry_told fs H BR m = untold
    entry_told fs H NU m = untold
    entry_told fs H AR m = untold
    entry_told fs H IF m = untold
    entry_told fs H Other m = untold

  head_told : (n : ℕ) (cs : List Constructor) (fs : List Signature) (at : ℕ) → at ≤ length f → Heads cs fs at → Told (header n (length f) cs fs at (drop at f))
  unfolding header mark mark_of
  head_told zero cs fs at h H = untold
  head_told (suc n) cs fs at h H =
      two_gen f Told (λ x y a b. ok (find (x * 256 + y) marks Other, a, b)) at _ h (λ _. untold)
      (λ l. entry_told cs at l (λ cs' fs'. header n (length f) cs' fs') (λ cs' fs' a h' H'. head_told n cs' fs' a h' H') fs H (mark_of (mark_at f at)) (named (mark_at f at)))

  nothing_read : Heads [] [] 0
  unfolding con_end fun_end
  nothing_read = record { few = omega arith; few_functions = omega arith; cons = tt; funs = tt; comes = refl }

  -- a file that is read: its header stands, and its bodies are read from behind it
  pub read_opened : (file : File) → read f ≡ ok file → Opened file × (length f ≤ 4096)
  unfolding read
  read_opened file e = go (leb (length f) 4096) refl e
    where
      opened : (o : Outcome (File × ℕ × List ℕ)) → Told o → then o (λ r. ok r.0) ≡ ok file → Opened file
      opened (ok r) (told {file = g} x) q = let z : g ≡ file = cc in subst Opened z x
      opened (refuse x p) untold q = let z : ◌≡◌ {A = ℕ} 0 1 = cc in absurd (omega arith)

      go : (t : Bool) → leb (length f) 4096 ≡ t → (elim t [ true ↦ then (header (suc (length f)) (length f) [] [] 0 f) (λ r. ok r.0) | false ↦ refuse 1 0 ]) ≡ ok file
          → Opened file × (length f ≤ 4096)
      go true q e' = (opened (header (suc (length f)) (length f) [] [] 0 f) (head_told (suc (length f)) [] [] 0 (omega arith) nothing_read) e', leb-true (length f) 4096 q)
      go false q e' = let z : ◌≡◌ {A = ℕ} 0 1 = cc in absurd (omega arith)
