-- A call noted in a word, and in the row of that word; and the calls of a body go to functions that a word has room for. Assumes nothing.
use Prim.Native.Nat.{ℕ, ◌+◌, ◌^◌, ◌<◌}
use mathlib.Core.List.{List, [], ◌∷◌, ◌++◌}
use mathlib.Core.Path.{◌≡◌, refl, sym, ap, ◌∙◌}
use mathlib.Core.Bool.{Bool, true, false}
use native.Mathlib.Omega.{arith}
use native.Mathlib.Decide.{ℕ_discrete, dec_lt}
use lib.ListN.{length, get_or, set, length-set, get_or-eq_default}
use lib.Seq.{get_or-set_same, get_or-set_other}
use lib.Bits.{bit_or}
use Rattle.meaning.specs.declared.Call.{Call}
use Rattle.meaning.specs.declared.How.{How}
use Rattle.meaning.specs.declared.How.TheVariants.{Never, Tail, Waits}
use Rattle.meaning.specs.Choice.{pick}
use Rattle.meaning.specs.Syntax.{Term, Branches, Constructor, File}
use Rattle.meaning.specs.Plain.{no_body}
use Rattle.meaning.specs.Machine.{body_of}
use Rattle.meaning.specs.Calls.{call, calls, calls_branches, stronger}
use Rattle.standing.specs.Stands.{Stands, Each}
use Rattle.standing.specs.Stands as T
use Rattle.standing.specs.Table.{Declared}
use Rattle.checker.specs.Bits.{bits_of}
use Rattle.checker.specs.Square.{way_of, row_of}
use Rattle.checker.specs.Noting.{note_call}
use Rattle.checker.proofs.sets.Digits.{or_bit, bits_length}
use Rattle.theory.proofs.Bools.{upto_length, upto_at}
use Rattle.checker.proofs.calls.Filling.{by_entries}

-- calls of one function, of which none goes past the functions that a word has room for
pub data Few (f : ℕ) : List Call → Type 0 where
  none : Few f []
  more : {g : ℕ} {h : How} {cs : List Call} → g < 32 → Few f cs → Few f (call f g h ∷ cs)

few_append : {f : ℕ} {a b : List Call} → Few f a → Few f b → Few f (a ++ b)
few_append none q = q
few_append (more l p) q = more l (few_append p q)

weakest : (h : How) → stronger h Never ≡ h
weakest Never = refl
weakest Tail = refl
weakest Waits = refl

strongest : (h : How) → stronger h Waits ≡ Waits
strongest Never = refl
strongest Tail = refl
strongest Waits = refl

over_tail : (a b : Bool) → stronger (pick a Waits (pick b Tail Never)) Tail ≡ pick a Waits (pick true Tail Never)
unfolding pick
over_tail true b = refl
over_tail false true = refl
over_tail false false = refl

-- a digit set in a word
digit_set : (w i : ℕ) → i < 64 → get_or (bits_of 64 (bit_or w (2 ^ i))) i false ≡ true
digit_set w i l = ap (λ b. get_or b i false) (or_bit 64 w i l) ∙ get_or-set_same (bits_of 64 w) i true false (omega (arith, bits_length 64 w))

digit_kept : (w i j : ℕ) → i < 64 → (j ≡ i → ⊥) → get_or (bits_of 64 (bit_or w (2 ^ i))) j false ≡ get_or (bits_of 64 w) j false
digit_kept w i j l n = ap (λ b. get_or b j false) (or_bit 64 w i l) ∙ get_or-set_other (bits_of 64 w) i j true false n

-- one call more in a word, and in its row
module _ (w c : ℕ) (l : c < 32) where
  here : (h : How) → way_of (note_call h c w) c ≡ stronger (way_of w c) h
  unfolding way_of pick
  here Never = sym (weakest (way_of w c))
  here Tail = rw (digit_set w (32 + c) (omega arith), digit_kept w (32 + c) c (omega arith) (λ q. omega arith)) (sym (over_tail (get_or (bits_of 64 w) c false) (get_or (bits_of 64 w) (32 + c) false)))
  here Waits = rw (digit_set w c (omega arith)) (sym (strongest (way_of w c)))

  other : (h : How) (g : ℕ) → g < 32 → (g ≡ c → ⊥) → way_of (note_call h c w) g ≡ way_of w g
  unfolding way_of
  other Never g k n = refl
  other Tail g k n = rw (digit_kept w (32 + c) g (omega arith) (λ q. omega arith), digit_kept w (32 + c) (32 + g) (omega arith) (λ q. n (omega arith)))
  other Waits g k n = rw (digit_kept w c g (omega arith) n, digit_kept w c (32 + g) (omega arith) (λ q. omega arith))

  pub noted_row : (h : How) → set (row_of w) c (stronger (get_or (row_of w) c Never) h) ≡ row_of (note_call h c w)
  unfolding row_of
  noted_row h = by_entries Never (set (row_of w) c new) (way_of (note_call h c w)) (length-set (row_of w) c new ∙ upto_length 32 (way_of w)) (λ g k. at g k (ℕ_discrete g c))
    where
      new : How
      new = stronger (get_or (row_of w) c Never) h

      at : (g : ℕ) → g < 32 → Dec (g ≡ c) → get_or (set (row_of w) c new) g Never ≡ way_of (note_call h c w) g
      at g k (yes e) = rw e (get_or-set_same (row_of w) c new Never (omega (arith, upto_length 32 (way_of w))) ∙ ap (λ x. stronger x h) (upto_at 32 (way_of w) c Never l) ∙ sym (here h))
      at g k (no n) = get_or-set_other (row_of w) c g new Never n ∙ upto_at 32 (way_of w) g Never k ∙ sym (other h g k n)

module _ (file : File) (bytes table : List ℕ) (declared : Declared file bytes table) where
  known : {g : ℕ} → g < length file.functions → g < 32
  known l = omega (arith, declared.functions)

  mutual
    unfolding calls

    few : {slots next : ℕ} {t : Term} → Stands file bytes slots t next → (f : ℕ) → Few f (calls t f)
    few (T.GV m l b e) f = none
    few (T.AT m l b k e s) f = few s f
    few (T.MK m l b d i n z k e s) f = few s f
    few (T.CL m l b i n z k e s) f = more (known n) (few s f)
    few (T.TL m l b i n z e) f = more (known n) none
    few (T.OP m l b k s) f = few_all s f
    few (T.LK m l b k s) f = few_all s f
    few (T.NU m l b k e s) f = few s f
    few (T.AR m l b x y k e s) f = few s f
    few (T.IF m l b e s d r) f = few_append (few s f) (few r f)

    few_all : {slots at next : ℕ} {extra : Constructor → ℕ} {bs : Branches} → Each file bytes slots extra at bs next → (f : ℕ) → Few f (calls_branches bs f)
    few_all (T.end e) f = none
    few_all (T.BR a m l b n k e s r) f = few_append (few s f) (few_all r f)

  pub few_body : (f : ℕ) → Few f (calls (body_of file f) f)
  unfolding calls
  few_body f = go (dec_lt f (length file.functions))
    where
      go : Dec (f < length file.functions) → Few f (calls (body_of file f) f)
      go (yes l) = few (declared.stands f l) f
      go (no n) = rw (get_or-eq_default file.bodies no_body {n = f} (omega (arith, declared.many))) none
