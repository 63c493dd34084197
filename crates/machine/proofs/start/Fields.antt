-- The code of a constructor: from its bytes, and what tests by its bits say of the sorts that are declared. Assumes nothing.
use Rattle.std.proofs.Common.{◌≡◌, ℕ, zero, suc, ◌+◌, ◌*◌, ◌/◌, ◌%◌, ◌<◌, ◌≤◌, Bool, true, false, not, ◌||◌, eqb, ltb, List, [], ◌∷◌, length, get_or, map, take, sym, refl, ◌∙◌, subst, ap₂, ⊎_elim, arith, ne_eqb, le-leb}
use borrow.Author.Tests.{lt-leb}
use Rattle.std.proofs.lemmas.List.{length-take, length-map, get_or-take, get_or-map, ext_get_or}
use Rattle.meaning.specs.Choice.{pick}
use Rattle.meaning.specs.Syntax.{Sort, Constructor, File}
use Rattle.meaning.specs.Reading.{is_atom}
use Rattle.meaning.specs.Start.{any, is_number, number_words, tree_words}
use Rattle.standing.specs.Bytes.{fields_in}
use Rattle.standing.specs.Table.{Sorts, Declared}
use Rattle.theory.proofs.StartCounting.{le?}
use Rattle.machine.specs.StartWords.{code_of, Coded, bit_at, code_from, number_fine, numbers_fine, field_fine, trees_fine, word_fine}

pub and_or : (b r : Bool) → pick b (not r) false ≡ not (not b || r)
unfolding pick
and_or true r = refl
and_or false r = refl

-- 2 to the n
abbrev power : ℕ → ℕ
power zero = 1
power (suc n) = 2 * power n

power_some : (n : ℕ) → 0 < power n
power_some zero = omega arith
power_some (suc n) = let h = power_some n in omega arith

-- the bits of the fields that are trees, and of those that are numbers
abbrev pub trees_of : Constructor → ℕ
trees_of [] = 0
trees_of (Sort.number ∷ ss) = 2 * trees_of ss
trees_of (Sort.tree ∷ ss) = 1 + 2 * trees_of ss

abbrev pub numbers_of : Constructor → ℕ
numbers_of [] = 0
numbers_of (Sort.number ∷ ss) = 1 + 2 * numbers_of ss
numbers_of (Sort.tree ∷ ss) = 2 * numbers_of ss

code_is : (ss : Constructor) → code_of ss ≡ trees_of ss + 16 * numbers_of ss
unfolding code_of
code_is [] = refl
code_is (Sort.number ∷ ss) = let e = code_is ss in omega arith
code_is (Sort.tree ∷ ss) = let e = code_is ss in omega arith

trees_under : (n : ℕ) (ss : Constructor) → length ss ≤ n → trees_of ss < power n
trees_under n [] h = power_some n
trees_under zero (s ∷ ss) h = absurd (omega arith)
trees_under (suc n) (Sort.number ∷ ss) h = let k = trees_under n ss (omega arith) in omega arith
trees_under (suc n) (Sort.tree ∷ ss) h = let k = trees_under n ss (omega arith) in omega arith

numbers_under : (n : ℕ) (ss : Constructor) → length ss ≤ n → numbers_of ss < power n
numbers_under n [] h = power_some n
numbers_under zero (s ∷ ss) h = absurd (omega arith)
numbers_under (suc n) (Sort.number ∷ ss) h = let k = numbers_under n ss (omega arith) in omega arith
numbers_under (suc n) (Sort.tree ∷ ss) h = let k = numbers_under n ss (omega arith) in omega arith

pub code_trees : (ss : Constructor) → length ss ≤ 4 → code_of ss % 16 ≡ trees_of ss
code_trees ss h = let e = code_is ss in let k : trees_of ss < 16 = trees_under 4 ss h in omega arith

pub code_numbers : (ss : Constructor) → length ss ≤ 4 → code_of ss / 16 ≡ numbers_of ss
code_numbers ss h = let e = code_is ss in let k : trees_of ss < 16 = trees_under 4 ss h in omega arith

pub code_small : (ss : Constructor) → length ss ≤ 4 → code_of ss < 256
code_small ss h =
    let e = code_is ss in
    let k : trees_of ss < 16 = trees_under 4 ss h in
    let l : numbers_of ss < 16 = numbers_under 4 ss h in
    omega arith

pub code_atom : (ss : Constructor) → eqb (code_of ss) 0 ≡ is_atom ss
unfolding code_of
code_atom [] = refl
code_atom (Sort.number ∷ ss) = ne_eqb (16 + 2 * code_of ss) 0 (λ e. omega arith)
code_atom (Sort.tree ∷ ss) = ne_eqb (1 + 2 * code_of ss) 0 (λ e. omega arith)

-- the sorts from field i on, by a constructor's word in the table
record Left (bytes : List ℕ) (kind i : ℕ) (ss : Constructor) : Type 0 where
  ends : i + length ss ≡ kind % 256
  sorts : Sorts bytes (kind / 256 + i) ss

module _ (bytes : List ℕ) (kind : ℕ) where
  left_next : (i : ℕ) (s : Sort) (ss : Constructor) → Left bytes kind i (s ∷ ss) → Left bytes kind (suc i) ss
  left_next i s ss l =
      let e : kind / 256 + i + 1 ≡ kind / 256 + suc i = omega arith in
      record { ends = omega (arith, l.ends); sorts = subst (λ p. Sorts bytes p ss) e l.sorts.2 }

  bit_number : (i : ℕ) (ss : Constructor) → Left bytes kind i (Sort.number ∷ ss) → bit_at bytes kind i ≡ 16
  unfolding bit_at pick
  bit_number i ss l = rw (lt-leb (kind % 256) i (omega (arith, l.ends)), l.sorts.0)

  bit_tree : (i : ℕ) (ss : Constructor) → Left bytes kind i (Sort.tree ∷ ss) → bit_at bytes kind i ≡ 1
  unfolding bit_at pick
  bit_tree i ss l = rw (lt-leb (kind % 256) i (omega (arith, l.ends)), l.sorts.0)

  bit_none : (i j : ℕ) → Left bytes kind i [] → i ≤ j → bit_at bytes kind j ≡ 0
  unfolding bit_at pick
  bit_none i j l h = rw (le-leb (kind % 256) j (omega (arith, l.ends)))

  from_none : (n i j : ℕ) → Left bytes kind i [] → i ≤ j → code_from bytes kind n j ≡ 0
  unfolding code_from
  from_none zero i j l h = refl
  from_none (suc n) i j l h = let b = bit_none i j l h in let r = from_none n i (suc j) l (omega arith) in omega arith

  from_is : (n i : ℕ) (ss : Constructor) → length ss ≤ n → Left bytes kind i ss → code_from bytes kind n i ≡ code_of ss
  unfolding code_from code_of
  from_is n i [] h l = from_none n i i l (omega arith)
  from_is zero i (s ∷ ss) h l = absurd (omega arith)
  from_is (suc n) i (Sort.number ∷ ss) h l =
      let b = bit_number i ss l in
      let r = from_is n (suc i) ss (omega arith) (left_next i Sort.number ss l) in
      omega arith
  from_is (suc n) i (Sort.tree ∷ ss) h l =
      let b = bit_tree i ss l in
      let r = from_is n (suc i) ss (omega arith) (left_next i Sort.tree ss l) in
      omega arith

-- the codes of a table, as far as constructors are declared
module _ (bytes table out : List ℕ) (i : ℕ) (low : i ≤ 64) (long : i ≤ length out)
    (done : (k : ℕ) → k < i → (get_or out k 0 ≡ code_from bytes (get_or table k 0) 4 0) × (get_or table k 0 % 256 ≡ 255 → ⊥))
    (last : i < 64 → get_or table i 0 % 256 ≡ 255) where
  -- all of them, and no more
  count : (tree : File) → Declared tree bytes table → length tree.constructors ≡ i
  count tree d =
      let cs = tree.constructors in
      let most = d.constructors in
      ⊎_elim
      (λ (p : length cs ≤ i).
      ⊎_elim
      (λ (q : i ≤ length cs). omega arith)
      (λ (q : length cs < i). absurd ((done (length cs) q).1 (d.no_constructor (length cs) (omega arith) (omega arith))))
      (le? i (length cs)))
      (λ (p : i < length cs).
      let a : get_or table i 0 % 256 ≡ length (get_or cs i []) = d.arities i p in
      let b = last (omega arith) in
      let s = d.small i in
      absurd (omega arith))
      (le? (length cs) i)

  pub coded : (tree : File) → Declared tree bytes table → Coded tree (take i out)
  coded tree d =
      let cs = tree.constructors in
      let n = count tree d in
      let l : length (take i out) ≡ i = length-take i out ∙ omega arith in
      ext_get_or 0 (take i out) (map code_of cs) (l ∙ sym n ∙ sym (length-map cs code_of))
      (λ k h.
      let p : k < length cs = omega arith in
      let e : fields_in table k ≡ get_or table k 0 / 256 + 0 = omega arith in
      let a : get_or table k 0 % 256 ≡ length (get_or cs k []) = d.arities k p in
      let here : Left bytes (get_or table k 0) 0 (get_or cs k []) = record { ends = omega arith; sorts = subst (λ j. Sorts bytes j (get_or cs k [])) e (d.sorts k p) } in
      get_or-take i out k 0 (omega arith) ∙ (done k (omega arith)).0 ∙ from_is bytes (get_or table k 0) 4 0 (get_or cs k []) (d.small k) here ∙ sym (get_or-map code_of cs k [] 0 p))

-- one word by its bit
pub number_set : (bits w : ℕ) → bits % 2 ≡ 1 → number_fine bits w ≡ ltb w 65536
unfolding number_fine pick
number_set bits w e = rw e

pub number_unset : (bits w : ℕ) → bits % 2 ≡ 0 → number_fine bits w ≡ true
unfolding number_fine pick
number_unset bits w e = rw e

-- the number fields of a cell
module _ (store : List ℕ) where
  pub numbers_none : (n p : ℕ) → numbers_fine store n 0 p ≡ true
  unfolding numbers_fine pick
  numbers_none zero p = refl
  numbers_none (suc n) p = rw (number_unset 0 (get_or store p 0) refl) (numbers_none n (p + 1))

  numbers_next : (n bits x p q : ℕ) (b r : Bool) → number_fine bits (get_or store p 0) ≡ b → bits / 2 ≡ x → p + 1 ≡ q → numbers_fine store n x q ≡ r
      → numbers_fine store (suc n) bits p ≡ pick b r false
  unfolding numbers_fine
  numbers_next n bits x p q b r e f g h = ap₂ (λ y z. pick y z false) e ((λ j. numbers_fine store n (f j) (g j)) ∙ h)

  pub numbers_are : (c n i : ℕ) (ss : Constructor) → length ss ≤ n
      → numbers_fine store n (numbers_of ss) (5 * c + i) ≡ not (any (λ w. not (is_number w)) (number_words store c i ss))
  unfolding pick
  numbers_are c n i [] h = numbers_none n (5 * c + i)
  numbers_are c zero i (s ∷ ss) h = absurd (omega arith)
  numbers_are c (suc n) i (Sort.number ∷ ss) h =
      let x = numbers_of ss in
      let w = get_or store (5 * c + i) 0 in
      let m : (1 + 2 * x) % 2 ≡ 1 = omega arith in
      let d : (1 + 2 * x) / 2 ≡ x = omega arith in
      let q : 5 * c + i + 1 ≡ 5 * c + suc i = omega arith in
      let r = any (λ v. not (is_number v)) (number_words store c (suc i) ss) in
      numbers_next n (1 + 2 * x) x (5 * c + i) (5 * c + suc i) (is_number w) (not r) (number_set (1 + 2 * x) w m) d q (numbers_are c n (suc i) ss (omega arith))
      ∙ and_or (is_number w) r
  numbers_are c (suc n) i (Sort.tree ∷ ss) h =
      let x = numbers_of ss in
      let w = get_or store (5 * c + i) 0 in
      let m : (2 * x) % 2 ≡ 0 = omega arith in
      let d : (2 * x) / 2 ≡ x = omega arith in
      let q : 5 * c + i + 1 ≡ 5 * c + suc i = omega arith in
      let r = any (λ v. not (is_number v)) (number_words store c (suc i) ss) in
      numbers_next n (2 * x) x (5 * c + i) (5 * c + suc i) true (not r) (number_unset (2 * x) w m) d q (numbers_are c n (suc i) ss (omega arith))

-- the tree fields of a cell
module _ (codes store : List ℕ) where
  pub field_set : (bits w : ℕ) → bits % 2 ≡ 1 → field_fine codes store bits w ≡ word_fine codes store w
  unfolding field_fine pick
  field_set bits w e = rw e

  pub field_unset : (bits w : ℕ) → bits % 2 ≡ 0 → field_fine codes store bits w ≡ true
  unfolding field_fine pick
  field_unset bits w e = rw e

  pub trees_none : (n p : ℕ) → trees_fine codes store n 0 p ≡ true
  unfolding trees_fine pick
  trees_none zero p = refl
  trees_none (suc n) p = rw (field_unset 0 (get_or store p 0) refl) (trees_none n (p + 1))

  trees_next : (n bits x p q : ℕ) (b r : Bool) → field_fine codes store bits (get_or store p 0) ≡ b → bits / 2 ≡ x → p + 1 ≡ q → trees_fine codes store n x q ≡ r
      → trees_fine codes store (suc n) bits p ≡ pick b r false
  unfolding trees_fine
  trees_next n bits x p q b r e f g h = ap₂ (λ y z. pick y z false) e ((λ j. trees_fine codes store n (f j) (g j)) ∙ h)

  pub trees_are : (ok : ℕ → Bool) → ((w : ℕ) → word_fine codes store w ≡ ok w) → (c n i : ℕ) (ss : Constructor) → length ss ≤ n
      → trees_fine codes store n (trees_of ss) (5 * c + i) ≡ not (any (λ w. not (ok w)) (tree_words store c i ss))
  unfolding pick
  trees_are ok same c n i [] h = trees_none n (5 * c + i)
  trees_are ok same c zero i (s ∷ ss) h = absurd (omega arith)
  trees_are ok same c (suc n) i (Sort.number ∷ ss) h =
      let x = trees_of ss in
      let w = get_or store (5 * c + i) 0 in
      let m : (2 * x) % 2 ≡ 0 = omega arith in
      let d : (2 * x) / 2 ≡ x = omega arith in
      let q : 5 * c + i + 1 ≡ 5 * c + suc i = omega arith in
      let r = any (λ v. not (ok v)) (tree_words store c (suc i) ss) in
      trees_next n (2 * x) x (5 * c + i) (5 * c + suc i) true (not r) (field_unset (2 * x) w m) d q (trees_are ok same c n (suc i) ss (omega arith))
  trees_are ok same c (suc n) i (Sort.tree ∷ ss) h =
      let x = trees_of ss in
      let w = get_or store (5 * c + i) 0 in
      let m : (1 + 2 * x) % 2 ≡ 1 = omega arith in
      let d : (1 + 2 * x) / 2 ≡ x = omega arith in
      let q : 5 * c + i + 1 ≡ 5 * c + suc i = omega arith in
      let r = any (λ v. not (ok v)) (tree_words store c (suc i) ss) in
      trees_next n (1 + 2 * x) x (5 * c + i) (5 * c + suc i) (ok w) (not r) (field_set (1 + 2 * x) w m ∙ same w) d q (trees_are ok same c n (suc i) ss (omega arith))
      ∙ and_or (ok w) r
