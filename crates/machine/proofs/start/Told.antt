-- Words and cells by the codes of a file's constructors are what the meaning says of them by the constructors. Assumes nothing.
use Rattle.std.proofs.Common.{◌≡◌, ℕ, zero, suc, ◌+◌, ◌-◌, ◌*◌, ◌/◌, ◌%◌, ◌<◌, ◌≤◌, Bool, true, false, not, ◌&&◌, eqb, ltb, leb, List, [], ◌∷◌, length, get_or, sym, refl, ap, ◌∙◌, ap₂, ⊎_elim, arith, le-ltb, lt-ltb, le-leb}
use mathlib.Core.Option.{none, some}
use lib.ListN.{get_elem?}
use borrow.Author.Tests.{lt-leb}
use Rattle.std.proofs.lemmas.List.{length-map, get_or-map}
use Rattle.meaning.specs.Choice.{pick}
use Rattle.meaning.specs.Syntax.{Constructor, File}
use Rattle.meaning.specs.Reading.{is_atom, is_node}
use Rattle.meaning.specs.Machine.{word_at}
use Rattle.meaning.specs.Start.{any, holds, is_number, number_words, tree_words, cell_ok, word_ok, inside}
use Rattle.standing.specs.Table.{Declared}
use Rattle.theory.proofs.StartCounting.{le?}
use Rattle.theory.proofs.StartWords.{word_atom, word_cell}
use Rattle.machine.specs.StartWords.{code_of, Coded, code_at, numbers_fine, cell_fine, word_fine, trees_fine, inside_fine}
use Rattle.machine.proofs.start.Fields.{trees_of, code_trees, code_numbers, code_atom, numbers_are, trees_are}

-- a file in its bytes, its table and its codes, and a store that 20 does not refuse
pub record Ground (bytes table codes store : List ℕ) : Type 0 where
  pub file : File
  pub declared : Declared file bytes table
  pub coded : Coded file codes
  pub fits : length store ≤ 5120
  pub whole : length store % 5 ≡ 0

there : (cs : List Constructor) (k : ℕ) → k < length cs → get_elem? cs k ≡ some (get_or cs k [])
there [] k h = absurd (omega arith)
there (c ∷ cs) zero h = refl
there (c ∷ cs) (suc k) h = there cs k (omega arith)

not_there : (cs : List Constructor) (k : ℕ) → length cs ≤ k → get_elem? cs k ≡ none
not_there [] k h = refl
not_there (c ∷ cs) zero h = absurd (omega arith)
not_there (c ∷ cs) (suc k) h = not_there cs k (omega arith)

node_pick : (b n : Bool) → pick b false n ≡ (not b && n)
unfolding pick
node_pick true n = refl
node_pick false n = refl

module _ (bytes table codes store : List ℕ) (g : Ground bytes table codes store) where
  abbrev cs : List Constructor
  cs = g.file.constructors

  abbrev con : ℕ → ℕ
  con c = get_or store (5 * c) 0

  -- a constructor's code
  code_of_lem : (k : ℕ) → k < length cs → get_or codes k 0 ≡ code_of (get_or cs k [])
  code_of_lem k h = ap (λ (l : List ℕ). get_or l k 0) g.coded ∙ get_or-map code_of cs k [] 0 h

  pub many : length codes ≡ length cs
  many = ap length g.coded ∙ length-map cs code_of

  pub small : (k : ℕ) → length (get_or cs k []) ≤ 4
  small k = g.declared.small k

  -- the bits of a cell's trees
  pub trees_by : (c : ℕ) → con c < length cs → code_at codes store c % 16 ≡ trees_of (get_or cs (con c) [])
  trees_by c h = ap (λ n. n % 16) (code_of_lem (con c) h) ∙ code_trees (get_or cs (con c) []) (small (con c))

  atom_is : (w : ℕ) → pick (leb (length codes) w) false (eqb (get_or codes w 0) 0) ≡ holds (get_elem? cs w) is_atom
  unfolding pick
  atom_is w =
      ⊎_elim
      (λ (h : length cs ≤ w).
      rw (le-leb (length codes) w (omega (arith, many))) (sym (ap (λ o. holds o is_atom) (not_there cs w h))))
      (λ (h : w < length cs).
      rw (lt-leb (length codes) w (omega (arith, many)), code_of_lem w h)
      (code_atom (get_or cs w []) ∙ sym (ap (λ o. holds o is_atom) (there cs w h))))
      (le? (length cs) w)

  -- the tests of a cell
  abbrev node_test : ℕ → Bool
  node_test c = holds (get_elem? cs (con c)) is_node

  abbrev number_test : ℕ → Bool
  number_test c = not (any (λ w. not (is_number w)) (number_words store c 1 (get_or cs (con c) [])))

  con_is : (c : ℕ) → word_at store c 0 ≡ con c
  con_is c = let e : 5 * c + 0 ≡ 5 * c = omega arith in ap (λ p. get_or store p 0) e

  -- the tree words in a cell
  pub inside_by : (c : ℕ) → inside cs store c ≡ tree_words store c 1 (get_or cs (con c) [])
  inside_by c = ap (λ k. tree_words store c 1 (get_or cs k [])) (con_is c)

  ok_by : (c : ℕ) → cell_ok cs store c ≡ (ltb (5 * c) (length store) && (node_test c && number_test c))
  ok_by c =
      ap (λ k. ltb (5 * c) (length store) && (holds (get_elem? cs k) is_node && not (any (λ w. not (is_number w)) (number_words store c 1 (get_or cs k []))))) (con_is c)

  numbers_by : (c : ℕ) → con c < length cs → numbers_fine store 4 (code_at codes store c / 16) (5 * c + 1) ≡ number_test c
  numbers_by c h =
      ap (λ n. numbers_fine store 4 n (5 * c + 1)) (ap (λ n. n / 16) (code_of_lem (con c) h) ∙ code_numbers (get_or cs (con c) []) (small (con c)))
      ∙ numbers_are store c 4 1 (get_or cs (con c) []) (small (con c))

  stored_is : (c : ℕ) → 5 * c + 5 ≤ length store → cell_fine codes store c ≡ (node_test c && number_test c)
  unfolding cell_fine pick
  stored_is c s =
      ⊎_elim
      (λ (h : length cs ≤ con c).
      rw (le-ltb (length store) (5 * c + 5) s, le-leb (length codes) (con c) (omega (arith, many)))
      (sym (ap (λ o. holds o is_node && number_test c) (not_there cs (con c) h))))
      (λ (h : con c < length cs).
      let f = get_or cs (con c) [] in
      let a : eqb (code_at codes store c) 0 ≡ is_atom f = ap (λ n. eqb n 0) (code_of_lem (con c) h) ∙ code_atom f in
      rw (le-ltb (length store) (5 * c + 5) s, lt-leb (length codes) (con c) (omega (arith, many)))
      (ap₂ (λ b n. pick b false n) a (numbers_by c h)
      ∙ node_pick (is_atom f) (number_test c)
      ∙ sym (ap (λ o. holds o is_node && number_test c) (there cs (con c) h))))
      (le? (length cs) (con c))

  cell_is : (c : ℕ) → cell_fine codes store c ≡ cell_ok cs store c
  cell_is c =
      ⊎_elim
      (λ (s : 5 * c + 5 ≤ length store).
      stored_is c s ∙ sym (ok_by c ∙ ap (λ b. b && (node_test c && number_test c)) (lt-ltb (5 * c) (length store) (omega arith))))
      (λ (s : length store < 5 * c + 5).
      let out : cell_fine codes store c ≡ false = unfold cell_fine pick in rw (lt-ltb (length store) (5 * c + 5) s) in
      out ∙ sym (ok_by c ∙ ap (λ b. b && (node_test c && number_test c)) (le-ltb (5 * c) (length store) (omega (arith, g.whole)))))
      (le? (5 * c + 5) (length store))

  -- a tree word
  pub word_is : (w : ℕ) → word_fine codes store w ≡ word_ok cs store w
  unfolding word_fine
  word_is w =
      ⊎_elim
      (λ (h : 65536 ≤ w).
      ap (λ b. pick b (cell_fine codes store (w - 65536)) (pick (leb (length codes) w) false (eqb (get_or codes w 0) 0))) (le-leb 65536 w h)
      ∙ unfold pick in (cell_is (w - 65536) ∙ sym (word_cell cs store w h)))
      (λ (h : w < 65536).
      ap (λ b. pick b (cell_fine codes store (w - 65536)) (pick (leb (length codes) w) false (eqb (get_or codes w 0) 0))) (lt-leb 65536 w h)
      ∙ unfold pick in (atom_is w ∙ sym (word_atom cs store w h)))
      (le? 65536 w)

  -- the tree words in a cell of a declared constructor
  pub inside_is : (c : ℕ) → 5 * c + 5 ≤ length store → con c < length cs
      → inside_fine codes store c ≡ not (any (λ w. not (word_ok cs store w)) (inside cs store c))
  unfolding inside_fine pick
  inside_is c s h =
      rw (le-ltb (length store) (5 * c + 5) s, lt-leb (length codes) (con c) (omega (arith, many)))
      (ap (λ n. trees_fine codes store 4 n (5 * c + 1)) (trees_by c h)
      ∙ trees_are codes store (λ w. word_ok cs store w) word_is c 4 1 (get_or cs (con c) []) (small (con c))
      ∙ ap (λ l. not (any (λ w. not (word_ok cs store w)) l)) (sym (inside_by c)))
