-- Reading: a byte list is a File, or is refused by 1 to 6, "record by record, each record's mark, then fields left to right, then limits".
-- A reader takes the place it stands at and the bytes from there, and gives what it read with both as they are after it. Assumes nothing.
use Rattle.std.specs.Prelude.{ℕ, zero, suc, ◌+◌, ◌*◌, Bool, true, false, not, ◌&&◌, List, [], ◌∷◌, ◌++◌, length, ltb, leb, eqb}
use Rattle.std.proofs.Math.Option.{none, some}
use Rattle.std.proofs.Math.ListN.{get_elem?}
use Rattle.meaning.specs.Syntax.{Sort, Mode, Signature, Term, Branches, Constructor, File}
use Rattle.meaning.specs.Outcome.{Outcome, ok, refuse, then}
use Rattle.meaning.specs.declared.Mark.{Mark}
use Rattle.meaning.specs.declared.Mark.TheVariants.{CN, FN, BD, ND, GV, AT, MK, CL, TL, OP, LK, BR, NU, AR, IF, Other}
use Rattle.meaning.specs.Marks.{find, marks, code, binds}

abbrev pub Reader : Type 0 → Type 0
Reader A = ℕ → List ℕ → Outcome (A × ℕ × List ℕ)

abbrev pub ◌>>=◌ : {A B : Type 0} → Reader A → (A → Reader B) → Reader B
◌>>=◌ m f = λ at bytes. then (m at bytes) (λ r. f r.0 r.1 r.2)

abbrev pub ◌>>◌ : {A B : Type 0} → Reader A → Reader B → Reader B
◌>>◌ m k = ◌>>=◌ m (λ a. k)

abbrev pub return : {A : Type 0} → A → Reader A
return a = λ at bytes. ok (a, at, bytes)

abbrev pub fail : {A : Type 0} → (answer place : ℕ) → Reader A
fail answer place = λ at bytes. refuse answer place

-- the place that the reader stands at
abbrev pub here : Reader ℕ
here = λ at bytes. ok (at, at, bytes)

-- "Fields are one byte"; 2, at the file's length: "file ends early, even within a mark"
abbrev pub byte : Reader ℕ
byte at [] = refuse 2 at
byte at (b ∷ bytes) = ok (b, suc at, bytes)

-- go on where the test passes, else refuse at the place
abbrev pub ensure : (answer place : ℕ) → Bool → Reader (Unit {0})
ensure answer place true = return tt
ensure answer place false = fail answer place

-- 4, at the field: "field out of range"
unfoldable pub below : (limit : ℕ) → Reader ℕ
below limit = do
  p ← here
  b ← byte
  ensure 4 p (ltb b limit)
  return b

unfoldable pub times : {A : Type 0} → ℕ → Reader A → Reader (List A)
times zero m = return []
times (suc n) m = do
  a ← m
  as' ← times n m
  return (a ∷ as')

-- "each with a two-byte ASCII mark"
unfoldable pub mark : Reader Mark
mark = do
  a ← byte
  b ← byte
  return (find (a * 256 + b) marks Other)

-- 3, at the mark: "a mark not allowed here"; only this one is
unfoldable pub expect : (code : ℕ) → Reader (Unit {0})
expect w = do
  p ← here
  a ← byte
  b ← byte
  ensure 3 p (eqb (a * 256 + b) w)

-- "0 number, 1 tree"
unfoldable pub sort : Reader Sort
sort = do
  b ← below 2
  return (elim b [ zero ↦ Sort.number | suc _ ↦ Sort.tree ])

-- "0 number, 1 lent, 2 owned"
unfoldable pub mode : Reader Mode
mode = do
  b ← below 3
  return (elim b [ zero ↦ Mode.number | suc c ↦ elim c [ zero ↦ Mode.lent | suc _ ↦ Mode.owned ] ])

-- 4, at the field: "undeclared, or wrong arity for AT or MK"; the field names an entry of a list, which passes a test
unfoldable pub declared : {A : Type 0} → List A → (A → Bool) → Reader (ℕ × A)
declared as' test = do
  p ← here
  b ← byte
  elim (get_elem? as' b) [
    | none ↦ fail 4 p
    | some a ↦ do
      ensure 4 p (test a)
      return (b, a)
  ]

abbrev pub any : {A : Type 0} → A → Bool
any a = true

abbrev pub is_atom : Constructor → Bool
is_atom [] = true
is_atom (_ ∷ _) = false

abbrev pub is_node : Constructor → Bool
is_node c = not (is_atom c)

-- "A branch of OP binds the fields and then, if the arity is 1 or more, one credit": how many credits
abbrev pub credits : Constructor → ℕ
credits [] = 0
credits (_ ∷ _) = 1

-- the slots on a path with those that a record binds
abbrev pub more : (count slots : ℕ) → ℕ
more zero slots = slots
more (suc n) slots = suc (more n slots)

abbrev pub bound : Mark → (slots : ℕ) → ℕ
bound m slots = more (binds m) slots

module _ (constructors : List Constructor) (functions : List Signature) where
  -- 5, at the mark: "32 slots on any path (parameters included), 64 nodes on any path (every mark from GV on except BR is a node)"; the counts
  -- are those with this node and with the slots that it binds
  unfoldable pub limits : (place slots nodes : ℕ) → Reader (Unit {0})
  limits place slots nodes = ensure 5 place (leb nodes 64 && leb slots 32)

  -- the rest of a term, behind its mark `m` at `p`, on a path with so many slots and nodes before it.
  -- `term` and `branches` read the terms and the branches that follow
  unfoldable pub node : (term : (slots nodes : ℕ) → Reader Term) → (branches : (count : ℕ) → (Constructor → ℕ) → (slots nodes : ℕ) → Reader Branches)
      → (slots nodes place : ℕ) → Mark → Reader Term
  -- GV: "slot"
  node term branches slots nodes p GV = do
    s ← byte
    limits p (bound GV slots) (suc nodes)
    return (Term.GV p s)
  -- AT: "atom constructor"
  node term branches slots nodes p AT = do
    c ← declared constructors is_atom
    let after = bound AT slots
    limits p after (suc nodes)
    t ← term after (suc nodes)
    return (Term.AT p c.0 t)
  -- MK: "constructor of arity k, at least 1; credit slot; k slots"
  node term branches slots nodes p MK = do
    c ← declared constructors is_node
    k ← byte
    ss ← times (length c.1) byte
    let after = bound MK slots
    limits p after (suc nodes)
    t ← term after (suc nodes)
    return (Term.MK p c.0 k ss t)
  -- CL, TL: "function; its argument slots"
  node term branches slots nodes p CL = do
    f ← declared functions any
    ss ← times (length f.1.parameters) byte
    let after = bound CL slots
    limits p after (suc nodes)
    t ← term after (suc nodes)
    return (Term.CL p f.0 ss t)
  node term branches slots nodes p TL = do
    f ← declared functions any
    ss ← times (length f.1.parameters) byte
    limits p (bound TL slots) (suc nodes)
    return (Term.TL p f.0 ss)
  -- OP, LK: "slot; branch count 1..64; branches"
  node term branches slots nodes p OP = do
    s ← byte
    q ← here
    k ← byte
    ensure 4 q (ltb 0 k && leb k 64)
    let after = bound OP slots
    limits p after (suc nodes)
    bs ← branches k credits after (suc nodes)
    return (Term.OP p s bs)
  node term branches slots nodes p LK = do
    s ← byte
    q ← here
    k ← byte
    ensure 4 q (ltb 0 k && leb k 64)
    let after = bound LK slots
    limits p after (suc nodes)
    bs ← branches k (λ c. 0) after (suc nodes)
    return (Term.LK p s bs)
  -- NU: "constant", of two bytes, "high byte first"
  node term branches slots nodes p NU = do
    h ← byte
    l ← byte
    let after = bound NU slots
    limits p after (suc nodes)
    t ← term after (suc nodes)
    return (Term.NU p (h * 256 + l) t)
  -- AR: "operation 0..3; two slots"
  node term branches slots nodes p AR = do
    o ← below 4
    x ← byte
    y ← byte
    let after = bound AR slots
    limits p after (suc nodes)
    t ← term after (suc nodes)
    return (Term.AR p o x y t)
  -- IF: "slot; two terms". "Branches, and the two terms of IF, start from the same slots."
  node term branches slots nodes p IF = do
    s ← byte
    let after = bound IF slots
    limits p after (suc nodes)
    t ← term after (suc nodes)
    u ← term after (suc nodes)
    return (Term.IF p s t u)
  -- 3, at the mark: "a mark not allowed here"
  node term branches slots nodes p CN = fail 3 p
  node term branches slots nodes p FN = fail 3 p
  node term branches slots nodes p BD = fail 3 p
  node term branches slots nodes p ND = fail 3 p
  node term branches slots nodes p BR = fail 3 p
  node term branches slots nodes p Other = fail 3 p

  -- "a term holds the terms that follow it; a term holds branches and a branch holds a term". `fuel` is more than the bytes left
  unfoldable mutual
    pub term : (fuel slots nodes : ℕ) → Reader Term
    term zero slots nodes = λ at bytes. refuse 2 at
    term (suc n) slots nodes = do
      p ← here
      m ← mark
      node (λ s k. term n s k) (λ c x s k. branches n c x s k) slots nodes p m

    pub branches : (fuel count : ℕ) → (Constructor → ℕ) → (slots nodes : ℕ) → Reader Branches
    branches zero k extra slots nodes = λ at bytes. refuse 2 at
    branches (suc n) zero extra slots nodes = return Branches.end
    branches (suc n) (suc k) extra slots nodes = do
      p ← here
      expect (code BR)
      c ← declared constructors any
      let s = slots + (length c.1 + extra c.1)
      limits p s nodes
      t ← term n s nodes
      bs ← branches n k extra slots nodes
      return (Branches.BR p c.0 t bs)

-- CN: "arity 0..4; per field 0 number, 1 tree"
unfoldable pub constructor : Reader Constructor
constructor = do
  k ← below 5
  times k sort

-- FN: "count 0..8; per parameter 0 number, 1 lent, 2 owned; result 0 number, 1 tree"
unfoldable pub signature : Reader Signature
signature = do
  k ← below 9
  ms ← times k mode
  r ← sort
  return (record { parameters = ms; result = r })

-- 6, at the first of them: "bytes after ND"
unfoldable pub finish : Reader (Unit {0})
finish at [] = ok (tt, at, [])
finish at (b ∷ bytes) = refuse 6 at

-- BD before each body but the first
abbrev pub between : List Signature → Reader (Unit {0})
between [] = return tt
between (f ∷ fs) = expect (code BD)

-- the bodies from behind the first BD: "one BD for each FN in order, ND, and nothing else". "A body is one term"
unfoldable pub bodies : (fuel : ℕ) → List Constructor → List Signature → List Signature → Reader (List Term)
bodies fuel cs fs [] = do
  expect (code ND)
  finish
  return []
bodies fuel cs fs (f ∷ rest) = do
  t ← term cs fs fuel (length f.parameters) 0
  between rest
  ts ← bodies fuel cs fs rest
  return (t ∷ ts)

-- "A file is any number of CN, one or more FN, one BD for each FN": the rest of the file behind a mark at `p`; `header` reads on with one
-- constructor or function more. "Limits: 64 constructors, 32 functions"
unfoldable pub entry : (header : List Constructor → List Signature → Reader File) → (size : ℕ) → List Constructor → (place : ℕ) → Mark → List Signature → Reader File
entry header size cs p CN fs =
    elim fs [
      | [] ↦ do
        c ← constructor
        ensure 5 p (ltb (length cs) 64)
        header (cs ++ (c ∷ [])) []
      | f ∷ rest ↦ fail 3 p
    ]
entry header size cs p FN fs = do
  f ← signature
  ensure 5 p (ltb (length fs) 32)
  header cs (fs ++ (f ∷ []))
entry header size cs p BD fs =
    elim fs [
      | [] ↦ fail 3 p
      | f ∷ rest ↦ do
        ts ← bodies size cs (f ∷ rest) (f ∷ rest)
        return (record { constructors = cs; functions = f ∷ rest; bodies = ts })
    ]
entry header size cs p ND fs = fail 3 p
entry header size cs p GV fs = fail 3 p
entry header size cs p AT fs = fail 3 p
entry header size cs p MK fs = fail 3 p
entry header size cs p CL fs = fail 3 p
entry header size cs p TL fs = fail 3 p
entry header size cs p OP fs = fail 3 p
entry header size cs p LK fs = fail 3 p
entry header size cs p BR fs = fail 3 p
entry header size cs p NU fs = fail 3 p
entry header size cs p AR fs = fail 3 p
entry header size cs p IF fs = fail 3 p
entry header size cs p Other fs = fail 3 p

unfoldable pub header : (fuel size : ℕ) → List Constructor → List Signature → Reader File
header zero size cs fs = λ at bytes. refuse 2 at
header (suc n) size cs fs = do
  p ← here
  m ← mark
  entry (λ cs' fs'. header n size cs' fs') size cs p m fs

-- 1, at 0: "file over 4,096 bytes"
unfoldable pub read : List ℕ → Outcome File
read bytes =
    let size = length bytes in
    elim (leb size 4096) [
      | true ↦ then (header (suc size) size [] [] 0 bytes) (λ r. ok r.0)
      | false ↦ refuse 1 0
    ]
