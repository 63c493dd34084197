-- The one relation between bytes and trees that every pass behind the reading goes by: this term stands at its place, on a path with so
-- many slots before it, and ends at `next`. Assumes nothing.
use Rattle.std.specs.Prelude.{ℕ, suc, ◌+◌, ◌*◌, ◌≤◌, ◌<◌, List, [], ◌∷◌, ◌≡◌, length, get_or}
use Rattle.meaning.specs.Syntax.{Term, Branches, Constructor, File}
use Rattle.meaning.specs.Syntax as S
use Rattle.meaning.specs.declared.Mark.{Mark}
use Rattle.meaning.specs.Marks.{code, size}
use Rattle.meaning.specs.Plain.{place_of}
use Rattle.meaning.specs.Reading.{credits, bound}
use Rattle.meaning.specs.Machine.{function_of}
use Rattle.standing.specs.Bytes.{byte_at, mark_at}

-- slots that are named one after the other
abbrev pub Listed : List ℕ → ℕ → List ℕ → Type 0
Listed bytes p [] = Unit {0}
Listed bytes p (s ∷ ss) = (byte_at bytes p ≡ s) × Listed bytes (p + 1) ss

abbrev pub count : Branches → ℕ
count S.end = 0
count (S.BR p c t bs) = suc (count bs)

module _ (file : File) (bytes : List ℕ) where
  abbrev pub arity : ℕ → ℕ
  arity c = length (get_or file.constructors c [])

  mutual
    pub data Stands : (slots : ℕ) → Term → (next : ℕ) → Type 0 where
      GV : {slots p s next : ℕ} → mark_at bytes p ≡ code Mark.GV → p + size Mark.GV ≤ length bytes → byte_at bytes (p + 2) ≡ s → next ≡ p + size Mark.GV → Stands slots (S.GV p s) next
      AT : {slots p c next : ℕ} {t : Term} → mark_at bytes p ≡ code Mark.AT → p + size Mark.AT ≤ length bytes → byte_at bytes (p + 2) ≡ c → bound Mark.AT slots ≤ 32
          → place_of t ≡ p + size Mark.AT → Stands (bound Mark.AT slots) t next → Stands slots (S.AT p c t) next
      MK : {slots p c k next : ℕ} {ss : List ℕ} {t : Term} → mark_at bytes p ≡ code Mark.MK → p + size Mark.MK + length ss ≤ length bytes → byte_at bytes (p + 2) ≡ c
          → byte_at bytes (p + 3) ≡ k → Listed bytes (p + size Mark.MK) ss → c < length file.constructors → length ss ≡ arity c → bound Mark.MK slots ≤ 32
          → place_of t ≡ p + size Mark.MK + length ss → Stands (bound Mark.MK slots) t next → Stands slots (S.MK p c k ss t) next
      CL : {slots p f next : ℕ} {ss : List ℕ} {t : Term} → mark_at bytes p ≡ code Mark.CL → p + size Mark.CL + length ss ≤ length bytes → byte_at bytes (p + 2) ≡ f
          → Listed bytes (p + size Mark.CL) ss → f < length file.functions → length ss ≡ length (function_of file f).parameters → bound Mark.CL slots ≤ 32
          → place_of t ≡ p + size Mark.CL + length ss → Stands (bound Mark.CL slots) t next → Stands slots (S.CL p f ss t) next
      TL : {slots p f next : ℕ} {ss : List ℕ} → mark_at bytes p ≡ code Mark.TL → p + size Mark.TL + length ss ≤ length bytes → byte_at bytes (p + 2) ≡ f
          → Listed bytes (p + size Mark.TL) ss → f < length file.functions → length ss ≡ length (function_of file f).parameters
          → next ≡ p + size Mark.TL + length ss → Stands slots (S.TL p f ss) next
      OP : {slots p s next : ℕ} {bs : Branches} → mark_at bytes p ≡ code Mark.OP → p + size Mark.OP ≤ length bytes → byte_at bytes (p + 2) ≡ s → byte_at bytes (p + 3) ≡ count bs
          → Each (bound Mark.OP slots) credits (p + size Mark.OP) bs next → Stands slots (S.OP p s bs) next
      LK : {slots p s next : ℕ} {bs : Branches} → mark_at bytes p ≡ code Mark.LK → p + size Mark.LK ≤ length bytes → byte_at bytes (p + 2) ≡ s → byte_at bytes (p + 3) ≡ count bs
          → Each (bound Mark.LK slots) (λ c. 0) (p + size Mark.LK) bs next → Stands slots (S.LK p s bs) next
      NU : {slots p n next : ℕ} {t : Term} → mark_at bytes p ≡ code Mark.NU → p + size Mark.NU ≤ length bytes → byte_at bytes (p + 2) * 256 + byte_at bytes (p + 3) ≡ n → bound Mark.NU slots ≤ 32
          → place_of t ≡ p + size Mark.NU → Stands (bound Mark.NU slots) t next → Stands slots (S.NU p n t) next
      AR : {slots p o x y next : ℕ} {t : Term} → mark_at bytes p ≡ code Mark.AR → p + size Mark.AR ≤ length bytes → byte_at bytes (p + 2) ≡ o → byte_at bytes (p + 3) ≡ x
          → byte_at bytes (p + 4) ≡ y → bound Mark.AR slots ≤ 32 → place_of t ≡ p + size Mark.AR → Stands (bound Mark.AR slots) t next → Stands slots (S.AR p o x y t) next
      IF : {slots p s second next : ℕ} {t u : Term} → mark_at bytes p ≡ code Mark.IF → p + size Mark.IF ≤ length bytes → byte_at bytes (p + 2) ≡ s
          → place_of t ≡ p + size Mark.IF → Stands (bound Mark.IF slots) t second → place_of u ≡ second → Stands (bound Mark.IF slots) u next → Stands slots (S.IF p s t u) next

    -- the branches of a list, from a place on; `extra` is what each binds besides the fields
    pub data Each : (slots : ℕ) → (extra : Constructor → ℕ) → (at : ℕ) → Branches → (next : ℕ) → Type 0 where
      end : {slots at next : ℕ} {extra : Constructor → ℕ} → next ≡ at → Each slots extra at S.end next
      BR : {slots at p c second next : ℕ} {extra : Constructor → ℕ} {t : Term} {bs : Branches} → at ≡ p → mark_at bytes p ≡ code Mark.BR → p + size Mark.BR ≤ length bytes
          → byte_at bytes (p + 2) ≡ c → c < length file.constructors → slots + (arity c + extra (get_or file.constructors c [])) ≤ 32
          → place_of t ≡ p + size Mark.BR → Stands (slots + (arity c + extra (get_or file.constructors c []))) t second
          → Each slots extra second bs next → Each slots extra at (S.BR p c t bs) next
