-- The two bytes of each mark. Assumes nothing.
use Prim.Native.Nat.{ℕ}
use mathlib.Core.List.{List, [], ◌∷◌}
use mathlib.Core.Bool.{Bool, true, false}
use mathlib.Core.Path.{◌≡◌, refl}
use lib.Dec.{eqb}
use borrow.Author.Tests.{eqb-true}
use Rattle.meaning.specs.declared.Mark.{Mark}
use Rattle.meaning.specs.declared.Mark.TheVariants.{CN, FN, BD, ND, GV, AT, MK, CL, TL, OP, LK, BR, NU, AR, IF, Other}
use Rattle.meaning.specs.Marks.{find, marks, code, mark_of}

abbrev pub Named : ℕ → Mark → Type 0
Named w CN = w ≡ code CN
Named w FN = w ≡ code FN
Named w BD = w ≡ code BD
Named w ND = w ≡ code ND
Named w GV = w ≡ code GV
Named w AT = w ≡ code AT
Named w MK = w ≡ code MK
Named w CL = w ≡ code CL
Named w TL = w ≡ code TL
Named w OP = w ≡ code OP
Named w LK = w ≡ code LK
Named w BR = w ≡ code BR
Named w NU = w ≡ code NU
Named w AR = w ≡ code AR
Named w IF = w ≡ code IF
Named w Other = Unit {0}

abbrev Every : (P : Mark → Type 0) → ℕ → List (ℕ × Mark) → Type 0
Every P w [] = Unit {0}
Every P w (e ∷ table) = (w ≡ e.0 → P e.1) × Every P w table

found : (P : Mark → Type 0) (w : ℕ) (table : List (ℕ × Mark)) → Every P w table → P Other → P (find w table Other)
found P w [] h d = d
found P w (e ∷ table) h d = go (eqb w e.0) refl (found P w table h.1 d)
  where
    go : (x : Bool) → eqb w e.0 ≡ x → P (find w table Other) → P (find w (e ∷ table) Other)
    go true q rest = rw (q, find) (h.0 (eqb-true w e.0 q))
    go false q rest = rw (q, find) rest

pub named : (w : ℕ) → Named w (mark_of w)
unfolding mark_of
named w =
    found (Named w) w marks
    (λ e. e, (λ e. e, (λ e. e, (λ e. e, (λ e. e, (λ e. e, (λ e. e, (λ e. e, (λ e. e, (λ e. e, (λ e. e, (λ e. e, (λ e. e, (λ e. e, (λ e. e, tt))))))))))))))) tt
