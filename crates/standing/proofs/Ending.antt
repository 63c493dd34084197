-- A term that stands in the bytes ends at one place only. Assumes nothing.
use Prim.Native.Nat.{ℕ}
use mathlib.Core.List.{List}
use mathlib.Core.Path.{◌≡◌, refl, sym, ◌∙◌}
use Rattle.meaning.specs.Syntax.{Constructor, Term, Branches, File}
use Rattle.standing.specs.Stands.{Stands, Each, GV, AT, MK, CL, TL, OP, LK, NU, AR, IF, end, BR}

module _ (file : File) (f : List ℕ) where
  mutual
    pub one_end : {slots : ℕ} {t : Term} {n m : ℕ} → Stands file f slots t n → Stands file f slots t m → n ≡ m
    one_end (GV a b c e) (GV a' b' c' e') = e ∙ sym e'
    one_end (AT a b c d p s) (AT a' b' c' d' p' s') = one_end s s'
    one_end (MK a b c d e g h i p s) (MK a' b' c' d' e' g' h' i' p' s') = one_end s s'
    one_end (CL a b c d e g h p s) (CL a' b' c' d' e' g' h' p' s') = one_end s s'
    one_end (TL a b c d e g q) (TL a' b' c' d' e' g' q') = q ∙ sym q'
    one_end (OP a b c d s) (OP a' b' c' d' s') = one_end_each s s' refl
    one_end (LK a b c d s) (LK a' b' c' d' s') = one_end_each s s' refl
    one_end (NU a b c d p s) (NU a' b' c' d' p' s') = one_end s s'
    one_end (AR a b c d e g p s) (AR a' b' c' d' e' g' p' s') = one_end s s'
    one_end (IF a b c p s q u) (IF a' b' c' p' s' q' u') = one_end u u'

    pub one_end_each : {slots : ℕ} {extra : Constructor → ℕ} {at at' : ℕ} {bs : Branches} {n m : ℕ} → Each file f slots extra at bs n → Each file f slots extra at' bs m → at ≡ at' → n ≡ m
    one_end_each (end e) (end e') q = e ∙ q ∙ sym e'
    one_end_each (BR a b c d e g p s r) (BR a' b' c' d' e' g' p' s' r') q = one_end_each r r' (one_end s s')
