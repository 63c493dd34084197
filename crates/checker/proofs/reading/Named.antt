-- The mark that a number of the table stands for. Assumes nothing.
use Prim.Native.Nat.{ℕ}
use mathlib.Core.Path.{◌≡◌, refl, sym, ap, ◌∙◌}
use lib.ListN.{get_or}
use Rattle.meaning.specs.declared.Mark.{Mark}
use Rattle.meaning.specs.declared.Mark.TheVariants.{CN, FN, BD, ND, GV, AT, MK, CL, TL, OP, LK, BR, NU, AR, IF, Other}
use Rattle.meaning.specs.Marks.{names, number_of, mark_of, find_mark}

unfoldable pub named : ℕ → Mark
named n = get_or names n Other

named_number : (m : Mark) → named (number_of m) ≡ m
unfolding named number_of
named_number CN = refl
named_number FN = refl
named_number BD = refl
named_number ND = refl
named_number GV = refl
named_number AT = refl
named_number MK = refl
named_number CL = refl
named_number TL = refl
named_number OP = refl
named_number LK = refl
named_number BR = refl
named_number NU = refl
named_number AR = refl
named_number IF = refl
named_number Other = refl

pub mark_is : (w n : ℕ) → find_mark w ≡ n → mark_of w ≡ named n
unfolding find_mark
mark_is w n e = sym (named_number (mark_of w)) ∙ ap named e
