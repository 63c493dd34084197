-- What a record binds: the kinds of things that slots (in the derivation: variables) stand for. Shared by the ownership check and the derivation
-- rules, which share nothing else. Assumes nothing.
use Rattle.std.specs.Prelude.{ℕ, suc, List, [], ◌∷◌, ◌++◌, map, length}
use Rattle.meaning.specs.Syntax.{Sort, Mode, Signature, Constructor}

-- "A slot is a number, lent, owned, a credit of a size"
pub data Kind : Type 0 where
  number lent owned : Kind
  credit : (size : ℕ) → Kind

-- what a value of a sort is bound as, owned or lent
abbrev pub kind_owned : Sort → Kind
kind_owned Sort.number = Kind.number
kind_owned Sort.tree = Kind.owned

abbrev pub kind_lent : Sort → Kind
kind_lent Sort.number = Kind.number
kind_lent Sort.tree = Kind.lent

abbrev pub mode_owned : Sort → Mode
mode_owned Sort.number = Mode.number
mode_owned Sort.tree = Mode.owned

abbrev pub kind_of : Mode → Kind
kind_of Mode.number = Kind.number
kind_of Mode.lent = Kind.lent
kind_of Mode.owned = Kind.owned

-- "A branch of OP binds the fields and then, if the arity is 1 or more, one credit of that size."
abbrev pub credit_of : Constructor → List Kind
credit_of [] = []
credit_of (c ∷ cs) = Kind.credit (suc (length cs)) ∷ []

abbrev pub bound_by_OP : Constructor → List Kind
bound_by_OP c = map kind_owned c ++ credit_of c

-- "A branch of LK binds only the fields, with trees lent."
abbrev pub bound_by_LK : Constructor → List Kind
bound_by_LK c = map kind_lent c

-- a function that is not declared, which no file that was read names
abbrev pub no_function : Signature
no_function = record { parameters = []; result = Sort.number }
