-- What stands behind each body of a file that is read: BD and the next body, or ND and the file's end. Assumes nothing.
use Prim.Native.Nat.{ℕ, suc, ◌+◌, ◌<◌}
use mathlib.Core.List.{List}
use mathlib.Core.Path.{◌≡◌, subst}
use lib.ListN.{length}
use native.Mathlib.Omega.{arith}
use Rattle.meaning.specs.Syntax.{File}
use Rattle.meaning.specs.Outcome.{ok}
use Rattle.meaning.specs.Reading.{read}
use Rattle.meaning.specs.declared.Mark.{Mark}
use Rattle.meaning.specs.Marks.{code}
use Rattle.meaning.specs.Plain.{place_of}
use Rattle.meaning.specs.Machine.{body_of}
use Rattle.standing.specs.Bytes.{mark_at}
use Rattle.standing.specs.Table.{Declared}
use Rattle.standing.proofs.Heads.{Opened, read_opened}
use Rattle.standing.proofs.Bodies.{ends_of, each_stands, laid_between, laid_last}
use Rattle.standing.proofs.Declaring.{laid}
use Rattle.standing.proofs.Ending.{one_end}

module _ (bytes : List ℕ) (file : File) (e : read bytes ≡ ok file) (table : List ℕ) (D : Declared file bytes table) where
  opened : Opened bytes file
  opened = (read_opened bytes file e).0

  same_end : (g : ℕ) → g < length file.functions → ends_of file bytes (laid bytes file opened D.size) g ≡ D.ends g
  same_end g h = one_end file bytes (each_stands file bytes (laid bytes file opened D.size) g h) (D.stands g h)

  pub read_between : (g : ℕ) → suc g < length file.functions → (mark_at bytes (D.ends g) ≡ code Mark.BD) × (place_of (body_of file (suc g)) ≡ D.ends g + 2)
  read_between g h =
      subst (λ n. (mark_at bytes n ≡ code Mark.BD) × (place_of (body_of file (suc g)) ≡ n + 2)) (same_end g (omega arith))
      (laid_between file bytes (laid bytes file opened D.size) g h)

  pub read_last : (g : ℕ) → suc g ≡ length file.functions → (mark_at bytes (D.ends g) ≡ code Mark.ND) × (length bytes ≡ D.ends g + 2)
  read_last g h =
      subst (λ n. (mark_at bytes n ≡ code Mark.ND) × (length bytes ≡ n + 2)) (same_end g (omega arith))
      (laid_last file bytes (laid bytes file opened D.size) g h)
