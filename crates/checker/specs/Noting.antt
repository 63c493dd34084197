-- The calls of a body as the bits of a word, a call that waits by the number of its function and a tail call by 32 more. Assumes nothing.
use Rattle.std.specs.Prelude.{ℕ, ◌+◌, ◌%◌, ◌^◌, List, [], ◌∷◌, length, eqb}
use Rattle.std.specs.Int.Bits.{bit_or}
use Rattle.meaning.specs.declared.Call.{Call}
use Rattle.meaning.specs.declared.How.{How}
use Rattle.meaning.specs.declared.How.TheVariants.{Never, Tail, Waits}
use Rattle.meaning.specs.Choice.{pick}
use Rattle.meaning.specs.Syntax.{File}
use Rattle.meaning.specs.Machine.{body_of}
use Rattle.meaning.specs.Calls.{calls}
use Rattle.standing.specs.Bytes.{byte_at}
use Rattle.checker.specs.Filled.{filled}

-- the call of a record, by its mark's place in the table: of CL and TL alone
unfoldable pub note_at : (bytes : List ℕ) → (at mark word : ℕ) → ℕ
note_at bytes at m w = pick (eqb m 7) (bit_or w (2 ^ (byte_at bytes (at + 2) % 32))) (pick (eqb m 8) (bit_or w (2 ^ (32 + byte_at bytes (at + 2) % 32))) w)

-- the calls of a term
abbrev pub note_call : How → (callee word : ℕ) → ℕ
note_call Never g w = w
note_call Tail g w = bit_or w (2 ^ (32 + g))
note_call Waits g w = bit_or w (2 ^ g)

unfoldable pub note_calls : List Call → ℕ → ℕ
note_calls [] w = w
note_calls (c ∷ cs) w = note_calls cs (note_call c.how c.callee w)

-- a word for each function
unfoldable pub words_of : File → List ℕ
words_of file = filled 0 (length file.bodies) (λ f. note_calls (calls (body_of file f) f) 0)
