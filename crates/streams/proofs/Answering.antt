-- What is written of the bytes that were read into a buffer is the line of the whole input, where all inputs over a limit have one line. Assumes nothing.
use Rattle.std.proofs.Common.{◌≡◌, ℕ, ◌<◌, List, Bool, true, false, Option, None, Some, Result, Ok, Err, OnOk, IfSome, arith, length, take, refl, ap, ◌∙◌, subst, length-take-le, take_all}
use Rattle.std.proofs.lemmas.Bool.{leb-true, leb-false}
use Rattle.std.specs.Io.KnownBytes.{Appends}
use Rattle.std.proofs.Math.Dec.{leb}

pub same_text : {E : Type 0} (r : Result (Unit {0}) E) (old new : Option (List ℕ)) {a b : List ℕ} → a ≡ b → OnOk r (Appends old new a) → OnOk r (Appends old new b)
same_text r old new p h = subst (λ text. OnOk r (Appends old new text)) p h

module _ (line : List ℕ → List ℕ) (limit room : ℕ) (fits : limit < room) (alike : (a b : List ℕ) → limit < length a → limit < length b → line a ≡ line b) where
  whichever : (bytes : List ℕ) (b : Bool) → leb (length bytes) room ≡ b → line (take room bytes) ≡ line bytes
  whichever bytes true e = ap line (take_all room bytes (leb-true (length bytes) room e))
  whichever bytes false e =
      let long : room < length bytes = leb-false (length bytes) room e in
      let cut : length (take room bytes) ≡ room = length-take-le room bytes (omega arith) in
      alike (take room bytes) bytes (omega arith) (omega arith)

  pub first_bytes : (bytes : List ℕ) → line (take room bytes) ≡ line bytes
  first_bytes bytes = whichever bytes (leb (length bytes) room) refl

module _ (line : List ℕ → List ℕ) (room : ℕ) (same : (bytes : List ℕ) → line (take room bytes) ≡ line bytes) where
  said : (known old new : Option (List ℕ)) (read : List ℕ) → IfSome known (λ bytes. read ≡ take room bytes) → Appends old new (line read)
      → IfSome known (λ bytes. Appends old new (line bytes))
  said None old new read p h = tt
  said (Some bytes) old new read p h = subst (Appends old new) (ap line p ∙ same bytes) h

  pub whole_line : {E : Type 0} (r : Result (Unit {0}) E) (known old new : Option (List ℕ)) (read : List ℕ) → IfSome known (λ bytes. read ≡ take room bytes)
      → OnOk r (Appends old new (line read)) → OnOk r (IfSome known (λ bytes. Appends old new (line bytes)))
  whole_line (Ok x) known old new read p h = said known old new read p h
  whole_line (Err e) known old new read p h = tt
