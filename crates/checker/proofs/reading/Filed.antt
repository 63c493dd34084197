-- The header, as the code reads it: the records of one kind one after the other, and the two kinds one behind the other. Assumes nothing.
use Prim.Native.Nat.{ℕ, ◌+◌, ◌*◌, ◌≤◌, ◌<◌}
use mathlib.Core.Bool.{Bool, true, false}
use mathlib.Core.List.{List, []}
use mathlib.Core.Path.{◌≡◌, refl, sym, ◌∙◌, subst}
use lib.Dec.{ltb}
use lib.ListN.{length, get_or, set}
use native.Mathlib.Omega.{arith}
use borrow.Author.Tests.{ltb-true, ltb-false}
use Rattle.std.specs.Prelude.{Ok, Err}
use Rattle.meaning.specs.declared.Refusal.{Refusal}
use Rattle.meaning.specs.Answers.{fault_number}
use Rattle.meaning.specs.Outcome.{refuse}
use Rattle.meaning.specs.Reading.{read}
use Rattle.meaning.specs.Choice.{pick}
use Rattle.meaning.specs.Marks.{find_mark}
use Rattle.standing.specs.Bytes.{mark_at, number_at}
use Rattle.checker.specs.declared.reading.Header.{Header}
use Rattle.checker.specs.declared.reading.Records.{Records}
use Rattle.checker.specs.declared.reading.Records.TheVariants.{Constructors, Functions}
use Rattle.checker.specs.Read.{Next, Fault}
use Rattle.checker.specs.ReadingBytes.{mark_read}
use Rattle.checker.specs.Opening.{table_with, Refused, Conned, Headed, Bodied, Counted, RecordsRead, mark_number, limit_of, first_of, fields_of}
use Rattle.checker.proofs.reading.Opened.{conned_start, conned_fails, conned_full, conned_more, headed_start, headed_fails, headed_full, headed_more}
use Rattle.checker.proofs.reading.Body.{none_short, none_here, refused, bodied_start}

-- ---- the records of one kind
pub counted_fails : (k : Records) (f d : List ℕ) (n at x p : ℕ) → Counted k f d n at → number_at f at ≡ mark_number k → Fault x p ≡ fields_of k f (at + 2) → Refused f x p
unfolding Counted
counted_fails Constructors f d n at x p C e q = conned_fails f d n at C e x p (sym q)
counted_fails Functions f d n at x p C e q = headed_fails f d n at C.0 e x p (sym q)

pub counted_full : (k : Records) (f d : List ℕ) (n at m : ℕ) → Counted k f d n at → number_at f at ≡ mark_number k → Next m ≡ fields_of k f (at + 2) → limit_of k ≤ n → Refused f 5 at
unfolding Counted
counted_full Constructors f d n at m C e q l = conned_full f d n at C e m (sym q) l
counted_full Functions f d n at m C e q l = headed_full f d n at C.0 e m (sym q) l

pub counted_more : (k : Records) (f d : List ℕ) (n at m i w : ℕ) → Counted k f d n at → number_at f at ≡ mark_number k → Next m ≡ fields_of k f (at + 2) → n < limit_of k
    → i ≡ first_of k → w ≡ get_or f (at + 2) 0 + 256 * (at + 2 + 1) → get_or f (at + 2) 0 < 256 → Counted k f (set d (i + n) w) (n + 1) m
unfolding Counted
counted_more Constructors f d n at m i w C e q l g v r =
    let z : i + n ≡ n = omega arith in
    subst (λ j. Conned f (set d j w) (n + 1) m) (sym z) (conned_more f d n at C e m w (sym q) l v (omega arith))
counted_more Functions f d n at m i w C e q l g v r =
    (subst (λ j. Headed f (set d (j + n) w) (n + 1) m) (sym g) (headed_more f d n at C.0 e m w (sym q) l v (omega arith)), λ z. absurd (omega (arith, z)))

-- ---- the header
pub header_start : (f d : List ℕ) → d ≡ table_with [] [] [] → Counted Constructors f d 0 0
unfolding Counted
header_start f d e = conned_start f d e

pub functions_start : (f d : List ℕ) (r : Header) → RecordsRead Constructors f d (Ok r) → Counted Functions f d 0 r.at
unfolding Counted RecordsRead
functions_start f d r R = (headed_start f d r.count r.at R.0, λ _ z. R.1 z)

-- the header is refused: by a record of it, or since there is no function
abbrev pub Stops : (f : List ℕ) → Refusal → Type 0
Stops f e = (0 < fault_number e.fault) × (read f ≡ refuse (fault_number e.fault) e.place) × (e.place ≤ 4096)

pub stops_by : (k : Records) (f d : List ℕ) (e : Refusal) → length f ≤ 4096 → RecordsRead k f d (Err e) → Stops f e
unfolding RecordsRead Refused
stops_by k f d e h R = (R.0, refused f (fault_number e.fault) e.place h R, omega (arith, R.1))

module _ (f d : List ℕ) (r : Header) (h : length f ≤ 4096) (R : RecordsRead Functions f d (Ok r)) where
  none : r.count ≡ 0 → Headed f d 0 r.at
  unfolding RecordsRead Counted
  none z = subst (λ k. Headed f d k r.at) z R.0.0

  pub stops_short : (e : Refusal) → r.count ≡ 0 → Fault (fault_number e.fault) e.place ≡ mark_read f r.at → Stops f e
  unfolding mark_read pick
  stops_short e z q = go (ltb (length f) (r.at + 2)) refl
    where
      go : (u : Bool) → ltb (length f) (r.at + 2) ≡ u → Stops f e
      go true w =
          let y : Fault (fault_number e.fault) e.place ≡ Fault 2 (length f) = q ∙ rw w in
          let x : fault_number e.fault ≡ 2 = cc in
          let p : e.place ≡ length f = cc in
          (omega arith, none_short f d r.at h (none z) (ltb-true (length f) (r.at + 2) w) ∙ rw (x, p), omega arith)
      go false w = let y : Fault (fault_number e.fault) e.place ≡ Next (find_mark (mark_at f r.at)) = q ∙ rw w in absurd (let x : ◌≡◌ {A = ℕ} 0 1 = cc in omega arith)

  pub stops_here : (m : ℕ) → r.count ≡ 0 → Next m ≡ mark_read f r.at → (0 < 3) × (read f ≡ refuse 3 r.at) × (r.at ≤ 4096)
  unfolding RecordsRead Counted mark_read pick
  stops_here m z q = go (ltb (length f) (r.at + 2)) refl
    where
      go : (u : Bool) → ltb (length f) (r.at + 2) ≡ u → (0 < 3) × (read f ≡ refuse 3 r.at) × (r.at ≤ 4096)
      go true w = let y : Next m ≡ Fault 2 (length f) = q ∙ rw w in absurd (let x : ◌≡◌ {A = ℕ} 0 1 = cc in omega arith)
      go false w = let C = none z in let i = C.inside in (omega arith, none_here f d r.at h C (ltb-false (length f) (r.at + 2) w) (R.0.1 z) R.1, omega arith)

  pub header_goes : (r.count ≡ 0 → ⊥) → Bodied f d r.count 0 r.at
  unfolding RecordsRead Counted
  header_goes n = bodied_start f d r.count r.at h R.0.0 R.1 (omega arith)
