-- For an accepted file and a start that is not refused the run's answer is the plain evaluation's, for every budget: number, value as a
-- tree, steps, place and frames. Assumes nothing.
use Prim.Native.Nat.{ℕ, zero, suc, max}
use mathlib.Core.Bool.{Bool, true, false}
use mathlib.Core.List.{List, [], ◌∷◌, ◌++◌, map}
use mathlib.Core.Option.{Option, none, some}
use mathlib.Core.Path.{◌≡◌, refl, ap, ◌∙◌}
use mathlib.Core.Logic.{◌⊎◌, inl, inr}
use native.Mathlib.Omega.{arith}
use lib.ListN.{get_or}
use lib.Dec.{eqb}
use Rattle.meaning.specs.Syntax.{Term, Branches, Constructor, File}
use Rattle.meaning.specs.Syntax.{GV, AT, MK, CL, TL, OP, LK, NU, AR, IF}
use Rattle.meaning.specs.Outcome.{ok}
use Rattle.meaning.specs.Plain.{Value, Values, number, node, credit, Run, value, stop, eval, evaluate, branch}
use Rattle.meaning.specs.Plain as P
use Rattle.meaning.specs.Machine.{Store, Answer, answers, run, function_of}
use Rattle.meaning.specs.Decode.{plain_args, as_plain}
use Rattle.meaning.specs.Start.{Reached, chosen, is_owned, start, answer_to}
use Rattle.meaning.specs.Verdict.{accepted}
use Rattle.meaning.specs.InPlace.{begins}
use Rattle.theory.proofs.Wellread.{accepted_well}
use Rattle.theory.proofs.Sim.{Ends, runs_as_evaluated}
use Rattle.theory.proofs.StartWords.{reached_more}
use Rattle.theory.proofs.StartExact.{is_tree, mixed}
use Rattle.theory.proofs.Started.{Started, accepted_started}
use Rattle.theory.proofs.ReadBack.{value_read}

-- the plain evaluation stops in 31, 32, 33 or 34 only
abbrev pub StopsSo : Run → Type 0
StopsSo (value v k g) = Unit {0}
StopsSo (stop n p k g) = (n ≡ 31) ⊎ ((n ≡ 32) ⊎ ((n ≡ 33) ⊎ (n ≡ 34)))

module _ (file : File) (budget : ℕ) where
  after_so : (r : Run) (f : Value → (steps depth : ℕ) → Run) → StopsSo r → ((v : Value) (k g : ℕ) → StopsSo (f v k g)) → StopsSo (P.after r f)
  after_so (value v k g) f h i = i v k g
  after_so (stop n p k g) f h i = h

  branch_so : (o : Option Term) (p k g : ℕ) (f : Term → Run) → ((t : Term) → StopsSo (f t)) → StopsSo (elim o as (λ _. Run) [ none ↦ stop 31 p (suc k) g | some u ↦ f u ])
  branch_so none p k g f h = inl refl
  branch_so (some t) p k g f h = h t

  open_so : (v : Value) (bs : Branches) (p k g : ℕ) (f : Values → Term → Run) → ((vs : Values) (t : Term) → StopsSo (f vs t))
      → StopsSo (elim v as (λ _. Run) [
        | number m ↦ stop 31 p (suc k) g
        | credit ↦ stop 31 p (suc k) g
        | node c vs ↦ elim (branch bs c) as (λ _. Run) [ none ↦ stop 31 p (suc k) g | some u ↦ f vs u ]
      ])
  open_so (number m) bs p k g f h = inl refl
  open_so credit bs p k g f h = inl refl
  open_so (node c vs) bs p k g f h = branch_so (branch bs c) p k g (f vs) (h vs)

  call_so : (b : Bool) (p k g : ℕ) (r : Run) → StopsSo r → StopsSo (elim b as (λ _. Run) [ true ↦ stop 33 p (suc k) g | false ↦ r ])
  call_so true p k g r h = inr (inr (inl refl))
  call_so false p k g r h = h

  arith_so : (o : Option ℕ) (p k g : ℕ) (f : ℕ → Run) → ((m : ℕ) → StopsSo (f m)) → StopsSo (elim o as (λ _. Run) [ none ↦ stop 34 p (suc k) g | some m ↦ f m ])
  arith_so none p k g f h = inr (inr (inr refl))
  arith_so (some m) p k g f h = h m

  if_so : (n : ℕ) (a b : Run) → StopsSo a → StopsSo b → StopsSo (elim n as (λ _. Run) [ zero ↦ a | suc _ ↦ b ])
  if_so zero a b h i = h
  if_so (suc n) a b h i = i

  budget_so : (b : Bool) (p k g : ℕ) (r : Run) → StopsSo r → StopsSo (elim b as (λ _. Run) [ true ↦ stop 32 p k g | false ↦ r ])
  budget_so true p k g r h = inr (inl refl)
  budget_so false p k g r h = h

  pub eval_so : (fuel : ℕ) (t : Term) (env : List Value) (d k g : ℕ) → StopsSo (eval file budget fuel t env d k g)
  unfolding eval
  eval_so zero t env d k g = inr (inl refl)
  eval_so (suc n) (GV p s) env d k g = budget_so (eqb k budget) p k g _ tt
  eval_so (suc n) (AT p c t) env d k g = budget_so (eqb k budget) p k g _ (eval_so n t _ d (suc k) g)
  eval_so (suc n) (MK p c r ss t) env d k g = budget_so (eqb k budget) p k g _ (eval_so n t _ d (suc k) g)
  eval_so (suc n) (CL p f ss t) env d k g =
      let args : List Value = map (λ x. get_or env x credit) ss in
      budget_so (eqb k budget) p k g _ (call_so (eqb d 32) p k g _
      (after_so (eval file budget n (P.body file budget f) args (suc d) (suc k) (max g (suc d))) (λ v k' g'. eval file budget n t (env ++ (v ∷ [])) d k' g')
      (eval_so n (P.body file budget f) args (suc d) (suc k) (max g (suc d))) (λ v k' g'. eval_so n t (env ++ (v ∷ [])) d k' g')))
  eval_so (suc n) (TL p f ss) env d k g = budget_so (eqb k budget) p k g _ (eval_so n (P.body file budget f) _ d (suc k) g)
  eval_so (suc n) (OP p s bs) env d k g = budget_so (eqb k budget) p k g _ (open_so (get_or env s credit) bs p k g _ (λ vs u. eval_so n u _ d (suc k) g))
  eval_so (suc n) (LK p s bs) env d k g = budget_so (eqb k budget) p k g _ (open_so (get_or env s credit) bs p k g _ (λ vs u. eval_so n u _ d (suc k) g))
  eval_so (suc n) (NU p m t) env d k g = budget_so (eqb k budget) p k g _ (eval_so n t _ d (suc k) g)
  eval_so (suc n) (AR p o x y t) env d k g =
      budget_so (eqb k budget) p k g _ (arith_so (P.arithmetic o (P.number_in (get_or env x credit)) (P.number_in (get_or env y credit))) p k g _ (λ m. eval_so n t _ d (suc k) g))
  eval_so (suc n) (IF p s t u) env d k g =
      budget_so (eqb k budget) p k g _ (if_so (P.number_in (get_or env s credit)) _ _ (eval_so n u env d (suc k) g) (eval_so n t env d (suc k) g))

  pub evaluate_so : (env : List Value) → StopsSo (evaluate file budget env)
  unfolding evaluate
  evaluate_so env = eval_so (suc budget) (P.body file budget 0) env 1 0 1

-- the answer is the run's
module _ (bytes : List ℕ) (file : File) (work : ℕ) (args : List ℕ) (store : Store) (budget : ℕ) (e : accepted bytes ≡ ok file) (s : start file work args store ≡ ok tt) where
  is_run : answer_to bytes work args store budget ≡ run file budget (begins file args store) 0 1
  unfolding answer_to
  is_run = rw (e, s, answer_to)

  abbrev cs : List Constructor
  cs = file.constructors

  abbrev env : List Value
  env = plain_args cs store (function_of file 0).parameters args

  -- one answer that ends as an evaluation does
  told : (t : Started file args store) (a : Answer) (r : Run) → StopsSo r → Ends file budget (function_of file 0).result t.owns store [] 1 0 a r → as_plain file a ≡ r
  told t a (value v k g) o (Ends.value l store' h q i d y n holds x) =
      ap (as_plain file) x
      ∙ ap (λ z. value z k g) (value_read cs store' (function_of file 0).result holds t.once
      (λ c m. omega (arith, y, t.stored c (owned_tree c ((t.owns_are c).0 m)))))
    where
      owned_tree : (c : ℕ) → Reached cs store (chosen is_owned (function_of file 0).parameters args) c → Reached cs store (chosen is_tree (function_of file 0).parameters args) c
      owned_tree c r = reached_more cs store (λ w i. omega (arith, mixed (function_of file 0).parameters args w)) r
  told t a (stop n p k g) o (Ends.stop store' x) = ap (as_plain file) x ∙ stopped n p k g store' o
    where
      stopped : (n p k g : ℕ) (store' : Store) → StopsSo (stop n p k g) → as_plain file (answers n 0 k p g store') ≡ stop n p k g
      stopped zero p k g store' (inl e) = absurd (omega arith)
      stopped zero p k g store' (inr (inl e)) = absurd (omega arith)
      stopped zero p k g store' (inr (inr (inl e))) = absurd (omega arith)
      stopped zero p k g store' (inr (inr (inr e))) = absurd (omega arith)
      stopped (suc n) p k g store' o = refl

  pub runs_as_plain : as_plain file (answer_to bytes work args store budget) ≡ evaluate file budget env
  runs_as_plain =
      let fine = accepted_well budget bytes file e in
      let t = accepted_started bytes file e work args store s in
      ap (as_plain file) is_run
      ∙ told t (run file budget (begins file args store) 0 1) (evaluate file budget env) (evaluate_so file budget env)
      (runs_as_evaluated file budget fine (record { checked = fine.bodies_checked 0; formed = fine.bodies_formed 0; match = t.match; once = t.once; apart = t.apart }))
