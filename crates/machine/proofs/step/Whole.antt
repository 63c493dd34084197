-- A step of the words is the defined step, and its end fits again. Assumes nothing.
use Rattle.std.proofs.Common.{◌≡◌, ℕ, suc, ◌≤◌, List, length, refl, ap, ◌∙◌, subst, arith}
use Rattle.machine.specs.Layout.{Top}
use Rattle.machine.specs.Represents.{Represents, After, Fit}
use Rattle.machine.specs.Steps.{Steps, StepsAt}
use Rattle.machine.proofs.step.Nodes.{nu_sim, at_sim, ar_sim, gv_sim, if_sim}
use Rattle.machine.proofs.step.Frames.{tl_sim, cl_sim, mk_sim, op_sim, lk_sim}
use Rattle.machine.proofs.step.Behind.{step_known}
use Rattle.meaning.specs.Syntax.{Sort, Term, File}
use Rattle.meaning.specs.Syntax as S
use Rattle.meaning.specs.Plain.{Value}
use Rattle.meaning.specs.Ownership.{Slots}
use Rattle.meaning.specs.Machine.{Held, Frame, Store, state, step}
use Rattle.meaning.specs.Machine as M
use Rattle.theory.proofs.Sim.{Ready}
use Rattle.theory.proofs.Stack.{keep, Kept}
use Rattle.standing.specs.Bytes.{mark_at}
use Rattle.meaning.specs.declared.Mark.{Mark}
use Rattle.meaning.specs.Marks.{mark_of}
use Rattle.standing.specs.Stands.{Stands}
use Rattle.standing.specs.Table.{Declared}

module _ (file : File) (budget : ℕ) (bytes decl : List ℕ) (d : Declared file bytes decl) where
  steps_at : {store store' : Store} {c c' : Top} (p m : ℕ) (k : Mark) → c.state.frame.at ≡ p → mark_at bytes p ≡ m → mark_of m ≡ k → Steps bytes decl store c store' c' → StepsAt k bytes decl store c store' c'
  steps_at {store} {store'} {c} {c'} p m k a e f s = subst (λ n. StepsAt n bytes decl store c store' c') (ap (λ q. mark_of (mark_at bytes q)) a ∙ ap mark_of e ∙ f) s.does

  -- both sides as they came: the store and the rest after a node
  pub sim : (t : Term) (hs : List Held) (store : Store) (under : List Frame) {c : Top} {nx : ℕ} (r : Represents file bytes store c (state store t hs under)) → suc (length under) ≤ c.state.most
      → {result : Sort} {slots : Slots} {env : List Value} {F A : List ℕ} → Ready file budget t result slots hs env store F A → Stands file bytes (length hs) t nx
      → {store' : Store} {c' : Top} → Steps bytes decl store c store' c' → After file bytes c.state.most store store' c' (step file (state store t hs under))
  unfolding mark_of
  sim (S.NU p n t) hs store under r m ready (Stands.NU a b e l q x) s =
      let k = steps_at p 20053 Mark.NU r.here a refl s in rw (k.0, k.1) (nu_sim file budget bytes decl r m e l q x)
  sim (S.AT p n t) hs store under r m ready (Stands.AT a b e l q x) s =
      let k = steps_at p 16724 Mark.AT r.here a refl s in rw (k.0, k.1) (at_sim file budget bytes decl r m e l q x)
  sim (S.AR p o x y t) hs store under r m ready (Stands.AR a b e f g l q z) s =
      let k = steps_at p 16722 Mark.AR r.here a refl s in rw (k.0, k.1) (ar_sim file budget bytes decl r m ready e f g l q z)
  sim (S.GV p x) hs store under r m ready (Stands.GV a b e n) s =
      let k = steps_at p 18262 Mark.GV r.here a refl s in rw (k.0, k.1) (gv_sim file budget bytes decl under r m ready e)
  sim (S.IF p x t u) hs store under r m ready (Stands.IF a b e q y f z) s =
      if_sim file budget bytes decl d r m ready e q y f z (steps_at p 18758 Mark.IF r.here a refl s)
  sim (S.TL p f ss) hs store under r m ready (Stands.TL a b e g h i n) s =
      let k = steps_at p 21580 Mark.TL r.here a refl s in rw (k.0, k.1) (tl_sim file budget bytes decl d r m ready e g h i)
  sim (S.CL p f ss t) hs store under r m ready (Stands.CL a b e g h i l q x) s =
      let k = steps_at p 17228 Mark.CL r.here a refl s in rw (k.0, k.1) (cl_sim file budget bytes decl d r m ready e g h i l q x)
  sim (S.MK p c x ss t) hs store under r m ready (Stands.MK a b e f g h i l q y) s =
      let k = steps_at p 19787 Mark.MK r.here a refl s in rw (k.0, k.1) (mk_sim file budget bytes decl d r m ready e f g h i l q y)
  sim (S.OP p x bs) hs store under r m ready (Stands.OP a b e f y) s =
      op_sim file budget bytes decl d r m ready e f y (steps_at p 20304 Mark.OP r.here a refl s)
  sim (S.LK p x bs) hs store under r m ready (Stands.LK a b e f y) s =
      lk_sim file budget bytes decl d r m ready e f y (steps_at p 19531 Mark.LK r.here a refl s)

-- the same from what fits
module _ {bytes decl store : List ℕ} {c : Top} (f : Fit bytes decl store c) where
  pub fit_sim : {store' : List ℕ} {c' : Top} → Steps bytes decl store c store' c' → After f.file bytes c.state.most f.st.store store' c' (step f.file f.st)
  fit_sim {store'} {c'} s =
      let e = f.represents.same in
      let r : Represents f.file bytes f.st.store c f.st = subst (λ x. Represents f.file bytes x c f.st) e f.represents in
      sim f.file f.budget bytes decl f.declared f.st.top.todo f.st.top.slots f.st.store f.st.under r f.most f.whole.ready r.stands
      (subst (λ x. Steps bytes decl x c store' c') e s)

  unfoldable pub fit_next : {store' : List ℕ} {c' : Top} {st' : M.State} → Steps bytes decl store c store' c' → step f.file f.st ≡ M.next st' → Fit bytes decl store' c'
  fit_next {store'} {c'} {st'} s e =
      let a = subst (λ x. After f.file bytes c.state.most f.st.store store' c' x) e (fit_sim s) in
      let w = subst (λ x. Kept f.file f.budget f.final f.All f.before f.st.store x) e
      (keep f.file f.budget f.final f.All f.fine f.once f.before f.st.top.todo f.st.top.slots f.st.store f.st.under f.whole) in
      record {
        file = f.file;
        declared = f.declared;
        budget = f.budget;
        final = f.final;
        All = f.All;
        before = f.before;
        st = st';
        represents = a.0;
        whole = w;
        fine = f.fine;
        once = f.once;
        most = let z = a.2 in omega arith;
        high = omega (arith, a.2, a.0.deep, f.high);
        known = step_known f s;
      }
