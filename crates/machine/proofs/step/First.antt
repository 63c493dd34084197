-- The words of a start that is not refused fit for the defined first state. Assumes nothing.
use Rattle.std.proofs.Common.{◌≡◌, ℕ, ◌≤◌, List, [], ◌∷◌, map, length, drop, sym, refl, ap, ◌∙◌, subst, arith}
use Rattle.meaning.specs.Syntax.{Mode}
use Rattle.meaning.specs.Ownership.{bind, kind_of}
use Rattle.meaning.specs.Machine.{Held, held, function_of, body_of, run, Answer}
use Rattle.meaning.specs.Start.{begin}
use Rattle.meaning.specs.InPlace.{begins}
use Rattle.meaning.specs.Decode.{plain_args}
use Rattle.theory.proofs.Stack.{Whole, bottom}
use Rattle.theory.proofs.Wellread.{accepted_well}
use Rattle.standing.specs.Stands.{Stands}
use Rattle.machine.specs.Layout.{Top, laid, first_of}
use Rattle.machine.specs.Represents.{Agrees, Represents, Fit, Begun}
use Rattle.machine.proofs.frame.Laid.{laid_at, laid_length, laid_after, laid_behind}
use Rattle.machine.proofs.step.Words.{words_make}
use Rattle.machine.proofs.step.Laying.{Pairs, both, pairs_length, pairs_at}

first_pairs : (ms : List Mode) (ws : List ℕ) → length ws ≡ length ms → Pairs (begin ms ws) ws
first_pairs [] [] e = Pairs.none
first_pairs [] (w ∷ ws) e = absurd (omega arith)
first_pairs (m ∷ ms) [] e = absurd (omega arith)
first_pairs (Mode.number ∷ ms) (w ∷ ws) e = both refl (first_pairs ms ws (omega arith))
first_pairs (Mode.lent ∷ ms) (w ∷ ws) e = both refl (first_pairs ms ws (omega arith))
first_pairs (Mode.owned ∷ ms) (w ∷ ws) e = both refl (first_pairs ms ws (omega arith))

module _ {bytes decl args store work : List ℕ} (b : Begun bytes decl args store work) where
  abbrev modes : List Mode
  modes = (function_of b.file 0).parameters

  abbrev slots : List Held
  slots = begin modes args

  long : length slots ≡ length args
  long = pairs_length (first_pairs modes args b.many)

  few : length args ≤ 8
  few = omega (arith, b.many, b.declared.few 0)

  first_whole : Whole b.file 0 (function_of b.file 0).result b.started.owns store (begins b.file args store)
  first_whole =
      let fine = accepted_well 0 bytes b.file b.accepts in
      record {
        result = (function_of b.file 0).result;
        slots = bind [] (map kind_of modes);
        env = plain_args b.file.constructors store modes args;
        own = b.started.owns;
        lents = b.started.lends;
        ready = record {
          checked = fine.bodies_checked 0;
          formed = fine.bodies_formed 0;
          match = b.started.match;
          once = b.started.once;
          apart = b.started.apart;
        };
        below = bottom;
        size = refl;
        outside = λ c n i m. refl;
      }

  first_represents : Represents b.file bytes store (first_of decl args work) (begins b.file args store)
  unfolding first_of
  first_represents =
      let d = b.declared in
      record {
        same = refl;
        here = d.bodies 0 d.first;
        next = d.ends 0;
        stands = subst (λ k. Stands b.file bytes k (body_of b.file 0) (d.ends 0)) (sym (long ∙ b.many)) (d.stands 0 d.first);
        depth = refl;
        deep = omega arith;
        bound = sym long;
        few = omega (arith, long, few);
        words = words_make (laid work 0 args) 0 slots
            (λ i l. subst (λ x. Agrees (held slots i) x) (sym (laid_at work 0 args i (omega (arith, long)) (omega (arith, few, b.room)))) (pairs_at (first_pairs modes args b.many) i l));
        saved = tt;
        room = rw (laid_length work 0 args) b.room;
      }

  unfoldable first_fits : Fit bytes decl store (first_of decl args work)
  unfolding first_of
  first_fits =
      record {
        file = b.file;
        declared = b.declared;
        budget = 0;
        final = (function_of b.file 0).result;
        All = b.started.owns;
        before = store;
        st = begins b.file args store;
        represents = first_represents;
        whole = first_whole;
        fine = accepted_well 0 bytes b.file b.accepts;
        once = b.started.once;
        most = omega arith;
        high = omega arith;
        known = λ q l m h. let z = laid_after work 0 args q (omega (arith, few)) ∙ b.clear q l m in absurd (omega (arith, z, h));
      }

  pub first_fit : {c : Top} → c ≡ first_of decl args work → Fit bytes decl store c
  first_fit e = subst (λ x. Fit bytes decl store x) (sym e) first_fits

  pub first_small : (length args ≤ 32) × (4096 ≤ length work)
  first_small = (omega (arith, few), b.room)

  pub first_behind : {c : Top} → c ≡ first_of decl args work → drop 4096 c.work ≡ drop 4096 work
  unfolding first_of
  first_behind e = ap (λ (x : Top). drop 4096 x.work) e ∙ laid_behind 4096 work 0 args (omega (arith, few))

  -- a run from there is the defined run
  pub first_run : (limit : ℕ) {c : Top} {a : Answer} → c ≡ first_of decl args work → ((f : Fit bytes decl store c) → a ≡ run f.file limit f.st 0 c.state.most)
      → a ≡ run b.file limit (begins b.file args store) 0 1
  unfolding first_fits first_of
  first_run limit {c} {a} e r = subst (λ x. (f : Fit bytes decl store x) → a ≡ run f.file limit f.st 0 x.state.most) e r first_fits
