-- The bodies: behind the functions, one body more, and the end of the file. Assumes nothing.
use Prim.Native.Nat.{ℕ, zero, suc, ◌+◌, ◌-◌, ◌*◌, ◌≤◌, ◌<◌}
use mathlib.Core.List.{List, [], ◌∷◌, ◌++◌, map, append_assoc, append-nil, map-append}
use mathlib.Core.Bool.{Bool, true, false}
use mathlib.Core.Option.{some}
use mathlib.Core.Logic.{inl, inr, ⊎_elim}
use mathlib.Core.Path.{◌≡◌, refl, sym, ap, ◌∙◌, subst}
use lib.ListN.{length, drop, get_or, set, get_elem?, drop_of_length-le, length-append, length-set, length-map}
use lib.Seq.{drop-cons, get_or-append_seam}
use lib.Dec.{leb, ltb, eqb}
use native.Mathlib.Omega.{arith}
use borrow.Author.Tests.{leb-true, leb-false, ltb-true, ltb-false, eqb-true, eqb-false, le-leb, lt-leb, lt-ltb, le-ltb}
use Rattle.meaning.specs.Choice.{pick}
use Rattle.meaning.specs.Syntax.{Sort, Signature, Constructor, Term, File}
use Rattle.meaning.specs.Outcome.{Outcome, ok, refuse, then}
use Rattle.meaning.specs.Plain.{place_of, no_body}
use Rattle.meaning.specs.Machine.{body_of}
use Rattle.meaning.specs.declared.Mark.{Mark}
use Rattle.meaning.specs.declared.Mark.TheVariants.{CN, FN, BD, ND}
use Rattle.meaning.specs.Marks.{code, number_of, mark_of, find_mark}
use Rattle.meaning.specs.Reading.{ensure, expect, term, header, bodies, between, finish, read}
use Rattle.meaning.proofs.Table.{is_BD, is_ND}
use Rattle.theory.proofs.Taking.{steps_ok}
use Rattle.theory.proofs.Taking as taking
use Rattle.standing.specs.Bytes.{mark_at, number_at}
use Rattle.standing.specs.Table.{table_of}
use Rattle.standing.proofs.Readers.{two_gen, ensure_gen}
use Rattle.checker.specs.Read.{Read, Next, Fault}
use Rattle.checker.specs.ReadingBytes.{path, known_count, on_next, expect_at, finish_at, end_at}
use Rattle.checker.specs.Reads.{span_of, count_of, From, on, off, ReadsTerm}
use Rattle.checker.specs.Opening.{table_with, Headed, Refused, left_over, Bodied, ReadsBody, Ends}
use Rattle.checker.proofs.reading.Heads.{head_kept}
use Rattle.checker.proofs.reading.Named.{named, mark_is}
use Rattle.checker.proofs.reading.Spans.{Spans, went, fell, bind, within}
use Rattle.checker.proofs.reading.Cycle.{t_of, spans}
use Rattle.checker.proofs.reading.Steps.{from_fault, from_pick, short, wrong, expect_next}
use Rattle.checker.proofs.reading.Tabled.{table_body}
use Rattle.checker.proofs.reading.Places.{term_place}
use Rattle.checker.proofs.reading.Heading.{head_short, opens, not_here}
use Rattle.checker.proofs.reading.Opened.{declares_body}

-- what a read of the code says of the reader of trees
span_next : {A : Type 0} {f : List ℕ} {lo n : ℕ} {o : Outcome (A × ℕ × List ℕ)} {r : Read} → Spans f lo o r → r ≡ Next n → (a : A) × (o ≡ ok (a, n, drop n f))
span_next {f = f} {n = m} (went {a = a} {n = n} e l h) q = let z : n ≡ m = cc in (a, ap (λ b. ok (a, n, b)) e ∙ ap (λ k. ok (a, k, drop k f)) z)
span_next fell q = let z : ◌≡◌ {A = ℕ} 0 1 = cc in absurd (omega arith)

span_fault : {A : Type 0} {f : List ℕ} {lo x p : ℕ} {o : Outcome (A × ℕ × List ℕ)} {r : Read} → Spans f lo o r → r ≡ Fault x p → o ≡ refuse x p
span_fault (went e l h) q = let z : ◌≡◌ {A = ℕ} 0 1 = cc in absurd (omega arith)
span_fault (fell {x = y} {p = z}) q = cc

module _ (f : List ℕ) where
  -- a mark that must stand here
  expect_spans : (word m : ℕ) → ((w : ℕ) → eqb (find_mark w) m ≡ eqb w word) → (at : ℕ) → at ≤ length f → Spans f (at + 2) (expect word at (drop at f)) (expect_at f at m)
  unfolding expect expect_at pick
  expect_spans word m is at h =
      subst (λ o. Spans f (at + 2) o (expect_at f at m)) (same (expect word at (drop at f)))
      (two_gen f Goal (λ x y. ensure 3 at (eqb (x * 256 + y) word)) at ok h (λ l. off (rw (lt-ltb (length f) (at + 2) l)))
      (λ l. ensure_gen f Goal 3 at (at + 2) (drop (at + 2) f) (eqb (mark_at f at) word) ok
      (λ q. off (rw (le-ltb (length f) (at + 2) l, is (mark_at f at), q)))
      (λ q. subst (Spans f (at + 2) _) (sym (on l q)) (let z : at + 2 ≤ at + 2 = omega arith in went refl z l))))
    where
      Goal : Outcome (Unit {0} × ℕ × List ℕ) → Type 0
      Goal o = Spans f (at + 2) o (expect_at f at m)

      same : (o : Outcome (Unit {0} × ℕ × List ℕ)) → then o ok ≡ o
      same (ok a) = refl
      same (refuse x p) = refl

      off : {x p : ℕ} → expect_at f at m ≡ Fault x p → Goal (refuse x p)
      off {x} {p} e = subst (Spans f (at + 2) (refuse x p)) (sym e) fell

      on : at + 2 ≤ length f → eqb (mark_at f at) word ≡ true → expect_at f at m ≡ Next (at + 2)
      on l q = rw (le-ltb (length f) (at + 2) l, is (mark_at f at), q)

  finish_spans : (at : ℕ) → at ≤ length f → Spans f at (finish at (drop at f)) (finish_at f at)
  unfolding finish finish_at pick
  finish_spans at h = go (leb (length f) at) refl
    where
      go : (u : Bool) → leb (length f) at ≡ u → Spans f at (finish at (drop at f)) (finish_at f at)
      go true e =
          let l = leb-true (length f) at e in
          let z : at ≤ at = omega arith in
          subst (λ b. Spans f at (finish at b) (finish_at f at)) (sym (drop_of_length-le f l)) (rw (le-ltb at (length f) l) (went (sym (drop_of_length-le f l)) z h))
      go false e =
          let l = leb-false (length f) at e in
          subst (λ b. Spans f at (finish at b) (finish_at f at)) (sym (drop-cons f at 0 l)) (rw (lt-ltb at (length f) l) fell)

  module _ (cs : List Constructor) (fs : List Signature) (n : ℕ) where
    -- the last: ND, and nothing behind it
    none_left : (at : ℕ) → at ≤ length f → Spans f at (bodies n cs fs [] at (drop at f)) (on_next (expect_at f at 3) (λ b. finish_at f b))
    unfolding bodies
    none_left at h =
        bind _ _ (expect_spans (code ND) 3 is_ND at h) (λ a b l l'. within (finish b (drop b f)) _ (omega arith) (finish_spans b l'))

  -- BD, by the code and by the reader of trees
  expect_goes : (at n : ℕ) → at ≤ length f → expect_at f at 2 ≡ Next n → expect (code BD) at (drop at f) ≡ ok (tt, n, drop n f)
  expect_goes at n h q = (span_next (expect_spans (code BD) 2 is_BD at h) q).1

  expect_stops : (at x p : ℕ) → at ≤ length f → expect_at f at 2 ≡ Fault x p → expect (code BD) at (drop at f) ≡ refuse x p
  expect_stops at x p h q = span_fault (expect_spans (code BD) 2 is_BD at h) q

  -- behind the functions the header goes on as `bodies` does between two of them
  abbrev opened : ℕ → List Constructor → List Signature → Unit {0} × ℕ × List ℕ → Outcome (File × ℕ × List ℕ)
  opened size cs fs u = then (bodies size cs fs fs u.1 u.2) (λ r. ok (record { constructors = cs; functions = fs; bodies = r.0 }, r.1, r.2))

  mark_number : (at : ℕ) (m : Mark) → mark_of (mark_at f at) ≡ m → find_mark (mark_at f at) ≡ number_of m
  unfolding find_mark
  mark_number at m e = ap number_of e

  number_long : (at : ℕ) → at + 2 ≤ length f → number_at f at ≡ find_mark (mark_at f at)
  unfolding number_at pick
  number_long at h = rw (le-ltb (length f) (at + 2) h)

  at_expect : (at : ℕ) (u : Bool) → ltb (length f) (at + 2) ≡ u → (v : Bool) → eqb (find_mark (mark_at f at)) 2 ≡ v
      → expect_at f at 2 ≡ pick u (Fault 2 (length f)) (pick v (Next (at + 2)) (Fault 3 at))
  unfolding expect_at
  at_expect at u eu v ev = rw (eu, ev)

  header_opens : (m size : ℕ) (cs : List Constructor) (fs : List Signature) (at : ℕ) → at ≤ length f → 0 < length fs → (number_at f at ≡ 1 → ⊥)
      → header (suc m) size cs fs at (drop at f) ≡ then (expect (code BD) at (drop at f)) (opened size cs fs)
  unfolding pick named number_of
  header_opens m size cs [] at h k no_fun = absurd (omega arith)
  header_opens m size cs (g ∷ fs) at h k no_fun = go (ltb (length f) (at + 2)) refl (eqb (find_mark (mark_at f at)) 2) refl
    where
      go : (u : Bool) → ltb (length f) (at + 2) ≡ u → (v : Bool) → eqb (find_mark (mark_at f at)) 2 ≡ v
          → header (suc m) size cs (g ∷ fs) at (drop at f) ≡ then (expect (code BD) at (drop at f)) (opened size cs (g ∷ fs))
      go true eu v ev =
          head_short f m size cs (g ∷ fs) at h (ltb-true (length f) (at + 2) eu)
          ∙ sym (ap (λ o. then o (opened size cs (g ∷ fs))) (expect_stops at 2 (length f) h (at_expect at true eu v ev)))
      go false eu true ev =
          opens f m size cs g fs at (ltb-false (length f) (at + 2) eu) (mark_is (mark_at f at) 2 (eqb-true (find_mark (mark_at f at)) 2 ev))
          ∙ sym (ap (λ o. then o (opened size cs (g ∷ fs))) (expect_goes at (at + 2) h (at_expect at false eu true ev)))
      go false eu false ev =
          let l = ltb-false (length f) (at + 2) eu in
          not_here f m size cs (g ∷ fs) at l (λ e. no_fun (number_long at l ∙ mark_number at FN e)) (λ e _. eqb-false (find_mark (mark_at f at)) 2 ev (mark_number at BD e)) (λ e z. omega arith)
          ∙ sym (ap (λ o. then o (opened size cs (g ∷ fs))) (expect_stops at 3 at h (at_expect at false eu false ev)))

  -- ---- the whole file
  read_is : length f ≤ 4096 → read f ≡ then (header (suc (length f)) (length f) [] [] 0 f) (λ r. ok r.0)
  unfolding read
  read_is h = rw (read, le-leb (length f) 4096 h)

  pub too_long : 4096 < length f → read f ≡ refuse 1 0
  unfolding read
  too_long h = rw (read, lt-leb (length f) 4096 h)

  pub refused : (x p : ℕ) → length f ≤ 4096 → Refused f x p → read f ≡ refuse x p
  unfolding Refused
  refused x p h R = read_is h ∙ ap (λ o. then o (λ r. ok r.0)) (R.2 (suc (length f)) (length f) (omega arith))

  read_headed : (d : List ℕ) (k at : ℕ) → length f ≤ 4096 → (C : Headed f d k at)
      → read f ≡ then (header (suc (length f - (length C.constructors + k))) (length f) C.constructors C.functions at (drop at f)) (λ r. ok r.0)
  read_headed d k at h C =
      let a = C.reached in
      let b = C.inside in
      let m = length f - (length C.constructors + k) in
      let z : suc (length f) ≡ suc m + (length C.constructors + k) = omega arith in
      read_is h ∙ ap (λ o. then o (λ r. ok r.0)) (ap (λ j. header j (length f) [] [] 0 f) z ∙ C.reads (suc m) (length f))

  -- a file without a function
  module _ (d : List ℕ) (at : ℕ) (h : length f ≤ 4096) (C : Headed f d 0 at) where
    pub none_short : length f < at + 2 → read f ≡ refuse 2 (length f)
    none_short l = read_headed d 0 at h C ∙ ap (λ o. then o (λ r. ok r.0)) (head_short f _ (length f) C.constructors C.functions at C.inside l)

    pub none_here : at + 2 ≤ length f → (number_at f at ≡ 0 → ⊥) → (number_at f at ≡ 1 → ⊥) → read f ≡ refuse 3 at
    unfolding number_of
    none_here l no_con no_fun =
        let n = C.count in
        read_headed d 0 at h C ∙ ap (λ o. then o (λ r. ok r.0))
        (not_here f _ (length f) C.constructors C.functions at l (λ e. no_fun (number_long at l ∙ mark_number at FN e)) (λ e k. omega arith) (λ e _. no_con (number_long at l ∙ mark_number at CN e)))

-- ---- outcomes one after the other
make : List Constructor → List Signature → List Term → File
make cs fs ts = record { constructors = cs; functions = fs; bodies = ts }

abbrev keep : (List Term → File) → List Term × ℕ × List ℕ → Outcome (File × ℕ × List ℕ)
keep mk r = ok (mk r.0, r.1, r.2)

abbrev put : Term → List Term × ℕ × List ℕ → Outcome (List Term × ℕ × List ℕ)
put t r = ok (t ∷ r.0, r.1, r.2)

flat : {X : Type 0} (E : Outcome X) (b : X → Outcome (List Term × ℕ × List ℕ)) (mk : List Term → File)
    → then (then E (λ u. then (b u) (keep mk))) (λ r. ok r.0) ≡ then E (λ u. then (b u) (λ r. ok (mk r.0)))
flat {X} (refuse x p) b mk = refl
flat {X} (ok u) b mk = go (b u)
  where
    go : (o : Outcome (List Term × ℕ × List ℕ)) → then (then o (keep mk)) (λ r. ok r.0) ≡ then o (λ r. ok (mk r.0))
    go (ok r) = refl
    go (refuse x p) = refl

one_more : {X : Type 0} (E : Outcome X) (b : X → Outcome (List Term × ℕ × List ℕ)) (cs : List Constructor) (fs : List Signature) (done : List Term) (t : Term)
    → then (then E (λ u. then (b u) (put t))) (λ r. ok (make cs fs (done ++ r.0))) ≡ then E (λ u. then (b u) (λ r. ok (make cs fs (done ++ (t ∷ []) ++ r.0))))
one_more {X} (refuse x p) b cs fs done t = refl
one_more {X} (ok u) b cs fs done t = go (b u)
  where
    go : (o : Outcome (List Term × ℕ × List ℕ)) → then (then o (put t)) (λ r. ok (make cs fs (done ++ r.0))) ≡ then o (λ r. ok (make cs fs (done ++ (t ∷ []) ++ r.0)))
    go (ok r) = ap (λ l. ok (make cs fs l)) (sym (append_assoc done (t ∷ []) r.0))
    go (refuse x p) = refl

ok_is : {A : Type 0} {a b : A} → ok a ≡ ok b → a ≡ b
ok_is e = cc

-- ---- a list's entry
nobody : Signature
nobody = record { parameters = []; result = Sort.number }

nth_some : {A : Type 0} (xs : List A) (j : ℕ) (e : A) → j < length xs → get_elem? xs j ≡ some (get_or xs j e)
nth_some [] j e h = absurd (omega arith)
nth_some (x ∷ xs) zero e h = refl
nth_some (x ∷ xs) (suc j) e h = nth_some xs j e (omega arith)

-- ---- no body is read yet
pub bodied_start : (f d : List ℕ) (k at : ℕ) → length f ≤ 4096 → Headed f d k at → (number_at f at ≡ 1 → ⊥) → 0 < k → Bodied f d k 0 at
unfolding left_over make
bodied_start f d k at h C no_fun l =
    let n = C.count in
    record {
      constructors = C.constructors;
      functions = C.functions;
      terms = [];
      declares = C.declares;
      table = C.table;
      wide = C.wide;
      functions_count = C.count;
      few = C.few;
      few_functions = C.few_functions;
      heads = C.heads;
      done = refl;
      inside = C.inside;
      reads = read_headed f d k at h C
          ∙ ap (λ o. then o (λ r. ok r.0)) (header_opens f _ (length f) C.constructors C.functions at C.inside (omega arith) no_fun)
          ∙ flat (expect (code BD) at (drop at f)) (λ u. bodies (length f) C.constructors C.functions C.functions u.1 u.2) (make C.constructors C.functions)
          ∙ starts C.constructors C.functions (omega arith);
    }
  where
    starts : (cs : List Constructor) (fs : List Signature) → 0 < length fs
        → then (expect (code BD) at (drop at f)) (λ u. then (bodies (length f) cs fs fs u.1 u.2) (λ r. ok (make cs fs r.0))) ≡ left_over f cs fs [] (drop 0 fs) at
    starts cs [] q = absurd (omega arith)
    starts cs (g ∷ fs) q = refl

-- ---- one body more
module _ (f d : List ℕ) (count j at : ℕ) (C : Bodied f d count j at) (h : j < count) where
  cs : List Constructor
  cs = C.constructors

  fs : List Signature
  fs = C.functions

  this : Signature
  this = get_or fs j nobody

  rest : List Signature
  rest = drop (suc j) fs

  inside_list : j < length fs
  unfolding fs
  inside_list = let n = C.functions_count in omega arith

  slots_are : known_count d j ≡ length this.parameters
  unfolding count_of this fs
  slots_are = C.declares.counts j ∙ ap count_of (nth_some fs j nobody inside_list)

  pub few_slots : known_count d j ≤ 8
  unfolding this fs
  few_slots = subst (λ n. n ≤ 8) (sym slots_are) (C.declares.few_parameters j this (nth_some fs j nobody inside_list))

  abbrev last : List Term → List Term × ℕ × List ℕ → Outcome File
  last done r = ok (make cs fs (done ++ r.0))

  this_term : Outcome (Term × ℕ × List ℕ)
  this_term = term cs fs (length f) (length this.parameters) 0 (at + 2) (drop (at + 2) f)

  abbrev behind : Term × ℕ × List ℕ → Outcome (List Term × ℕ × List ℕ)
  behind r = then (between rest r.1 r.2) (λ u. then (bodies (length f) cs fs rest u.1 u.2) (λ s. ok (r.0 ∷ s.0, s.1, s.2)))

  reads_on : read f ≡ then (expect (code BD) at (drop at f)) (λ u. then (bodies (length f) cs fs (this ∷ rest) u.1 u.2) (last C.terms))
  unfolding left_over cs fs make this rest
  reads_on = C.reads ∙ ap (λ l. left_over f cs fs C.terms l at) (drop-cons fs j nobody inside_list)

  reads_term : expect_at f at 2 ≡ Next (at + 2) → read f ≡ then (then this_term behind) (last C.terms)
  unfolding bodies this_term
  reads_term q = reads_on ∙ ap (λ o. then o (λ u. then (bodies (length f) cs fs (this ∷ rest) u.1 u.2) (last C.terms))) (expect_goes f at (at + 2) C.inside q)

  told : (r : Read) → expect_at f at 2 ≡ Next (at + 2) → ReadsTerm f d (at + 2) (path (known_count d j) 0) r → span_of this_term ≡ r
  unfolding ReadsTerm this_term cs fs
  told r q t =
      let e = expect_next f at 2 (at + 2) q in
      sym (t cs fs C.declares (length f) (omega (arith, e.1)) ∙ ap (λ s. t_of f cs fs (length f) (at + 2) (path s 0)) slots_are)

  term_spans : expect_at f at 2 ≡ Next (at + 2) → Spans f (suc (at + 2)) this_term (span_of this_term)
  unfolding this_term cs fs
  term_spans q = let e = expect_next f at 2 (at + 2) q in (spans f d cs fs C.declares (length f)).0 (length this.parameters) 0 (at + 2) e.1

  pub body_fails : (x p : ℕ) → ReadsBody f d at j (Fault x p) → read f ≡ refuse x p
  unfolding ReadsBody
  body_fails x p R = ⊎_elim marked within R
    where
      marked : (y z : ℕ) × (expect_at f at 2 ≡ Fault y z) × (Fault x p ≡ Fault y z) → read f ≡ refuse x p
      marked m = reads_on ∙ ap (λ o. then o (λ u. then (bodies (length f) cs fs (this ∷ rest) u.1 u.2) (last C.terms))) (expect_stops f at x p C.inside (m.2 ∙ sym m.3))

      within : (expect_at f at 2 ≡ Next (at + 2)) × ReadsTerm f d (at + 2) (path (known_count d j) 0) (Fault x p) → read f ≡ refuse x p
      within m = reads_term m.0 ∙ ap (λ o. then (then o behind) (last C.terms)) (span_fault (term_spans m.0) (told (Fault x p) m.0 m.1))

  pub body_goes : (n : ℕ) → ReadsBody f d at j (Next n) → n ≤ length f → Bodied f (set d (96 + j) (at + 2)) count (j + 1) n
  unfolding ReadsBody cs fs rest left_over make this_term
  body_goes n R l = ⊎_elim marked within R
    where
      marked : (y z : ℕ) × (expect_at f at 2 ≡ Fault y z) × (Next n ≡ Fault y z) → Bodied f (set d (96 + j) (at + 2)) count (j + 1) n
      marked m = let e = m.3 in let z : ◌≡◌ {A = ℕ} 0 1 = cc in absurd (omega arith)

      goes : (t : Term) → expect_at f at 2 ≡ Next (at + 2) → this_term ≡ ok (t, n, drop n f) → Bodied f (set d (96 + j) (at + 2)) count (j + 1) n
      goes t q e =
          let p : place_of t ≡ at + 2 = term_place cs fs (length f) (length this.parameters) 0 (at + 2) (drop (at + 2) f) t n (drop n f) e in
          let k = C.done in
          let c = C.functions_count in
          let w = C.few_functions in
          let y = length-map C.terms place_of in
          let z : suc j ≡ j + 1 = omega arith in
          record {
            constructors = cs;
            functions = fs;
            terms = C.terms ++ (t ∷ []);
            declares = declares_body d cs fs (96 + j) (at + 2) C.declares (omega arith);
            table = ap (λ x. set x (96 + j) (at + 2)) C.table ∙ ap (λ i. set (table_with cs fs (map place_of C.terms)) (96 + i) (at + 2)) (sym (y ∙ k))
                ∙ table_body cs fs (map place_of C.terms) (at + 2) C.few (omega arith) (omega arith)
                ∙ ap (table_with cs fs) (ap (λ v. map place_of C.terms ++ (v ∷ [])) (sym p) ∙ sym (map-append place_of C.terms (t ∷ [])));
            wide = length-set d (96 + j) (at + 2) ∙ C.wide;
            functions_count = c;
            few = C.few;
            few_functions = w;
            heads = λ g v. head_kept (96 + j) (at + 2) (λ i. omega (arith, i, v, w)) (C.heads g v);
            done = length-append C.terms (t ∷ []) ∙ ap (λ i. i + 1) k;
            inside = l;
            reads = reads_term q ∙ ap (λ o. then (then o behind) (last C.terms)) e
                ∙ one_more (between rest n (drop n f)) (λ u. bodies (length f) cs fs rest u.1 u.2) cs fs C.terms t
                ∙ ap (λ i. left_over f cs fs (C.terms ++ (t ∷ [])) (drop i fs) n) z;
          }

      within : (expect_at f at 2 ≡ Next (at + 2)) × ReadsTerm f d (at + 2) (path (known_count d j) 0) (Next n) → Bodied f (set d (96 + j) (at + 2)) count (j + 1) n
      within m = let t = span_next (term_spans m.0) (told (Next n) m.0 m.1) in goes t.0 m.0 t.1

  -- a file that is read has these declarations, and its j-th body stands behind the BD
  abbrev pub Here : File → Type 0
  Here file = (file.constructors ≡ C.constructors) × (file.functions ≡ C.functions) × (place_of (body_of file j) ≡ at + 2)

  pub body_here : (file : File) → read f ≡ ok file → Here file
  unfolding ReadsBody cs fs make this_term
  body_here file e = go (expect_at f at 2) refl
    where
      made : (t : Term) (s z : List Term × ℕ × List ℕ) → place_of t ≡ at + 2 → ok (t ∷ z.0, z.1, z.2) ≡ ok s → last C.terms s ≡ ok file → Here file
      made t s z p e₁ e₂ =
          let q : make cs fs (C.terms ++ (t ∷ z.0)) ≡ file = ap (λ r. make cs fs (C.terms ++ r.0)) (ok_is e₁) ∙ ok_is e₂ in (
            sym (ap (λ x. x.constructors) q),
            sym (ap (λ x. x.functions) q),
            ap place_of (sym (ap (λ x. get_or x.bodies j no_body) q) ∙ ap (λ i. get_or (C.terms ++ (t ∷ z.0)) i no_body) (sym C.done) ∙ get_or-append_seam C.terms t z.0 no_body) ∙ p,
          )

      within : expect_at f at 2 ≡ Next (at + 2) → Here file
      within q =
          let u = steps_ok (then this_term behind) (last C.terms) (sym (reads_term q) ∙ e) in
          let v = steps_ok this_term behind u.1 in
          let w = steps_ok (between rest v.0.1 v.0.2) _ v.2 in
          let y = steps_ok (bodies (length f) cs fs rest w.0.1 w.0.2) _ w.2 in
          let p = term_place cs fs (length f) (length this.parameters) 0 (at + 2) (drop (at + 2) f) v.0.0 v.0.1 v.0.2 v.1 in
          made v.0.0 u.0 y.0 p y.2 u.2

      go : (r : Read) → expect_at f at 2 ≡ r → Here file
      go (Fault x p) q = absurd (taking.refused (sym (body_fails x p (inl (x, p, q, refl))) ∙ e))
      go (Next n) q = let x = expect_next f at 2 n q in within (q ∙ ap Next x.0)

-- ---- the end of the file
data Empty : Outcome (List Term × ℕ × List ℕ) → Type 0 where
  empty : {n : ℕ} {rest : List ℕ} → Empty (ok ([], n, rest))
  nothing : {x p : ℕ} → Empty (refuse x p)

empty_then : {A : Type 0} (o : Outcome A) {k : A → Outcome (List Term × ℕ × List ℕ)} → ((a : A) → Empty (k a)) → Empty (then o k)
empty_then (ok a) h = h a
empty_then (refuse x p) h = nothing

no_bodies : (n : ℕ) (cs : List Constructor) (fs : List Signature) (at : ℕ) (bytes : List ℕ) → Empty (bodies n cs fs [] at bytes)
unfolding bodies
no_bodies n _ _ at bytes = empty_then (expect (code ND) at bytes) (λ u. empty_then (finish u.1 u.2) (λ v. empty))

ended_then : (cs : List Constructor) (fs : List Signature) (ts : List Term) (o : Outcome (List Term × ℕ × List ℕ)) {l : List Term} {n : ℕ} {b : List ℕ} → Empty o → o ≡ ok (l, n, b)
    → then o (λ r. ok (make cs fs (ts ++ r.0))) ≡ ok (make cs fs ts)
ended_then cs fs ts (ok (k, n, b)) empty e = ap (λ x. ok (make cs fs x)) (append-nil ts)
ended_then cs fs ts (refuse x p) nothing e = let z : ◌≡◌ {A = ℕ} 0 1 = cc in absurd (omega arith)

from_expect : (f : List ℕ) (at m : ℕ) → at ≤ length f → From f at (expect_at f at m)
unfolding expect_at
from_expect f at m h =
    from_pick _ short (λ e.
    let a : at ≤ at + 2 = omega arith in
    from_pick _ (on a (ltb-false (length f) (at + 2) e)) (λ _. wrong 3 at (omega arith) h))

pub expect_off : (f : List ℕ) (at m x p lo : ℕ) → at ≤ length f → expect_at f at m ≡ Fault x p → From f lo (Fault x p)
expect_off f at m x p lo h e = let z = from_fault e (from_expect f at m h) in off z.0 z.1

pub from_end : (f : List ℕ) (at : ℕ) → at ≤ length f → From f at (end_at f at)
unfolding end_at on_next finish_at
from_end f at h = go (expect_at f at 3) (from_expect f at 3 h)
  where
    go : (r : Read) → From f at r → From f at (on_next r (λ n. finish_at f n))
    go (Next n) (on p q) = from_pick _ (wrong 6 n (omega arith) q) (λ _. on p q)
    go (Fault x p) (off y q) = off y q

module _ (f d : List ℕ) (count at : ℕ) (h : length f ≤ 4096) (C : Bodied f d count count at) where
  left : Outcome (List Term × ℕ × List ℕ)
  left = bodies (length f) C.constructors C.functions [] at (drop at f)

  reads_end : read f ≡ then left (λ r. ok (make C.constructors C.functions (C.terms ++ r.0)))
  unfolding left_over make left
  reads_end = let n = C.functions_count in C.reads ∙ ap (λ l. left_over f C.constructors C.functions C.terms l at) (drop_of_length-le C.functions {i = count} (omega arith))

  left_spans : Spans f at left (end_at f at)
  unfolding end_at left
  left_spans = none_left f C.constructors C.functions (length f) at C.inside

  pub end_fails : (x p : ℕ) → end_at f at ≡ Fault x p → Ends f d count p x
  unfolding Ends
  end_fails x p e =
      let z = from_fault e (from_end f at C.inside) in
      inr (z.0, reads_end ∙ ap (λ o. then o (λ r. ok (make C.constructors C.functions (C.terms ++ r.0)))) (span_fault left_spans e), omega (arith, z.1))

  pub end_reads : (n : ℕ) → end_at f at ≡ Next n → Ends f d count n 0
  unfolding Ends left make table_of table_with
  end_reads n e =
      let s = span_next left_spans e in
      inl (
        refl,
        make C.constructors C.functions C.terms,
        reads_end ∙ ended_then C.constructors C.functions C.terms left (no_bodies (length f) C.constructors C.functions at (drop at f)) s.1,
        C.table,
        C.functions_count,
      )

-- ---- small steps for the code's proof
pub said : (f d : List ℕ) (r : Read) {at b s s' : ℕ} → b ≡ at → s ≡ s' → ReadsTerm f d b (path s 0) r → ReadsTerm f d at (path s' 0) r
said f d r {at} {b} {s} {s'} e q x = subst (λ a. ReadsTerm f d a (path s' 0) r) e (subst (λ n. ReadsTerm f d b (path n 0) r) q x)

pub all_read : {f d : List ℕ} {count j at : ℕ} → j ≤ count → count ≤ j → Bodied f d count j at → Bodied f d count count at
all_read {f} {d} {count} {j} {at} h l C = let e : j ≡ count = omega arith in subst (λ n. Bodied f d count n at) e C
